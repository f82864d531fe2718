-- The one line that has the mark and version 1.
use Rattle.std.proofs.Common.{◌≡◌, ℕ, ◌+◌, ◌-◌, ◌*◌, ◌≤◌, Bool, true, false, cond, eqb, List, [], ◌∷◌, get_or, drop, Some, None, codes, Option, refl, ap, ◌∙◌, arith}
use Rattle.std.proofs.lemmas.Bool.{and_parts, eqb-true, eqb-false, leb-true, not-true}
use Rattle.sheet.specs.Header.{marked, version_of}
use Rattle.reading.specs.Numbers.{digit, numeral, number_of}
use Rattle.reading.proofs.Decimals.{value_grows}

some_of : (b : Bool) (n m : ℕ) → cond b (Some n) None ≡ Some m → (b ≡ true) × (n ≡ m)
some_of true n m e = (refl, let same : n ≡ m = cc in same)
some_of false n m e = absurd (let z : ◌≡◌ {A = ℕ} 0 1 = cc in omega arith)

some_from : (b : Bool) (o : Option ℕ) (m : ℕ) → cond b o None ≡ Some m → (b ≡ true) × (o ≡ Some m)
some_from true o m e = (refl, e)
some_from false o m e = absurd (let z : ◌≡◌ {A = ℕ} 0 1 = cc in omega arith)

-- only the digit 1 writes the number 1
one_digit : (bs : List ℕ) → number_of bs ≡ Some 1 → bs ≡ 49 ∷ []
one_digit [] e = absurd (let z : ◌≡◌ {A = ℕ} 0 1 = cc in omega arith)
one_digit (b ∷ []) e =
    let is = (some_of _ _ 1 e).1 in
    let same : b ≡ 49 = omega (arith, is) in
    ap (λ x. x ∷ []) same
one_digit (b ∷ c ∷ bs) e =
    let got = some_of _ _ 1 e in
    let fit = and_parts _ _ (and_parts (numeral (b ∷ c ∷ bs)) _ got.0).0 in
    let nonzero : b ≡ 48 → ⊥ = eqb-false b 48 (not-true (eqb b 48) fit.0) in
    let low : 48 ≤ b = leb-true 48 b (and_parts _ _ (and_parts (digit b) _ fit.1).0).0 in
    absurd (omega (arith, got.1, nonzero, value_grows ((0 * 10 + (b - 48)) * 10 + (c - 48)) bs))

from_front : (l : List ℕ) → marked l ≡ true → l ≡ 79 ∷ 86 ∷ 66 ∷ 32 ∷ drop 4 l
from_front l e = by l (let p = and_parts _ _ e in let q = and_parts _ _ p.1 in let r = and_parts _ _ q.1 in (eqb-true _ _ p.0, eqb-true _ _ q.0, eqb-true _ _ r.0, eqb-true _ _ r.1))
  where
    by : (l : List ℕ) → (get_or l 0 0 ≡ 79) × (get_or l 1 0 ≡ 86) × (get_or l 2 0 ≡ 66) × (get_or l 3 0 ≡ 32) → l ≡ 79 ∷ 86 ∷ 66 ∷ 32 ∷ drop 4 l
    by [] h = absurd (omega (arith, h.0))
    by (a ∷ []) h = absurd (omega (arith, h.1))
    by (a ∷ b ∷ []) h = absurd (omega (arith, h.2))
    by (a ∷ b ∷ c ∷ []) h = absurd (omega (arith, h.3))
    by (a ∷ b ∷ c ∷ d ∷ l) h = λ i. h.0 i ∷ h.1 i ∷ h.2 i ∷ h.3 i ∷ l

pub only_mark : (l : List ℕ) → version_of l ≡ Some 1 → l ≡ codes "OVB 1"
only_mark l e =
    let got = some_from (marked l) (number_of (drop 4 l)) 1 e in
    from_front l got.0 ∙ ap (λ r. 79 ∷ 86 ∷ 66 ∷ 32 ∷ r) (one_digit (drop 4 l) got.1)
