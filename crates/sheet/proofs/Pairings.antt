-- Numbers taken two by two.
use Rattle.std.proofs.Common.{◌≡◌, ℕ, zero, suc, ◌+◌, ◌*◌, ◌/◌, ◌<◌, List, [], ◌∷◌, ◌++◌, length, get_or, sym, refl, ap, ◌∙◌, arith}
use Rattle.sheet.specs.Header.{in_pairs}

pub length_in_pairs : (ns : List ℕ) → length (in_pairs ns) ≡ length ns / 2
length_in_pairs [] = refl
length_in_pairs (a ∷ []) = refl
length_in_pairs (a ∷ b ∷ ns) = let e : suc (length ns / 2) ≡ suc (suc (length ns)) / 2 = omega arith in ap suc (length_in_pairs ns) ∙ e

-- a pair by its place
pub get_or_in_pairs : (ns : List ℕ) (i : ℕ) → i < length ns / 2 → get_or (in_pairs ns) i (0, 0) ≡ (get_or ns (2 * i) 0, get_or ns (2 * i + 1) 0)
get_or_in_pairs [] i h = absurd (omega arith)
get_or_in_pairs (a ∷ []) i h = absurd (let z : 1 / 2 ≡ 0 = refl in omega (arith, z))
get_or_in_pairs (a ∷ b ∷ ns) zero h = refl
get_or_in_pairs (a ∷ b ∷ ns) (suc i) h =
    let even : 2 * suc i ≡ suc (suc (2 * i)) = omega arith in
    let odd : 2 * suc i + 1 ≡ suc (suc (2 * i + 1)) = omega arith in
    get_or_in_pairs ns i (omega arith) ∙ sym (λ j. (get_or (a ∷ b ∷ ns) (even j) 0, get_or (a ∷ b ∷ ns) (odd j) 0))

-- one more pair
pub in_pairs_more : (x ns : List ℕ) → length x ≡ 2 → in_pairs (x ++ ns) ≡ (get_or x 0 0, get_or x 1 0) ∷ in_pairs ns
in_pairs_more [] ns h = absurd (omega arith)
in_pairs_more (a ∷ []) ns h = absurd (omega arith)
in_pairs_more (a ∷ b ∷ []) ns h = refl
in_pairs_more (a ∷ b ∷ c ∷ x) ns h = absurd (omega arith)
