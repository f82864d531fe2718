-- The scans of a window that ends one day later or begins one day earlier, and parts of lists that they are written to.
use Rattle.std.proofs.Common.{◌≡◌, ℕ, zero, suc, ◌+◌, ◌-◌, ◌<◌, ◌≤◌, Bool, true, false, cond, ltb, leb, List, length, get_or, take, drop, set, sym, refl, ap, ◌∙◌, subst, inl, inr, arith}
use borrow.Rule.Slice.PartMut.{put_mid}
use Rattle.std.proofs.lemmas.List.{get_or-set_same, get_or-set_other, get_or-take, get_or-drop, length-take-le, length-drop, places}
use Rattle.std.proofs.lemmas.Bool.{cases_eq}
use Rattle.plans.specs.Tight.{scan_up, scan_down}
use Rattle.narrowing.specs.Scanning.{Stepped, low_day, high_day}

up_last : (m : ℕ → ℕ) (low q n : ℕ) → scan_up m low q (suc n) ≡ cond (leb (m (q + n)) (scan_up m low q n)) (q + n) (scan_up m low q n)
up_last m low q zero = let e : q ≡ q + 0 = omega arith in ap (λ j. cond (leb (m j) low) j low) e
up_last m low q (suc n) =
    let l : ℕ = cond (leb (m q) low) q low in
    let e : suc q + n ≡ q + suc n = omega arith in
    up_last m l (suc q) n ∙ ap (λ j. cond (leb (m j) (scan_up m l (suc q) n)) j (scan_up m l (suc q) n)) e

pub low_one : (m : ℕ → ℕ) (a : ℕ) → low_day m a a ≡ a
low_one m a = let e : a - a ≡ 0 = omega arith in ap (scan_up m a (suc a)) e

pub low_more : (m : ℕ → ℕ) (a b q : ℕ) → a ≤ b → q ≡ suc b → low_day m a q ≡ cond (leb (m q) (low_day m a b)) q (low_day m a b)
low_more m a b q h f =
    let e : q - a ≡ suc (b - a) = omega arith in
    let g : suc a + (b - a) ≡ q = omega arith in
    ap (scan_up m a (suc a)) e ∙ up_last m a (suc a) (b - a) ∙ ap (λ j. cond (leb (m j) (low_day m a b)) j (low_day m a b)) g

down_last : (m : ℕ → ℕ) (high a n : ℕ) → scan_down m high a (suc n) ≡ cond (ltb (scan_down m high (suc a) n) (m (suc a))) a (scan_down m high (suc a) n)
down_last m high a zero = let e : a + 0 ≡ a = omega arith in ap (λ j. cond (ltb high (m (suc j))) j high) e
down_last m high a (suc n) =
    let f : ℕ → ℕ = λ j. cond (ltb high (m (suc j))) j high in
    let e : a + suc n ≡ suc a + n = omega arith in
    down_last m (f (a + suc n)) a n ∙ ap (λ j. cond (ltb (scan_down m (f j) (suc a) n) (m (suc a))) a (scan_down m (f j) (suc a) n)) e

pub high_one : (m : ℕ → ℕ) (b : ℕ) → high_day m b b ≡ b
high_one m b = let e : b - b ≡ 0 = omega arith in ap (scan_down m b b) e

pub high_more : (m : ℕ → ℕ) (a b q : ℕ) → a < b → q ≡ suc a → high_day m a b ≡ cond (ltb (high_day m q b) (m q)) a (high_day m q b)
high_more m a b q h f =
    let e : b - a ≡ suc (b - q) = omega arith in
    ap (scan_down m b a) e ∙ down_last m b a (b - q) ∙ ap (λ j. cond (ltb (scan_down m b j (b - q)) (m j)) a (scan_down m b j (b - q))) (sym f)

-- a step writes place i of a list whose places before it are as they should be
pub step_more : (P : ℕ → ℕ → Type 0) (xs : List ℕ) (i x : ℕ) → i < length xs → P i x → ((j : ℕ) → j < i → P j (get_or xs j 0))
    → (j : ℕ) → j < i + 1 → P j (get_or (set xs i x) j 0)
step_more P xs i x h is low j lt =
    elim (cases_eq j i) [
      | inl e ↦
          let Q : ℕ → Type 0 = λ m. P m (get_or (set xs i x) m 0) in
          let R : ℕ → Type 0 = P i in
          subst Q (sym e) (subst R (sym (get_or-set_same xs i x 0 h)) is)
      | inr ne ↦ let R : ℕ → Type 0 = P j in subst R (sym (get_or-set_other xs i j x 0 ne)) (low j (omega arith))
    ]

-- what the test answers of the day that is there
pub taken : (post : ℕ → Bool → Type 0) (day old now x : ℕ) (t : Bool) → now ≡ old → now < 256 → post now t → x ≡ cond t day now → Stepped post day old x
taken post day old now x t e small tells is =
    let P : ℕ → Type 0 = λ n. Stepped post day n x in
    subst P e (small, (t, tells, is))

pub either_way : (t : Bool) (x : ℕ) → cond t x x ≡ x
either_way true x = refl
either_way false x = refl

-- the part of a list from place p on and before place q, and the list with another such part
pub part_long : (xs : List ℕ) (p q : ℕ) → p ≤ q → q ≤ length xs → length (take (q - p) (drop p xs)) ≡ q - p
part_long xs p q h l = let e = length-drop p xs in length-take-le (q - p) (drop p xs) (omega arith)

pub part_cell : (xs : List ℕ) (p q i : ℕ) → i < q - p → get_or (take (q - p) (drop p xs)) i 0 ≡ get_or xs (p + i) 0
part_cell xs p q i h = get_or-take (q - p) (drop p xs) i 0 h ∙ get_or-drop p xs i 0

pub mid_long : (xs ys : List ℕ) (p q : ℕ) → p ≤ q → q ≤ length xs → length ys ≡ q - p → length (put_mid p (q - p) xs ys) ≡ length xs
mid_long xs ys p q h l n = grind (arith, places)

pub mid_new : (xs ys : List ℕ) (p q i : ℕ) → p ≤ q → q ≤ length xs → length ys ≡ q - p → i < q - p → get_or (put_mid p (q - p) xs ys) (p + i) 0 ≡ get_or ys i 0
mid_new xs ys p q i h l n lt = grind (arith, places)

pub mid_before : (xs ys : List ℕ) (p q i : ℕ) → p ≤ q → q ≤ length xs → length ys ≡ q - p → i < p → get_or (put_mid p (q - p) xs ys) i 0 ≡ get_or xs i 0
mid_before xs ys p q i h l n lt = grind (arith, places)

pub mid_after : (xs ys : List ℕ) (p q i : ℕ) → p ≤ q → q ≤ length xs → length ys ≡ q - p → q ≤ i → get_or (put_mid p (q - p) xs ys) i 0 ≡ get_or xs i 0
mid_after xs ys p q i h l n le = grind (arith, places)
