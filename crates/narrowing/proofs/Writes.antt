-- Loops that write a list from one end to the other.
use Rattle.std.proofs.Common.{◌≡◌, ℕ, zero, suc, ◌+◌, ◌*◌, ◌<◌, ◌≤◌, List, length, get_or, drop, set, replicate, sum, sym, refl, ap, ◌∙◌, inl, inr, arith}
use Rattle.std.proofs.lemmas.Bool.{cases_eq}
use Rattle.std.proofs.lemmas.List.{get_or-set_same, get_or-set_other}
use Rattle.std.proofs.lemmas.List.Sums.{sum_by-drop_more}
use Rattle.plans.specs.Runs.{total}

-- a loop that goes down writes at i
pub set_down : (xs : List ℕ) (old f : ℕ → ℕ) (n p i x : ℕ) → p ≡ suc i → i < length xs → x ≡ f i
    → ((j : ℕ) → j < p → get_or xs j 0 ≡ old j) → ((j : ℕ) → p ≤ j → j < n → get_or xs j 0 ≡ f j)
    → ((j : ℕ) → j < i → get_or (set xs i x) j 0 ≡ old j) × ((j : ℕ) → i ≤ j → j < n → get_or (set xs i x) j 0 ≡ f j)
set_down xs old f n p i x e h is low high = (
  (λ j lt. get_or-set_other xs i j x 0 (omega arith) ∙ low j (omega arith)),
  (λ j le lt. elim (cases_eq j i) [
    | inl q ↦ ap (λ m. get_or (set xs i x) m 0) q ∙ get_or-set_same xs i x 0 h ∙ is ∙ ap f (sym q)
    | inr ne ↦ get_or-set_other xs i j x 0 ne ∙ high j (omega arith) lt
  ]),
)

pub sum_drop : (xs : List ℕ) (p i : ℕ) → p ≡ suc i → i < length xs → sum (drop i xs) ≡ get_or xs i 0 + sum (drop p xs)
sum_drop xs p i e h =
    let f : i + 1 ≡ p = omega arith in
    let g : sum (drop (i + 1) xs) ≡ sum (drop p xs) = ap (λ j. sum (drop j xs)) f in
    omega (arith, sum_by-drop_more (λ x. x) xs i 0 h)

pub zeros : (n i : ℕ) → get_or (replicate {A = ℕ} n 0) i 0 ≡ 0
zeros zero i = refl
zeros (suc n) zero = refl
zeros (suc n) (suc i) = zeros n i

-- a list has the sums of f before each place, up to place v; m is the largest that f can be
pub record Sums (f : ℕ → ℕ) (m v : ℕ) (xs : List ℕ) : Type 0 where
  pub small : (j : ℕ) → j ≤ v → get_or xs j 0 ≤ j * m
  pub sums : (j : ℕ) → j ≤ v → get_or xs j 0 ≡ total f j
