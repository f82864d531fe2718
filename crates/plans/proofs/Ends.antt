-- The earliest and the latest end of tight runs exist: they can be searched for.
use Rattle.std.proofs.Common.{◌≡◌, ℕ, zero, suc, ◌+◌, ◌-◌, ◌<◌, ◌≤◌, Bool, true, false, cond, ◌||◌, eqb, List, length, refl, inl, inr, arith}
use Rattle.std.proofs.lemmas.Bool.{cases_lt, eqb-true, eq-eqb, or_cases, or_left, or_right, both_ways}
use Rattle.plans.specs.Plans.{Window, Pair, most}
use Rattle.plans.specs.Runs.{sum}
use Rattle.plans.specs.Needs.{forced}
use Rattle.plans.specs.Tight.{Tight, Earliest, Latest, TightEndsExist}

-- the first of the n numbers from p on that passes, or p + n; and the last of those after p, or p
abbrev find : (ℕ → Bool) → ℕ → ℕ → ℕ
find f p zero = p
find f p (suc n) = cond (f p) p (find f (suc p) n)

abbrev find_last : (ℕ → Bool) → ℕ → ℕ → ℕ
find_last f p zero = p
find_last f p (suc n) = cond (f (suc (p + n))) (suc (p + n)) (find_last f p n)

find_least : (f : ℕ → Bool) (p n k : ℕ) → p ≤ k → k < p + n → f k ≡ true → find f p n ≤ k
find_least f p zero k h l e = absurd (omega arith)
find_least f p (suc n) k h l e = go (f p) refl (λ m. find_least f (suc p) n k m (omega arith) e)
  where
    go : (b : Bool) → f p ≡ b → (p < k → find f (suc p) n ≤ k) → cond b p (find f (suc p) n) ≤ k
    go true g r = h
    go false g r =
        elim (cases_lt p k) [
          | inl m ↦ r m
          | inr m ↦ let i : k ≡ p = omega arith in let j : f p ≡ true = rw i at e in absurd (both_ways (f p) g j)
        ]

find_yes : (f : ℕ → Bool) (p n : ℕ) → find f p n < p + n → f (find f p n) ≡ true
find_yes f p zero h = absurd (omega arith)
find_yes f p (suc n) h = go (f p) refl h (find_yes f (suc p) n)
  where
    go : (b : Bool) → f p ≡ b → cond b p (find f (suc p) n) < p + suc n → (find f (suc p) n < suc p + n → f (find f (suc p) n) ≡ true)
        → f (cond b p (find f (suc p) n)) ≡ true
    go true g l r = g
    go false g l r = r (omega arith)

last_most : (f : ℕ → Bool) (p n k : ℕ) → p < k → k ≤ p + n → f k ≡ true → k ≤ find_last f p n
last_most f p zero k h l e = absurd (omega arith)
last_most f p (suc n) k h l e = go (f (suc (p + n))) refl (λ m. last_most f p n k h m e)
  where
    go : (b : Bool) → f (suc (p + n)) ≡ b → (k ≤ p + n → k ≤ find_last f p n) → k ≤ cond b (suc (p + n)) (find_last f p n)
    go true g r = omega arith
    go false g r =
        elim (cases_lt (p + n) k) [
          | inr m ↦ r m
          | inl m ↦ let i : k ≡ suc (p + n) = omega arith in let j : f (suc (p + n)) ≡ true = rw i at e in absurd (both_ways (f (suc (p + n))) g j)
        ]

last_yes : (f : ℕ → Bool) (p n : ℕ) → p < find_last f p n → (find_last f p n ≤ p + n) × (f (find_last f p n) ≡ true)
last_yes f p zero h = absurd (omega arith)
last_yes f p (suc n) h = go (f (suc (p + n))) refl h (last_yes f p n)
  where
    go : (b : Bool) → f (suc (p + n)) ≡ b → p < cond b (suc (p + n)) (find_last f p n)
        → (p < find_last f p n → (find_last f p n ≤ p + n) × (f (find_last f p n) ≡ true))
        → (cond b (suc (p + n)) (find_last f p n) ≤ p + suc n) × (f (cond b (suc (p + n)) (find_last f p n)) ≡ true)
    go true g l r = (omega arith, g)
    go false g l r = let s = r l in (omega arith, s.1)

module _ (t₀ : ℕ) (pairs : List Pair) (ws : List Window) (M N : ℕ → ℕ) where
  abbrev fills : ℕ → ℕ → Bool
  fills p q = eqb (forced t₀ ws p q) (sum (most pairs) p q)

  abbrev uses_all : ℕ → ℕ → Bool
  uses_all p q = eqb (M p + forced t₀ ws p q + N q) (length ws)

  abbrev tight? : ℕ → ℕ → Bool
  tight? p q = fills p q || uses_all p q

  tight_yes : (p q : ℕ) → tight? p q ≡ true → Tight t₀ pairs ws M N p q
  tight_yes p q e =
      elim (or_cases (fills p q) (uses_all p q) e) [
        | inl f ↦ inl (eqb-true (forced t₀ ws p q) (sum (most pairs) p q) f)
        | inr f ↦ inr (eqb-true (M p + forced t₀ ws p q + N q) (length ws) f)
      ]

  yes_tight : (p q : ℕ) → Tight t₀ pairs ws M N p q → tight? p q ≡ true
  yes_tight p q (inl e) = or_left (fills p q) (uses_all p q) (eq-eqb (forced t₀ ws p q) (sum (most pairs) p q) e)
  yes_tight p q (inr e) = or_right (fills p q) (uses_all p q) (eq-eqb (M p + forced t₀ ws p q + N q) (length ws) e)

  early : ℕ → ℕ
  early q = find (λ p. tight? p q) 0 q

  early_is : Earliest t₀ pairs ws M N early
  unfolding early
  early_is =
      record {
        earliest = λ p q h k t. find_least (λ v. tight? v q) 0 q p (omega arith) (omega arith) (yes_tight p q t);
        tight = λ q h k. tight_yes (find (λ p. tight? p q) 0 q) q (find_yes (λ v. tight? v q) 0 q (omega arith));
      }

  late : ℕ → ℕ
  late p = find_last (λ q. tight? p q) p (length pairs - p)

  far : (p m : ℕ) → p < m → m ≤ p + (length pairs - p) → m ≤ length pairs
  far p m h k = elim (cases_lt p (length pairs)) [ inl l ↦ omega arith | inr l ↦ omega arith ]

  late_is : Latest t₀ pairs ws M N late
  unfolding late
  late_is =
      record {
        latest = λ p q h k t. last_most (λ v. tight? p v) p (length pairs - p) q h (omega arith) (yes_tight p q t);
        tight = λ p h.
            let m = find_last (λ v. tight? p v) p (length pairs - p) in
            let r = last_yes (λ v. tight? p v) p (length pairs - p) h in
            (far p m h r.0, tight_yes p m r.1);
      }

pub tight_ends_exist : TightEndsExist
tight_ends_exist t₀ pairs ws M N = ((early t₀ pairs ws M N, early_is t₀ pairs ws M N), (late t₀ pairs ws M N, late_is t₀ pairs ws M N))
