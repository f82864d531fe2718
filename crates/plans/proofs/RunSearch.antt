-- The search for a run, as a recursion: day by day, the largest first day of a run that passes and ends there.
use Rattle.std.proofs.Common.{◌≡◌, ℕ, zero, suc, ◌+◌, ◌<◌, ◌≤◌, Bool, true, false, cond, List, [], ◌∷◌, ◌++◌, map, reverse, Some, None, filter, Option, refl, ap, ◌∙◌, inl, inr, arith}
use Rattle.std.proofs.lemmas.Bool.{cases_lt}
use Rattle.std.proofs.lemmas.List.{reverse-append}
use Rattle.std.proofs.lemmas.List.Elements.{filter-append}
use Rattle.plans.specs.Plans.{Window, from, head}
use Rattle.plans.specs.Runs.{runs}

-- the largest p below n that passes
abbrev pub latest : (ℕ → Bool) → ℕ → Option ℕ
latest test zero = None
latest test (suc n) = cond (test n) (Some n) (latest test n)

abbrev pub to_run : ℕ → ℕ → Option ℕ → Option Window
to_run t₀ b None = None
to_run t₀ b (Some p) = Some (t₀ + p, t₀ + b)

abbrev pub or_else : Option Window → Option Window → Option Window
or_else None o = o
or_else (Some run) o = Some run

-- the runs of n first days that end on day t₀ + b
abbrev ending : ℕ → ℕ → ℕ → List Window
ending t₀ b n = map (λ first. (first, t₀ + b)) (reverse (from t₀ n))

from_push : (t n : ℕ) → from t (suc n) ≡ from t n ++ ((t + n) ∷ [])
from_push t zero = let e : t + 0 ≡ t = omega arith in rw e
from_push t (suc n) = let e : t + suc n ≡ suc t + n = omega arith in rw e (ap (λ xs. t ∷ xs) (from_push (suc t) n))

ending_more : (t₀ b n : ℕ) → ending t₀ b (suc n) ≡ (t₀ + n, t₀ + b) ∷ ending t₀ b n
ending_more t₀ b n =
    ap (λ xs. map (λ first. (first, t₀ + b)) (reverse xs)) (from_push t₀ n)
    ∙ ap (map (λ first. (first, t₀ + b))) (reverse-append (from t₀ n) ((t₀ + n) ∷ []))

head_ending : (test : Window → Bool) (t₀ b n : ℕ) → head (filter test (ending t₀ b n)) ≡ to_run t₀ b (latest (λ p. test (t₀ + p, t₀ + b)) n)
head_ending test t₀ b zero = refl
head_ending test t₀ b (suc n) =
    ap (λ xs. head (filter test xs)) (ending_more t₀ b n) ∙ go (test (t₀ + n, t₀ + b)) (head_ending test t₀ b n)
  where
    go : (c : Bool) → head (filter test (ending t₀ b n)) ≡ to_run t₀ b (latest (λ p. test (t₀ + p, t₀ + b)) n)
        → head (cond c ((t₀ + n, t₀ + b) ∷ filter test (ending t₀ b n)) (filter test (ending t₀ b n)))
        ≡ to_run t₀ b (cond c (Some n) (latest (λ p. test (t₀ + p, t₀ + b)) n))
    go true ih = refl
    go false ih = ih

head_append : (xs ys : List Window) → head (xs ++ ys) ≡ or_else (head xs) (head ys)
head_append [] ys = refl
head_append (x ∷ xs) ys = refl

pub head_runs : (test : Window → Bool) (t₀ n : ℕ)
    → head (filter test (runs t₀ (suc n))) ≡ or_else (head (filter test (runs t₀ n))) (to_run t₀ n (latest (λ p. test (t₀ + p, t₀ + n)) (suc n)))
head_runs test t₀ n =
    ap head (filter-append test (runs t₀ n) (ending t₀ n (suc n)))
    ∙ head_append (filter test (runs t₀ n)) (filter test (ending t₀ n (suc n)))
    ∙ ap (or_else (head (filter test (runs t₀ n)))) (head_ending test t₀ n (suc n))

unfoldable pub LatestOf : (ℕ → Bool) → ℕ → Option ℕ → Type 0
LatestOf test n None = (p : ℕ) → p < n → test p ≡ false
LatestOf test n (Some p) = (p < n) × (test p ≡ true) × ((q : ℕ) → p < q → q < n → test q ≡ false)

pub latest_found : (test : ℕ → Bool) (n : ℕ) → LatestOf test n (latest test n)
unfolding LatestOf
latest_found test zero = λ p h. absurd (omega arith)
latest_found test (suc n) = go (test n) refl (latest test n) (latest_found test n)
  where
    top : (q : ℕ) → test n ≡ false → q < suc n → n ≤ q → test q ≡ false
    top q e h k = let f : q ≡ n = omega arith in rw f e

    go : (b : Bool) → test n ≡ b → (o : Option ℕ) → LatestOf test n o → LatestOf test (suc n) (cond b (Some n) o)
    go true e o L = (omega arith, e, λ q h k. absurd (omega arith))
    go false e None L = λ p h. elim (cases_lt p n) [ inl k ↦ L p k | inr k ↦ top p e h k ]
    go false e (Some p) L =
        (omega (arith, L.0), L.1, λ q h k. elim (cases_lt q n) [ inl l ↦ L.2 q h l | inr l ↦ top q e k l ])
