-- How many are done before each day; and what follows from a plan: no run is overfull, and the need from the left is met.
use Rattle.std.proofs.Common.{◌≡◌, ℕ, zero, suc, ◌+◌, ◌<◌, ◌≤◌, ltb, List, [], ◌∷◌, length, refl, inl, inr, arith}
use native.Mathlib.Decide.{le_ind}
use Rattle.plans.specs.Plans.{Window, Assignment, tick, count}
use Rattle.plans.specs.Runs.{lies, inside, total}
use Rattle.plans.specs.Needs.{forced, NeedLeft}
use Rattle.plans.proofs.Windows.{total_grows}
use Rattle.plans.proofs.Room.{Room}
use Rattle.plans.proofs.Fitting.{Fitting}

-- how many of the days chosen are before day t
abbrev pub before : List ℕ → ℕ → ℕ
before [] t = 0
before (u ∷ us) t = tick (ltb u t) + before us t

pub before_suc : (ts : List ℕ) (t : ℕ) → before ts (suc t) ≡ before ts t + count t ts
before_suc [] t = refl
before_suc (u ∷ us) t = grind (arith, before_suc us t)

pub before_day : (t₀ : ℕ) (ts : List ℕ) (v : ℕ) → before ts (t₀ + suc v) ≡ before ts (t₀ + v) + count (t₀ + v) ts
before_day t₀ ts v = let e : t₀ + suc v ≡ suc (t₀ + v) = omega arith in rw e (before_suc ts (t₀ + v))

before_run_one : (w : Window) (t p q : ℕ) → w.0 ≤ t → t ≤ w.1 → p ≤ q → tick (ltb t p) + tick (lies p q w) ≤ tick (ltb t q)
before_run_one w t p q h k l = grind arith

before_inside : (ws : List Window) (ts : List ℕ) (p q : ℕ) → Assignment ws ts → p ≤ q → before ts p + inside ws p q ≤ before ts q
before_inside [] [] p q a h = omega arith
before_inside [] (t ∷ ts) p q a h = absurd a
before_inside (w ∷ ws) [] p q a h = absurd a
before_inside (w ∷ ws) (t ∷ ts) p q a h = omega (arith, before_run_one w t p q a.0 a.1 h, before_inside ws ts p q a.2 h)

pub before_run : (t₀ : ℕ) (ws : List Window) (ts : List ℕ) (p q : ℕ) → Assignment ws ts → p ≤ q
    → before ts (t₀ + p) + forced t₀ ws p q ≤ before ts (t₀ + q)
before_run t₀ ws ts p q a h = before_inside ws ts (t₀ + p) (t₀ + q) a (omega arith)

pub before_all : (ws : List Window) (ts : List ℕ) (t : ℕ) → Assignment ws ts → before ts t ≤ length ws
before_all [] [] t a = omega arith
before_all [] (u ∷ us) t a = absurd a
before_all (w ∷ ws) [] t a = absurd a
before_all (w ∷ ws) (u ∷ us) t a = grind (arith, before_all ws us t a.2)

module _ (t₀ d : ℕ) (ls us : ℕ → ℕ) (ws : List Window) (ts : List ℕ) (P : Fitting t₀ d ls us ws ts) where
  -- a run is given no more than its mosts
  pub taken : (p q : ℕ) → p ≤ q → q ≤ d → before ts (t₀ + q) + total us p ≤ before ts (t₀ + p) + total us q
  taken p q h =
      le_ind (λ n. n ≤ d → before ts (t₀ + n) + total us p ≤ before ts (t₀ + p) + total us n) (λ _. omega arith)
      (λ n _ ih l. omega (arith, ih (omega arith), before_day t₀ ts n, P.at_most n l)) q h

  pub needs_room : Room t₀ d us ws
  needs_room p q h k = omega (arith, taken p q h k, before_run t₀ ws ts p q P.assigned h, total_grows us p q h)

  module _ (M : ℕ → ℕ) (L : NeedLeft t₀ d ls ws M) where
    pub no_less : (n w : ℕ) → w < n → w ≤ d → M w ≤ before ts (t₀ + w)
    no_less zero w b h = absurd (omega arith)
    no_less (suc n) zero b h = omega (arith, L.start)
    no_less (suc n) (suc v) b h =
        elim (L.attained v h) [
          | inl e ↦ omega (arith, e, no_less n v (omega arith) (omega arith), P.at_least v h, before_day t₀ ts v)
          | inr e ↦ omega (arith, e, no_less n e.0 (omega arith) (omega arith), before_run t₀ ws ts e.0 (suc v) P.assigned (omega arith))
        ]

    pub needs_fit : M d ≤ length ws
    needs_fit = omega (arith, no_less (suc d) d (omega arith) (omega arith), before_all ws ts (t₀ + d) P.assigned)
