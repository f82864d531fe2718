-- How many windows a run of days is forced to hold: by cases, its bound, and that it is supermodular.
use Rattle.std.proofs.Common.{◌≡◌, ℕ, ◌+◌, ◌<◌, ◌≤◌, List, [], ◌∷◌, length, refl, arith}
use native.Mathlib.Decide.{le_ind}
use Rattle.plans.specs.Plans.{Window, tick}
use Rattle.plans.specs.Runs.{lies, inside, total}
use Rattle.plans.specs.Needs.{Within, forced}

pub lies_yes : (p q : ℕ) (w : Window) → p ≤ w.0 → w.1 < q → tick (lies p q w) ≡ 1
lies_yes p q w h k = grind arith

pub lies_early : (p q : ℕ) (w : Window) → w.0 < p → tick (lies p q w) ≡ 0
lies_early p q w h = grind arith

pub lies_late : (p q : ℕ) (w : Window) → q ≤ w.1 → tick (lies p q w) ≡ 0
lies_late p q w h = grind arith

super_one : (p p' q q' : ℕ) (w : Window) → p ≤ p' → q ≤ q'
    → tick (lies p q w) + tick (lies p' q' w) ≤ tick (lies p q' w) + tick (lies p' q w)
super_one p p' q q' w h k = grind arith

inside_super : (p p' q q' : ℕ) (ws : List Window) → p ≤ p' → q ≤ q'
    → inside ws p q + inside ws p' q' ≤ inside ws p q' + inside ws p' q
inside_super p p' q q' [] h k = omega arith
inside_super p p' q q' (w ∷ ws) h k = omega (arith, super_one p p' q q' w h k, inside_super p p' q q' ws h k)

-- two runs that overlap hold no more than their whole and their common part do
pub super : (t₀ p p' q q' : ℕ) (ws : List Window) → p ≤ p' → q ≤ q'
    → forced t₀ ws p q + forced t₀ ws p' q' ≤ forced t₀ ws p q' + forced t₀ ws p' q
super t₀ p p' q q' ws h k = inside_super (t₀ + p) (t₀ + p') (t₀ + q) (t₀ + q') ws (omega arith) (omega arith)

-- the run of all days holds all windows
pub forced_all : (t₀ d : ℕ) (ws : List Window) → Within t₀ d ws → forced t₀ ws 0 d ≡ length ws
forced_all t₀ d [] h = refl
forced_all t₀ d (w ∷ ws) h = omega (arith, lies_yes (t₀ + 0) (t₀ + d) w (omega arith) h.2, forced_all t₀ d ws h.3)

-- a run without days holds none
pub forced_none : (t₀ d p : ℕ) (ws : List Window) → Within t₀ d ws → forced t₀ ws p p ≡ 0
forced_none t₀ d p [] h = refl
forced_none t₀ d p (w ∷ ws) h = grind (arith, forced_none t₀ d p ws h.3)

pub total_grows : (f : ℕ → ℕ) (p q : ℕ) → p ≤ q → total f p ≤ total f q
total_grows f p q h = le_ind (λ n. total f p ≤ total f n) (omega arith) (λ n _ ih. omega arith) q h
