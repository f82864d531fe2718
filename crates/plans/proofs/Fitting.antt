-- Plans over d days whose fewests and mosts are functions; the plans of the definitions are such.
use Rattle.std.proofs.Common.{ℕ, ◌+◌, ◌<◌, ◌≤◌, List, length, arith}
use Rattle.plans.specs.Plans.{Window, Pair, Assignment, count, fewest, most, KeepsMosts, Plan}
use Rattle.plans.specs.Needs.{Within, NeedLeft}
use Rattle.plans.proofs.Room.{Room}
use Rattle.plans.proofs.Assign.{realise}
use Rattle.plans.proofs.Counts.{counts, x_most, x_fewest, x_room, x_start}

pub record Fitting (t₀ d : ℕ) (ls us : ℕ → ℕ) (ws : List Window) (ts : List ℕ) : Type 0 where
  pub assigned : Assignment ws ts
  pub at_most : (v : ℕ) → v < d → count (t₀ + v) ts ≤ us v
  pub at_least : (v : ℕ) → v < d → ls v ≤ count (t₀ + v) ts

pub fitting_plan : (t₀ : ℕ) (pairs : List Pair) (ws : List Window) (ts : List ℕ) → Plan t₀ pairs ws ts
    → Fitting t₀ (length pairs) (fewest pairs) (most pairs) ws ts
fitting_plan t₀ pairs ws ts P = record { assigned = P.assigned; at_most = P.at_most; at_least = P.at_least }

pub plan_fitting : (t₀ : ℕ) (pairs : List Pair) (ws : List Window) (ts : List ℕ)
    → Fitting t₀ (length pairs) (fewest pairs) (most pairs) ws ts → Plan t₀ pairs ws ts
plan_fitting t₀ pairs ws ts P = record { assigned = P.assigned; at_most = P.at_most; at_least = P.at_least }

-- with no fewests, all that counts is the mosts
pub fitting_mosts : (t₀ : ℕ) (pairs : List Pair) (ws : List Window) (ts : List ℕ) → KeepsMosts t₀ pairs ws ts
    → Fitting t₀ (length pairs) (λ _. 0) (most pairs) ws ts
fitting_mosts t₀ pairs ws ts K = record { assigned = K.assigned; at_most = K.at_most; at_least = λ v h. omega arith }

-- where no run is overfull and the need is within the number of windows, the windows can be assigned so
pub fitting_exists : (t₀ d : ℕ) (ls us : ℕ → ℕ) (ws : List Window) (M : ℕ → ℕ) → Within t₀ d ws → ((v : ℕ) → v < d → ls v ≤ us v)
    → NeedLeft t₀ d ls ws M → Room t₀ d us ws → M d ≤ length ws → (ts : List ℕ) × Fitting t₀ d ls us ws ts
fitting_exists t₀ d ls us ws M W B L R F =
    let x = counts d us M (length ws) in
    let X = x.0 in
    let K = x.1 in
    let s = realise t₀ d ws X W (x_start t₀ d ls us ws M B L R X K W F) K.top (x_room t₀ d ls us ws M B L R X K W F) in (
      s.0,
      record {
        assigned = s.1;
        at_most = λ v h. omega (arith, s.2 v h, x_most t₀ d ls us ws M B L R X K W F v h);
        at_least = λ v h. omega (arith, s.2 v h, x_fewest t₀ d ls us ws M B L R X K W F v h);
      },
    )
