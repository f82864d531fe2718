-- The two theorems: when a plan exists, and when some assignment keeps the mosts.
use Rattle.std.proofs.Common.{ℕ, zero, suc, ◌<◌, ◌≤◌, List, length, inl, inr, arith}
use Rattle.plans.specs.Plans.{Window, fewest, most, KeepsMosts, Plan}
use Rattle.plans.specs.Runs.{Roomy}
use Rattle.plans.specs.Needs.{Within, forced, NeedLeft, PlanExists, MostsKept}
use Rattle.plans.proofs.Windows.{super, forced_all, forced_none}
use Rattle.plans.proofs.Room.{room_from_roomy, roomy_from_room}
use Rattle.plans.proofs.NeedLeft.{left_exists}
use Rattle.plans.proofs.Fitting.{fitting_plan, plan_fitting, fitting_mosts, fitting_exists}
use Rattle.plans.proofs.Before.{needs_room, needs_fit}

pub plan_exists : PlanExists
plan_exists t₀ pairs ws M A L = (needs, gives)
  where
    needs : ((ts : List ℕ) × Plan t₀ pairs ws ts) → Roomy t₀ pairs ws × (M (length pairs) ≤ length ws)
    needs P =
        let F = fitting_plan t₀ pairs ws P.0 P.1 in (
          roomy_from_room t₀ pairs ws (needs_room t₀ (length pairs) (fewest pairs) (most pairs) ws P.0 F),
          needs_fit t₀ (length pairs) (fewest pairs) (most pairs) ws P.0 F M L,
        )

    gives : (Roomy t₀ pairs ws × (M (length pairs) ≤ length ws)) → (ts : List ℕ) × Plan t₀ pairs ws ts
    gives g =
        let W = A.within in
        let F = fitting_exists t₀ (length pairs) (fewest pairs) (most pairs) ws M W A.ordered L (room_from_roomy t₀ pairs ws W g.0) g.1 in
        (F.0, plan_fitting t₀ pairs ws F.0 F.1)

-- with no fewests, the need is no more than what the runs are forced to hold
no_need : (t₀ d : ℕ) (ws : List Window) (M : ℕ → ℕ) → Within t₀ d ws → NeedLeft t₀ d (λ _. 0) ws M → (n v : ℕ) → v < n → v ≤ d
    → M v ≤ forced t₀ ws 0 v
no_need t₀ d ws M W L zero v b h = absurd (omega arith)
no_need t₀ d ws M W L (suc n) zero b h = omega (arith, L.start)
no_need t₀ d ws M W L (suc n) (suc v) b h =
    elim (L.attained v h) [
      | inl e ↦
          omega (arith, e, no_need t₀ d ws M W L n v (omega arith) (omega arith), super t₀ 0 v v (suc v) ws (omega arith) (omega arith), forced_none t₀ d v ws W)
      | inr e ↦
          let p = e.0 in
          omega (arith, e.2, no_need t₀ d ws M W L n p (omega arith) (omega arith), super t₀ 0 p p (suc v) ws (omega arith) (omega arith), forced_none t₀ d p ws W)
    ]

pub mosts_kept_when : MostsKept
mosts_kept_when t₀ pairs ws W = (needs, gives)
  where
    needs : ((ts : List ℕ) × KeepsMosts t₀ pairs ws ts) → Roomy t₀ pairs ws
    needs K =
        roomy_from_room t₀ pairs ws
        (needs_room t₀ (length pairs) (λ _. 0) (most pairs) ws K.0 (fitting_mosts t₀ pairs ws K.0 K.1))

    gives : Roomy t₀ pairs ws → (ts : List ℕ) × KeepsMosts t₀ pairs ws ts
    gives R =
        let d = length pairs in
        let m = left_exists t₀ d (λ _. 0) ws W in
        let f : m.0 d ≤ length ws = omega (arith, no_need t₀ d ws m.0 W m.1 (suc d) d (omega arith) (omega arith), forced_all t₀ d ws W) in
        let F = fitting_exists t₀ d (λ _. 0) (most pairs) ws m.0 W (λ v h. omega arith) m.1 (room_from_roomy t₀ pairs ws W R) f in
        (F.0, record { assigned = F.1.assigned; at_most = F.1.at_most })
