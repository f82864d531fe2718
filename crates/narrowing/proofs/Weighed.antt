-- What it means that there is a plan, or that there is none for lack of room or of windows.
use Rattle.std.proofs.Common.{◌≡◌, ℕ, ◌+◌, true, List, Ok, Err, Result, refl, arith}
use Rattle.std.specs.Prelude.{is_ok}
use Rattle.plans.specs.Plans.{Window, Pair, Plan}
use Rattle.plans.specs.Needs.{Proper}
use Rattle.plans.proofs.Exists.{plan_exists, mosts_kept_when}
use Rattle.narrowing.specs.declared.tables.Tables.{Tables}
use Rattle.narrowing.specs.declared.tables.Lack.{Lack}
use Rattle.narrowing.specs.declared.tables.Lack.TheVariants.{Room, Windows}
use Rattle.narrowing.specs.Counting.{tabled}
use Rattle.narrowing.specs.Weighing.{Weighed}

pub weighed_plan : (k : ℕ) (pairs : List Pair) (ws : List Window) (t : Tables) (r : Result (Unit {0}) Lack) → Proper k pairs ws → Weighed k pairs ws t r
    → (ts : List ℕ) → Plan k pairs ws ts → is_ok r ≡ true
weighed_plan k pairs ws t (Ok _) P X ts plan = refl
weighed_plan k pairs ws t (Err (Room p b)) P X ts plan =
    let N = X.named in
    let R = (mosts_kept_when k pairs ws P.within).0 (ts, record { assigned = plan.assigned; at_most = plan.at_most }) in
    absurd (omega (arith, N.over, R (k + p, k + b) N.is_run))
weighed_plan k pairs ws t (Err Windows) P X ts plan =
    let E = plan_exists k pairs ws (tabled t.left) P (X.needs k ws X.counted) in
    absurd (omega (arith, X.over, (E.0 (ts, plan)).1))
