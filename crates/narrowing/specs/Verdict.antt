-- The verdict: what it answers, how the marks then stand, and what the answer means.
use Rattle.std.specs.Prelude.{◌≡◌, ℕ, ◌↔◌, List, ◌++◌, length, take, drop, Ok, Err}
use Rattle.plans.specs.Plans.{Window, Pair, KeepsMosts, Plan}
use Rattle.plans.specs.Sets.{Marks, run_marks, ShowsShortage}
use Rattle.plans.specs.Replies.{Reply, Reply.accepted, Reply.overfull, Reply.short, reply}
use Rattle.records.specs.declared.fault.NarrowingFault.TheVariants.{Overfull, Short}
use Rattle.records.specs.Faults.{number_of}
use Rattle.records.specs.Checks.{Outcome, past, checked}

-- How a reply is told. The run of 20 is told by the marks.
abbrev pub told : Reply → Outcome
told accepted = Ok tt
told (overfull run windows mosts) = Err (Overfull windows mosts)
told (short windows fewests) = Err (Short windows fewests)

-- The answer. There are n marks, and `marks` are those of the d days as the call leaves them: the counts of 21 are theirs.
abbrev pub verdict_of : ℕ → List Pair → List Window → ℕ → List ℕ → Outcome
verdict_of k pairs ws n marks = past (checked k pairs ws n) (told (reply k pairs ws marks))

-- How the marks stand after a reply: as they were if accepted; with 20 the days of its run are marked, with 21 those of a
-- set that shows the shortage, and the marks after the d days are as they were.
abbrev pub Marked : ℕ → List Pair → List Window → List ℕ → List ℕ → Reply → Type 0
Marked k pairs ws before after accepted = after ≡ before
Marked k pairs ws before after (overfull run windows mosts) = after ≡ run_marks k (length pairs) run ++ drop (length pairs) before
Marked k pairs ws before after (short windows fewests) =
    Marks (length pairs) (take (length pairs) after) × ShowsShortage k pairs ws (take (length pairs) after)
    × (drop (length pairs) after ≡ drop (length pairs) before)

-- What the checks refuse leaves the marks as they were.
abbrev pub MarkedPast : ℕ → List Pair → List Window → List ℕ → List ℕ → Outcome → Type 0
MarkedPast k pairs ws before after (Ok _) = Marked k pairs ws before after (reply k pairs ws (take (length pairs) after))
MarkedPast k pairs ws before after (Err fault) = after ≡ before

abbrev pub MarksAfter : ℕ → List Pair → List Window → List ℕ → List ℕ → Type 0
MarksAfter k pairs ws before after = MarkedPast k pairs ws before after (checked k pairs ws (length before))

-- The number of a refusal, and 0 where there is none.
abbrev pub outcome_number : Outcome → ℕ
outcome_number (Ok _) = 0
outcome_number (Err fault) = number_of fault

-- What the answer means, past the checks.
pub record VerdictMeans (k : ℕ) (pairs : List Pair) (ws : List Window) (answer : Outcome) : Type 0 where
  pub accepts : (outcome_number answer ≡ 0) ↔ ((ts : List ℕ) × Plan k pairs ws ts)
  pub says_20 : (outcome_number answer ≡ 20) ↔ ((ts : List ℕ) → KeepsMosts k pairs ws ts → ⊥)
  pub says_21 : (outcome_number answer ≡ 21) ↔ (((ts : List ℕ) × KeepsMosts k pairs ws ts) × ((ts : List ℕ) → Plan k pairs ws ts → ⊥))
