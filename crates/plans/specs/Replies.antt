-- What is replied to the question whether there is a plan.
use Rattle.std.specs.Prelude.{◌≡◌, ℕ, Bool, true, false, cond, ◌↔◌, List, [], ◌∷◌, length, Some, None, Option}
use Rattle.plans.specs.Plans.{Window, Pair, mosts_kept, plans, KeepsMosts, Plan}
use Rattle.plans.specs.Runs.{held, room, overfull_run, Named}
use Rattle.plans.specs.Sets.{meeting, needed}
use Rattle.plans.specs.Needs.{Within}

-- Accepted; 20 with its run, the windows inside it and the sum of its mosts; 21 with the windows that meet its set and
-- the sum of the set's fewests.
pub data Reply : Type 0 where
  accepted : Reply
  overfull : (run : Window) (windows mosts : ℕ) → Reply
  short : (windows fewests : ℕ) → Reply

-- Whether a list is empty.
abbrev pub none : List (List ℕ) → Bool
none [] = true
none (ts ∷ tss) = false

-- 20 tells of the run that is found. One always is (`RunFound`), so the first case is never told.
abbrev pub tell_overfull : ℕ → List Pair → List Window → Option Window → Reply
tell_overfull k pairs ws None = accepted
tell_overfull k pairs ws (Some run) = overfull run (held ws run) (room k pairs run)

-- The reply: 20 if no assignment keeps the mosts, 21 if some does but there is no plan. The counts of 21 are those of the
-- set that is marked, which may be any that shows the shortage; one always does (`ShortageFound`).
abbrev pub reply : ℕ → List Pair → List Window → List ℕ → Reply
reply k pairs ws marks =
    cond (none (mosts_kept k pairs ws)) (tell_overfull k pairs ws (overfull_run k pairs ws))
    (cond (none (plans k pairs ws)) (short (meeting k marks ws) (needed k marks pairs)) accepted)

-- What each reply means.
abbrev pub Means : ℕ → List Pair → List Window → List ℕ → Reply → Type 0
Means k pairs ws marks accepted = (ts : List ℕ) × Plan k pairs ws ts
Means k pairs ws marks (overfull run windows mosts) =
    ((ts : List ℕ) → KeepsMosts k pairs ws ts → ⊥) × Named k pairs ws run × (windows ≡ held ws run) × (mosts ≡ room k pairs run)
Means k pairs ws marks (short windows fewests) =
    ((ts : List ℕ) × KeepsMosts k pairs ws ts) × ((ts : List ℕ) → Plan k pairs ws ts → ⊥)
    × (windows ≡ meeting k marks ws) × (fewests ≡ needed k marks pairs)

-- The reply is the one whose meaning holds, and no other one's does.
abbrev pub ReplyMeans : Type 0
ReplyMeans =
    (k : ℕ) (pairs : List Pair) (ws : List Window) (marks : List ℕ) → Within k (length pairs) ws
    → (r : Reply) → (r ≡ reply k pairs ws marks) ↔ Means k pairs ws marks r
