-- The definitions at work: small problems, and small books from their opening on.
use Rattle.std.specs.Prelude.{◌≡◌, ℕ, ◌+◌, ◌%◌, true, cond, List, [], ◌∷◌, ◌==◌, slice_index_or}
use Rattle.plans.specs.Plans.{Pair}
use Rattle.plans.specs.Sets.{run_marks}
use Rattle.plans.specs.Worked.{WorkedCases as WorkedPlans}
use Rattle.ledger.specs.Ledger.{Calendar, horizon}
use Rattle.ledger.specs.Calls.{Edit.admit, Edit.change, Edit.withdraw, Edit.light, Call, Call.edit, Call.window, Call.probe, Call.plan, Call.turn, Call.begin, Call.keep, Call.undo}
use Rattle.ledger.specs.Replies.{Reply, Reply.done, Reply.days, Reply.says, Reply.planned, Reply.out, Reply.refused, Reply.lacks, reply}
use Rattle.ledger.specs.Lives.{Life, opened, after}
use Rattle.ledger.specs.Histories.{History, Deed.admitted, Deed.changed, Deed.let_out, deeds_of}

-- The replies to calls one after the other, each with the set that is marked should it be 21.
abbrev pub replies : Calendar → Life → List (Call × List ℕ) → List Reply
replies c l [] = []
replies c l (k ∷ ks) = reply c l.now k.0 k.1 ∷ replies c (after c l k.0) ks

-- The same as a history, after the history h.
abbrev pub history : Calendar → Life → List (Call × List ℕ) → History → History
history c l [] h = h
history c l (k ∷ ks) h = history c (after c l k.0) ks ((k.0, reply c l.now k.0 k.1) ∷ h)

abbrev pub on : Call → Call × List ℕ
on k = (k, [])

-- One order a day, none needed.
abbrev pub ones : Calendar
ones t = (0, 1)

-- Two orders push each other: 5 is told day 1 alone while 6 is held, and both its days after 6 is withdrawn.
abbrev pub two_orders : List (Call × List ℕ)
two_orders =
    on (edit (admit 5 0 1) 56) ∷ on (edit (admit 6 0 0) 56) ∷ on (window 5) ∷ on (edit (withdraw 6) 56) ∷ on (window 5) ∷ []

-- A week that begins on weekday 5, with day 1 closed.
abbrev pub week : List Pair
week = (1, 1) ∷ (0, 0) ∷ (0, 0) ∷ (0, 0) ∷ (0, 0) ∷ (0, 2) ∷ (0, 1) ∷ []

abbrev pub closed_on_1 : Calendar
closed_on_1 t = cond (t == 1) (0, 0) (slice_index_or week ((5 + t) % 7) (0, 0))

abbrev pub a_week : List (Call × List ℕ)
a_week =
    on (edit (admit 7 0 2) 56) ∷ on (edit (admit 4 0 1) 56) ∷ on (window 4) ∷ on (edit (light 2) 56) ∷ on (window 7)
    ∷ (edit (withdraw 7) 56, run_marks 0 horizon (2, 2)) ∷ on (plan 512) ∷ on (edit (admit 9 1 1) 56) ∷ on (turn 512) ∷ on (edit (admit 9 0 5) 56)
    ∷ []

-- A trial undone, and one kept; then the days turn.
abbrev pub trials : List (Call × List ℕ)
trials =
    on (edit (admit 5 0 1) 56) ∷ on begin ∷ on (edit (admit 6 0 0) 56) ∷ on undo ∷ on (window 6) ∷ on begin ∷ on (edit (change 5 1 1) 56)
    ∷ on keep ∷ on (probe 5 1) ∷ on (turn 1) ∷ on (turn 0) ∷ on (turn 1) ∷ on (probe 5 1) ∷ []

-- The last day of the horizon is day 55, and 56 marks are asked for.
abbrev pub edges : List (Call × List ℕ)
edges = on (edit (admit 5 0 55) 56) ∷ on (edit (admit 6 0 56) 56) ∷ on (edit (admit 6 0 0) 55) ∷ on (window 5) ∷ []

pub record WorkedCases : Type 0 where
  pub on_plans : WorkedPlans
  pub pushed : replies ones opened two_orders ≡ done ∷ done ∷ days 1 1 ∷ done ∷ days 0 1 ∷ []
  pub lit_day : replies closed_on_1 opened a_week
      ≡ done ∷ done ∷ days 0 0 ∷ done ∷ days 2 2 ∷ lacks 21 7 (run_marks 0 horizon (2, 2)) 0 1 ∷ planned (0 ∷ 2 ∷ [])
      ∷ lacks 20 9 (run_marks 0 horizon (1, 1)) 1 0 ∷ out (4 ∷ []) ∷ refused 34 9 ∷ []
  pub tried : replies ones opened trials
      ≡ done ∷ done ∷ done ∷ done ∷ refused 32 6 ∷ done ∷ done ∷ done ∷ says true ∷ out [] ∷ refused 37 1 ∷ out (5 ∷ []) ∷ refused 32 5 ∷ []
  pub struck_out : deeds_of (history ones opened trials [])
      ≡ let_out (5 ∷ []) ∷ let_out [] ∷ changed 5 (1, 1) ∷ admitted 5 (0, 1) ∷ []
  pub at_the_edge : replies ones opened edges ≡ done ∷ refused 34 6 ∷ refused 37 6 ∷ days 0 55 ∷ []
