-- The ledger of a book: what is held, and its plans.
use Rattle.std.specs.Prelude.{ℕ, max, Bool, cond, List, [], map, Some, None, Option}
use Rattle.plans.specs.Plans.{Window, Pair, from, Plan}
use Rattle.plans.specs.Narrowing.{narrowed_at, supported, first_plan}
use Rattle.plans.specs.Replies.{Reply, reply}
use Rattle.ledger.specs.Orders.{Order, place}

-- A calendar has a pair (fewest, most) for each day.
abbrev pub Calendar : Type 0
Calendar = ℕ → Pair

-- Today, which days are lit, and the held orders.
pub record Ledger : Type 0 where
  pub today : ℕ
  pub lit : ℕ → Bool
  pub held : List Order

-- The days of the horizon, from today on.
abbrev pub horizon : ℕ
horizon = 56

-- A lit day has the calendar's pair, an unlit day fewest 0 and the calendar's most.
abbrev pub pair_on : Calendar → Ledger → ℕ → Pair
pair_on c L t = (cond (L.lit t) (c t).0 0, (c t).1)

abbrev pub pairs : Calendar → Ledger → List Pair
pairs c L = map (pair_on c L) (from L.today horizon)

-- An asked window, begun no earlier than today; and those of all held orders.
abbrev pub begun_at : ℕ → Order → Window
begun_at today o = (max today o.asked.0, o.asked.1)

abbrev pub windows : Ledger → List Window
windows L = map (begun_at L.today) L.held

-- A plan gives each held order a day of its window and keeps the counts of the horizon.
abbrev pub Fits : Calendar → Ledger → List ℕ → Type 0
Fits c L ts = Plan L.today (pairs c L) (windows L) ts

-- Whether there is a plan: accepted; or 20 with its run and counts; or 21 with the counts of the marked set.
abbrev pub weigh : Calendar → Ledger → List ℕ → Reply
weigh c L marks = reply L.today (pairs c L) (windows L) marks

-- The smallest and the largest day of a held number in any plan, and whether some plan gives it day t.
abbrev pub days_of : Calendar → Ledger → ℕ → Window
days_of c L n = narrowed_at L.today (pairs c L) (windows L) (place n L.held)

abbrev pub may_have : Calendar → Ledger → ℕ → ℕ → Bool
may_have c L n t = supported L.today (pairs c L) (windows L) (place n L.held) t

-- The plan whose list of days comes first; nothing where there is none.
abbrev pub days_in : Option (List ℕ) → List ℕ
days_in None = []
days_in (Some ts) = ts

abbrev pub plan_of : Calendar → Ledger → List ℕ
plan_of c L = days_in (first_plan L.today (pairs c L) (windows L))
