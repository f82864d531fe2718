-- The calls of a book, what each makes of the ledger where it is accepted, and the checks that it has to pass.
use Rattle.std.specs.Prelude.{ℕ, suc, ◌+◌, Bool, true, false, cond, not, ◌||◌, List, [], ◌∷◌, length, Some, None, Option, ◌==◌, nat_le, nat_lt}
use Rattle.ledger.specs.Orders.{Order, holds, enter, rewindow, without, staying}
use Rattle.ledger.specs.Ledger.{Calendar, Ledger, horizon, plan_of}

-- The calls that may leave no plan. They take the caller's list of day marks.
pub data Edit : Type 0 where
  admit : (number first last : ℕ) → Edit
  change : (number first last : ℕ) → Edit
  withdraw : (number : ℕ) → Edit
  light : (day : ℕ) → Edit

-- All calls: an edit with the length of its list of marks, plan and turn with that of the list that they write to.
pub data Call : Type 0 where
  edit : Edit → (marks : ℕ) → Call
  douse : (day : ℕ) → Call
  window : (number : ℕ) → Call
  probe : (number day : ℕ) → Call
  plan : (room : ℕ) → Call
  turn : (room : ℕ) → Call
  begin keep undo : Call

abbrev pub edits : Call → Bool
edits (edit e m) = true
edits (douse d) = false
edits (window n) = false
edits (probe n d) = false
edits (plan r) = false
edits (turn r) = false
edits begin = false
edits keep = false
edits undo = false

-- What a refusal of a call is about: its order number, else its day, else today.
abbrev pub edit_subject : Edit → ℕ
edit_subject (admit n f l) = n
edit_subject (change n f l) = n
edit_subject (withdraw n) = n
edit_subject (light d) = d

abbrev pub subject : Ledger → Call → ℕ
subject L (edit e m) = edit_subject e
subject L (douse d) = d
subject L (window n) = n
subject L (probe n d) = n
subject L (plan r) = L.today
subject L (turn r) = L.today
subject L begin = L.today
subject L keep = L.today
subject L undo = L.today

-- Other orders; another light on day d.
abbrev pub with_held : List Order → Ledger → Ledger
with_held os L = record { today = L.today; lit = L.lit; held = os }

abbrev pub switch : ℕ → Bool → (ℕ → Bool) → ℕ → Bool
switch d b lit t = cond (t == d) b (lit t)

abbrev pub with_light : ℕ → Bool → Ledger → Ledger
with_light d b L = record { today = L.today; lit = switch d b L.lit; held = L.held }

-- What an accepted call makes of the ledger. A turn lets out the orders that the plan puts on today; then it is the next
-- day, and the old one is no longer lit.
abbrev pub edited : Edit → Ledger → Ledger
edited (admit n f l) L = with_held (enter (record { number = n; asked = (f, l) }) L.held) L
edited (change n f l) L = with_held (rewindow n (f, l) L.held) L
edited (withdraw n) L = with_held (without n L.held) L
edited (light d) L = with_light d true L

abbrev pub turned : List ℕ → Ledger → Ledger
turned ts L = record { today = suc L.today; lit = switch L.today false L.lit; held = staying L.today L.held ts }

abbrev pub made : Calendar → Ledger → Call → Ledger
made c L (edit e m) = edited e L
made c L (douse d) = with_light d false L
made c L (window n) = L
made c L (probe n d) = L
made c L (plan r) = L
made c L (turn r) = turned (plan_of c L) L
made c L begin = L
made c L keep = L
made c L undo = L

-- A window that ends before it begins, begins before today or ends after the horizon; a day outside the horizon.
abbrev pub bad_window : Ledger → ℕ → ℕ → Bool
bad_window L f l = nat_lt l f || nat_lt f L.today || nat_le (L.today + horizon) l

abbrev pub bad_day : Ledger → ℕ → Bool
bad_day L d = nat_lt d L.today || nat_le (L.today + horizon) d

-- The most orders that are held, and the last day that can be today.
abbrev pub most_held : ℕ
most_held = 512

abbrev pub last_today : ℕ
last_today = 65480

-- The checks of a call in the order in which they are made: the number of a refusal, and when it comes.
abbrev pub edit_checks : Ledger → Edit → ℕ → List (ℕ × Bool)
edit_checks L (admit n f l) m =
    (30, (n == 0)) ∷ (31, holds n L.held) ∷ (33, nat_le most_held (length L.held)) ∷ (34, bad_window L f l) ∷ (37, nat_lt m horizon) ∷ []
edit_checks L (change n f l) m = (32, not (holds n L.held)) ∷ (34, bad_window L f l) ∷ (37, nat_lt m horizon) ∷ []
edit_checks L (withdraw n) m = (32, not (holds n L.held)) ∷ (37, nat_lt m horizon) ∷ []
edit_checks L (light d) m = (35, bad_day L d) ∷ (36, L.lit d) ∷ (37, nat_lt m horizon) ∷ []

abbrev pub checks : Ledger → Call → List (ℕ × Bool)
checks L (edit e m) = edit_checks L e m
checks L (douse d) = (35, bad_day L d) ∷ (36, not (L.lit d)) ∷ []
checks L (window n) = (32, not (holds n L.held)) ∷ []
checks L (probe n d) = (32, not (holds n L.held)) ∷ (35, bad_day L d) ∷ []
checks L (plan r) = (37, nat_lt r (length L.held)) ∷ []
checks L (turn r) = (37, nat_lt r (length L.held)) ∷ (38, (L.today == last_today)) ∷ []
checks L begin = []
checks L keep = []
checks L undo = []

-- The first that comes.
abbrev pub first_fault : List (ℕ × Bool) → Option ℕ
first_fault [] = None
first_fault (k ∷ ks) = cond k.1 (Some k.0) (first_fault ks)
