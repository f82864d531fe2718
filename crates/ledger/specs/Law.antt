-- THE LAW of a book over its whole history.
use Rattle.std.specs.Prelude.{◌≡◌, ℕ, suc, ◌+◌, ◌<◌, ◌≤◌, Bool, true, false, ◌⊎◌, ◌↔◌, List, [], ◌∷◌, length, is_some, Some, None, Option}
use Rattle.std.specs.List.{AllByRecursion}
use Rattle.plans.specs.Plans.{Window, count, KeepsMosts}
use Rattle.plans.specs.Runs.{held, room, Named}
use Rattle.plans.specs.Sets.{meeting, needed, run_marks}
use Rattle.plans.specs.Narrowing.{Possible, Smallest, Largest, Leads}
use Rattle.ledger.specs.Orders.{numbers, holds, place, leaving}
use Rattle.ledger.specs.Ledger.{Calendar, Ledger, horizon, pairs, windows, Fits}
use Rattle.ledger.specs.Calls.{Edit, Call, Call.edit, edits, edit_subject, edited, made, checks, first_fault, most_held, last_today}
use Rattle.ledger.specs.Replies.{Reply, Reply.days, Reply.says, Reply.planned, Reply.out, Reply.lacks, reply, number_of, refuses, Allowed}
use Rattle.ledger.specs.Lives.{Life, next, after, stands}
use Rattle.ledger.specs.Histories.{History, Reaches, Deed, account, deeds_of, admissions, withdrawals, turns, leavings, day_after, last_window, lit_after}

-- Some plan fits a ledger; and some assignment keeps its mosts, the fewests or not.
abbrev pub SomePlan : Calendar → Ledger → Type 0
SomePlan c L = (ts : List ℕ) × Fits c L ts

abbrev pub SomeKeepsMosts : Calendar → Ledger → Type 0
SomeKeepsMosts c L = (ts : List ℕ) × KeepsMosts L.today (pairs c L) (windows L) ts

-- The call passes its checks, all but 20 and 21.
abbrev pub Passes : Ledger → Call → Type 0
Passes L k = first_fault (checks L k) ≡ None

-- Each number is below all that follow it, so none stands there twice.
abbrev pub Ascends : List ℕ → Type 0
Ascends [] = Unit {0}
Ascends (n ∷ ns) = AllByRecursion (λ m. n < m) ns × Ascends ns

-- WHAT EVERY LEDGER KEEPS, whatever its calendar. At most 512 orders are held, in ascending order of number, and no number
-- is 0. Each window begins no later than it ends, ends within the horizon, and is not past. Lit days are within the
-- horizon, and today is no later than the last day.
pub record Orderly (L : Ledger) : Type 0 where
  pub ascending : Ascends (numbers L.held)
  pub numbered : AllByRecursion (λ o. 0 < o.number) L.held
  pub few : length L.held ≤ most_held
  pub ordered : AllByRecursion (λ o. o.asked.0 ≤ o.asked.1) L.held
  pub near : AllByRecursion (λ o. o.asked.1 < L.today + horizon) L.held
  pub ahead : AllByRecursion (λ o. L.today ≤ o.asked.1) L.held
  pub lit_near : (t : ℕ) → L.lit t ≡ true → (L.today ≤ t) × (t < L.today + horizon)
  pub early : L.today ≤ last_today

-- And over its calendar: some plan fits it.
pub record Kept (c : Calendar) (L : Ledger) : Type 0 where
  pub fits : SomePlan c L
  pub orderly : Orderly L

-- Day t is one of the window's, where there is one.
abbrev pub Inside : ℕ → Option Window → Type 0
Inside t None = ⊥
Inside t (Some w) = (w.0 ≤ t) × (t ≤ w.1)

-- A GOOD TURN, which lets out the numbers ns after the deeds ds: at most the day's most, at least its fewest if the day is
-- lit, in ascending order, and each inside the window last accepted for it.
pub record GoodTurn (c : Calendar) (ns : List ℕ) (ds : List Deed) : Type 0 where
  pub at_most : length ns ≤ (c (day_after ds)).1
  pub at_least : lit_after ds (day_after ds) ≡ true → (c (day_after ds)).0 ≤ length ns
  pub ascending : Ascends ns
  pub inside : AllByRecursion (λ n. Inside (day_after ds) (last_window n ds)) ns

-- How often a number was withdrawn or let out.
abbrev pub ends : ℕ → List Deed → ℕ
ends n ds = count n (withdrawals ds) + count n (leavings ds)

-- No end of a number without an admission of its own before it, and no admission before the one before has ended.
pub record InTurn (n : ℕ) (ds : List Deed) : Type 0 where
  pub admitted_first : ends n ds ≤ count n (admissions ds)
  pub one_at_a_time : count n (admissions ds) ≤ suc (ends n ds)

-- At all times: before the first deed, and after each.
abbrev pub Always : (List Deed → Type 0) → List Deed → Type 0
Always P [] = P []
Always P (d ∷ ds) = P (d ∷ ds) × Always P ds

-- WHAT WAS DONE ACCOUNTS FOR THE LEDGER.
pub record Accounted (c : Calendar) (ds : List Deed) (L : Ledger) : Type 0 where
  -- Today is the number of turns. Lit are the days that were lit, and neither doused nor turned since.
  pub today : L.today ≡ day_after ds
  pub lit : (t : ℕ) → L.lit t ≡ lit_after ds t
  -- Every turn was good.
  pub good_turns : AllByRecursion (λ t. GoodTurn c t.0 t.1) (turns ds)
  -- Each held order stands under the window last accepted for it, and that window is not past.
  pub held : AllByRecursion (λ o. (last_window o.number ds ≡ Some o.asked) × (L.today ≤ o.asked.1)) L.held
  -- Each admission ends in exactly one withdrawal or one letting out, or is held: for every number, and at all times,
  pub in_turn : (n : ℕ) → Always (InTurn n) ds
  pub each_ended : (n : ℕ)
      → count n (admissions ds) ≡ count n (withdrawals ds) + count n (leavings ds) + count n (numbers L.held)
  -- and in sum: admissions = withdrawals + orders let out + orders held.
  pub all_ended : length (admissions ds) ≡ length (withdrawals ds) + length (leavings ds) + length L.held

-- Both: a ledger in order, with a plan, and accounted for.
pub record Sound (c : Calendar) (ds : List Deed) (L : Ledger) : Type 0 where
  pub kept : Kept c L
  pub accounted : Accounted c ds L

-- In a trial the ledger that began it is sound as well, by the deeds before the trial.
abbrev pub SoundBegun : Calendar → Option (List Deed) → Option Ledger → Type 0
SoundBegun c None None = Unit {0}
SoundBegun c None (Some L) = ⊥
SoundBegun c (Some ds) None = ⊥
SoundBegun c (Some ds) (Some L) = Sound c ds L

-- Some plan gives number n the day t; and none an earlier one; and none a later one.
abbrev pub CanHave : Calendar → Ledger → ℕ → ℕ → Type 0
CanHave c L n t = Possible L.today (pairs c L) (windows L) (place n L.held) t

abbrev pub HasFirst : Calendar → Ledger → ℕ → ℕ → Type 0
HasFirst c L n t = Smallest L.today (pairs c L) (windows L) (place n L.held) t

abbrev pub HasLast : Calendar → Ledger → ℕ → ℕ → Type 0
HasLast c L n t = Largest L.today (pairs c L) (windows L) (place n L.held) t

-- The plan that comes before every other.
abbrev pub ComesFirst : Calendar → Ledger → List ℕ → Type 0
ComesFirst c L ts = Leads L.today (pairs c L) (windows L) ts

-- WHAT IS TOLD is by the plans of the ledger.
pub record Answers (c : Calendar) (L : Ledger) : Type 0 where
  -- Of a held order, the smallest and the largest day that it has in any plan.
  pub window : (n : ℕ) (marks : List ℕ) → holds n L.held ≡ true
      → (first : ℕ) × (last : ℕ) × (reply c L (Call.window n) marks ≡ days first last) × HasFirst c L n first × HasLast c L n last
  -- Yes exactly when some plan gives the order that day.
  pub probe : (n t : ℕ) (marks : List ℕ) → Passes L (Call.probe n t)
      → (yes : Bool) × (reply c L (Call.probe n t) marks ≡ says yes) × ((yes ≡ true) ↔ CanHave c L n t)
  -- The plan that comes before every other; and a turn lets out the orders that it puts on today.
  pub plan : (m : ℕ) (marks : List ℕ) → Passes L (Call.plan m)
      → (ts : List ℕ) × (reply c L (Call.plan m) marks ≡ planned ts) × ComesFirst c L ts
  pub turn : (m : ℕ) (marks : List ℕ) → Passes L (Call.turn m)
      → (ts : List ℕ) × (reply c L (Call.turn m) marks ≡ out (leaving L.today L.held ts)) × ComesFirst c L ts

-- What 20 and 21 show of the ledger M that an edit would make: 20 the run that its rule names, with the windows inside it
-- and the sum of its mosts; 21 the set that is marked, with the windows that meet it and the sum of its fewests.
pub record Shown (c : Calendar) (M : Ledger) (about : ℕ) (marks : List ℕ) (r : Reply) : Type 0 where
  pub twenty : number_of r ≡ 20
      → (run : Window) × Named M.today (pairs c M) (windows M) run
      × (r ≡ lacks 20 about (run_marks M.today horizon run) (held (windows M) run) (room M.today (pairs c M) run))
  pub twenty_one : number_of r ≡ 21
      → r ≡ lacks 21 about marks (meeting M.today marks (windows M)) (needed M.today marks (pairs c M))

-- The number of the reply to a call.
abbrev pub replied : Calendar → Life → Call → List ℕ → ℕ
replied c l k marks = number_of (reply c l.now k marks)

-- WHAT IS REFUSED for want of a plan.
pub record Refusals (c : Calendar) (l : Life) : Type 0 where
  -- A call past its other checks gets 20 or 21 exactly when no plan would remain:
  pub either : (k : Call) (marks : List ℕ) → Passes l.now k
      → ((replied c l k marks ≡ 20) ⊎ (replied c l k marks ≡ 21)) ↔ (SomePlan c (next c l k).now → ⊥)
  -- 20 when no assignment would keep the mosts, and 21 when some would, but no plan would remain.
  pub twenty : (k : Call) (marks : List ℕ) → Passes l.now k
      → (replied c l k marks ≡ 20) ↔ (SomeKeepsMosts c (next c l k).now → ⊥)
  pub twenty_one : (k : Call) (marks : List ℕ) → Passes l.now k
      → (replied c l k marks ≡ 21) ↔ (SomeKeepsMosts c (next c l k).now × (SomePlan c (next c l k).now → ⊥))
  -- Either shows the days that it is about.
  pub shown : (e : Edit) (m : ℕ) (marks : List ℕ)
      → Shown c (edited e l.now) (edit_subject e) marks (reply c l.now (edit e m) marks)
  -- Questions, douse and turn, and begin, keep and undo, are refused by their checks alone, so they never get either.
  pub by_checks : (k : Call) (marks : List ℕ) → edits k ≡ false
      → refuses (reply c l.now k marks) ≡ is_some (first_fault (checks l.now k))
  pub neither : (k : Call) (marks : List ℕ) → edits k ≡ false → (replied c l k marks ≡ 20) ⊎ (replied c l k marks ≡ 21) → ⊥
  -- A refused call alters nothing.
  pub unaltered : (k : Call) (marks : List ℕ) → refuses (reply c l.now k marks) ≡ true → after c l k ≡ l

-- What the law says of a history and the life that it reaches. That every reply was the ledger's own stands in `Reaches`.
pub record Lawful (c : Calendar) (h : History) (l : Life) : Type 0 where
  pub now : Sound c (deeds_of h) l.now
  pub begun : SoundBegun c (account h).begun l.begun
  pub answers : Answers c l.now
  pub refusals : Refusals c l

-- THE LAW, over every calendar and every history of a book. What comes before a call is a history too, so this holds
-- after each.
abbrev pub Law : Type 0
Law = (c : Calendar) (h : History) (l : Life) → Reaches c h l → Lawful c h l

-- The law call by call: one more call keeps it, whichever set 21 marks.
abbrev pub LawGoesOn : Type 0
LawGoesOn =
    (c : Calendar) (h : History) (l : Life) → Lawful c h l → (k : Call) (marks : List ℕ) → stands l k ≡ true
    → Lawful c ((k, reply c l.now k marks) ∷ h) (after c l k)

-- An accepted call leaves a ledger in order, had it a plan or not; and with a plan, if it had one.
abbrev pub OrderlyByCalls : Type 0
OrderlyByCalls =
    (c : Calendar) (L : Ledger) (k : Call) (marks : List ℕ) → Orderly L → refuses (reply c L k marks) ≡ false → Orderly (made c L k)

abbrev pub KeptByCalls : Type 0
KeptByCalls =
    (c : Calendar) (L : Ledger) (k : Call) (marks : List ℕ) → Kept c L → refuses (reply c L k marks) ≡ false → Kept c (made c L k)

-- Which set 21 marks alters neither whether a call is refused nor with which number.
abbrev pub MarksNoMatter : Type 0
MarksNoMatter =
    (c : Calendar) (L : Ledger) (k : Call) (marks others : List ℕ)
    → (refuses (reply c L k marks) ≡ refuses (reply c L k others)) × (number_of (reply c L k marks) ≡ number_of (reply c L k others))

-- Where no day has a fewest above its most, 21 always has a set to mark. So a history can go on with every call that stands.
abbrev pub Answerable : Type 0
Answerable =
    (c : Calendar) → ((t : ℕ) → (c t).0 ≤ (c t).1) → (L : Ledger) → Orderly L → (k : Call)
    → (marks : List ℕ) × Allowed c L k marks
