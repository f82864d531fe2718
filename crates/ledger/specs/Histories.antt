-- The history of a book: its calls with their replies, and what was done by them.
use Rattle.std.specs.Prelude.{◌≡◌, ℕ, Bool, true, false, cond, List, [], ◌∷◌, length, Some, None, Option, ◌==◌}
use Rattle.std.specs.List.{flat_map}
use Rattle.plans.specs.Plans.{Window}
use Rattle.ledger.specs.Ledger.{Calendar}
use Rattle.ledger.specs.Calls.{Edit, Edit.admit, Edit.change, Edit.withdraw, Edit.light, Call, Call.edit, Call.douse, Call.window, Call.probe, Call.plan, Call.turn, Call.begin, Call.keep, Call.undo, switch}
use Rattle.ledger.specs.Replies.{Reply, Reply.done, Reply.days, Reply.says, Reply.planned, Reply.out, Reply.refused, Reply.lacks, reply, refuses, Allowed}
use Rattle.ledger.specs.Lives.{Life, opened, after, stands}

-- The calls with their replies, the latest first.
abbrev pub History : Type 0
History = List (Call × Reply)

-- THE HISTORIES of a book over a calendar, each with the life that it reaches. The book is opened; then come calls, any
-- and in any order, as long as each stands where the rules put it. Each gets the ledger's reply, where 21 may mark any set
-- that its rule allows, and leaves what the ledger says.
pub data Reaches (c : Calendar) : History → Life → Type 0 where
  opening : Reaches c [] opened
  more : {h : History} {l : Life} → Reaches c h l → (k : Call) (marks : List ℕ) → stands l k ≡ true → Allowed c l.now k marks
      → Reaches c ((k, reply c l.now k marks) ∷ h) (after c l k)

-- What can be done to a book. Each turn is a deed, also one that lets out nobody.
pub data Deed : Type 0 where
  admitted changed : (number : ℕ) (window : Window) → Deed
  withdrew : (number : ℕ) → Deed
  lit doused : (day : ℕ) → Deed
  let_out : (numbers : List ℕ) → Deed

-- The deed of an edit, and the numbers that the reply to a turn has.
abbrev pub deed : Edit → Deed
deed (admit n f l) = admitted n (f, l)
deed (change n f l) = changed n (f, l)
deed (withdraw n) = withdrew n
deed (light d) = lit d

abbrev pub written : Reply → List ℕ
written done = []
written (days f l) = []
written (says b) = []
written (planned ts) = []
written (out ns) = ns
written (refused n a) = []
written (lacks n a s w m) = []

-- The deeds so far, the latest first; in a trial also those before it began.
pub record Account : Type 0 where
  pub deeds : List Deed
  pub begun : Option (List Deed)

abbrev pub add : Deed → Account → Account
add d a = record { deeds = d ∷ a.deeds; begun = a.begun }

-- What an accepted call adds to the account: questions nothing. Begin notes the deeds, keep forgets that note, and undo
-- goes back to it, so that the deeds of an undone trial are struck out.
abbrev pub entered : Call → Reply → Account → Account
entered (edit e m) r a = add (deed e) a
entered (douse d) r a = add (doused d) a
entered (window n) r a = a
entered (probe n d) r a = a
entered (plan m) r a = a
entered (turn m) r a = add (let_out (written r)) a
entered begin r a = record { deeds = a.deeds; begun = Some a.deeds }
entered keep r a = record { deeds = a.deeds; begun = None }
entered undo r a = record { deeds = elim a.begun [ None ↦ a.deeds | Some ds ↦ ds ]; begun = None }

-- The account of a history: refused calls are left out.
abbrev pub account : History → Account
account [] = record { deeds = []; begun = None }
account (s ∷ h) = cond (refuses s.1) (account h) (entered s.0 s.1 (account h))

-- WHAT WAS DONE in a history, refused calls and undone trials left out; the latest deed first.
abbrev pub deeds_of : History → List Deed
deeds_of h = (account h).deeds

-- The numbers admitted, and those withdrawn.
abbrev pub admissions : List Deed → List ℕ
admissions [] = []
admissions (admitted n w ∷ ds) = n ∷ admissions ds
admissions (changed n w ∷ ds) = admissions ds
admissions (withdrew n ∷ ds) = admissions ds
admissions (lit d ∷ ds) = admissions ds
admissions (doused d ∷ ds) = admissions ds
admissions (let_out ns ∷ ds) = admissions ds

abbrev pub withdrawals : List Deed → List ℕ
withdrawals [] = []
withdrawals (admitted n w ∷ ds) = withdrawals ds
withdrawals (changed n w ∷ ds) = withdrawals ds
withdrawals (withdrew n ∷ ds) = n ∷ withdrawals ds
withdrawals (lit d ∷ ds) = withdrawals ds
withdrawals (doused d ∷ ds) = withdrawals ds
withdrawals (let_out ns ∷ ds) = withdrawals ds

-- The turns: the numbers that each let out, with the deeds before it; and the numbers let out in all.
abbrev pub turns : List Deed → List (List ℕ × List Deed)
turns [] = []
turns (admitted n w ∷ ds) = turns ds
turns (changed n w ∷ ds) = turns ds
turns (withdrew n ∷ ds) = turns ds
turns (lit d ∷ ds) = turns ds
turns (doused d ∷ ds) = turns ds
turns (let_out ns ∷ ds) = (ns, ds) ∷ turns ds

abbrev pub leavings : List Deed → List ℕ
leavings ds = flat_map (λ t. t.0) (turns ds)

-- The day that it is after the deeds: each turn makes it the next.
abbrev pub day_after : List Deed → ℕ
day_after ds = length (turns ds)

-- The window last accepted for a number.
abbrev pub last_window : ℕ → List Deed → Option Window
last_window n [] = None
last_window n (admitted m w ∷ ds) = cond (n == m) (Some w) (last_window n ds)
last_window n (changed m w ∷ ds) = cond (n == m) (Some w) (last_window n ds)
last_window n (withdrew m ∷ ds) = last_window n ds
last_window n (lit d ∷ ds) = last_window n ds
last_window n (doused d ∷ ds) = last_window n ds
last_window n (let_out ns ∷ ds) = last_window n ds

-- Whether a day is lit: once lit, until it is doused or turned.
abbrev pub lit_after : List Deed → ℕ → Bool
lit_after [] = λ t. false
lit_after (admitted n w ∷ ds) = lit_after ds
lit_after (changed n w ∷ ds) = lit_after ds
lit_after (withdrew n ∷ ds) = lit_after ds
lit_after (lit d ∷ ds) = switch d true (lit_after ds)
lit_after (doused d ∷ ds) = switch d false (lit_after ds)
lit_after (let_out ns ∷ ds) = switch (day_after ds) false (lit_after ds)
