-- The life of a book: its ledger, and in a trial the ledger that began it.
use Rattle.std.specs.Prelude.{Bool, true, false, cond, not, [], is_some, Some, None, Option}
use Rattle.ledger.specs.Ledger.{Calendar, Ledger}
use Rattle.ledger.specs.Calls.{Call, Call.edit, Call.douse, Call.window, Call.probe, Call.plan, Call.turn, Call.begin, Call.keep, Call.undo, made}
use Rattle.ledger.specs.Replies.{reply, refuses}

pub record Life : Type 0 where
  pub now : Ledger
  pub begun : Option Ledger

-- A book just opened: today is 0, no order is held and no day is lit.
abbrev pub fresh : Ledger
fresh = record { today = 0; lit = λ t. false; held = [] }

abbrev pub opened : Life
opened = record { now = fresh; begun = None }

-- The ledger that began a trial.
abbrev pub before : Life → Ledger
before l = elim l.begun [ None ↦ l.now | Some L ↦ L ]

-- What an accepted call makes of a life: begin notes the ledger as it is, keep forgets that note, and undo goes back to it.
abbrev pub next : Calendar → Life → Call → Life
next c l (edit e m) = record { now = made c l.now (edit e m); begun = l.begun }
next c l (douse d) = record { now = made c l.now (douse d); begun = l.begun }
next c l (window n) = l
next c l (probe n d) = l
next c l (plan r) = l
next c l (turn r) = record { now = made c l.now (turn r); begun = l.begun }
next c l begin = record { now = l.now; begun = Some l.now }
next c l keep = record { now = l.now; begun = None }
next c l undo = record { now = before l; begun = None }

-- THE LIFE AFTER a call: a refused one alters nothing.
abbrev pub after : Calendar → Life → Call → Life
after c l k = cond (refuses (reply c l.now k [])) l (next c l k)

-- Turn and begin stand on a book, keep and undo on a trial, all others on both.
abbrev pub stands : Life → Call → Bool
stands l (edit e m) = true
stands l (douse d) = true
stands l (window n) = true
stands l (probe n d) = true
stands l (plan r) = true
stands l (turn r) = not (is_some l.begun)
stands l begin = not (is_some l.begun)
stands l keep = is_some l.begun
stands l undo = is_some l.begun
