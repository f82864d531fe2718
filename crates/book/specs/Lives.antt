-- The life that a book or a trial is.
use Rattle.std.specs.Prelude.{◌≡◌, None, Some, Option}
use Rattle.ledger.specs.Ledger.{Calendar, Ledger}
use Rattle.ledger.specs.Calls.{Call}
use Rattle.ledger.specs.Lives.{Life, after}
use Rattle.state.specs.Model.{ledger_of}
use Rattle.state.specs.declared.state.State.{State}
use Rattle.book.specs.declared.desk.Desk.{Desk}
use Rattle.book.specs.declared.mode.Live.{Live}
use Rattle.book.specs.declared.mode.Trying.{Trying}

-- A book keeps no ledger beside its own, a trial the one that began it.
abbrev pub none : Live → Option Ledger
none mode = None

abbrev pub begun_in : Trying → Option Ledger
begun_in mode = Some (ledger_of mode.begun)

abbrev pub life_of : State → Option Ledger → Life
life_of s begun = record { now = ledger_of s; begun = begun }

-- A call takes the desk d to the desk e: the life of e is the one after the call, and its calendar is the same.
pub record Goes {C M N : Type 0} (told : C → Calendar) (begun : M → Option Ledger) (begun' : N → Option Ledger) (k : Call) (d : Desk C M) (e : Desk C N) : Type 0 where
  pub life : life_of e.state (begun' e.mode) ≡ after (told d.calendar) (life_of d.state (begun d.mode)) k
  pub same : e.calendar ≡ d.calendar
