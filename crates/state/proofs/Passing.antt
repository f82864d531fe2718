-- What holds of a call that passes its checks.
use Rattle.std.proofs.Common.{ℕ, ◌<◌, ◌≤◌, length, arith}
use Rattle.std.proofs.lemmas.Bool.{ltb-false}
use Rattle.ledger.specs.Ledger.{Ledger}
use Rattle.ledger.specs.Calls.{Edit, Edit.admit, Edit.change, Edit.withdraw, Edit.light, Call.edit, Call.plan, Call.turn, checks}
use Rattle.ledger.specs.Law.{Passes}
use Rattle.ledger.proofs.Checks.{clear, GoodWindow, admit_checks, change_checks}
use Rattle.state.proofs.Nearness.{Near}

pub marks_enough : (L : Ledger) (e : Edit) (m : ℕ) → Passes L (edit e m) → 56 ≤ m
marks_enough L (admit n f l) m e = ltb-false m 56 (clear (checks L (edit (admit n f l) m)) e).1.1.1.1.0
marks_enough L (change n f l) m e = ltb-false m 56 (clear (checks L (edit (change n f l) m)) e).1.1.0
marks_enough L (withdraw n) m e = ltb-false m 56 (clear (checks L (edit (withdraw n) m)) e).1.0
marks_enough L (light d) m e = ltb-false m 56 (clear (checks L (edit (light d) m)) e).1.1.0

near_window : (L : Ledger) (f l : ℕ) → GoodWindow L f l → Near L.today (f, l)
near_window L f l G = record { ordered = G.ordered; not_past = omega arith; ends = G.near }

pub admit_passed : (L : Ledger) (n f l m : ℕ) → Passes L (edit (admit n f l) m) → (length L.held < 512) × Near L.today (f, l)
admit_passed L n f l m e = let G = admit_checks L n f l m e in (G.room, near_window L f l G.window)

pub change_passed : (L : Ledger) (n f l m : ℕ) → Passes L (edit (change n f l) m) → Near L.today (f, l)
change_passed L n f l m e = near_window L f l (change_checks L n f l m e)

-- A list has room for all orders held.
pub plan_room : (L : Ledger) (m : ℕ) → Passes L (plan m) → length L.held ≤ m
plan_room L m e = ltb-false m (length L.held) (clear (checks L (plan m)) e).0

pub turn_room : (L : Ledger) (m : ℕ) → Passes L (turn m) → length L.held ≤ m
turn_room L m e = ltb-false m (length L.held) (clear (checks L (turn m)) e).0
