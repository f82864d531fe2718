-- The life after an edit, from the ledger after it.
use Rattle.std.proofs.Common.{◌≡◌, ℕ, Option, sym, refl, ap, ◌∙◌}
use Rattle.ledger.specs.Ledger.{Calendar, Ledger}
use Rattle.ledger.specs.Calls.{Edit, Call.edit}
use Rattle.ledger.specs.Replies.{ledger_after}
use Rattle.ledger.specs.Lives.{Life, after}
use Rattle.ledger.proofs.Lives.{after_call}
use Rattle.state.specs.Model.{ledger_of}
use Rattle.state.specs.declared.state.State.{State}
use Rattle.book.specs.Lives.{Goes}
use Rattle.book.specs.declared.desk.Desk.{Desk}

pub edited_life : (c : Calendar) (L M : Ledger) (begun : Option Ledger) (e : Edit) (m : ℕ) → M ≡ ledger_after c L (edit e m)
    → record { now = M; begun = begun } ≡ after c (record { now = L; begun = begun }) (edit e m)
edited_life c L M begun e m h =
    ap (λ (N : Ledger). let l : Life = record { now = N; begun = begun } in l) h ∙ sym (after_call c (record { now = L; begun = begun }) (edit e m) refl)

pub goes_by : {C M : Type 0} (told : C → Calendar) (begun : M → Option Ledger) (d : Desk C M) (s : State) (e : Edit) (m : ℕ)
    → ledger_of s ≡ ledger_after (told d.calendar) (ledger_of d.state) (edit e m)
    → Goes told begun begun (edit e m) d (record { calendar = d.calendar; state = s; mode = d.mode })
goes_by told begun d s e m h =
    record {
      life = edited_life (told d.calendar) (ledger_of d.state) (ledger_of s) (begun d.mode) e m h;
      same = refl;
    }
