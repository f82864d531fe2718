-- The life after a call that begins or ends no trial: the ledger after it, and the same note of what began the trial.
use Rattle.std.proofs.Common.{◌≡◌, Bool, true, false, cond, [], refl, ap, ◌∙◌}
use Rattle.ledger.specs.Ledger.{Calendar, Ledger}
use Rattle.ledger.specs.Calls.{Call, made}
use Rattle.ledger.specs.Replies.{reply, refuses, ledger_after}
use Rattle.ledger.specs.Lives.{Life, next, after}

with_now : (b : Bool) (l : Life) (M : Ledger) → cond b l (record { now = M; begun = l.begun }) ≡ record { now = cond b l.now M; begun = l.begun }
with_now true l M = refl
with_now false l M = refl

-- `refl` is the premise of every call but begin, keep and undo
pub after_call : (c : Calendar) (l : Life) (k : Call) → next c l k ≡ record { now = made c l.now k; begun = l.begun }
    → after c l k ≡ record { now = ledger_after c l.now k; begun = l.begun }
after_call c l k e = ap (cond (refuses (reply c l.now k [])) l) e ∙ with_now (refuses (reply c l.now k [])) l (made c l.now k)
