-- From the engine's answer to the weighing of a ledger.
use Rattle.std.proofs.Common.{◌≡◌, ℕ, List, length, take, Ok, Err, Result, sym, refl, ap, ◌∙◌, subst}
use Rattle.plans.specs.Plans.{Pair}
use Rattle.plans.specs.Narrowing.{narrowed}
use Rattle.plans.specs.Replies.{Reply as Weight, Reply.accepted, Reply.overfull, Reply.short}
use Rattle.records.specs.Checks.{Outcome, past, checked}
use Rattle.narrowing.specs.Verdict.{told, Marked, MarkedPast, verdict_of, MarksAfter}
use Rattle.ledger.specs.Ledger.{Calendar, Ledger, pairs, windows, weigh}
use Rattle.orders.specs.Tables.{told_after}
use Rattle.state.specs.Answers.{horizon_marks}
use Rattle.state.specs.Weights.{answer_of, ledger_by, Settles}
use Rattle.faults.specs.declared.BookFault.{BookFault}
use Rattle.ledger.proofs.Days.{pairs_long}

module _ (c : Calendar) (L : Ledger) (ms ms' : List ℕ) (pass : checked L.today (pairs c L) (windows L) (length ms) ≡ Ok tt) where
  pub weigh_answer : (ps : List Pair) → ps ≡ pairs c L → verdict_of L.today ps (windows L) (length ms) (take (length ps) ms') ≡ told (weigh c L (horizon_marks ms'))
  weigh_answer ps e =
      ap (λ x. verdict_of L.today x (windows L) (length ms) (take (length x) ms')) e
      ∙ ap (λ x. past x (told (weigh c L (take (length (pairs c L)) ms')))) pass
      ∙ ap (λ d. told (weigh c L (take d ms'))) (pairs_long c L)

  pub weigh_marks : (ps : List Pair) → ps ≡ pairs c L → MarksAfter L.today ps (windows L) ms ms'
      → Marked L.today (pairs c L) (windows L) ms ms' (weigh c L (horizon_marks ms'))
  weigh_marks ps e h =
      let a : MarksAfter L.today (pairs c L) (windows L) ms ms' = subst (λ x. MarksAfter L.today x (windows L) ms ms') e h in
      let b : Marked L.today (pairs c L) (windows L) ms ms' (weigh c L (take (length (pairs c L)) ms')) = subst (λ x. MarkedPast L.today (pairs c L) (windows L) ms ms' x) pass a in
      subst (λ d. Marked L.today (pairs c L) (windows L) ms ms' (weigh c L (take d ms'))) (pairs_long c L) b

pub weigh_told : (c : Calendar) (L : Ledger) (ps : List Pair) (r : Outcome) → ps ≡ pairs c L → r ≡ Ok tt
    → told_after r L.today ps (windows L) ≡ narrowed L.today (pairs c L) (windows L)
weigh_told c L ps r e f = ap (λ x. told_after x L.today ps (windows L)) f ∙ ap (λ x. narrowed L.today x (windows L)) e

-- Settled by a weighing.
module _ (c : Calendar) (L M : Ledger) (about : ℕ) (ms ms' : List ℕ)
    (marks : Marked M.today (pairs c M) (windows M) ms ms' (weigh c M (horizon_marks ms'))) (r : Result (Unit {0}) BookFault)
    (answer : r ≡ answer_of about (weigh c M (horizon_marks ms'))) where
  pub settles_ok : (N : Ledger) → r ≡ Ok tt → N ≡ M → Settles c L M about (Ok tt) ms ms' N
  settles_ok N e m = record { answer = sym e ∙ answer; marks = marks; ledger = go (weigh c M (horizon_marks ms')) (sym answer ∙ e) }
    where
      go : (W : Weight) → answer_of about W ≡ Ok tt → N ≡ ledger_by L M W
      go accepted e = m
      go (overfull run w n) e = cc
      go (short w f) e = cc

  pub settles_err : (fault : BookFault) → r ≡ Err fault → Settles c L M about (Err fault) ms ms' L
  settles_err fault e = record { answer = sym e ∙ answer; marks = marks; ledger = go (weigh c M (horizon_marks ms')) (sym answer ∙ e) }
    where
      go : (W : Weight) → answer_of about W ≡ Err fault → L ≡ ledger_by L M W
      go accepted e = cc
      go (overfull run w n) e = refl
      go (short w f) e = refl
