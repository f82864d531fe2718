-- What a narrowing answers to windows that pass the checks: it is refused just where there is no plan.
use Rattle.std.proofs.Common.{◌≡◌, ℕ, ◌≤◌, List, map, length, Ok, Err, sym, refl, ap, ◌∙◌, subst, arith}
use Rattle.plans.specs.Plans.{Window, Pair, Plan}
use Rattle.plans.specs.Replies.{reply}
use Rattle.plans.specs.Narrowing.{narrowed}
use Rattle.records.specs.declared.fault.NarrowingFault.{NarrowingFault}
use Rattle.records.specs.declared.fault.NarrowingFault.TheVariants.{BadRange, BadPair, TooManyRecords, BadWindow, Overfull, Short}
use Rattle.records.specs.declared.record.bare.Window.{Window as Bare}
use Rattle.records.specs.Bare.{span_of, put_in}
use Rattle.records.specs.Faults.{number_of}
use Rattle.records.specs.Checks.{Outcome, past, checked}
use Rattle.records.proofs.Checked.{passed}
use Rattle.narrowing.specs.Verdict.{told, verdict_of, outcome_number, VerdictMeans}
use Rattle.narrowing.specs.Narrow.{narrow_of}
use Rattle.narrowing.proofs.Replies.{told_means}
use Rattle.narrowing.proofs.Meaning.{narrowed_long, rest_stays}
use Rattle.std.proofs.lemmas.List.{length-map}
use Rattle.planning.proofs.Passing.{more_marks}

-- no refusal has the number 0
numbered : (fault : NarrowingFault) → number_of fault ≡ 0 → ⊥
numbered BadRange e = omega arith
numbered (BadPair day) e = omega arith
numbered TooManyRecords e = omega arith
numbered (BadWindow i) e = omega arith
numbered (Overfull windows mosts) e = omega arith
numbered (Short windows fewests) e = omega arith

accepts : (r : Outcome) → outcome_number r ≡ 0 → r ≡ Ok tt
accepts (Ok _) e = refl
accepts (Err fault) e = absurd (numbered fault e)

module _ (k : ℕ) (pairs : List Pair) (ws : List Window) (n : ℕ) (marks : List ℕ) (r : Outcome) (ok : checked k pairs ws (length pairs) ≡ Ok tt)
    (enough : length pairs ≤ n) (is : r ≡ verdict_of k pairs ws n marks) where
  means : VerdictMeans k pairs ws r
  means =
      let e : r ≡ told (reply k pairs ws marks) = is ∙ ap (λ o. past o (told (reply k pairs ws marks))) (more_marks k pairs ws n enough ∙ ok) in
      let P : Outcome → Type 0 = VerdictMeans k pairs ws in
      subst P (sym e) (told_means k pairs ws marks (passed k pairs ws (length pairs) ok).proper.within)

  pub some_plan : r ≡ Ok tt → (ts : List ℕ) × Plan k pairs ws ts
  some_plan e = means.accepts.0 (ap outcome_number e)

  pub no_plan : (fault : NarrowingFault) → r ≡ Err fault → (ts : List ℕ) → Plan k pairs ws ts → ⊥
  no_plan fault e ts P = numbered fault (sym (ap outcome_number e) ∙ means.accepts.1 (ts, P))

  pub accepted : ((ts : List ℕ) × Plan k pairs ws ts) → r ≡ Ok tt
  accepted plan = accepts r (means.accepts.1 plan)

-- how bare windows then stand
pub spans_narrowed : (k : ℕ) (pairs : List Pair) (bs after : List Bare) (r : Outcome) → r ≡ Ok tt → after ≡ narrow_of put_in k pairs (map span_of bs) r bs
    → map span_of after ≡ narrowed k pairs (map span_of bs)
spans_narrowed k pairs bs after r ok e =
    let ws : List Window = map span_of bs in
    let vs : List Window = narrowed k pairs ws in
    ap (map span_of) (e ∙ ap (λ o. narrow_of put_in k pairs ws o bs) ok)
    ∙ (rest_stays span_of put_in (λ b w. refl) (λ b v w. refl) (λ b. refl) bs vs (narrowed_long k pairs ws ∙ length-map bs span_of)).told
