-- What `map_err` makes of an outcome: a refusal with what it is about.
use Rattle.std.proofs.Common.{◌≡◌, ℕ, Ok, Err, Option, None, Result, sym, refl, ap, ◌∙◌, subst}
use Rattle.std.specs.Result.{MatchResult, IsErrAnd, IfOk, is_ok}
use Rattle.std.proofs.lemmas.Result.{err_from_is_err_and}
use Rattle.plans.specs.Replies.{Reply as Weight, Reply.accepted, Reply.overfull, Reply.short}
use Rattle.records.specs.declared.fault.NarrowingFault.{NarrowingFault}
use Rattle.narrowing.specs.Verdict.{told}
use Rattle.faults.specs.declared.Check.{Check}
use Rattle.faults.specs.declared.Cause.{Cause}
use Rattle.faults.specs.declared.Cause.TheVariants.{Engine}
use Rattle.faults.specs.declared.BookFault.{BookFault}
use Rattle.state.specs.Answers.{failed}
use Rattle.state.specs.Weights.{fault_about, answer_of}

module _ {E : Type 0} (cause : E → Cause) (about : ℕ) where
  abbrev pub blamed : Result (Unit {0}) E → Result (Unit {0}) BookFault
  blamed (Ok _) = Ok tt
  blamed (Err e) = Err (fault_about about (cause e))

  pub blames : (r : Result (Unit {0}) E) {m : Result (Unit {0}) BookFault} {Q : E → BookFault → Type 0} → MatchResult r (λ x. m ≡ Ok x) (λ e. IsErrAnd m (Q e))
      → ((e : E) (f : BookFault) → Q e f → f ≡ fault_about about (cause e)) → m ≡ blamed r
  blames (Ok u) h q = h
  blames (Err e) {m} h q = let p = err_from_is_err_and m h in p.1 ∙ ap Err (q e p.0 p.2)

-- After a weighing.
pub heard : (about : ℕ) (W : Weight) (r : Result (Unit {0}) NarrowingFault) {m : Result (Unit {0}) BookFault} {Q : NarrowingFault → BookFault → Type 0} → r ≡ told W
    → MatchResult r (λ x. m ≡ Ok x) (λ e. IsErrAnd m (Q e)) → ((e : NarrowingFault) (f : BookFault) → Q e f → f ≡ fault_about about (Engine e))
    → m ≡ answer_of about W
heard about W r e h q = blames Engine about r h q ∙ ap (blamed Engine about) e ∙ go W
  where
    go : (W : Weight) → blamed Engine about (told W) ≡ answer_of about W
    go accepted = refl
    go (overfull run windows mosts) = refl
    go (short windows fewests) = refl

-- The checks that were passed.
pub no_fault : {A : Type 0} {a : A} (r : Result A Check) {m : Result A BookFault} {o : Option ℕ} → failed r ≡ o → is_ok m ≡ is_ok r → m ≡ Ok a → o ≡ None
no_fault (Ok _) e v f = sym e
no_fault (Err check) e v f = cc (ap is_ok f)

-- What the check found of the value that is handed on.
pub held_on : {A E : Type 0} (P : A → Type 0) (Q : E → Type 0) (a : A) (r : Result A E) (m : Result A BookFault) → IfOk r P → MatchResult r (λ x. m ≡ Ok x) Q → is_ok m ≡ is_ok r → m ≡ Ok a → P a
held_on P Q a (Ok x) m p h v f = let same : x ≡ a = cc (h, f) in subst P same p
held_on P Q a (Err e) m p h v f = cc (ap is_ok f)

pub was_ok : {E : Type 0} (r : Result (Unit {0}) E) {m : Result (Unit {0}) BookFault} → is_ok m ≡ is_ok r → m ≡ Ok tt → r ≡ Ok tt
was_ok (Ok u) v f = refl
was_ok (Err e) v f = cc (ap is_ok f)
