-- The first plan of a ledger that has one.
use Rattle.std.proofs.Common.{◌≡◌, ℕ, List, [], length, take, Some, None, Ok, Option, sym, refl, ap, ◌∙◌, subst, arith}
use Rattle.std.proofs.lemmas.List.{length-map, take_all}
use Rattle.plans.specs.Plans.{Pair}
use Rattle.plans.specs.Narrowing.{first_plan}
use Rattle.plans.specs.Replies.{Reply as Weight, Reply.accepted, Reply.overfull, Reply.short}
use Rattle.plans.proofs.Replies.{reply_means}
use Rattle.plans.proofs.First.{first_leads}
use Rattle.records.specs.Checks.{checked}
use Rattle.records.proofs.Checked.{passed}
use Rattle.narrowing.proofs.Meaning.{assigned_long}
use Rattle.planning.specs.Planned.{Planned as Answer, planned_of}
use Rattle.ledger.specs.Ledger.{Calendar, Ledger, begun_at, pairs, windows, weigh, Fits, plan_of, days_in}
use Rattle.ledger.proofs.Days.{pairs_long}
use Rattle.state.specs.Weights.{quiet}

quiet_accepted : (about : ℕ) (W : Weight) → None ≡ quiet about W → W ≡ accepted
quiet_accepted about accepted e = refl
quiet_accepted about (overfull run w m) e = cc
quiet_accepted about (short w m) e = cc

-- A plan has a day for each order.
pub fits_long : (c : Calendar) (L : Ledger) (ts : List ℕ) → Fits c L ts → length ts ≡ length L.held
fits_long c L ts F = assigned_long (windows L) ts F.assigned ∙ length-map L.held (begun_at L.today)

-- The days of the first plan are as many as the orders held.
module _ (c : Calendar) (L : Ledger) (ts : List ℕ) (e : ts ≡ plan_of c L) (F : Fits c L (plan_of c L)) where
  pub days_long : length ts ≡ length L.held
  days_long = ap length e ∙ fits_long c L (plan_of c L) F

  pub days_all : take (length L.held) ts ≡ plan_of c L
  days_all = take_all (length L.held) ts (omega (arith, days_long)) ∙ e

module _ (c : Calendar) (L : Ledger) (about : ℕ) (pass : checked L.today (pairs c L) (windows L) 56 ≡ Ok tt) (e : None ≡ quiet about (weigh c L [])) where
  abbrev first : Option (List ℕ)
  first = first_plan L.today (pairs c L) (windows L)

  over : checked L.today (pairs c L) (windows L) (length (pairs c L)) ≡ Ok tt
  over = ap (checked L.today (pairs c L) (windows L)) (pairs_long c L) ∙ pass

  some_plan : (ts : List ℕ) × Fits c L ts
  some_plan =
      (reply_means L.today (pairs c L) (windows L) [] (passed L.today (pairs c L) (windows L) 56 pass).proper.within accepted).0
      (sym (quiet_accepted about (weigh c L []) e))

  -- so there is a first one,
  leads : (o : Option (List ℕ)) → first ≡ o → (ts : List ℕ) × (o ≡ Some ts) × Fits c L ts
  leads None f = absurd ((first_leads L.today (pairs c L) (windows L)).1.0 f some_plan.0 some_plan.1)
  leads (Some ts) f = (ts, refl, (((first_leads L.today (pairs c L) (windows L)).0 ts).0 f).plan)

  planned : (ts : List ℕ) × (first ≡ Some ts) × Fits c L ts
  planned = leads first refl

  -- and it is what is answered.
  pub days_planned : (ps : List Pair) → ps ≡ pairs c L → (r : Answer) → r ≡ planned_of L.today ps (windows L) → r ≡ Ok (Some (plan_of c L))
  days_planned ps g r f =
      f ∙ ap (λ x. planned_of L.today x (windows L)) g ∙ rw over (ap (λ o. Ok o) planned.1 ∙ ap (λ o. Ok (Some (days_in o))) (sym planned.1))

  pub plan_fits : Fits c L (plan_of c L)
  plan_fits = subst (λ o. Fits c L (days_in o)) (sym planned.1) planned.2
