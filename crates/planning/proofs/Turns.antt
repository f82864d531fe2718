-- The turns of the loop, from what a narrowing of bare windows leaves.
use Rattle.std.proofs.Common.{◌≡◌, ℕ, suc, ◌<◌, ◌≤◌, List, [], ◌∷◌, map, length, get_or, set, Some, None, Ok, Err, sym, refl, ap, ◌∙◌, subst, arith}
use Rattle.std.specs.Result.{result_ok}
use Rattle.std.proofs.lemmas.List.{length-map, map-set, get_or-map}
use Rattle.plans.specs.Plans.{Window, Pair, Plan}
use Rattle.plans.specs.Narrowing.{window, narrowed, first_plan}
use Rattle.plans.proofs.First.{first_leads}
use Rattle.records.specs.declared.fault.NarrowingFault.{NarrowingFault}
use Rattle.records.specs.declared.record.bare.Window.{Window as Bare}
use Rattle.records.specs.Bare.{span_of, put_in}
use Rattle.records.specs.Checks.{Outcome, checked}
use Rattle.narrowing.specs.Verdict.{verdict_of}
use Rattle.narrowing.specs.Narrow.{narrow_of}
use Rattle.records.specs.Bare.{bare}
use Rattle.planning.specs.Closed.{first_of, Closed}
use Rattle.planning.proofs.Accepting.{some_plan, no_plan, accepted, spans_narrowed}
use Rattle.planning.proofs.Narrower.{narrowed_first}
use Rattle.planning.proofs.Steps.{closed_narrowed, found_single, made_passes, made_plan, made_closed, made_first, all_closed}

-- the first i places are closed, and the first plan is still that of the windows before
abbrev pub Kept : ℕ → List Pair → ℕ → List Window → List Window → Type 0
Kept k pairs i before ws = Closed k pairs i ws × (first_plan k pairs ws ≡ first_plan k pairs before)

-- accepted, where there is a value
pub ok_from : (r : Outcome) → Some tt ≡ result_ok r → r ≡ Ok tt
ok_from (Ok _) e = refl
ok_from (Err fault) e = let z : ◌≡◌ {A = ℕ} 0 1 = cc in absurd (omega arith)

-- a narrowing, with marks enough
module _ (k : ℕ) (pairs : List Pair) (bs after : List Bare) (n : ℕ) (marks : List ℕ) (r : Outcome) (ok : checked k pairs (map span_of bs) (length pairs) ≡ Ok tt)
    (enough : length pairs ≤ n) (is : r ≡ verdict_of k pairs (map span_of bs) n marks) where
  refused : (fault : NarrowingFault) → r ≡ Err fault → None ≡ first_plan k pairs (map span_of bs)
  refused fault e = sym ((first_leads k pairs (map span_of bs)).1.1 (no_plan k pairs (map span_of bs) n marks r ok enough is fault e))

  pub no_first : None ≡ result_ok r → None ≡ first_plan k pairs (map span_of bs)
  no_first e = go r refl e
    where
      go : (o : Outcome) → r ≡ o → None ≡ result_ok o → None ≡ first_plan k pairs (map span_of bs)
      go (Ok _) e none = let z : ◌≡◌ {A = ℕ} 0 1 = cc in absurd (omega arith)
      go (Err fault) e none = refused fault e

  pub begun : r ≡ Ok tt → after ≡ narrow_of put_in k pairs (map span_of bs) r bs → Kept k pairs 0 (map span_of bs) (map span_of after)
  begun granted stand =
      let ws : List Window = map span_of bs in
      let plan = some_plan k pairs ws n marks r ok enough is granted in
      let P : List Window → Type 0 = Kept k pairs 0 ws in
      subst P (sym (spans_narrowed k pairs bs after r granted stand)) (closed_narrowed k pairs ws 0 ok plan tt, narrowed_first k pairs ws plan)

module _ (k : ℕ) (pairs : List Pair) (i : ℕ) (bs : List Bare) (h : i < length bs) (C : Closed k pairs i (map span_of bs)) where
  abbrev old : Bare
  old = get_or bs i (bare (0, 0))

  abbrev shut : List Bare
  shut = set bs i (bare (old.first, old.first))

  at_place : window (map span_of bs) i ≡ span_of old
  at_place = get_or-map span_of bs i (bare (0, 0)) (0, 0) h

  -- a place that has one day only
  pub one_day : old.first ≡ old.last → Closed k pairs (suc i) (map span_of bs)
  one_day e = found_single k pairs i (map span_of bs) C (ap (λ w. w.0) at_place ∙ e ∙ sym (ap (λ w. w.1) at_place))

  abbrev shut_spans : List Window
  shut_spans = map span_of shut

  shut_closed : shut_spans ≡ set (map span_of bs) i (old.first, old.first)
  shut_closed = map-set span_of bs i (bare (old.first, old.first))

  first_there : (window (map span_of bs) i).0 ≡ old.first
  first_there = ap (λ w. w.0) at_place

  -- a place closed to its first day leaves a plan, so there is no refusal
  pub granted : (n : ℕ) (marks : List ℕ) (r : Outcome) → length pairs ≤ n → r ≡ verdict_of k pairs shut_spans n marks → r ≡ Ok tt
  granted n marks r enough is =
      let ws : List Window = map span_of bs in
      let l : i < length ws = simp length-map h in
      let ok : checked k pairs shut_spans (length pairs) ≡ Ok tt =
      ap (λ vs. checked k pairs vs (length pairs)) shut_closed ∙ made_passes k pairs i ws C l old.first first_there in
      let Q : List Window → Type 0 = λ vs. (ts : List ℕ) × Plan k pairs vs ts in
      accepted k pairs shut_spans n marks r ok enough is (subst Q (sym shut_closed) (made_plan k pairs i ws C l old.first first_there))

  pub shut_day : (after : List Bare) (n : ℕ) (marks : List ℕ) (r : Outcome) → length pairs ≤ n → r ≡ verdict_of k pairs shut_spans n marks
      → after ≡ narrow_of put_in k pairs shut_spans r shut → Kept k pairs (suc i) (map span_of bs) (map span_of after)
  shut_day after n marks r enough is stand =
      let ws : List Window = map span_of bs in
      let t : ℕ = old.first in
      let l : i < length ws = simp length-map h in
      let e : map span_of after ≡ narrowed k pairs (set ws i (t, t)) =
      spans_narrowed k pairs shut after r (granted n marks r enough is) stand ∙ ap (narrowed k pairs) shut_closed in
      let P : List Window → Type 0 = Kept k pairs (suc i) ws in
      subst P (sym e) (made_closed k pairs i ws C l t first_there, made_first k pairs i ws C l t first_there)

first_days : (bs : List Bare) → map (λ w. w.0) (map span_of bs) ≡ map first_of bs
first_days [] = refl
first_days (b ∷ bs) = ap (λ l. b.first ∷ l) (first_days bs)

-- after the last turn
pub ended : (k : ℕ) (pairs : List Pair) (n : ℕ) (bs : List Bare) → Closed k pairs n (map span_of bs) → n ≡ length bs
    → Some (map first_of bs) ≡ first_plan k pairs (map span_of bs)
ended k pairs n bs C e =
    ap (λ ts. Some ts) (sym (first_days bs)) ∙ sym (all_closed k pairs n (map span_of bs) C (e ∙ sym (length-map bs span_of)))
