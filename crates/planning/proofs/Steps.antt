-- The places are closed one after the other, and the first plan stays.
use Rattle.std.proofs.Common.{◌≡◌, ℕ, zero, suc, ◌<◌, List, [], ◌∷◌, map, length, set, Some, Ok, sym, refl, ◌∙◌, subst, arith}
use Rattle.std.proofs.lemmas.List.{length-set}
use Rattle.plans.specs.Plans.{Window, Pair, Plan}
use Rattle.plans.specs.Narrowing.{window, narrowed, first_plan, Smallest, Singles}
use Rattle.plans.proofs.Close.{close_within, within_at}
use Rattle.plans.proofs.Narrowing.{possible_closed}
use Rattle.plans.proofs.First.{first_step, first_single}
use Rattle.records.specs.Checks.{checked}
use Rattle.records.proofs.Checked.{passed}
use Rattle.narrowing.proofs.Meaning.{narrowed_long, narrowed_ends, plans_stay, narrowed_twice}
use Rattle.planning.specs.Closed.{Closed}
use Rattle.planning.proofs.Passing.{pass_too}
use Rattle.planning.proofs.Narrower.{narrowed_within, narrowed_singles, narrowed_first}

-- single days stay single days where all are narrowed
pub closed_narrowed : (k : ℕ) (pairs : List Pair) (ws : List Window) (i : ℕ) → checked k pairs ws (length pairs) ≡ Ok tt → ((ts : List ℕ) × Plan k pairs ws ts)
    → Singles i ws → Closed k pairs i (narrowed k pairs ws)
closed_narrowed k pairs ws i ok plan S =
    record {
      passes = pass_too k pairs ws (narrowed k pairs ws) (length pairs) ok (narrowed_long k pairs ws)
          (narrowed_within k pairs ws plan (passed k pairs ws (length pairs) ok).proper.within);
      plan = (plan.0, (plans_stay k pairs ws plan plan.0).1 plan.1);
      narrow = narrowed_twice k pairs ws plan;
      singles = narrowed_singles k pairs ws plan i S;
    }

-- one single day more, found or made
singles_more : (i : ℕ) (ws : List Window) → Singles i ws → (window ws i).0 ≡ (window ws i).1 → Singles (suc i) ws
singles_more zero [] S e = tt
singles_more zero (w ∷ ws) S e = (e, tt)
singles_more (suc i) [] S e = tt
singles_more (suc i) (w ∷ ws) S e = (S.0, singles_more i ws S.1 e)

singles_set : (i : ℕ) (ws : List Window) (t : ℕ) → Singles i ws → Singles (suc i) (set ws i (t, t))
singles_set zero [] t S = tt
singles_set zero (w ∷ ws) t S = (refl, tt)
singles_set (suc i) [] t S = tt
singles_set (suc i) (w ∷ ws) t S = (S.0, singles_set i ws t S.1)

module _ (k : ℕ) (pairs : List Pair) (i : ℕ) (ws : List Window) (C : Closed k pairs i ws) where
  pub found_single : (window ws i).0 ≡ (window ws i).1 → Closed k pairs (suc i) ws
  found_single e = record { passes = C.passes; plan = C.plan; narrow = C.narrow; singles = singles_more i ws C.singles e }

  module _ (h : i < length ws) (t : ℕ) (is : (window ws i).0 ≡ t) where
    smallest : Smallest k pairs ws i t
    smallest =
        let P : List Window → Type 0 = λ vs. Smallest k pairs ws i (window vs i).0 in
        let Q : ℕ → Type 0 = Smallest k pairs ws i in
        subst Q is (subst P C.narrow ((narrowed_ends k pairs ws C.plan).first i h))

    -- with the place closed to its first day, the windows still pass and have a plan
    pub made_passes : checked k pairs (set ws i (t, t)) (length pairs) ≡ Ok tt
    made_passes =
        let W = (passed k pairs ws (length pairs) C.passes).proper.within in
        let w = within_at k (length pairs) ws i W h in
        pass_too k pairs ws (set ws i (t, t)) (length pairs) C.passes (length-set ws i (t, t)) (close_within k (length pairs) ws i t W (omega arith) (omega arith))

    pub made_plan : (ts : List ℕ) × Plan k pairs (set ws i (t, t)) ts
    made_plan = ((possible_closed k pairs ws i t h).0 smallest.possible).2

    -- and once they are narrowed, one place more is closed
    pub made_closed : Closed k pairs (suc i) (narrowed k pairs (set ws i (t, t)))
    made_closed = closed_narrowed k pairs (set ws i (t, t)) (suc i) made_passes made_plan (singles_set i ws t C.singles)

    pub made_first : first_plan k pairs (narrowed k pairs (set ws i (t, t))) ≡ first_plan k pairs ws
    made_first = narrowed_first k pairs (set ws i (t, t)) made_plan ∙ sym (first_step k pairs ws i t h C.singles smallest)

-- in the end the first plan is read off
pub all_closed : (k : ℕ) (pairs : List Pair) (n : ℕ) (ws : List Window) → Closed k pairs n ws → n ≡ length ws → first_plan k pairs ws ≡ Some (map (λ w. w.0) ws)
all_closed k pairs n ws C e =
    let S : Singles (length ws) ws = subst (λ m. Singles m ws) e C.singles in
    first_single k pairs ws C.plan.0 S C.plan.1
