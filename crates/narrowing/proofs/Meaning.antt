-- What narrowing means, and that it does nothing the second time.
use Rattle.std.proofs.Common.{◌≡◌, ℕ, zero, suc, ◌+◌, ◌<◌, ◌≤◌, List, [], ◌∷◌, map, length, get_or, sym, refl, ap, ◌∙◌, subst, arith}
use Rattle.std.proofs.lemmas.List.{get_or-map, length-map}
use Rattle.plans.specs.Plans.{Window, Pair, from, Assignment, Plan}
use Rattle.plans.specs.Narrowing.{window, entry, narrowed_at, narrowed, Smallest, Largest}
use Rattle.plans.proofs.Close.{assigned_at}
use Rattle.plans.proofs.Narrowing.{narrowed_means}
use Rattle.narrowing.specs.Narrow.{placed, Narrowest}
use Rattle.narrowing.specs.Laws.{NarrowedEnds, PlansStay, NarrowedTwice, RestStays}

from_long : (a n : ℕ) → length (from a n) ≡ n
from_long a zero = refl
from_long a (suc n) = ap suc (from_long (suc a) n)

from_at : (a n i : ℕ) → i < n → get_or (from a n) i 0 ≡ a + i
from_at a zero i h = absurd (omega arith)
from_at a (suc n) zero h = omega arith
from_at a (suc n) (suc i) h = from_at (suc a) n i (omega arith) ∙ omega arith

from_same : (f g : ℕ → Window) (a n : ℕ) → ((i : ℕ) → f i ≡ g i) → map f (from a n) ≡ map g (from a n)
from_same f g a zero e = refl
from_same f g a (suc n) e = rw (e a, from_same f g (suc a) n e)

-- an assignment, place by place
pub assigned_long : (ws : List Window) (ts : List ℕ) → Assignment ws ts → length ts ≡ length ws
assigned_long [] [] A = refl
assigned_long [] (t ∷ ts) A = absurd A
assigned_long (w ∷ ws) [] A = absurd A
assigned_long (w ∷ ws) (t ∷ ts) A = ap suc (assigned_long ws ts A.2)

assigned_by : (ws : List Window) (ts : List ℕ) → length ts ≡ length ws
    → ((i : ℕ) → i < length ws → ((window ws i).0 ≤ entry ts i) × (entry ts i ≤ (window ws i).1)) → Assignment ws ts
assigned_by [] [] n h = tt
assigned_by [] (t ∷ ts) n h = absurd (omega arith)
assigned_by (w ∷ ws) [] n h = absurd (omega arith)
assigned_by (w ∷ ws) (t ∷ ts) n h =
    let z = h 0 (omega arith) in
    (z.0, z.1, assigned_by ws ts (omega arith) (λ i l. h (suc i) (omega arith)))

both_ends : (a b c d : ℕ) → a ≡ b → c ≡ d → ◌≡◌ {A = Window} (a, c) (b, d)
both_ends a b c d e f = rw (e, f)

module _ (k : ℕ) (pairs : List Pair) (ws : List Window) where
  pub narrowed_long : length (narrowed k pairs ws) ≡ length ws
  narrowed_long = length-map (from 0 (length ws)) (narrowed_at k pairs ws) ∙ from_long 0 (length ws)

  narrowed_window : (i : ℕ) → i < length ws → window (narrowed k pairs ws) i ≡ narrowed_at k pairs ws i
  narrowed_window i h =
      let e : 0 + i ≡ i = omega arith in
      get_or-map (narrowed_at k pairs ws) (from 0 (length ws)) i 0 (0, 0) (omega (arith, from_long 0 (length ws)))
      ∙ ap (narrowed_at k pairs ws) (from_at 0 (length ws) i h ∙ e)

  module _ (plan : (ts : List ℕ) × Plan k pairs ws ts) where
    smallest : (i : ℕ) → Smallest k pairs ws i (narrowed_at k pairs ws i).0
    smallest i = (narrowed_means k pairs ws plan.0 plan.1 i (narrowed_at k pairs ws i).0).0.0 refl

    largest : (i : ℕ) → Largest k pairs ws i (narrowed_at k pairs ws i).1
    largest i = (narrowed_means k pairs ws plan.0 plan.1 i (narrowed_at k pairs ws i).1).1.0 refl

    ends : (i : ℕ) → i < length ws → Smallest k pairs ws i (window (narrowed k pairs ws) i).0 × Largest k pairs ws i (window (narrowed k pairs ws) i).1
    ends i h =
        let e = sym (narrowed_window i h) in
        let P : Window → Type 0 = λ w. Smallest k pairs ws i w.0 × Largest k pairs ws i w.1 in
        subst P e (smallest i, largest i)

    to_narrowed : (ts : List ℕ) → Plan k pairs ws ts → Plan k pairs (narrowed k pairs ws) ts
    to_narrowed ts P =
        record {
          assigned = assigned_by (narrowed k pairs ws) ts (assigned_long ws ts P.assigned ∙ sym narrowed_long) (λ i l.
              let s = ends i (omega (arith, narrowed_long)) in (s.0.none_before ts P, s.1.none_after ts P));
          at_most = P.at_most;
          at_least = P.at_least;
        }

    from_narrowed : (ts : List ℕ) → Plan k pairs (narrowed k pairs ws) ts → Plan k pairs ws ts
    from_narrowed ts P =
        record {
          assigned = assigned_by ws ts (assigned_long (narrowed k pairs ws) ts P.assigned ∙ narrowed_long) (λ i l.
              let s = ends i l in
              let a = assigned_at (narrowed k pairs ws) ts i P.assigned (omega (arith, narrowed_long)) in
              let low = s.0.possible in
              let high = s.1.possible in
              let first = assigned_at ws low.0 i low.1.assigned l in
              let last = assigned_at ws high.0 i high.1.assigned l in
              (omega (arith, low.2, first.0, a.0), omega (arith, high.2, last.1, a.1)));
          at_most = P.at_most;
          at_least = P.at_least;
        }

    pub same_at : (i : ℕ) → narrowed_at k pairs (narrowed k pairs ws) i ≡ narrowed_at k pairs ws i
    same_at i =
        let vs = narrowed k pairs ws in
        let means = narrowed_means k pairs vs plan.0 (to_narrowed plan.0 plan.1) i in
        let s = smallest i in
        let l = largest i in
        let low : (narrowed_at k pairs vs i).0 ≡ (narrowed_at k pairs ws i).0 =
        (means (narrowed_at k pairs ws i).0).0.1 (record {
          possible = (s.possible.0, to_narrowed s.possible.0 s.possible.1, s.possible.2);
          none_before = λ ts P. s.none_before ts (from_narrowed ts P);
        }) in
        let high : (narrowed_at k pairs vs i).1 ≡ (narrowed_at k pairs ws i).1 =
        (means (narrowed_at k pairs ws i).1).1.1 (record {
          possible = (l.possible.0, to_narrowed l.possible.0 l.possible.1, l.possible.2);
          none_after = λ ts P. l.none_after ts (from_narrowed ts P);
        }) in
        both_ends (narrowed_at k pairs vs i).0 (narrowed_at k pairs ws i).0 (narrowed_at k pairs vs i).1 (narrowed_at k pairs ws i).1 low high

pub narrowed_ends : NarrowedEnds
narrowed_ends k pairs ws plan = record { first = λ i h. (ends k pairs ws plan i h).0; last = λ i h. (ends k pairs ws plan i h).1 }

pub plans_stay : PlansStay
plans_stay k pairs ws plan ts = (from_narrowed k pairs ws plan ts, to_narrowed k pairs ws plan ts)

pub narrowed_twice : NarrowedTwice
narrowed_twice k pairs ws plan =
    let vs = narrowed k pairs ws in
    ap (λ n. map (narrowed_at k pairs vs) (from 0 n)) (narrowed_long k pairs ws)
    ∙ from_same (narrowed_at k pairs vs) (narrowed_at k pairs ws) 0 (length ws) (same_at k pairs ws plan)

module _ {R : Type 0} (span : R → ℕ × ℕ) (put : R → ℕ × ℕ → R) (tells : (r : R) (w : ℕ × ℕ) → span (put r w) ≡ w)
    (over : (r : R) (v w : ℕ × ℕ) → put (put r v) w ≡ put r w) (same : (r : R) → put r (span r) ≡ r) where
  told : (rs : List R) (ws : List Window) → length ws ≡ length rs → map span (placed put ws rs) ≡ ws
  told [] [] n = refl
  told [] (w ∷ ws) n = absurd (omega arith)
  told (r ∷ rs) [] n = absurd (omega arith)
  told (r ∷ rs) (w ∷ ws) n = rw (tells r w, told rs ws (omega arith))

  back : (rs : List R) (ws : List Window) → length ws ≡ length rs → placed put (map span rs) (placed put ws rs) ≡ rs
  back [] [] n = refl
  back [] (w ∷ ws) n = absurd (omega arith)
  back (r ∷ rs) [] n = absurd (omega arith)
  back (r ∷ rs) (w ∷ ws) n = rw (over r w (span r), same r, back rs ws (omega arith))

  again : (rs : List R) (ws : List Window) → placed put ws (placed put ws rs) ≡ placed put ws rs
  again rs [] = refl
  again [] (w ∷ ws) = refl
  again (r ∷ rs) (w ∷ ws) = rw (over r w w, again rs ws)

  pub rest_stays : (rs : List R) (ws : List Window) → length ws ≡ length rs → RestStays span put rs ws
  rest_stays rs ws n = record { told = told rs ws n; back = back rs ws n; again = again rs ws }

  -- what records in narrowed windows tell
  pub narrowest : (k : ℕ) (pairs : List Pair) (rs after : List R) → ((ts : List ℕ) × Plan k pairs (map span rs) ts)
      → after ≡ placed put (narrowed k pairs (map span rs)) rs → Narrowest k pairs (map span rs) (map span after)
  narrowest k pairs rs after plan e =
      let ws = map span rs in
      let P : List Window → Type 0 = Narrowest k pairs ws in
      subst P (sym (ap (map span) e ∙ told rs (narrowed k pairs ws) (narrowed_long k pairs ws ∙ length-map rs span))) (narrowed_ends k pairs ws plan)
