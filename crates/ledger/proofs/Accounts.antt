-- The deeds account for the ledger, and go on to with every accepted call.
use Rattle.std.proofs.Common.{◌≡◌, ℕ, suc, ◌+◌, ◌≤◌, true, false, cond, eqb, List, [], ◌∷◌, ◌++◌, length, Some, sym, refl, ap, ◌∙◌, subst, arith, length-append}
use Rattle.std.proofs.lemmas.Bool.{eq-eqb, ne_eqb, both_ways}
use Rattle.std.proofs.ByRecursion.{All-weaker}
use Rattle.plans.specs.Plans.{count}
use Rattle.ledger.specs.Orders.{Order, numbers, holds, enter, rewindow, without, leaving, staying}
use Rattle.ledger.specs.Ledger.{Calendar, Ledger, plan_of}
use Rattle.ledger.specs.Calls.{Edit, Edit.admit, Edit.change, Edit.withdraw, Edit.light, Call.edit, edited, turned, with_light}
use Rattle.ledger.specs.Lives.{fresh}
use Rattle.ledger.specs.Histories.{Deed, Deed.admitted, Deed.changed, Deed.withdrew, Deed.lit, Deed.doused, Deed.let_out, deed, admissions, withdrawals, leavings, day_after, last_window, lit_after}
use Rattle.ledger.specs.Law.{SomePlan, Orderly, Kept, Passes, Inside, GoodTurn, InTurn, Accounted, Sound}
use Rattle.ledger.proofs.Orders.{count_append, all_both, others, ascends_once, count_enter, length_enter, all_enter, numbers_rewindow, length_rewindow, all_rewindow, count_without, length_without, all_without, all_staying, ascends_leaving, count_parted, length_parted, length_leaving, leaving_inside}
use Rattle.ledger.proofs.Days.{ByDay, by_day, from_days}
use Rattle.ledger.proofs.Checks.{GoodAdmission, GoodWindow, admit_checks, change_checks, withdraw_checks}
use Rattle.ledger.proofs.Weighing.{plan_fits}

-- a number that is held at most once has had its ends in turn
in_turn_now : (n : ℕ) (ds : List Deed) (x : ℕ) → count n (admissions ds) ≡ count n (withdrawals ds) + count n (leavings ds) + x → x ≤ 1 → InTurn n ds
in_turn_now n ds x e h = record { admitted_first = omega arith; one_at_a_time = omega arith }

-- an order as the deeds have it, on day k
abbrev Standing : List Deed → ℕ → Order → Type 0
Standing ds k o = (last_window o.number ds ≡ Some o.asked) × (k ≤ o.asked.1)

module _ (c : Calendar) (ds : List Deed) (L : Ledger) (S : Sound c ds L) where
  abbrev A : Accounted c ds L
  A = S.accounted

  once : (M : Ledger) → Kept c M → (n : ℕ) → count n (numbers M.held) ≤ 1
  once M K n = ascends_once n (numbers M.held) K.orderly.ascending

  account_admit : (n f l : ℕ) → GoodAdmission L n f l → Kept c (edited (admit n f l) L) → Accounted c (admitted n (f, l) ∷ ds) (edited (admit n f l) L)
  account_admit n f l g K =
      record {
        today = A.today;
        lit = A.lit;
        good_turns = A.good_turns;
        held = all_enter (Standing more k) o L.held (rw (eq-eqb n n refl), omega (arith, g.window.ordered, g.window.begins))
            (All-weaker (λ q. (q.number ≡ n → ⊥) × Standing ds k q) (Standing more k) (λ q i. (rw (ne_eqb q.number n i.0) i.1.0, i.1.1)) L.held
            (all_both (λ q. q.number ≡ n → ⊥) (Standing ds k) L.held (others n L.held g.new) A.held));
        in_turn = λ q. (in_turn_now q more (count q (numbers (enter o L.held))) (each q) (once (edited (admit n f l) L) K q), A.in_turn q);
        each_ended = each;
        all_ended = omega (arith, A.all_ended, length_enter o L.held);
      }
    where
      k : ℕ
      k = L.today

      o : Order
      o = record { number = n; asked = (f, l) }

      more : List Deed
      more = admitted n (f, l) ∷ ds

      each : (q : ℕ) → count q (n ∷ admissions ds) ≡ count q (withdrawals ds) + count q (leavings ds) + count q (numbers (enter o L.held))
      each q = omega (arith, A.each_ended q, count_enter q o L.held)

  account_change : (n f l : ℕ) → GoodWindow L f l → Accounted c (changed n (f, l) ∷ ds) (edited (change n f l) L)
  account_change n f l g =
      let e : numbers (rewindow n (f, l) L.held) ≡ numbers L.held = numbers_rewindow n (f, l) L.held in
      record {
        today = A.today;
        lit = A.lit;
        good_turns = A.good_turns;
        held = all_rewindow (Standing ds k) (Standing more k) n (f, l) L.held S.kept.orderly.ascending
            (λ o i _. (rw (eq-eqb o.number n i), omega (arith, g.ordered, g.begins))) (λ o i j. (rw (ne_eqb o.number n i) j.0, j.1)) A.held;
        in_turn = λ q. (in_turn_now q more (count q (numbers L.held)) (A.each_ended q) (once L S.kept q), A.in_turn q);
        each_ended = λ q. rw e (A.each_ended q);
        all_ended = omega (arith, A.all_ended, length_rewindow n (f, l) L.held);
      }
    where
      k : ℕ
      k = L.today

      more : List Deed
      more = changed n (f, l) ∷ ds

  account_withdraw : (n : ℕ) → holds n L.held ≡ true → Kept c (edited (withdraw n) L) → Accounted c (withdrew n ∷ ds) (edited (withdraw n) L)
  account_withdraw n i K =
      record {
        today = A.today;
        lit = A.lit;
        good_turns = A.good_turns;
        held = all_without n (Standing ds L.today) L.held A.held;
        in_turn = λ q. (in_turn_now q (withdrew n ∷ ds) (count q (numbers (without n L.held))) (each q) (once (edited (withdraw n) L) K q), A.in_turn q);
        each_ended = each;
        all_ended = omega (arith, A.all_ended, length_without n L.held i);
      }
    where
      each : (q : ℕ) → count q (admissions ds) ≡ count q (n ∷ withdrawals ds) + count q (leavings ds) + count q (numbers (without n L.held))
      each q = omega (arith, A.each_ended q, count_without q n L.held i)

  account_light : (d : ℕ) → Accounted c (lit d ∷ ds) (with_light d true L)
  account_light d =
      record {
        today = A.today;
        lit = λ t. ap (λ b. cond (eqb t d) true b) (A.lit t);
        good_turns = A.good_turns;
        held = A.held;
        in_turn = λ q. (in_turn_now q (lit d ∷ ds) (count q (numbers L.held)) (A.each_ended q) (once L S.kept q), A.in_turn q);
        each_ended = A.each_ended;
        all_ended = A.all_ended;
      }

  pub account_edit : (e : Edit) (m : ℕ) → Passes L (edit e m) → Kept c (edited e L) → Accounted c (deed e ∷ ds) (edited e L)
  account_edit (admit n f l) m h K = account_admit n f l (admit_checks L n f l m h) K
  account_edit (change n f l) m h K = account_change n f l (change_checks L n f l m h)
  account_edit (withdraw n) m h K = account_withdraw n (withdraw_checks L n m h) K
  account_edit (light d) m h K = account_light d

  pub account_douse : (d : ℕ) → Accounted c (doused d ∷ ds) (with_light d false L)
  account_douse d =
      record {
        today = A.today;
        lit = λ t. ap (λ b. cond (eqb t d) false b) (A.lit t);
        good_turns = A.good_turns;
        held = A.held;
        in_turn = λ q. (in_turn_now q (doused d ∷ ds) (count q (numbers L.held)) (A.each_ended q) (once L S.kept q), A.in_turn q);
        each_ended = A.each_ended;
        all_ended = A.all_ended;
      }

  pub account_turn : Kept c (turned (plan_of c L) L) → Accounted c (let_out (leaving L.today L.held (plan_of c L)) ∷ ds) (turned (plan_of c L) L)
  account_turn K =
      record {
        today = ap suc A.today;
        lit = λ t. rw (A.today, A.lit t);
        good_turns = (good, A.good_turns);
        held = all_both (λ o. last_window o.number ds ≡ Some o.asked) (λ o. suc k ≤ o.asked.1) (staying k os ts)
            (all_staying k ts (λ o. last_window o.number ds ≡ Some o.asked) os
            (All-weaker (Standing ds k) (λ o. last_window o.number ds ≡ Some o.asked) (λ o i. i.0) os A.held))
            K.orderly.ahead;
        in_turn = λ q. (in_turn_now q (let_out ns ∷ ds) (count q (numbers (staying k os ts))) (each q) (once (turned ts L) K q), A.in_turn q);
        each_ended = each;
        all_ended = simp length-append (omega (arith, A.all_ended, length_parted k k os ts D.assigned));
      }
    where
      k : ℕ
      k = L.today

      os : List Order
      os = L.held

      ts : List ℕ
      ts = plan_of c L

      ns : List ℕ
      ns = leaving k os ts

      D : ByDay c L ts
      D = by_day c L ts (plan_fits c L S.kept.fits)

      each : (q : ℕ) → count q (admissions ds) ≡ count q (withdrawals ds) + count q (ns ++ leavings ds) + count q (numbers (staying k os ts))
      each q = rw (count_append q ns (leavings ds)) (omega (arith, A.each_ended q, count_parted k q k os ts D.assigned))

      here : length ns ≡ count k ts
      here = length_leaving k k os ts D.assigned

      at_most : length ns ≤ (c (day_after ds)).1
      at_most = subst (λ x. length ns ≤ (c x).1) A.today (omega (arith, here, D.at_most k (omega arith) (omega arith)))

      at_least : lit_after ds (day_after ds) ≡ true → (c (day_after ds)).0 ≤ length ns
      at_least h =
          let g : L.lit k ≡ true = A.lit k ∙ subst (λ x. lit_after ds x ≡ true) (sym A.today) h in
          let e : (c k).0 ≤ count k ts = subst (λ b. cond b (c k).0 0 ≤ count k ts) g (D.at_least k (omega arith) (omega arith)) in
          subst (λ x. (c x).0 ≤ length ns) A.today (omega (arith, here, e))

      good : GoodTurn c ns ds
      good =
          record {
            at_most = at_most;
            at_least = at_least;
            ascending = ascends_leaving k os ts S.kept.orderly.ascending;
            inside = leaving_inside k (λ n. Inside (day_after ds) (last_window n ds)) k os ts D.assigned
                (All-weaker (Standing ds k) (λ o. o.asked.0 ≤ k → k ≤ o.asked.1 → Inside (day_after ds) (last_window o.number ds))
                (λ o i x y. rw i.0 (omega (arith, A.today), omega (arith, A.today))) os A.held);
          }

pub sound_fresh : (c : Calendar) → Sound c [] fresh
sound_fresh c = record { kept = record { fits = fits; orderly = orderly }; accounted = accounted }
  where
    fits : SomePlan c fresh
    fits = ([], from_days c fresh [] (record { assigned = tt; at_most = λ t h i. omega arith; at_least = λ t h i. omega arith }))

    orderly : Orderly fresh
    orderly =
        record {
          ascending = tt;
          numbered = tt;
          few = omega arith;
          ordered = tt;
          near = tt;
          ahead = tt;
          lit_near = λ t e. absurd (both_ways false refl e);
          early = omega arith;
        }

    accounted : Accounted c [] fresh
    accounted =
        record {
          today = refl;
          lit = λ t. refl;
          good_turns = tt;
          held = tt;
          in_turn = λ n. in_turn_now n [] 0 refl (omega arith);
          each_ended = λ n. refl;
          all_ended = refl;
        }
