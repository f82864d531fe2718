-- What every ledger keeps: an accepted call leaves it in order, and with a plan.
use Rattle.std.proofs.Common.{◌≡◌, ℕ, suc, ◌+◌, ◌<◌, ◌≤◌, Bool, true, false, cond, eqb, List, Some, None, Option, refl, subst, arith}
use Rattle.std.specs.List.{AllByRecursion}
use Rattle.std.proofs.lemmas.Bool.{eqb-true, eqb-false, both_ways}
use Rattle.std.proofs.ByRecursion.{All-weaker}
use Rattle.plans.specs.Sets.{run_marks}
use Rattle.plans.specs.Replies.{Reply as Weight, Reply.accepted, Reply.overfull, Reply.short}
use Rattle.ledger.specs.Orders.{Order, holds, rewindow, staying}
use Rattle.ledger.specs.Ledger.{Calendar, Ledger, horizon, Fits, weigh, plan_of}
use Rattle.ledger.specs.Calls.{Edit, Edit.admit, Edit.change, Edit.withdraw, Edit.light, Call, Call.edit, Call.douse, Call.window, Call.probe, Call.plan, Call.turn, Call.begin, Call.keep, Call.undo, edits, edit_subject, edited, turned, with_light, made, checks, first_fault, last_today}
use Rattle.ledger.specs.Replies.{Reply, Reply.refused, Reply.lacks, reply, told, weighed, settled, past_weighing, past_checks, refuses}
use Rattle.ledger.specs.Law.{SomePlan, Orderly, Kept, Passes, OrderlyByCalls, KeptByCalls}
use Rattle.ledger.proofs.Orders.{length_enter, all_enter, ascends_enter, numbers_rewindow, length_rewindow, all_rewindow, length_without, all_without, ascends_without, all_staying, ascends_staying, length_staying, not_past}
use Rattle.ledger.proofs.Checks.{GoodAdmission, GoodWindow, GoodDay, admit_checks, change_checks, withdraw_checks, light_checks, turn_checks}
use Rattle.ledger.proofs.Weighing.{weigh_plan, plan_fits}
use Rattle.ledger.proofs.Turning.{turn_fits, douse_fits}

-- the light of a day switched on or off
module _ (L : Ledger) (O : Orderly L) where
  lit_on : (d : ℕ) → GoodDay L d → (t : ℕ) (b : Bool) → eqb t d ≡ b → cond b true (L.lit t) ≡ true → (L.today ≤ t) × (t < L.today + horizon)
  lit_on d g t true e i = let j : t ≡ d = eqb-true t d e in rw j (g.from, g.near)
  lit_on d g t false e i = O.lit_near t i

  lit_off : (d t : ℕ) (b : Bool) → eqb t d ≡ b → cond b false (L.lit t) ≡ true → (L.lit t ≡ true) × (t ≡ d → ⊥)
  lit_off d t true e i = absurd (both_ways false refl i)
  lit_off d t false e i = (i, eqb-false t d e)

  -- an order's window is the one given, or it is as it was
  abbrev order : ℕ → ℕ → ℕ → Order
  order n f l = record { number = n; asked = (f, l) }

  all_changed : (P : Order → Type 0) (n f l : ℕ) → ((o : Order) → P o → P (order o.number f l)) → AllByRecursion P L.held → AllByRecursion P (rewindow n (f, l) L.held)
  all_changed P n f l g h = all_rewindow P P n (f, l) L.held O.ascending (λ o _. g o) (λ o _ p. p) h

  orderly_admit : (n f l : ℕ) → GoodAdmission L n f l → Orderly (edited (admit n f l) L)
  orderly_admit n f l g =
      let o : Order = order n f l in
      record {
        ascending = ascends_enter o L.held g.new O.ascending;
        numbered = all_enter (λ q. 0 < q.number) o L.held g.number O.numbered;
        few = omega (arith, length_enter o L.held, g.room);
        ordered = all_enter (λ q. q.asked.0 ≤ q.asked.1) o L.held g.window.ordered O.ordered;
        near = all_enter (λ q. q.asked.1 < L.today + horizon) o L.held g.window.near O.near;
        ahead = all_enter (λ q. L.today ≤ q.asked.1) o L.held (omega (arith, g.window.ordered, g.window.begins)) O.ahead;
        lit_near = O.lit_near;
        early = O.early;
      }

  orderly_change : (n f l : ℕ) → GoodWindow L f l → Orderly (edited (change n f l) L)
  orderly_change n f l g =
      record {
        ascending = rw (numbers_rewindow n (f, l) L.held) O.ascending;
        numbered = all_changed (λ q. 0 < q.number) n f l (λ o i. i) O.numbered;
        few = omega (arith, O.few, length_rewindow n (f, l) L.held);
        ordered = all_changed (λ q. q.asked.0 ≤ q.asked.1) n f l (λ o _. g.ordered) O.ordered;
        near = all_changed (λ q. q.asked.1 < L.today + horizon) n f l (λ o _. g.near) O.near;
        ahead = all_changed (λ q. L.today ≤ q.asked.1) n f l (λ o _. omega (arith, g.ordered, g.begins)) O.ahead;
        lit_near = O.lit_near;
        early = O.early;
      }

  orderly_withdraw : (n : ℕ) → holds n L.held ≡ true → Orderly (edited (withdraw n) L)
  orderly_withdraw n i =
      record {
        ascending = ascends_without n L.held O.ascending;
        numbered = all_without n (λ q. 0 < q.number) L.held O.numbered;
        few = omega (arith, O.few, length_without n L.held i);
        ordered = all_without n (λ q. q.asked.0 ≤ q.asked.1) L.held O.ordered;
        near = all_without n (λ q. q.asked.1 < L.today + horizon) L.held O.near;
        ahead = all_without n (λ q. L.today ≤ q.asked.1) L.held O.ahead;
        lit_near = O.lit_near;
        early = O.early;
      }

  orderly_light : (d : ℕ) (b : Bool) → ((t : ℕ) → cond (eqb t d) b (L.lit t) ≡ true → (L.today ≤ t) × (t < L.today + horizon)) → Orderly (with_light d b L)
  orderly_light d b h =
      record {
        ascending = O.ascending;
        numbered = O.numbered;
        few = O.few;
        ordered = O.ordered;
        near = O.near;
        ahead = O.ahead;
        lit_near = h;
        early = O.early;
      }

  -- with a plan, whoever stays has a day after today
  orderly_turn : (c : Calendar) (ts : List ℕ) → (L.today ≡ last_today → ⊥) → Fits c L ts → Orderly (turned ts L)
  orderly_turn c ts h P =
      record {
        ascending = ascends_staying k L.held ts O.ascending;
        numbered = all_staying k ts (λ q. 0 < q.number) L.held O.numbered;
        few = omega (arith, O.few, length_staying k L.held ts);
        ordered = all_staying k ts (λ q. q.asked.0 ≤ q.asked.1) L.held O.ordered;
        near = all_staying k ts (λ q. q.asked.1 < suc k + horizon) L.held
            (All-weaker (λ q. q.asked.1 < k + horizon) (λ q. q.asked.1 < suc k + horizon) (λ q i. omega arith) L.held O.near);
        ahead = let p = turn_fits c L ts O P in not_past (suc k) (staying k L.held ts) p.0 p.1.assigned;
        lit_near = λ t i.
            let p = lit_off k t (eqb t k) refl i in
            let q = O.lit_near t p.0 in
            let n : t ≡ k → ⊥ = p.1 in
            (omega arith, omega arith);
        early = omega (arith, O.early, h);
      }
    where
      k : ℕ
      k = L.today

  pub orderly_edit : (e : Edit) (m : ℕ) → Passes L (edit e m) → Orderly (edited e L)
  orderly_edit (admit n f l) m h = orderly_admit n f l (admit_checks L n f l m h)
  orderly_edit (change n f l) m h = orderly_change n f l (change_checks L n f l m h)
  orderly_edit (withdraw n) m h = orderly_withdraw n (withdraw_checks L n m h)
  orderly_edit (light d) m h = orderly_light d true (λ t. lit_on d (light_checks L d m h) t (eqb t d) refl)

  pub orderly_douse : (d : ℕ) → Orderly (with_light d false L)
  orderly_douse d = orderly_light d false (λ t i. O.lit_near t (lit_off d t (eqb t d) refl i).0)

-- a call past its checks gets its reply by the plans of what is weighed
pub past : (c : Calendar) (L : Ledger) (k : Call) (marks : List ℕ) → Passes L k → reply c L k marks ≡ past_weighing c L k marks (weighed L k)
past c L k marks h = rw h

-- an accepted call has passed its checks, and what was weighed has a plan
pub passed : (c : Calendar) (L : Ledger) (k : Call) (marks : List ℕ) → refuses (reply c L k marks) ≡ false → Passes L k
passed c L k marks h = go (first_fault (checks L k)) h
  where
    go : (o : Option ℕ) → refuses (past_checks c L k marks o) ≡ false → o ≡ None
    go None e = refl
    go (Some n) e = absurd (both_ways true e refl)

pub refused_so : (b : Bool) (n about : ℕ) (s : List ℕ) (w m : ℕ) → refuses (cond b (lacks n about s w m) (refused n about)) ≡ true
refused_so true n about s w m = refl
refused_so false n about s w m = refl

settled_accepted : (k : Call) (about today : ℕ) (marks : List ℕ) (r : Reply) (w : Weight) → refuses (settled k about today marks r w) ≡ false → w ≡ accepted
settled_accepted k about today marks r accepted h = refl
settled_accepted k about today marks r (overfull run a b) h = absurd (both_ways _ h (refused_so (edits k) 20 about (run_marks today horizon run) a b))
settled_accepted k about today marks r (short a b) h = absurd (both_ways _ h (refused_so (edits k) 21 about marks a b))

module _ (c : Calendar) (L : Ledger) (O : Orderly L) where
  -- an accepted edit has a plan of what it makes, and an accepted turn one of what it finds
  pub accepted_edit : (e : Edit) (m : ℕ) (marks : List ℕ) → refuses (reply c L (edit e m) marks) ≡ false → SomePlan c (edited e L)
  accepted_edit e m marks h =
      let q : Passes L (edit e m) = passed c L (edit e m) marks h in
      let r = subst (λ x. refuses x ≡ false) (past c L (edit e m) marks q) h in
      weigh_plan c (edited e L) (orderly_edit L O e m q) marks
      (settled_accepted (edit e m) (edit_subject e) L.today marks (told c L (edit e m)) (weigh c (edited e L) marks) r)

  pub accepted_turn : (m : ℕ) (marks : List ℕ) → refuses (reply c L (turn m) marks) ≡ false → SomePlan c L
  accepted_turn m marks h =
      let q : Passes L (turn m) = passed c L (turn m) marks h in
      let r = subst (λ x. refuses x ≡ false) (past c L (turn m) marks q) h in
      weigh_plan c L O marks (settled_accepted (turn m) L.today L.today marks (told c L (turn m)) (weigh c L marks) r)

  turn_orderly : (m : ℕ) → Passes L (turn m) → SomePlan c L → Orderly (turned (plan_of c L) L)
  turn_orderly m h p = orderly_turn L O c (plan_of c L) (turn_checks L m h) (plan_fits c L p)

  pub kept_turn : (m : ℕ) → Passes L (turn m) → SomePlan c L → Kept c (turned (plan_of c L) L)
  kept_turn m h p = record { fits = turn_fits c L (plan_of c L) O (plan_fits c L p); orderly = turn_orderly m h p }

  orderly_call : (k : Call) (marks : List ℕ) → refuses (reply c L k marks) ≡ false → Orderly (made c L k)
  orderly_call (edit e m) marks h = orderly_edit L O e m (passed c L (edit e m) marks h)
  orderly_call (douse d) marks h = orderly_douse L O d
  orderly_call (window n) marks h = O
  orderly_call (probe n d) marks h = O
  orderly_call (plan m) marks h = O
  orderly_call (turn m) marks h = turn_orderly m (passed c L (turn m) marks h) (accepted_turn m marks h)
  orderly_call begin marks h = O
  orderly_call keep marks h = O
  orderly_call undo marks h = O

  fits_call : (k : Call) (marks : List ℕ) → SomePlan c L → refuses (reply c L k marks) ≡ false → SomePlan c (made c L k)
  fits_call (edit e m) marks p h = accepted_edit e m marks h
  fits_call (douse d) marks p h = douse_fits c L d p
  fits_call (window n) marks p h = p
  fits_call (probe n d) marks p h = p
  fits_call (plan m) marks p h = p
  fits_call (turn m) marks p h = turn_fits c L (plan_of c L) O (plan_fits c L p)
  fits_call begin marks p h = p
  fits_call keep marks p h = p
  fits_call undo marks p h = p

pub orderly_by_calls : OrderlyByCalls
orderly_by_calls c L k marks O h = orderly_call c L O k marks h

pub kept_by_calls : KeptByCalls
kept_by_calls c L k marks K h = record { fits = fits_call c L K.orderly k marks K.fits h; orderly = orderly_call c L K.orderly k marks h }
