-- What a ledger with a plan tells, and when it refuses for want of one.
use Rattle.std.proofs.Common.{◌≡◌, ℕ, ◌≤◌, true, false, ◌⊎◌, ◌↔◌, List, [], is_some, Some, None, Option, sym, refl, ap, ◌∙◌, subst, inl, inr, arith}
use Rattle.std.proofs.lemmas.Bool.{both_ways, cond-true}
use Rattle.plans.specs.Sets.{Marks, ShowsShortage}
use Rattle.plans.specs.Replies.{Reply as Weight, Reply.accepted, Reply.overfull, Reply.short, Means}
use Rattle.plans.proofs.Narrowing.{narrowed_means, supported_means}
use Rattle.plans.proofs.Shortage.{shortage_found}
use Rattle.ledger.specs.Orders.{place}
use Rattle.ledger.specs.Ledger.{Calendar, Ledger, pairs, windows, weigh, days_of, may_have, plan_of}
use Rattle.ledger.specs.Calls.{Edit, Edit.admit, Edit.change, Edit.withdraw, Edit.light, Call, Call.edit, Call.douse, Call.window, Call.probe, Call.plan, Call.turn, Call.begin, Call.keep, Call.undo, edits, edit_subject, subject, edited, with_light, checks, first_fault}
use Rattle.ledger.specs.Replies.{Reply.done, Reply.refused, Allowed, reply, told, weighed, settled, past_weighing, past_checks, number_of, refuses}
use Rattle.ledger.specs.Lives.{Life, before, next, after}
use Rattle.ledger.specs.Law.{SomePlan, SomeKeepsMosts, Orderly, Kept, Passes, Answers, Shown, Refusals, Answerable}
use Rattle.ledger.proofs.Days.{pairs_long, proper_ledger}
use Rattle.ledger.proofs.Checks.{late_fault}
use Rattle.ledger.proofs.Weighing.{within, weigh_means, plan_weigh, plan_leads, marks_no_matter}
use Rattle.ledger.proofs.Turning.{douse_fits}
use Rattle.ledger.proofs.Keeping.{past, orderly_edit, orderly_douse, kept_turn}

-- a plan keeps the mosts
plan_keeps_mosts : (c : Calendar) (L : Ledger) → SomePlan c L → SomeKeepsMosts c L
plan_keeps_mosts c L p = (p.0, record { assigned = p.1.assigned; at_most = p.1.at_most })

-- what is told is no refusal
told_accepts : (c : Calendar) (L : Ledger) (k : Call) → (refuses (told c L k) ≡ false) × (number_of (told c L k) ≡ 0)
told_accepts c L (edit e m) = (refl, refl)
told_accepts c L (douse d) = (refl, refl)
told_accepts c L (window n) = (refl, refl)
told_accepts c L (probe n d) = (refl, refl)
told_accepts c L (plan m) = (refl, refl)
told_accepts c L (turn m) = (refl, refl)
told_accepts c L begin = (refl, refl)
told_accepts c L keep = (refl, refl)
told_accepts c L undo = (refl, refl)

module _ (c : Calendar) (L : Ledger) (K : Kept c L) where
  -- a call that takes no marks is weighed on a ledger with a plan
  fits_now : (k : Call) (marks : List ℕ) → settled k (subject L k) L.today marks (told c L k) (weigh c L marks) ≡ told c L k
  fits_now k marks = ap (settled k (subject L k) L.today marks (told c L k)) (plan_weigh c L K.orderly marks K.fits)

  pub quiet : (k : Call) (marks : List ℕ) → edits k ≡ false → past_weighing c L k marks (weighed L k) ≡ told c L k
  quiet (edit e m) marks i = absurd (both_ways true i refl)
  quiet (douse d) marks i =
      ap (settled (douse d) d L.today marks done) (plan_weigh c (with_light d false L) (orderly_douse L K.orderly d) marks (douse_fits c L d K.fits))
  quiet (window n) marks i = fits_now (window n) marks
  quiet (probe n d) marks i = fits_now (probe n d) marks
  quiet (plan m) marks i = fits_now (plan m) marks
  quiet (turn m) marks i = fits_now (turn m) marks
  quiet begin marks i = refl
  quiet keep marks i = refl
  quiet undo marks i = refl

  -- so past its checks it tells
  pub tells : (k : Call) (marks : List ℕ) → edits k ≡ false → Passes L k → reply c L k marks ≡ told c L k
  tells k marks i h = past c L k marks h ∙ quiet k marks i

  pub answers : Answers c L
  answers =
      record {
        window = λ n marks h.
            let w = days_of c L n in
            let d = place n L.held in
            let m = narrowed_means L.today (pairs c L) (windows L) K.fits.0 K.fits.1 d in
            (w.0, w.1, tells (window n) marks refl (rw h), (m w.0).0.0 refl, (m w.1).1.0 refl);
        probe = λ n t marks h.
            (may_have c L n t, tells (probe n t) marks refl h, supported_means L.today (pairs c L) (windows L) (place n L.held) t);
        plan = λ m marks h. (plan_of c L, tells (plan m) marks refl h, plan_leads c L K.fits);
        turn = λ m marks h. (plan_of c L, tells (turn m) marks refl h, plan_leads c L K.fits);
      }

  by_checks : (k : Call) (marks : List ℕ) → edits k ≡ false → refuses (reply c L k marks) ≡ is_some (first_fault (checks L k))
  by_checks k marks i = go (first_fault (checks L k))
    where
      go : (o : Option ℕ) → refuses (past_checks c L k marks o) ≡ is_some o
      go None = ap refuses (quiet k marks i) ∙ (told_accepts c L k).0
      go (Some n) = refl

  neither : (k : Call) (marks : List ℕ) → edits k ≡ false → (number_of (reply c L k marks) ≡ 20) ⊎ (number_of (reply c L k marks) ≡ 21) → ⊥
  neither k marks i = go (first_fault (checks L k)) refl
    where
      go : (o : Option ℕ) → first_fault (checks L k) ≡ o → (number_of (past_checks c L k marks o) ≡ 20) ⊎ (number_of (past_checks c L k marks o) ≡ 21) → ⊥
      go None e h =
          let z : number_of (past_checks c L k marks None) ≡ 0 = ap number_of (quiet k marks i) ∙ (told_accepts c L k).1 in
          elim h [ inl x ↦ omega arith | inr x ↦ omega arith ]
      go (Some n) e h = let z : 30 ≤ n = late_fault L k n e in elim h [ inl x ↦ omega arith | inr x ↦ omega arith ]

-- the three ways that a number can tell of a plan P, and of an assignment R that keeps the mosts
Tells : ℕ → Type 0 → Type 0 → Type 0
Tells n P R = ((n ≡ 0) × P) ⊎ (((n ≡ 21) × (R × (P → ⊥))) ⊎ ((n ≡ 20) × (R → ⊥)))

module _ (n : ℕ) (P R : Type 0) (f : P → R) (t : Tells n P R) where
  tells_either : ((n ≡ 20) ⊎ (n ≡ 21)) ↔ (P → ⊥)
  unfolding Tells
  tells_either =
      elim t [
        | inl i ↦ ((λ h. absurd (elim h [ inl x ↦ omega arith | inr x ↦ omega arith ])), (λ g. absurd (g i.1)))
        | inr (inl i) ↦ ((λ _. i.1.1), (λ _. inr i.0))
        | inr (inr i) ↦ ((λ _ p. i.1 (f p)), (λ _. inl i.0))
      ]

  tells_twenty : (n ≡ 20) ↔ (R → ⊥)
  unfolding Tells
  tells_twenty =
      elim t [
        | inl i ↦ ((λ x. absurd (omega arith)), (λ g. absurd (g (f i.1))))
        | inr (inl i) ↦ ((λ x. absurd (omega arith)), (λ g. absurd (g i.1.0)))
        | inr (inr i) ↦ ((λ _. i.1), (λ _. i.0))
      ]

  tells_twenty_one : (n ≡ 21) ↔ (R × (P → ⊥))
  unfolding Tells
  tells_twenty_one =
      elim t [
        | inl i ↦ ((λ x. absurd (omega arith)), (λ g. absurd (g.1 i.1)))
        | inr (inl i) ↦ ((λ _. i.1), (λ _. i.0))
        | inr (inr i) ↦ ((λ x. absurd (omega arith)), (λ g. absurd (i.1 g.0)))
      ]

-- an edit tells of the ledger that it would make
edit_tells : (c : Calendar) (L : Ledger) → Orderly L → (e : Edit) (m : ℕ) (marks : List ℕ) → Passes L (edit e m)
    → Tells (number_of (reply c L (edit e m) marks)) (SomePlan c (edited e L)) (SomeKeepsMosts c (edited e L))
unfolding Tells
edit_tells c L O e m marks h =
    let M = edited e L in
    let w = weigh c M marks in
    let q = past c L (edit e m) marks h in
    rw q (go w ((weigh_means c M (orderly_edit L O e m h) marks w).0 refl))
  where
    go : (w : Weight) → Means (edited e L).today (pairs c (edited e L)) (windows (edited e L)) marks w
        → Tells (number_of (settled (edit e m) (edit_subject e) L.today marks done w)) (SomePlan c (edited e L)) (SomeKeepsMosts c (edited e L))
    go accepted p = inl (refl, p)
    go (overfull run a b) p = inr (inr (refl, λ r. p.0 r.0 r.1))
    go (short a b) p = inr (inl (refl, (p.0, λ r. p.1 r.0 r.1)))

-- 20 and 21 show their run or set, and the counts of it
edited_today : (L : Ledger) (e : Edit) → (edited e L).today ≡ L.today
edited_today L (admit n f l) = refl
edited_today L (change n f l) = refl
edited_today L (withdraw n) = refl
edited_today L (light d) = refl

pub shown : (c : Calendar) (L : Ledger) → Orderly L → (e : Edit) (m : ℕ) (marks : List ℕ) → Shown c (edited e L) (edit_subject e) marks (reply c L (edit e m) marks)
shown c L O e m marks = go (first_fault (checks L (edit e m))) refl
  where
    M : Ledger
    M = edited e L

    -- a check that fails gives neither
    faulty : (n : ℕ) → 30 ≤ n → Shown c M (edit_subject e) marks (refused n (edit_subject e))
    faulty n h = record { twenty = λ x. absurd (omega arith); twenty_one = λ x. absurd (omega arith) }

    weighing : (w : Weight) → Means M.today (pairs c M) (windows M) marks w → Shown c M (edit_subject e) marks (settled (edit e m) (edit_subject e) M.today marks done w)
    weighing accepted p = record { twenty = λ x. absurd (omega arith); twenty_one = λ x. absurd (omega arith) }
    weighing (overfull run a b) p = record { twenty = λ x. (run, p.1, rw (p.2, p.3)); twenty_one = λ x. absurd (omega arith) }
    weighing (short a b) p = record { twenty = λ x. absurd (omega arith); twenty_one = λ x. rw (p.2, p.3) }

    go : (o : Option ℕ) → first_fault (checks L (edit e m)) ≡ o → Shown c M (edit_subject e) marks (past_checks c L (edit e m) marks o)
    go None h =
        subst (λ t. Shown c M (edit_subject e) marks (settled (edit e m) (edit_subject e) t marks done (weigh c M marks))) (edited_today L e)
        (weighing (weigh c M marks) ((weigh_means c M (orderly_edit L O e m h) marks (weigh c M marks)).0 refl))
    go (Some n) h = faulty n (late_fault L (edit e m) n h)

module _ (c : Calendar) (l : Life) (K : Kept c l.now) (B : SomePlan c (before l)) where
  quiet_tells : (k : Call) (marks : List ℕ) → edits k ≡ false → Passes l.now k → SomePlan c (next c l k).now
      → Tells (number_of (reply c l.now k marks)) (SomePlan c (next c l k).now) (SomeKeepsMosts c (next c l k).now)
  unfolding Tells
  quiet_tells k marks i h p = inl (ap number_of (tells c l.now K k marks i h) ∙ (told_accepts c l.now k).1, p)

  call_tells : (k : Call) (marks : List ℕ) → Passes l.now k
      → Tells (number_of (reply c l.now k marks)) (SomePlan c (next c l k).now) (SomeKeepsMosts c (next c l k).now)
  call_tells (edit e m) marks h = edit_tells c l.now K.orderly e m marks h
  call_tells (douse d) marks h = quiet_tells (douse d) marks refl h (douse_fits c l.now d K.fits)
  call_tells (window n) marks h = quiet_tells (window n) marks refl h K.fits
  call_tells (probe n d) marks h = quiet_tells (probe n d) marks refl h K.fits
  call_tells (plan m) marks h = quiet_tells (plan m) marks refl h K.fits
  call_tells (turn m) marks h = quiet_tells (turn m) marks refl h (kept_turn c l.now K.orderly m h K.fits).fits
  call_tells begin marks h = quiet_tells begin marks refl h K.fits
  call_tells keep marks h = quiet_tells keep marks refl h K.fits
  call_tells undo marks h = quiet_tells undo marks refl h B

  keeps_next : (k : Call) → SomePlan c (next c l k).now → SomeKeepsMosts c (next c l k).now
  keeps_next k p = plan_keeps_mosts c (next c l k).now p

  unaltered : (k : Call) (marks : List ℕ) → refuses (reply c l.now k marks) ≡ true → after c l k ≡ l
  unaltered k marks h = cond-true (refuses (reply c l.now k [])) l (next c l k) (sym (marks_no_matter c l.now k marks []).0 ∙ h)

  pub refusals : Refusals c l
  refusals =
      record {
        either = λ k marks h. tells_either (number_of (reply c l.now k marks)) (SomePlan c (next c l k).now) (SomeKeepsMosts c (next c l k).now) (keeps_next k) (call_tells k marks h);
        twenty = λ k marks h. tells_twenty (number_of (reply c l.now k marks)) (SomePlan c (next c l k).now) (SomeKeepsMosts c (next c l k).now) (keeps_next k) (call_tells k marks h);
        twenty_one = λ k marks h. tells_twenty_one (number_of (reply c l.now k marks)) (SomePlan c (next c l k).now) (SomeKeepsMosts c (next c l k).now) (keeps_next k) (call_tells k marks h);
        shown = shown c l.now K.orderly;
        by_checks = by_checks c l.now K;
        neither = neither c l.now K;
        unaltered = unaltered;
      }

-- where no fewest is above its most, some set shows what 21 says
pub answerable : Answerable
answerable c fair L O (edit e m) = go (first_fault (checks L (edit e m))) refl
  where
    M : Ledger
    M = edited e L

    weighing : (w : Weight) → Orderly M → Means M.today (pairs c M) (windows M) [] w
        → number_of (reply c L (edit e m) []) ≡ number_of (settled (edit e m) (edit_subject e) L.today [] done w)
        → (marks : List ℕ) × Allowed c L (edit e m) marks
    weighing accepted N p q = ([], λ _ x. absurd (omega arith))
    weighing (overfull run a b) N p q = ([], λ _ x. absurd (omega arith))
    weighing (short a b) N p q =
        let s = shortage_found M.today (pairs c M) (windows M) (proper_ledger c M (within M N) fair) p.0 p.1 in
        (s.0, λ _ _. (subst (λ d. Marks d s.0) (pairs_long c M) s.1, subst (λ t. ShowsShortage t (pairs c M) (windows M) s.0) (edited_today L e) s.2))

    go : (o : Option ℕ) → first_fault (checks L (edit e m)) ≡ o → (marks : List ℕ) × Allowed c L (edit e m) marks
    go None h =
        let N = orderly_edit L O e m h in
        weighing (weigh c M []) N ((weigh_means c M N [] (weigh c M [])).0 refl) (ap number_of (past c L (edit e m) [] h))
    go (Some n) h =
        let z : 30 ≤ n = late_fault L (edit e m) n h in
        let q : number_of (reply c L (edit e m) []) ≡ n = ap (λ o. number_of (past_checks c L (edit e m) [] o)) h in
        ([], λ _ x. absurd (omega arith))
answerable c fair L O (douse d) = ([], λ i. absurd (both_ways false refl i))
answerable c fair L O (window n) = ([], λ i. absurd (both_ways false refl i))
answerable c fair L O (probe n d) = ([], λ i. absurd (both_ways false refl i))
answerable c fair L O (plan m) = ([], λ i. absurd (both_ways false refl i))
answerable c fair L O (turn m) = ([], λ i. absurd (both_ways false refl i))
answerable c fair L O begin = ([], λ i. absurd (both_ways false refl i))
answerable c fair L O keep = ([], λ i. absurd (both_ways false refl i))
answerable c fair L O undo = ([], λ i. absurd (both_ways false refl i))
