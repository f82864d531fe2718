-- What it says that a call passes its checks.
use Rattle.std.proofs.Common.{◌≡◌, ℕ, ◌+◌, ◌<◌, ◌≤◌, Bool, true, false, cond, ◌||◌, ltb, leb, List, [], ◌∷◌, length, Some, None, refl, subst, arith}
use Rattle.std.specs.List.{AllByRecursion}
use Rattle.std.proofs.lemmas.Bool.{eqb-false, leb-false, ltb-false, or_parts, not-false}
use Rattle.ledger.specs.Orders.{holds}
use Rattle.ledger.specs.Ledger.{Ledger, horizon}
use Rattle.ledger.specs.Calls.{Edit.admit, Edit.change, Edit.withdraw, Edit.light, Call, Call.edit, Call.douse, Call.window, Call.probe, Call.plan, Call.turn, Call.begin, Call.keep, Call.undo, bad_window, bad_day, edit_checks, checks, first_fault, most_held, last_today}
use Rattle.ledger.specs.Law.{Passes}

-- where no fault is found, no check has one
pub clear : (ks : List (ℕ × Bool)) → first_fault ks ≡ None → AllByRecursion (λ k. k.1 ≡ false) ks
clear [] h = tt
clear (k ∷ ks) h = go k.1 h (clear ks)
  where
    go : (b : Bool) → cond b (Some k.0) (first_fault ks) ≡ None → (first_fault ks ≡ None → AllByRecursion (λ k. k.1 ≡ false) ks)
        → (b ≡ false) × AllByRecursion (λ k. k.1 ≡ false) ks
    go true e f = let z : ◌≡◌ {A = ℕ} 0 1 = cc in absurd (omega arith)
    go false e f = (refl, f e)

pub record GoodWindow (L : Ledger) (first last : ℕ) : Type 0 where
  pub ordered : first ≤ last
  pub begins : L.today ≤ first
  pub near : last < L.today + horizon

good_window : (L : Ledger) (f l : ℕ) → bad_window L f l ≡ false → GoodWindow L f l
good_window L f l h =
    let p = or_parts (ltb l f || ltb f L.today) (leb (L.today + horizon) l) h in
    let q = or_parts (ltb l f) (ltb f L.today) p.0 in
    record { ordered = ltb-false l f q.0; begins = ltb-false f L.today q.1; near = leb-false (L.today + horizon) l p.1 }

pub record GoodDay (L : Ledger) (d : ℕ) : Type 0 where
  pub from : L.today ≤ d
  pub near : d < L.today + horizon

good_day : (L : Ledger) (d : ℕ) → bad_day L d ≡ false → GoodDay L d
good_day L d h =
    let p = or_parts (ltb d L.today) (leb (L.today + horizon) d) h in
    record { from = ltb-false d L.today p.0; near = leb-false (L.today + horizon) d p.1 }

pub record GoodAdmission (L : Ledger) (n f l : ℕ) : Type 0 where
  pub number : 0 < n
  pub new : holds n L.held ≡ false
  pub room : length L.held < most_held
  pub window : GoodWindow L f l

module _ (L : Ledger) where
  pub admit_checks : (n f l m : ℕ) → Passes L (edit (admit n f l) m) → GoodAdmission L n f l
  admit_checks n f l m h =
      let q = clear (edit_checks L (admit n f l) m) h in
      record {
        number = grind (arith, eqb-false n 0 q.0);
        new = q.1.0;
        room = leb-false most_held (length L.held) q.1.1.0;
        window = good_window L f l q.1.1.1.0;
      }

  pub change_checks : (n f l m : ℕ) → Passes L (edit (change n f l) m) → GoodWindow L f l
  change_checks n f l m h = good_window L f l (clear (edit_checks L (change n f l) m) h).1.0

  pub withdraw_checks : (n m : ℕ) → Passes L (edit (withdraw n) m) → holds n L.held ≡ true
  withdraw_checks n m h = not-false (holds n L.held) (clear (edit_checks L (withdraw n) m) h).0

  pub light_checks : (d m : ℕ) → Passes L (edit (light d) m) → GoodDay L d
  light_checks d m h = good_day L d (clear (edit_checks L (light d) m) h).0

  pub turn_checks : (m : ℕ) → Passes L (turn m) → L.today ≡ last_today → ⊥
  turn_checks m h = eqb-false L.today last_today (clear (checks L (turn m)) h).1.0

-- the checks of a book have numbers from 30 on
fault_of : (P : ℕ → Type 0) (ks : List (ℕ × Bool)) → AllByRecursion (λ k. P k.0) ks → (n : ℕ) → first_fault ks ≡ Some n → P n
fault_of P [] a n h = let z : ◌≡◌ {A = ℕ} 0 1 = cc in absurd (omega arith)
fault_of P (k ∷ ks) a n h = go k.1 h (fault_of P ks a.1 n)
  where
    go : (b : Bool) → cond b (Some k.0) (first_fault ks) ≡ Some n → (first_fault ks ≡ Some n → P n) → P n
    go true e f = let i : k.0 ≡ n = cc in subst P i a.0
    go false e f = f e

pub late_fault : (L : Ledger) (k : Call) (n : ℕ) → first_fault (checks L k) ≡ Some n → 30 ≤ n
late_fault L k n h = fault_of (λ m. 30 ≤ m) (checks L k) (late k) n h
  where
    late : (k : Call) → AllByRecursion (λ k. 30 ≤ k.0) (checks L k)
    late (edit (admit n f l) m) = (omega arith, (omega arith, (omega arith, (omega arith, (omega arith, tt)))))
    late (edit (change n f l) m) = (omega arith, (omega arith, (omega arith, tt)))
    late (edit (withdraw n) m) = (omega arith, (omega arith, tt))
    late (edit (light d) m) = (omega arith, (omega arith, (omega arith, tt)))
    late (douse d) = (omega arith, (omega arith, tt))
    late (window n) = (omega arith, tt)
    late (probe n d) = (omega arith, (omega arith, tt))
    late (plan m) = (omega arith, tt)
    late (turn m) = (omega arith, (omega arith, tt))
    late begin = tt
    late keep = tt
    late undo = tt
