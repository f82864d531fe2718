-- What the windows of held orders keep from call to call, and that such orders pass the checks of the engine.
use Rattle.std.proofs.Common.{◌≡◌, ℕ, zero, suc, ◌+◌, ◌-◌, ◌<◌, ◌≤◌, max, Bool, true, false, cond, ◌&&◌, not, eqb, ltb, leb, List, [], ◌∷◌, map, length, None, Ok, refl, ◌∙◌, inl, inr, arith}
use Rattle.std.proofs.lemmas.List.{length-map}
use Rattle.std.proofs.lemmas.Bool.{and_parts, and_from, cases_eq, le-leb, leb-true, lt-ltb, ltb-true, eq-eqb, ne_eqb}
use Rattle.pairs.specs.Pairs.{Sound, sound}
use Rattle.std.specs.List.{position, position_from}
use Rattle.std.proofs.lemmas.Iterator.Adapters.{position_from-zero}
use Rattle.plans.specs.Plans.{Window, Pair, from, Assignment}
use Rattle.records.specs.Checks.{stands, checked}
use Rattle.ledger.specs.Orders.{Order, enter, rewindow, without, staying}
use Rattle.ledger.specs.Ledger.{Calendar, Ledger, begun_at, pair_on, pairs, windows}
use Rattle.orders.proofs.Tables.{long}
use Rattle.state.specs.Near.{near, near_all}
use Rattle.state.specs.Model.{ledger_of}
use Rattle.state.specs.declared.state.State.{State}
use Rattle.ledger.proofs.Days.{pairs_long}

pub record Near (k : ℕ) (w : Window) : Type 0 where
  pub ordered : w.0 ≤ w.1
  pub not_past : k ≤ w.1
  pub ends : w.1 < k + 56

pub near_parts : (k : ℕ) (o : Order) → near k o ≡ true → Near k o.asked
near_parts k o e =
    let a = and_parts (leb o.asked.0 o.asked.1 && leb k o.asked.1) (ltb o.asked.1 (k + 56)) e in
    let b = and_parts (leb o.asked.0 o.asked.1) (leb k o.asked.1) a.0 in
    record {
      ordered = leb-true o.asked.0 o.asked.1 b.0;
      not_past = leb-true k o.asked.1 b.1;
      ends = ltb-true o.asked.1 (k + 56) a.1;
    }

pub near_from : (k : ℕ) (o : Order) → Near k o.asked → near k o ≡ true
near_from k o N =
    rw (le-leb o.asked.0 o.asked.1 N.ordered, le-leb k o.asked.1 N.not_past, lt-ltb o.asked.1 (k + 56) N.ends)

-- Orders that come, change and go.
pub near_enter : (k : ℕ) (o : Order) (os : List Order) → near k o ≡ true → near_all k os ≡ true → near_all k (enter o os) ≡ true
near_enter k o [] e h = and_from (near k o) true e refl
near_enter k o (p ∷ ps) e h = go (ltb o.number p.number) (near_enter k o ps e)
  where
    go : (b : Bool) → (near_all k ps ≡ true → near_all k (enter o ps) ≡ true) → near_all k (cond b (o ∷ (p ∷ ps)) (p ∷ enter o ps)) ≡ true
    go true more = and_from (near k o) (near_all k (p ∷ ps)) e h
    go false more = let a = and_parts (near k p) (near_all k ps) h in and_from (near k p) (near_all k (enter o ps)) a.0 (more a.1)

pub near_rewindow : (k n : ℕ) (w : Window) (os : List Order) → Near k w → near_all k os ≡ true → near_all k (rewindow n w os) ≡ true
near_rewindow k n w [] N h = refl
near_rewindow k n w (p ∷ ps) N h =
    let a = and_parts (near k p) (near_all k ps) h in
    go (eqb n p.number) a.0 a.1 (near_rewindow k n w ps N a.1)
  where
    go : (b : Bool) → near k p ≡ true → near_all k ps ≡ true → near_all k (rewindow n w ps) ≡ true
        → near_all k (cond b (record { number = p.number; asked = w } ∷ ps) (p ∷ rewindow n w ps)) ≡ true
    go true e f g = and_from (near k (record { number = p.number; asked = w })) (near_all k ps) (near_from k (record { number = p.number; asked = w }) N) f
    go false e f g = and_from (near k p) (near_all k (rewindow n w ps)) e g

pub near_without : (k n : ℕ) (os : List Order) → near_all k os ≡ true → near_all k (without n os) ≡ true
near_without k n [] h = refl
near_without k n (p ∷ ps) h =
    let a = and_parts (near k p) (near_all k ps) h in
    go (eqb n p.number) a.0 a.1 (near_without k n ps a.1)
  where
    go : (b : Bool) → near k p ≡ true → near_all k ps ≡ true → near_all k (without n ps) ≡ true → near_all k (cond b ps (p ∷ without n ps)) ≡ true
    go true e f g = f
    go false e f g = and_from (near k p) (near_all k (without n ps)) e g

-- Who has another day than today in some plan is not past tomorrow.
pub near_staying : (k : ℕ) (os : List Order) (ts : List ℕ) → Assignment (map (begun_at k) os) ts → near_all k os ≡ true
    → near_all (suc k) (staying k os ts) ≡ true
near_staying k [] [] A h = refl
near_staying k [] (t ∷ ts) A h = absurd A
near_staying k (o ∷ os) [] A h = absurd A
near_staying k (o ∷ os) (t ∷ ts) A h =
    elim (cases_eq k t) [
      | inl e ↦ rw (eq-eqb k t e) (near_staying k os ts A.2 a.1)
      | inr e ↦ rw (ne_eqb k t e) (and_from (near (suc k) o) (near_all (suc k) (staying k os ts)) (near_from (suc k) o (later e)) (near_staying k os ts A.2 a.1))
    ]
  where
    a : (near k o ≡ true) × (near_all k os ≡ true)
    a = and_parts (near k o) (near_all k os) h

    later : (k ≡ t → ⊥) → Near (suc k) o.asked
    later e =
        let N = near_parts k o a.0 in
        record { ordered = N.ordered; not_past = omega (arith, A.0, A.1); ends = omega (arith, N.ends) }

-- The checks of the engine.
windows_stand : (k i : ℕ) (os : List Order) → near_all k os ≡ true → position_from (λ w. not (stands k 56 w)) i (map (begun_at k) os) ≡ None
windows_stand k i [] h = refl
windows_stand k i (o ∷ os) h =
    let a = and_parts (near k o) (near_all k os) h in
    let N = near_parts k o a.0 in
    let first : ℕ = max k o.asked.0 in
    let x : first ≤ o.asked.1 = omega (arith, N.ordered, N.not_past) in
    let y : k ≤ first = omega arith in
    rw (le-leb first o.asked.1 x, le-leb k first y, lt-ltb o.asked.1 (k + 56) N.ends) (windows_stand k (i + 1) os a.1)

lit_sound : (b : Bool) (p : Pair) → Sound p → Sound (cond b p.0 0, p.1)
lit_sound true p s = s
lit_sound false p s = (omega arith, s.1)

pairs_sound : (f : ℕ → Pair) (i t n : ℕ) → ((u : ℕ) → t ≤ u → u < t + n → Sound (f u)) → position_from (λ p. not (sound p)) i (map f (from t n)) ≡ None
pairs_sound f i t zero h = refl
pairs_sound f i t (suc n) h =
    let s = h t (omega arith) (omega arith) in
    rw (le-leb (f t).0 (f t).1 s.0, le-leb (f t).1 512 s.1) (pairs_sound f (i + 1) (suc t) n (λ u a b. h u (omega arith) (omega arith)))

passes : (c : Calendar) (L : Ledger) (n : ℕ) → ((t : ℕ) → t < 65536 → Sound (c t)) → L.today ≤ 65480 → near_all L.today L.held ≡ true
    → length L.held ≤ 512 → 56 ≤ n → checked L.today (pairs c L) (windows L) n ≡ Ok tt
passes c L n s early h few long =
    let k = L.today in
    let ps : position (λ p. not (sound p)) (pairs c L) ≡ None =
    position_from-zero (λ p. not (sound p)) (pairs c L) ∙ pairs_sound (pair_on c L) 0 k 56 (λ u a b. lit_sound (L.lit u) (c u) (s u (omega arith))) in
    let ws : position (λ w. not (stands k 56 w)) (windows L) ≡ None =
    position_from-zero (λ w. not (stands k 56 w)) (windows L) ∙ windows_stand k 0 L.held h in
    let l : length (windows L) ≤ 512 = omega (arith, length-map L.held (begun_at k)) in
    let d : k + 56 - 1 ≤ 65535 = omega arith in
    rw (pairs_long c L, le-leb 56 n long, le-leb (k + 56 - 1) 65535 d, ps, le-leb (length (windows L)) 512 l, ws)

-- The same of a state.
pub few : (s : State) → length (ledger_of s).held ≤ 512
few s = omega (arith, long s.table, s.table.few)

pub weighable : (c : Calendar) (s : State) (n : ℕ) → ((t : ℕ) → t < 65536 → Sound (c t)) → 56 ≤ n
    → checked s.today (pairs c (ledger_of s)) (windows (ledger_of s)) n ≡ Ok tt
weighable c s n sound h = passes c (ledger_of s) n sound s.early s.near (few s) h
