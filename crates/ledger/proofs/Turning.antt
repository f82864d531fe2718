-- A plan remains after a turn, the same without the orders let out, and after a day is doused, the same.
use Rattle.std.proofs.Common.{◌≡◌, ℕ, suc, ◌+◌, ◌<◌, ◌≤◌, Bool, true, false, cond, eqb, List, [], ◌∷◌, map, refl, inl, inr, arith}
use Rattle.std.proofs.lemmas.Bool.{eqb-false, ne_eqb, cases_lt, cond_both}
use Rattle.plans.specs.Plans.{count, Assignment}
use Rattle.ledger.specs.Orders.{Order, staying}
use Rattle.ledger.specs.Ledger.{Calendar, Ledger, horizon, begun_at, Fits}
use Rattle.ledger.specs.Calls.{turned, with_light}
use Rattle.ledger.specs.Law.{SomePlan, Orderly}
use Rattle.ledger.proofs.Orders.{none_far}
use Rattle.ledger.proofs.Days.{ByDay, by_day, from_days}

-- the days other than t
abbrev rest : ℕ → List ℕ → List ℕ
rest t [] = []
rest t (u ∷ us) = cond (eqb t u) (rest t us) (u ∷ rest t us)

count_rest : (v t : ℕ) (us : List ℕ) → (v ≡ t → ⊥) → count v (rest t us) ≡ count v us
count_rest v t [] h = refl
count_rest v t (u ∷ us) h = grind (arith, count_rest v t us h)

assigned_rest : (k : ℕ) (os : List Order) (ts : List ℕ) → Assignment (map (begun_at k) os) ts → Assignment (map (begun_at (suc k)) (staying k os ts)) (rest k ts)
assigned_rest k [] [] a = tt
assigned_rest k [] (t ∷ ts) a = absurd a
assigned_rest k (o ∷ os) [] a = absurd a
assigned_rest k (o ∷ os) (t ∷ ts) a = go (eqb k t) refl (assigned_rest k os ts a.2)
  where
    go : (b : Bool) → eqb k t ≡ b → Assignment (map (begun_at (suc k)) (staying k os ts)) (rest k ts)
        → Assignment (map (begun_at (suc k)) (cond b (staying k os ts) (o ∷ staying k os ts))) (cond b (rest k ts) (t ∷ rest k ts))
    go true e r = r
    go false e r = (grind (arith, eqb-false k t e), a.1, r)

-- no day past the horizon is lit
pub dark : (L : Ledger) → Orderly L → (t : ℕ) → L.today + horizon ≤ t → L.lit t ≡ false
dark L O t h = go (L.lit t) refl
  where
    go : (b : Bool) → L.lit t ≡ b → b ≡ false
    go true e = absurd (omega (arith, O.lit_near t e))
    go false e = refl

pub turn_fits : (c : Calendar) (L : Ledger) (ts : List ℕ) → Orderly L → Fits c L ts → SomePlan c (turned ts L)
turn_fits c L ts O P = (rest k ts, from_days c (turned ts L) (rest k ts) (record { assigned = assigned_rest k L.held ts D.assigned; at_most = at_most; at_least = at_least }))
  where
    k : ℕ
    k = L.today

    D : ByDay c L ts
    D = by_day c L ts P

    far : count (k + horizon) ts ≡ 0
    far = none_far k (k + horizon) L.held ts D.assigned O.near

    at_most : (t : ℕ) → suc k ≤ t → t < suc k + horizon → count t (rest k ts) ≤ (c t).1
    at_most t h i =
        rw (count_rest t k ts (λ e. omega arith))
        (elim (cases_lt t (k + horizon)) [
          | inl j ↦ D.at_most t (omega arith) j
          | inr j ↦ let e : t ≡ k + horizon = omega arith in rw e (omega (arith, far))
        ])

    at_least : (t : ℕ) → suc k ≤ t → t < suc k + horizon → cond (cond (eqb t k) false (L.lit t)) (c t).0 0 ≤ count t (rest k ts)
    at_least t h i =
        rw (ne_eqb t k (λ e. omega arith), count_rest t k ts (λ e. omega arith))
        (elim (cases_lt t (k + horizon)) [ inl j ↦ D.at_least t (omega arith) j | inr j ↦ rw (dark L O t j) (omega arith) ])

pub douse_fits : (c : Calendar) (L : Ledger) (d : ℕ) → SomePlan c L → SomePlan c (with_light d false L)
douse_fits c L d p = (
  p.0,
  let D : ByDay c L p.0 = by_day c L p.0 p.1 in
      from_days c (with_light d false L) p.0 (record {
        assigned = D.assigned;
        at_most = D.at_most;
        at_least = λ t h i. cond_both (eqb t d) false (L.lit t) (λ b. cond b (c t).0 0 ≤ count t p.0) (λ _. omega arith) (λ _. D.at_least t h i);
      }),
)
