-- A plan of a ledger day by day: each day of the horizon has the pair that the calendar and its light give it.
use Rattle.std.proofs.Common.{◌≡◌, ℕ, zero, suc, ◌+◌, ◌-◌, ◌<◌, ◌≤◌, List, map, length, get_or, sym, refl, ap, subst, arith}
use Rattle.std.proofs.lemmas.Bool.{cond_both}
use Rattle.plans.specs.Plans.{Window, Pair, from, count, fewest, most, Assignment, Plan}
use Rattle.plans.specs.Needs.{Within, Proper}
use Rattle.ledger.specs.Ledger.{Calendar, Ledger, horizon, pair_on, pairs, windows, Fits}

pub map_from_long : {A : Type 0} (f : ℕ → A) (k n : ℕ) → length (map f (from k n)) ≡ n
map_from_long f k zero = refl
map_from_long f k (suc n) = ap suc (map_from_long f (suc k) n)

pub map_from_at : {A : Type 0} (f : ℕ → A) (k n v : ℕ) (d : A) → v < n → get_or (map f (from k n)) v d ≡ f (k + v)
map_from_at f k zero v d h = absurd (omega arith)
map_from_at f k (suc n) zero d h = let e : k ≡ k + 0 = omega arith in ap f e
map_from_at f k (suc n) (suc v) d h =
    let e : k + suc v ≡ suc k + v = omega arith in
    rw e (map_from_at f (suc k) n v d (omega arith))

-- f has the pair of each of n days from day k on
pub record Daily (k n : ℕ) (f : ℕ → Pair) (ws : List Window) (ts : List ℕ) : Type 0 where
  pub assigned : Assignment ws ts
  pub at_most : (t : ℕ) → k ≤ t → t < k + n → count t ts ≤ (f t).1
  pub at_least : (t : ℕ) → k ≤ t → t < k + n → (f t).0 ≤ count t ts

module _ (k n : ℕ) (f : ℕ → Pair) where
  fewest_at : (v : ℕ) → v < n → fewest (map f (from k n)) v ≡ (f (k + v)).0
  fewest_at v h = ap (λ p. p.0) (map_from_at f k n v (0, 0) h)

  most_at : (v : ℕ) → v < n → most (map f (from k n)) v ≡ (f (k + v)).1
  most_at v h = ap (λ p. p.1) (map_from_at f k n v (0, 0) h)

  inside : (v : ℕ) → v < length (map f (from k n)) → v < n
  inside v h = omega (arith, map_from_long f k n)

  pub daily_plan : (ws : List Window) (ts : List ℕ) → Plan k (map f (from k n)) ws ts → Daily k n f ws ts
  daily_plan ws ts P = record { assigned = P.assigned; at_most = at_most; at_least = at_least }
    where
      at_most : (t : ℕ) → k ≤ t → t < k + n → count t ts ≤ (f t).1
      at_most t h i =
          let v : ℕ = t - k in
          let e : k + v ≡ t = omega arith in
          subst (λ u. count u ts ≤ (f u).1) e (omega (arith, most_at v (omega arith), P.at_most v (omega (arith, map_from_long f k n))))

      at_least : (t : ℕ) → k ≤ t → t < k + n → (f t).0 ≤ count t ts
      at_least t h i =
          let v : ℕ = t - k in
          let e : k + v ≡ t = omega arith in
          subst (λ u. (f u).0 ≤ count u ts) e (omega (arith, fewest_at v (omega arith), P.at_least v (omega (arith, map_from_long f k n))))

  pub plan_daily : (ws : List Window) (ts : List ℕ) → Daily k n f ws ts → Plan k (map f (from k n)) ws ts
  plan_daily ws ts D =
      record {
        assigned = D.assigned;
        at_most = λ v h. let i : v < n = inside v h in omega (arith, most_at v i, D.at_most (k + v) (omega arith) (omega arith));
        at_least = λ v h. let i : v < n = inside v h in omega (arith, fewest_at v i, D.at_least (k + v) (omega arith) (omega arith));
      }

  pub proper_daily : (ws : List Window) → Within k n ws → ((t : ℕ) → (f t).0 ≤ (f t).1) → Proper k (map f (from k n)) ws
  proper_daily ws W h =
      record {
        within = subst (λ d. Within k d ws) (sym (map_from_long f k n)) W;
        ordered = λ v i. let j : v < n = inside v i in omega (arith, fewest_at v j, most_at v j, h (k + v));
      }

module _ (c : Calendar) (L : Ledger) where
  pub pairs_long : length (pairs c L) ≡ horizon
  pairs_long = map_from_long (pair_on c L) L.today horizon

  pub pairs_at : (v : ℕ) → v < horizon → get_or (pairs c L) v (0, 0) ≡ pair_on c L (L.today + v)
  pairs_at v h = map_from_at (pair_on c L) L.today horizon v (0, 0) h

  abbrev pub ByDay : List ℕ → Type 0
  ByDay ts = Daily L.today horizon (pair_on c L) (windows L) ts

  pub by_day : (ts : List ℕ) → Fits c L ts → ByDay ts
  by_day ts = daily_plan L.today horizon (pair_on c L) (windows L) ts

  pub from_days : (ts : List ℕ) → ByDay ts → Fits c L ts
  from_days ts = plan_daily L.today horizon (pair_on c L) (windows L) ts

  -- with no fewest above its most
  pub proper_ledger : Within L.today horizon (windows L) → ((t : ℕ) → (c t).0 ≤ (c t).1) → Proper L.today (pairs c L) (windows L)
  proper_ledger W h =
      proper_daily L.today horizon (pair_on c L) (windows L) W (λ t. cond_both (L.lit t) (c t).0 0 (λ x. x ≤ (c t).1) (λ _. h t) (λ _. omega arith))
