-- Given how many windows are to be done before each day, and room for that in each run of days, the windows can be
-- assigned so: Hall's theorem for windows.
use Rattle.std.proofs.Common.{◌≡◌, ℕ, zero, suc, ◌+◌, ◌-◌, ◌<◌, ◌≤◌, eqb, ltb, ◌⊎◌, List, [], ◌∷◌, length, subst, inl, inr, arith}
use Rattle.std.proofs.lemmas.Bool.{cases_lt}
use Rattle.plans.specs.Plans.{Window, Assignment, tick, count}
use Rattle.plans.specs.Needs.{Within, forced}
use Rattle.plans.proofs.Windows.{super, lies_yes}

-- a search over the numbers below n
seek : (P Q : ℕ → Type 0) → ((k : ℕ) → P k ⊎ Q k) → (n : ℕ)
    → ((k : ℕ) × (k < n) × P k) ⊎ ((k : ℕ) → k < n → Q k)
seek P Q dec zero = inr (λ k h. absurd (omega arith))
seek P Q dec (suc n) = go (seek P Q dec n) (dec n)
  where
    go : ((k : ℕ) × (k < n) × P k) ⊎ ((k : ℕ) → k < n → Q k) → P n ⊎ Q n → ((k : ℕ) × (k < suc n) × P k) ⊎ ((k : ℕ) → k < suc n → Q k)
    go (inl f) _ = inl (f.0, omega arith, f.2)
    go (inr g) (inl y) = inl (n, omega arith, y)
    go (inr g) (inr z) = inr (λ k h. elim (cases_lt k n) [ inl l ↦ g k l | inr m ↦ let e : n ≡ k = omega arith in subst Q e z ])

-- X v are to be done before day t₀ + v, which leaves each run of days what it is forced to hold
abbrev pub LeavesRoom : ℕ → ℕ → (ℕ → ℕ) → List Window → Type 0
LeavesRoom t₀ d X ws = (p q : ℕ) → p ≤ q → q ≤ d → X p + forced t₀ ws p q ≤ X q

module _ (t₀ d : ℕ) (X : ℕ → ℕ) (ws : List Window) where
  -- the head window, from day t₀ + a to day t₀ + b
  abbrev headed : ℕ → ℕ → List Window
  headed a b = (t₀ + a, t₀ + b) ∷ ws

  -- a run that ends in the window, has its first day, and is full without it
  Full : ℕ → ℕ → ℕ → Type 0
  Full a p q = (a < q) × (X q ≤ X p + forced t₀ ws p q)

  Slack : ℕ → ℕ → ℕ → Type 0
  Slack a p q = a < q → X p + forced t₀ ws p q < X q

  full_or_slack : (a p q : ℕ) → Full a p q ⊎ Slack a p q
  unfolding Full Slack
  full_or_slack a p q =
      elim (cases_lt a q) [
        | inl h ↦ elim (cases_lt (X p + forced t₀ ws p q) (X q)) [ inl k ↦ inr (λ _. k) | inr k ↦ inl (h, k) ]
        | inr h ↦ inr (λ k. omega arith)
      ]

  SomeFull : ℕ → ℕ → Type 0
  SomeFull a b = (p : ℕ) × (q : ℕ) × (p ≤ a) × (a < q) × (q ≤ b) × (X q ≤ X p + forced t₀ ws p q)

  NoneFull : ℕ → ℕ → Type 0
  NoneFull a b = (p q : ℕ) → p ≤ a → a < q → q ≤ b → X p + forced t₀ ws p q < X q

  some_or_none : (a b : ℕ) → SomeFull a b ⊎ NoneFull a b
  unfolding SomeFull NoneFull Full Slack
  some_or_none a b = go (seek Any Each each (suc a))
    where
      Any : ℕ → Type 0
      Any p = (q : ℕ) × (q < suc b) × Full a p q

      Each : ℕ → Type 0
      Each p = (q : ℕ) → q < suc b → Slack a p q

      each : (p : ℕ) → Any p ⊎ Each p
      each p = seek (Full a p) (Slack a p) (full_or_slack a p) (suc b)

      go : ((p : ℕ) × (p < suc a) × Any p) ⊎ ((p : ℕ) → p < suc a → Each p) → SomeFull a b ⊎ NoneFull a b
      go (inl f) = inl (f.0, f.2.0, omega arith, f.2.2.0, omega arith, f.2.2.1)
      go (inr g) = inr (λ p q h k l. g p (omega arith) q (omega arith) k)

  -- where a run is full, the window can begin a day later
  later_here : (a b : ℕ) → b < d → SomeFull a b → LeavesRoom t₀ d X (headed a b) → (q' : ℕ) → b < q' → q' ≤ d
      → X (suc a) + suc (forced t₀ ws (suc a) q') ≤ X q'
  unfolding SomeFull
  later_here a b k f r q' l m =
      let p = f.0 in
      let q = f.1 in
      omega (
        arith,
        super t₀ p (suc a) q q' ws (omega arith) (omega arith),
        r p q' (omega arith) m,
        lies_yes (t₀ + p) (t₀ + q') (t₀ + a, t₀ + b) (omega arith) (omega arith),
        r (suc a) q f.3 (omega arith),
        f.5,
      )

  later : (a b : ℕ) → a < b → b < d → SomeFull a b → LeavesRoom t₀ d X (headed a b) → LeavesRoom t₀ d X (headed (suc a) b)
  later a b h k f r p q l m =
      elim (cases_lt a p) [
        | inl n ↦ elim (cases_lt p (suc (suc a))) [
          | inl o ↦ elim (cases_lt b q) [
            | inl i ↦ let e : p ≡ suc a = omega arith in rw e (grind (arith, later_here a b k f r q i m))
            | inr i ↦ grind (arith, r p q l m)
          ]
          | inr o ↦ grind (arith, r p q l m)
        ]
        | inr n ↦ grind (arith, r p q l m)
      ]

  -- where none is, it can be its first day alone
  now : (a b : ℕ) → a ≤ b → NoneFull a b → LeavesRoom t₀ d X (headed a b) → LeavesRoom t₀ d X (headed a a)
  unfolding NoneFull
  now a b h f r p q l m = grind (arith, r p q l m, f p q)

  pick : (n a b : ℕ) → a + n ≡ b → b < d → LeavesRoom t₀ d X (headed a b) → (t : ℕ) × (a ≤ t) × (t ≤ b) × LeavesRoom t₀ d X (headed t t)
  pick zero a b e h r = (a, omega arith, omega arith, λ p q l m. grind (arith, r p q l m))
  pick (suc n) a b e h r =
      elim (some_or_none a b) [
        | inl f ↦
            let t = pick n (suc a) b (omega arith) h (later a b (omega arith) h f r) in
            (t.0, omega arith, t.2, t.3)
        | inr g ↦ (a, omega arith, omega arith, now a b (omega arith) g r)
      ]

-- what is done before each day without one window, done on day t
abbrev without : ℕ → (ℕ → ℕ) → ℕ → ℕ
without t X v = X v - tick (ltb t v)

module _ (t₀ d : ℕ) (X : ℕ → ℕ) (ws : List Window) (t : ℕ) (r : LeavesRoom t₀ d X ((t₀ + t, t₀ + t) ∷ ws)) where
  -- by the end of day t, one at least is done
  some_done : (v : ℕ) → t < v → v ≤ d → 0 < X v
  some_done v h k = omega (arith, r 0 v (omega arith) k, lies_yes (t₀ + 0) (t₀ + v) (t₀ + t, t₀ + t) (omega arith) (omega arith))

  without_room : LeavesRoom t₀ d (without t X) ws
  without_room p q l m = grind (arith, r p q l m, some_done p, some_done q)

  with_again : (n v : ℕ) → v < d → without t X v + n ≡ without t X (suc v) → X v + (tick (eqb (t₀ + v) (t₀ + t)) + n) ≡ X (suc v)
  with_again n v h e = grind (arith, some_done v, some_done (suc v))

pub realise : (t₀ d : ℕ) (ws : List Window) (X : ℕ → ℕ) → Within t₀ d ws → X 0 ≡ 0 → X d ≡ length ws → LeavesRoom t₀ d X ws
    → (ts : List ℕ) × Assignment ws ts × ((v : ℕ) → v < d → X v + count (t₀ + v) ts ≡ X (suc v))
realise t₀ d [] X i z e r = ([], tt, λ v h. omega (arith, r v (suc v) (omega arith) h, r (suc v) d h (omega arith)))
realise t₀ d (w ∷ ws) X i z e r =
    let a = w.0 - t₀ in
    let b = w.1 - t₀ in
    let t = pick t₀ d X ws (b - a) a b (omega arith) (omega arith) (λ p q l m. grind (arith, r p q l m)) in
    let s = realise t₀ d ws (without t.0 X) i.3 (omega arith) (grind arith) (without_room t₀ d X ws t.0 t.3) in
    ((t₀ + t.0) ∷ s.0, (omega arith, omega arith, s.1), λ v h. with_again t₀ d X ws t.0 t.3 (count (t₀ + v) s.0) v h (s.2 v h))
