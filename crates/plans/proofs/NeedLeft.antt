-- The need from the left exists: it is built a day at a time.
use Rattle.std.proofs.Common.{◌≡◌, ℕ, zero, suc, ◌+◌, ◌<◌, ◌≤◌, cond, leb, ◌⊎◌, List, refl, subst, inl, inr, arith}
use Rattle.std.proofs.lemmas.Bool.{cases_lt}
use Rattle.plans.specs.Plans.{Window}
use Rattle.plans.specs.Needs.{Within, forced, NeedLeft}
use Rattle.plans.proofs.Windows.{forced_none}

-- runs without days hold no window
abbrev Starts : ℕ → List Window → Type 0
Starts t₀ ws = (p : ℕ) → forced t₀ ws p p ≡ 0

-- the largest of b and of f below n
Largest : (ℕ → ℕ) → ℕ → ℕ → ℕ → Type 0
Largest f b n B = (b ≤ B) × ((p : ℕ) → p < n → f p ≤ B) × ((B ≡ b) ⊎ ((p : ℕ) × (p < n) × (B ≡ f p)))

largest : (f : ℕ → ℕ) (b n : ℕ) → (B : ℕ) × Largest f b n B
unfolding Largest
largest f b zero = (b, (omega arith, (λ p h. absurd (omega arith)), inl refl))
largest f b (suc n) =
    let r = largest f b n in
    elim (cases_lt r.0 (f n)) [
      | inl h ↦ (f n, (omega arith, (λ p k. grind (arith, r.1.1 p)), inr (n, omega arith, refl)))
      | inr h ↦
          let more : (r.0 ≡ b) ⊎ ((p : ℕ) × (p < suc n) × (r.0 ≡ f p)) =
          elim r.1.2 [ inl e ↦ inl e | inr e ↦ inr (e.0, omega arith, e.2) ] in
          (r.0, (r.1.0, (λ p k. grind (arith, r.1.1 p)), more))
    ]

extend : ℕ → (ℕ → ℕ) → ℕ → ℕ → ℕ
extend d M B k = cond (leb k d) (M k) B

extend_old : (d : ℕ) (M : ℕ → ℕ) (B k : ℕ) → k ≤ d → extend d M B k ≡ M k
unfolding extend
extend_old d M B k h = grind arith

extend_new : (d : ℕ) (M : ℕ → ℕ) (B k : ℕ) → d < k → extend d M B k ≡ B
unfolding extend
extend_new d M B k h = grind arith

module _ (t₀ d : ℕ) (ls : ℕ → ℕ) (ws : List Window) (S : Starts t₀ ws) (M : ℕ → ℕ) (L : NeedLeft t₀ d ls ws M)
    (B : ℕ) (G : Largest (λ p. M p + forced t₀ ws p (suc d)) (M d + ls d) (suc d) B) where
  -- at the days up to d the new M is the old one, and at the next it is B
  abbrev N : ℕ → ℕ
  N = extend d M B

  old : (k : ℕ) → k ≤ d → N k ≡ M k
  old k h = extend_old d M B k h

  new : (k : ℕ) → d < k → N k ≡ B
  new k h = extend_new d M B k h

  grown_days : (v : ℕ) → v < suc d → N v + ls v ≤ N (suc v)
  unfolding Largest
  grown_days v h =
      elim (cases_lt v d) [
        | inl k ↦ omega (arith, L.by_day v k, old v (omega arith), old (suc v) k)
        | inr k ↦ let e : v ≡ d = omega arith in rw e (omega (arith, G.0, old d (omega arith), new (suc d) (omega arith)))
      ]

  grown_runs : (p q : ℕ) → p ≤ q → q ≤ suc d → N p + forced t₀ ws p q ≤ N q
  unfolding Largest
  grown_runs p q h k =
      elim (cases_lt d q) [
        | inr l ↦ omega (arith, L.by_run p q h l, old p (omega arith), old q l)
        | inl l ↦
            let e : q ≡ suc d = omega arith in
            elim (cases_lt d p) [
              | inl m ↦ let f : p ≡ suc d = omega arith in rw (e, f) (omega (arith, S (suc d)))
              | inr m ↦ rw e (omega (arith, G.1 p (omega arith), old p m, new (suc d) (omega arith)))
            ]
      ]

  Attains : ℕ → Type 0
  Attains v = (N (suc v) ≡ N v + ls v) ⊎ ((p : ℕ) × (p ≤ v) × (N (suc v) ≡ N p + forced t₀ ws p (suc v)))

  grown_attained : (v : ℕ) → v < suc d → Attains v
  unfolding Largest Attains
  grown_attained v h =
      elim (cases_lt v d) [
        | inl k ↦ elim (L.attained v k) [
          | inl e ↦ inl (omega (arith, old v (omega arith), old (suc v) k))
          | inr e ↦ inr (e.0, e.1, omega (arith, e.2, old e.0 (omega arith), old (suc v) k))
        ]
        | inr k ↦
            let last : Attains d =
            elim G.2 [
              | inl e ↦ inl (omega (arith, old d (omega arith), new (suc d) (omega arith)))
              | inr e ↦ inr (e.0, omega arith, omega (arith, e.2, old e.0 (omega arith), new (suc d) (omega arith)))
            ] in
            let same : d ≡ v = omega arith in
            subst Attains same last
      ]

  grown : NeedLeft t₀ (suc d) ls ws (extend d M B)
  unfolding Attains
  grown = record { start = omega (arith, old 0 (omega arith), L.start); by_day = grown_days; by_run = grown_runs; attained = grown_attained }

-- for the first d days; the windows need not end by then
grow : (t₀ d : ℕ) (ls : ℕ → ℕ) (ws : List Window) → Starts t₀ ws → (M : ℕ → ℕ) × NeedLeft t₀ d ls ws M
grow t₀ zero ls ws S = (
  (λ _. 0),
  record {
    start = refl;
    by_day = λ v h. absurd (omega arith);
    by_run = λ p q h k. let e : q ≡ p = omega arith in rw e (omega (arith, S p));
    attained = λ v h. absurd (omega arith);
  },
)
grow t₀ (suc d) ls ws S =
    let m = grow t₀ d ls ws S in
    let g = largest (λ p. m.0 p + forced t₀ ws p (suc d)) (m.0 d + ls d) (suc d) in
    (extend d m.0 g.0, grown t₀ d ls ws S m.0 m.1 g.0 g.1)

pub left_exists : (t₀ d : ℕ) (ls : ℕ → ℕ) (ws : List Window) → Within t₀ d ws → (M : ℕ → ℕ) × NeedLeft t₀ d ls ws M
left_exists t₀ d ls ws W = grow t₀ d ls ws (λ p. forced_none t₀ d p ws W)
