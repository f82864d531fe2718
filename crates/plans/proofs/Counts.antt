-- How many to do before each day: from the last day down, as many as the days after can not take, and no fewer than
-- the need from the left.
use Rattle.std.proofs.Common.{◌≡◌, ℕ, zero, suc, ◌+◌, ◌-◌, ◌<◌, ◌≤◌, max, ◌⊎◌, List, length, inl, inr, arith}
use Rattle.std.proofs.lemmas.Bool.{cases_lt, cases_eq}
use Rattle.plans.specs.Plans.{Window}
use Rattle.plans.specs.Runs.{total}
use Rattle.plans.specs.Needs.{Within, forced, NeedLeft}
use Rattle.plans.proofs.Windows.{super, forced_all}
use Rattle.plans.proofs.Room.{Room, room_sums}
use Rattle.plans.proofs.Assign.{LeavesRoom}

-- X, counted from the last day: i days before the end
abbrev back : (d : ℕ) (us M : ℕ → ℕ) (n : ℕ) → ℕ → ℕ
back d us M n zero = n
back d us M n (suc i) = max (M (d - suc i)) (back d us M n i - us (d - suc i))

pub record Counts (d : ℕ) (us M : ℕ → ℕ) (n : ℕ) (X : ℕ → ℕ) : Type 0 where
  pub top : X d ≡ n
  pub step : (v : ℕ) → v < d → X v ≡ max (M v) (X (suc v) - us v)

pub counts : (d : ℕ) (us M : ℕ → ℕ) (n : ℕ) → (X : ℕ → ℕ) × Counts d us M n X
counts d us M n = ((λ v. back d us M n (d - v)), record { top = top; step = step })
  where
    top : back d us M n (d - d) ≡ n
    top = let e : d - d ≡ 0 = omega arith in rw e

    step : (v : ℕ) → v < d → back d us M n (d - v) ≡ max (M v) (back d us M n (d - suc v) - us v)
    step v h =
        let e : d - v ≡ suc (d - suc v) = omega arith in
        let f : d - suc (d - suc v) ≡ v = omega arith in
        rw (e, f)

module _ (t₀ d : ℕ) (ls us : ℕ → ℕ) (ws : List Window) (M : ℕ → ℕ) (bounds : (v : ℕ) → v < d → ls v ≤ us v)
    (L : NeedLeft t₀ d ls ws M) (R : Room t₀ d us ws) where
  abbrev U : ℕ → ℕ
  U = total us

  -- between p and w, M grows by no more than the most, even with what p..q is forced to hold
  Steady : ℕ → ℕ → ℕ → Type 0
  Steady w p q = M w + forced t₀ ws p q + U p ≤ M q + U w

  steady_same : (w p q : ℕ) → w ≡ p → p ≤ q → q ≤ d → Steady w p q
  unfolding Steady
  steady_same w p q e h k = let r : M p + forced t₀ ws p q ≤ M q = L.by_run p q h k in rw e (omega arith)

  steady : (n w p q : ℕ) → w < n → p ≤ w → w ≤ q → q ≤ d → Steady w p q
  unfolding Steady
  steady zero w p q b h k l = absurd (omega arith)
  steady (suc n) zero p q b h k l = steady_same 0 p q (omega arith) (omega arith) l
  steady (suc n) (suc v) p q b h k l =
      elim (cases_lt p (suc v)) [
        | inr e ↦ steady_same (suc v) p q (omega arith) (omega arith) l
        | inl i ↦ elim (L.attained v (omega arith)) [
          | inl e ↦ omega (arith, e, steady n v p q (omega arith) (omega arith) (omega arith) l, bounds v (omega arith))
          | inr e ↦
              let r = e.0 in
              elim (cases_lt r p) [
                | inr j ↦ omega (arith, e, steady n r p q (omega arith) j (omega arith) l, room_sums t₀ d us ws R r (suc v) (omega arith) (omega arith))
                | inl j ↦ omega (arith, e, super t₀ r p (suc v) q ws (omega arith) k, L.by_run r q (omega arith) l, room_sums t₀ d us ws R p (suc v) h (omega arith))
              ]
        ]
      ]

  below : (n w : ℕ) → w < n → w ≤ d → M w ≤ U w
  below zero w b h = absurd (omega arith)
  below (suc n) zero b h = omega (arith, L.start)
  below (suc n) (suc v) b h =
      elim (L.attained v h) [
        | inl e ↦ omega (arith, e, below n v (omega arith) (omega arith), bounds v h)
        | inr e ↦ omega (arith, e, below n e.0 (omega arith) (omega arith), room_sums t₀ d us ws R e.0 (suc v) (omega arith) h)
      ]

  module _ (X : ℕ → ℕ) (K : Counts d us M (length ws) X) (W : Within t₀ d ws) (fits : M d ≤ length ws) where
    over : (v : ℕ) → v ≤ d → M v ≤ X v
    over v h =
        elim (cases_lt v d) [ inl k ↦ omega (arith, K.step v k) | inr k ↦ let e : v ≡ d = omega arith in rw e (omega (arith, K.top)) ]

    pub x_most : (v : ℕ) → v < d → X (suc v) ≤ X v + us v
    x_most v h = omega (arith, K.step v h)

    pub x_fewest : (v : ℕ) → v < d → X v + ls v ≤ X (suc v)
    x_fewest v h = omega (arith, K.step v h, bounds v h, L.by_day v h, over (suc v) h)

    -- from p to w every day is full, and at w the count is M's or all is done
    Chain : ℕ → Type 0
    Chain p = (w : ℕ) × (p ≤ w) × (w ≤ d) × ((v : ℕ) → p ≤ v → v ≤ w → X v + U w ≡ X w + U v) × ((X w ≡ M w) ⊎ (w ≡ d))

    chain_here : (p : ℕ) → p ≤ d → (X p ≡ M p) ⊎ (p ≡ d) → Chain p
    unfolding Chain
    chain_here p h e = (p, omega arith, h, (λ v k l. let f : v ≡ p = omega arith in rw f), e)

    chain : (n p : ℕ) → p + n ≡ d → Chain p
    unfolding Chain
    chain zero p e = chain_here p (omega arith) (inr (omega arith))
    chain (suc n) p e =
        elim (cases_eq (X p) (M p)) [
          | inl f ↦ chain_here p (omega arith) (inl f)
          | inr f ↦
              let c = chain n (suc p) (omega arith) in
              let g : X (suc p) ≡ X p + us p = omega (arith, K.step p (omega arith)) in
              let s : X (suc p) + U c.0 ≡ X c.0 + U (suc p) = c.3 (suc p) (omega arith) c.1 in
              let at : (v : ℕ) → p ≤ v → v ≤ c.0 → X v + U c.0 ≡ X c.0 + U v =
              λ v k l. elim (cases_lt p v) [ inl i ↦ c.3 v i l | inr i ↦ let j : v ≡ p = omega arith in rw j (omega arith) ] in
              (c.0, omega arith, c.2, at, c.4)
        ]

    pub x_room : LeavesRoom t₀ d X ws
    unfolding Chain Steady
    x_room p q h k =
        let c = chain (d - p) p (omega arith) in
        elim (cases_lt c.0 q) [
          | inl i ↦ elim c.4 [
            | inl e ↦ omega (arith, e, c.3 p (omega arith) c.1, steady (suc c.0) c.0 p q (omega arith) c.1 (omega arith) k, over q k)
            | inr e ↦ absurd (omega arith)
          ]
          | inr i ↦ omega (arith, c.3 p (omega arith) c.1, c.3 q h i, room_sums t₀ d us ws R p q h k)
        ]

    under : (n v : ℕ) → v + n ≡ d → X v ≤ U v
    under zero v e =
        let f : v ≡ d = omega arith in
        rw f (omega (arith, K.top, forced_all t₀ d ws W, room_sums t₀ d us ws R 0 d (omega arith) (omega arith)))
    under (suc n) v e = omega (arith, K.step v (omega arith), under n (suc v) (omega arith), below (suc v) v (omega arith) (omega arith))

    pub x_start : X 0 ≡ 0
    x_start = omega (arith, under d 0 (omega arith))
