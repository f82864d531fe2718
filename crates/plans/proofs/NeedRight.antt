-- The need from the right: it is the need from the left of the mirrored windows. The two needs meet.
use Rattle.std.proofs.Common.{◌≡◌, ℕ, zero, suc, ◌+◌, ◌-◌, ◌<◌, ◌≤◌, ◌⊎◌, List, [], ◌∷◌, length, refl, inl, inr, arith}
use Rattle.std.proofs.lemmas.Bool.{cases_lt}
use Rattle.plans.specs.Plans.{Window, tick}
use Rattle.plans.specs.Runs.{lies}
use Rattle.plans.specs.Needs.{Within, forced, NeedLeft, NeedRight, NeedsExist}
use Rattle.plans.proofs.Fitting.{Fitting}
use Rattle.plans.proofs.Before.{before, before_day, before_run, before_all}
use Rattle.plans.proofs.NeedLeft.{left_exists}

-- the last of the d days becomes the first
abbrev turned : ℕ → ℕ → ℕ → ℕ
turned t₀ d t = t₀ + (d - suc (t - t₀))

abbrev mirror : ℕ → ℕ → List Window → List Window
mirror t₀ d [] = []
mirror t₀ d (w ∷ ws) = (turned t₀ d w.1, turned t₀ d w.0) ∷ mirror t₀ d ws

mirror_within : (t₀ d : ℕ) (ws : List Window) → Within t₀ d ws → Within t₀ d (mirror t₀ d ws)
mirror_within t₀ d [] W = tt
mirror_within t₀ d (w ∷ ws) W = (omega arith, omega arith, omega arith, mirror_within t₀ d ws W.3)

mirror_one : (t₀ d a b p q : ℕ) → t₀ ≤ a → a ≤ b → b < t₀ + d → p ≤ d → q ≤ d
    → tick (lies (t₀ + p) (t₀ + q) (turned t₀ d b, turned t₀ d a)) ≡ tick (lies (t₀ + (d - q)) (t₀ + (d - p)) (a, b))
mirror_one t₀ d a b p q g h k l m = grind arith

mirror_forced : (t₀ d : ℕ) (ws : List Window) (p q : ℕ) → Within t₀ d ws → p ≤ d → q ≤ d
    → forced t₀ (mirror t₀ d ws) p q ≡ forced t₀ ws (d - q) (d - p)
mirror_forced t₀ d [] p q W l m = refl
mirror_forced t₀ d (w ∷ ws) p q W l m =
    omega (arith, mirror_one t₀ d w.0 w.1 p q W.0 W.1 W.2 l m, mirror_forced t₀ d ws p q W.3 l m)

module _ (t₀ d : ℕ) (ls : ℕ → ℕ) (ws : List Window) (W : Within t₀ d ws) (M : ℕ → ℕ)
    (L : NeedLeft t₀ d (λ v. ls (d - suc v)) (mirror t₀ d ws) M) where
  abbrev N : ℕ → ℕ
  N v = M (d - v)

  right_end : N d ≡ 0
  right_end = let e : d - d ≡ 0 = omega arith in rw e L.start

  right_days : (v : ℕ) → v < d → ls v + N (suc v) ≤ N v
  right_days v h =
      let e : d - suc (d - suc v) ≡ v = omega arith in
      let f : suc (d - suc v) ≡ d - v = omega arith in
      let r : M (d - suc v) + ls v ≤ M (d - v) = rw (e, f) at (L.by_day (d - suc v) (omega arith)) in
      omega arith

  mirrored : (p q : ℕ) → p ≤ q → q ≤ d → forced t₀ (mirror t₀ d ws) (d - q) (d - p) ≡ forced t₀ ws p q
  mirrored p q h k =
      let e : d - (d - p) ≡ p = omega arith in
      let f : d - (d - q) ≡ q = omega arith in
      rw (e, f) at (mirror_forced t₀ d ws (d - q) (d - p) W (omega arith) (omega arith))

  right_runs : (p q : ℕ) → p ≤ q → q ≤ d → forced t₀ ws p q + N q ≤ N p
  right_runs p q h k = omega (arith, L.by_run (d - q) (d - p) (omega arith) (omega arith), mirrored p q h k)

  right_attained : (v : ℕ) → v < d → (N v ≡ ls v + N (suc v)) ⊎ ((q : ℕ) × (v < q) × (q ≤ d) × (N v ≡ forced t₀ ws v q + N q))
  right_attained v h =
      let e : d - suc (d - suc v) ≡ v = omega arith in
      let f : suc (d - suc v) ≡ d - v = omega arith in
      elim (L.attained (d - suc v) (omega arith)) [
        | inl g ↦ let r : M (d - v) ≡ M (d - suc v) + ls v = rw (e, f) at g in inl (omega arith)
        | inr g ↦
            let p = g.0 in
            let i : d - (d - p) ≡ p = omega arith in
            let j : M (d - v) ≡ M p + forced t₀ (mirror t₀ d ws) p (d - v) = rw f at g.2 in
            let k : forced t₀ (mirror t₀ d ws) p (d - v) ≡ forced t₀ ws v (d - p) = rw i at (mirrored v (d - p) (omega arith) (omega arith)) in
            let l : M (d - (d - p)) ≡ M p = rw i in
            inr (d - p, omega arith, omega arith, omega arith)
      ]

  right : NeedRight t₀ d ls ws (λ v. M (d - v))
  right = record { end = right_end; by_day = right_days; by_run = right_runs; attained = right_attained }

pub right_exists : (t₀ d : ℕ) (ls : ℕ → ℕ) (ws : List Window) → Within t₀ d ws → (N : ℕ → ℕ) × NeedRight t₀ d ls ws N
right_exists t₀ d ls ws W =
    let m = left_exists t₀ d (λ v. ls (d - suc v)) (mirror t₀ d ws) (mirror_within t₀ d ws W) in
    ((λ v. m.0 (d - v)), right t₀ d ls ws W m.0 m.1)

pub needs_exist : NeedsExist
needs_exist t₀ d ls ws W = (left_exists t₀ d ls ws W, right_exists t₀ d ls ws W)

-- the needs before and after a day are together no more than the need of all days
module _ (t₀ d : ℕ) (ls : ℕ → ℕ) (ws : List Window) (M N : ℕ → ℕ) (L : NeedLeft t₀ d ls ws M) (K : NeedRight t₀ d ls ws N) where
  meet : (n v : ℕ) → d < v + n → v ≤ d → M v + N v ≤ M d
  meet zero v b h = absurd (omega arith)
  meet (suc n) v b h =
      elim (cases_lt v d) [
        | inr k ↦ let e : v ≡ d = omega arith in rw e (omega (arith, K.end))
        | inl k ↦ elim (K.attained v k) [
          | inl e ↦ omega (arith, e, meet n (suc v) (omega arith) k, L.by_day v k)
          | inr e ↦ omega (arith, e.3, meet n e.0 (omega arith) e.2, L.by_run v e.0 (omega arith) e.2)
        ]
      ]

  pub needs_meet : (v : ℕ) → v ≤ d → M v + N v ≤ M d
  needs_meet v h = meet (suc d) v (omega arith) h

-- in a plan, N v at least are done on day t₀ + v and after
module _ (t₀ d : ℕ) (ls us : ℕ → ℕ) (ws : List Window) (ts : List ℕ) (P : Fitting t₀ d ls us ws ts) (N : ℕ → ℕ) (K : NeedRight t₀ d ls ws N) where
  after : (n v : ℕ) → d < v + n → v ≤ d → before ts (t₀ + v) + N v ≤ length ws
  after zero v b h = absurd (omega arith)
  after (suc n) v b h =
      elim (cases_lt v d) [
        | inr k ↦ let e : v ≡ d = omega arith in rw e (omega (arith, K.end, before_all ws ts (t₀ + d) P.assigned))
        | inl k ↦ elim (K.attained v k) [
          | inl e ↦ omega (arith, e, after n (suc v) (omega arith) k, before_day t₀ ts v, P.at_least v k)
          | inr e ↦ omega (arith, e.3, after n e.0 (omega arith) e.2, before_run t₀ ws ts v e.0 P.assigned (omega arith))
        ]
      ]

  pub no_more : (v : ℕ) → v ≤ d → before ts (t₀ + v) + N v ≤ length ws
  no_more v h = after (suc d) v (omega arith) h
