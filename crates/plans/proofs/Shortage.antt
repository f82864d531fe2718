-- Where the need is too large, the days at which it is a fewest that makes it so are a set that shows the shortage.
use Rattle.std.proofs.Common.{◌≡◌, ℕ, zero, suc, ◌+◌, ◌-◌, ◌<◌, ◌≤◌, Bool, true, false, cond, not, ◌&&◌, ◌||◌, eqb, ltb, List, [], ◌∷◌, length, refl, ap, ◌∙◌, inl, inr, arith}
use Rattle.std.proofs.lemmas.Bool.{cases_lt, eq-eqb, ne_eqb}
use Rattle.plans.specs.Plans.{Window, days, tick, fewest}
use Rattle.plans.specs.Runs.{lies, inside}
use Rattle.plans.specs.Sets.{some_day, having}
use Rattle.plans.specs.Needs.{Within, NeedLeft, NeedShown, ShortageFound}
use Rattle.plans.proofs.Windows.{total_grows}
use Rattle.plans.proofs.Sets.{some_none, some_same, total_same, needs_of, shown_by_marks}
use Rattle.plans.proofs.NeedLeft.{left_exists}
use Rattle.plans.proofs.Exists.{plan_exists, mosts_kept_when}

-- how many windows end before day t and do not meet the set
abbrev pub missed : (ℕ → Bool) → ℕ → List Window → ℕ
missed S t [] = 0
missed S t (w ∷ ws) = tick (ltb w.1 t && not (some_day S (days w))) + missed S t ws

-- the set with day t
abbrev pub also : ℕ → (ℕ → Bool) → ℕ → Bool
also t S u = eqb u t || S u

pub also_other : (t : ℕ) (S : ℕ → Bool) (u : ℕ) → (u ≡ t → ⊥) → also t S u ≡ S u
also_other t S u h = rw (ne_eqb u t h)

pub also_here : (t : ℕ) (S : ℕ → Bool) → also t S t ≡ true
also_here t S = rw (eq-eqb t t refl)

missed_also_one : (t : ℕ) (S : ℕ → Bool) (w : Window)
    → tick (ltb w.1 t && not (some_day S (days w))) ≤ tick (ltb w.1 (suc t) && not (some_day (also t S) (days w)))
missed_also_one t S w =
    elim (cases_lt w.1 t) [
      | inl h ↦
          let e : some_day (also t S) (days w) ≡ some_day S (days w) =
          some_same (also t S) S w.0 (suc w.1 - w.0) (λ u l m. also_other t S u (λ f. absurd (omega arith))) in
          rw e (go (some_day S (days w)) h)
      | inr h ↦ ho (some_day S (days w)) h (tick (ltb w.1 (suc t) && not (some_day (also t S) (days w))))
    ]
  where
    go : (b : Bool) → w.1 < t → tick (ltb w.1 t && not b) ≤ tick (ltb w.1 (suc t) && not b)
    go b h = grind arith

    ho : (b : Bool) → t ≤ w.1 → (n : ℕ) → tick (ltb w.1 t && not b) ≤ n
    ho b h n = grind arith

pub missed_also : (t : ℕ) (S : ℕ → Bool) (ws : List Window) → missed S t ws ≤ missed (also t S) (suc t) ws
missed_also t S [] = omega arith
missed_also t S (w ∷ ws) = omega (arith, missed_also_one t S w, missed_also t S ws)

missed_run_one : (S : ℕ → Bool) (p q : ℕ) (w : Window) → ((t : ℕ) → p ≤ t → S t ≡ false) → w.0 ≤ w.1 → p ≤ q
    → tick (ltb w.1 p && not (some_day S (days w))) + tick (lies p q w) ≤ tick (ltb w.1 q && not (some_day S (days w)))
missed_run_one S p q w f h k =
    go (some_day S (days w)) (λ l. some_none S w.0 (suc w.1 - w.0) (λ t m. f t (omega arith)))
  where
    go : (b : Bool) → (p ≤ w.0 → b ≡ false) → tick (ltb w.1 p && not b) + tick (lies p q w) ≤ tick (ltb w.1 q && not b)
    go b e = grind arith

-- a run after the set's last day adds the windows inside it
pub missed_run : (t₀ d : ℕ) (S : ℕ → Bool) (p q : ℕ) (ws : List Window) → Within t₀ d ws → ((t : ℕ) → p ≤ t → S t ≡ false) → p ≤ q
    → missed S p ws + inside ws p q ≤ missed S q ws
missed_run t₀ d S p q [] W f k = omega arith
missed_run t₀ d S p q (w ∷ ws) W f k = omega (arith, missed_run_one S p q w f W.1 k, missed_run t₀ d S p q ws W.3 f k)

pub missed_rest : (S : ℕ → Bool) (t : ℕ) (ws : List Window) → missed S t ws + having S ws ≤ length ws
missed_rest S t [] = omega arith
missed_rest S t (w ∷ ws) = omega (arith, go (some_day S (days w)), missed_rest S t ws)
  where
    go : (b : Bool) → tick (ltb w.1 t && not b) + tick b ≤ 1
    go b = grind arith

module _ (t₀ d : ℕ) (ls : ℕ → ℕ) (ws : List Window) (M : ℕ → ℕ) (W : Within t₀ d ws) (L : NeedLeft t₀ d ls ws M) where
  -- a set of days before day t₀ + v that tells why M v is so large
  Telling : ℕ → Type 0
  Telling v = (S : ℕ → Bool) × ((t : ℕ) → t₀ + v ≤ t → S t ≡ false) × (M v ≤ needs_of S t₀ ls v + missed S (t₀ + v) ws)

  one_more : (v : ℕ) → M (suc v) ≡ M v + ls v → Telling v → Telling (suc v)
  unfolding Telling
  one_more v e r =
      let S = r.0 in
      let t = t₀ + v in
      let same : needs_of (also t S) t₀ ls v ≡ needs_of S t₀ ls v =
      total_same (λ u. cond (also t S (t₀ + u)) (ls u) 0) (λ u. cond (S (t₀ + u)) (ls u) 0) v
      (λ u h. ap (λ b. cond b (ls u) 0) (also_other t S (t₀ + u) (λ f. omega arith))) in
      let last : cond (also t S (t₀ + v)) (ls v) 0 ≡ ls v = ap (λ b. cond b (ls v) 0) (also_here t S) in
      let f : t₀ + suc v ≡ suc t = omega arith in
      (also t S, (λ u h. also_other t S u (λ g. omega arith) ∙ r.1 u (omega arith)), rw f (omega (arith, same, last, r.2, missed_also t S ws)))

  tell : (n v : ℕ) → v < n → v ≤ d → Telling v
  unfolding Telling
  tell zero v b h = absurd (omega arith)
  tell (suc n) zero b h = ((λ _. false), (λ t l. refl), omega (arith, L.start))
  tell (suc n) (suc v) b h =
      elim (L.attained v h) [
        | inl e ↦ one_more v e (tell n v (omega arith) (omega arith))
        | inr e ↦
            let p = e.0 in
            let r = tell n p (omega arith) (omega arith) in
            let S = r.0 in (
              S,
              (λ t l. r.1 t (omega arith)),
              omega (
                arith,
                e.2,
                r.2,
                missed_run t₀ d S (t₀ + p) (t₀ + suc v) ws W r.1 (omega arith),
                total_grows (λ u. cond (S (t₀ + u)) (ls u) 0) p (suc v) (omega arith),
              ),
            )
      ]

pub need_shown : NeedShown
unfolding Telling
need_shown t₀ pairs ws M W L h =
    let d = length pairs in
    let r = tell t₀ d (fewest pairs) ws M W L (suc d) d (omega arith) (omega arith) in
    shown_by_marks r.0 t₀ pairs ws W (omega (arith, r.2, missed_rest r.0 (t₀ + d) ws))

pub shortage_found : ShortageFound
shortage_found t₀ pairs ws A K no_plan =
    let W = A.within in
    let m = left_exists t₀ (length pairs) (fewest pairs) ws W in
    elim (cases_lt (length ws) (m.0 (length pairs))) [
      | inl h ↦ need_shown t₀ pairs ws m.0 W m.1 h
      | inr h ↦
          let P = (plan_exists t₀ pairs ws m.0 A m.1).1 ((mosts_kept_when t₀ pairs ws W).0 K, h) in
          absurd (no_plan P.0 P.1)
    ]
