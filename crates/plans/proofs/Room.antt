-- No run is overfull, said of half-open runs p..q; and without `-`.
use Rattle.std.proofs.Common.{◌≡◌, ℕ, suc, ◌+◌, ◌-◌, ◌≤◌, List, length, subst, inl, inr, arith}
use Rattle.std.proofs.lemmas.Bool.{cases_lt}
use Rattle.plans.specs.Plans.{Window, Pair, most}
use Rattle.plans.specs.Runs.{inside, total, sum, held, room, Roomy}
use Rattle.plans.specs.Needs.{Within, forced}
use Rattle.plans.proofs.Windows.{total_grows, forced_none}

abbrev pub Room : ℕ → ℕ → (ℕ → ℕ) → List Window → Type 0
Room t₀ d us ws = (p q : ℕ) → p ≤ q → q ≤ d → forced t₀ ws p q ≤ sum us p q

pub room_sums : (t₀ d : ℕ) (us : ℕ → ℕ) (ws : List Window) → Room t₀ d us ws → (p q : ℕ) → p ≤ q → q ≤ d
    → total us p + forced t₀ ws p q ≤ total us q
room_sums t₀ d us ws r p q h k = omega (arith, r p q h k, total_grows us p q h)

-- the run of days t₀ + p to t₀ + b
pub held_forced : (t₀ : ℕ) (ws : List Window) (p b : ℕ) → held ws (t₀ + p, t₀ + b) ≡ forced t₀ ws p (suc b)
held_forced t₀ ws p b = let e : suc (t₀ + b) ≡ t₀ + suc b = omega arith in rw e

pub room_sum : (t₀ : ℕ) (pairs : List Pair) (p b : ℕ) → room t₀ pairs (t₀ + p, t₀ + b) ≡ sum (most pairs) p (suc b)
room_sum t₀ pairs p b =
    let e : t₀ + p - t₀ ≡ p = omega arith in
    let f : suc (t₀ + b) - t₀ ≡ suc b = omega arith in
    rw (e, f)

pub room_from_roomy : (t₀ : ℕ) (pairs : List Pair) (ws : List Window) → Within t₀ (length pairs) ws → Roomy t₀ pairs ws → Room t₀ (length pairs) (most pairs) ws
room_from_roomy t₀ pairs ws W R p q h k =
    elim (cases_lt p q) [
      | inl l ↦
          let b = q - 1 in
          let e : suc b ≡ q = omega arith in
          let r : held ws (t₀ + p, t₀ + b) ≤ room t₀ pairs (t₀ + p, t₀ + b) =
          R (t₀ + p, t₀ + b) (record { begins = omega arith; ordered = omega arith; ends = omega arith }) in
          let s : forced t₀ ws p (suc b) ≤ sum (most pairs) p (suc b) = rw (held_forced t₀ ws p b, room_sum t₀ pairs p b) at r in
          subst (λ n. forced t₀ ws p n ≤ sum (most pairs) p n) e s
      | inr l ↦ let e : q ≡ p = omega arith in rw e (omega (arith, forced_none t₀ (length pairs) p ws W))
    ]

pub roomy_from_room : (t₀ : ℕ) (pairs : List Pair) (ws : List Window) → Room t₀ (length pairs) (most pairs) ws → Roomy t₀ pairs ws
roomy_from_room t₀ pairs ws R run r =
    let begins = r.begins in
    let ordered = r.ordered in
    let p = run.0 - t₀ in
    let q = suc run.1 - t₀ in
    let e : t₀ + p ≡ run.0 = omega arith in
    let f : t₀ + q ≡ suc run.1 = omega arith in
    let s : inside ws (t₀ + p) (t₀ + q) ≤ sum (most pairs) p q = R p q (omega arith) (omega (arith, r.ends)) in
    rw (e, f) at s
