-- A set of days that fewer windows meet than its days need excludes every plan.
use Rattle.std.proofs.Common.{◌≡◌, ℕ, zero, suc, ◌+◌, ◌-◌, ◌<◌, ◌≤◌, Bool, true, false, cond, ◌&&◌, eqb, ltb, List, [], ◌∷◌, length, refl, inl, inr, arith}
use Rattle.std.proofs.lemmas.Bool.{cases_Bool, cases_eq, ne_eqb}
use Rattle.plans.specs.Plans.{Window, days, Assignment, tick, count, fewest}
use Rattle.plans.specs.Sets.{in_set, some_day, having, ShortageExcludes}
use Rattle.plans.proofs.Sets.{some_yes, needs_of}

-- how many of the days chosen are before day t and in the set
abbrev chosen : (ℕ → Bool) → List ℕ → ℕ → ℕ
chosen S [] t = 0
chosen S (u ∷ us) t = tick (S u && ltb u t) + chosen S us t

chosen_day_one : (S : ℕ → Bool) (u t : ℕ) → tick (S u && ltb u (suc t)) ≡ tick (S u && ltb u t) + cond (S t) (tick (eqb t u)) 0
chosen_day_one S u t = elim (cases_eq t u) [ inl e ↦ rw e (go (S u)) | inr e ↦ rw (ne_eqb t u e) (ho e (S u) (S t)) ]
  where
    go : (b : Bool) → tick (b && ltb u (suc u)) ≡ tick (b && ltb u u) + cond b (tick (eqb u u)) 0
    go true = grind arith
    go false = omega arith

    ho : (t ≡ u → ⊥) → (b c : Bool) → tick (b && ltb u (suc t)) ≡ tick (b && ltb u t) + cond c 0 0
    ho e b c = grind arith

chosen_day : (S : ℕ → Bool) (ts : List ℕ) (t : ℕ) → chosen S ts (suc t) ≡ chosen S ts t + cond (S t) (count t ts) 0
chosen_day S [] t = go (S t)
  where
    go : (b : Bool) → 0 ≡ 0 + cond b 0 0
    go true = refl
    go false = refl
chosen_day S (u ∷ us) t = go (S t) (chosen_day_one S u t) (chosen_day S us t)
  where
    go : (b : Bool) → tick (S u && ltb u (suc t)) ≡ tick (S u && ltb u t) + cond b (tick (eqb t u)) 0
        → chosen S us (suc t) ≡ chosen S us t + cond b (count t us) 0
        → tick (S u && ltb u (suc t)) + chosen S us (suc t) ≡ tick (S u && ltb u t) + chosen S us t + cond b (tick (eqb t u) + count t us) 0
    go true h k = omega arith
    go false h k = omega arith

-- each day chosen in the set is of a window that meets it
chosen_one : (S : ℕ → Bool) (w : Window) (u t : ℕ) → w.0 ≤ u → u ≤ w.1 → tick (S u && ltb u t) ≤ tick (some_day S (days w))
chosen_one S w u t h k =
    elim (cases_Bool (S u)) [
      | inl e ↦ rw (e, some_yes S w.0 (suc w.1 - w.0) u h (omega arith) e) (grind arith)
      | inr e ↦ rw e (omega arith)
    ]

chosen_meet : (S : ℕ → Bool) (ws : List Window) (ts : List ℕ) (t : ℕ) → Assignment ws ts → chosen S ts t ≤ having S ws
chosen_meet S [] [] t a = omega arith
chosen_meet S [] (u ∷ us) t a = absurd a
chosen_meet S (w ∷ ws) [] t a = absurd a
chosen_meet S (w ∷ ws) (u ∷ us) t a = omega (arith, chosen_one S w u t a.0 a.1, chosen_meet S ws us t a.2)

needs_chosen : (S : ℕ → Bool) (t₀ : ℕ) (ls : ℕ → ℕ) (ts : List ℕ) (d : ℕ) → ((v : ℕ) → v < d → ls v ≤ count (t₀ + v) ts)
    → needs_of S t₀ ls d ≤ chosen S ts (t₀ + d)
needs_chosen S t₀ ls ts zero f = omega arith
needs_chosen S t₀ ls ts (suc d) f =
    let e : t₀ + suc d ≡ suc (t₀ + d) = omega arith in
    rw e (omega (arith, needs_chosen S t₀ ls ts d (λ v h. f v (omega arith)), chosen_day S ts (t₀ + d), go (S (t₀ + d))))
  where
    go : (b : Bool) → cond b (ls d) 0 ≤ cond b (count (t₀ + d) ts) 0
    go true = f d (omega arith)
    go false = omega arith

pub shortage_excludes : ShortageExcludes
shortage_excludes t₀ pairs ws marks ts h P =
    let S = in_set t₀ marks in
    let d = length pairs in
    omega (arith, needs_chosen S t₀ (fewest pairs) ts d P.at_least, chosen_meet S ws ts (t₀ + d) P.assigned)
