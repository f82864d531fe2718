-- The marks of a run: its days, and the sum of its mosts.
use Rattle.std.proofs.Common.{◌≡◌, ℕ, zero, suc, ◌+◌, ◌-◌, ◌<◌, ◌≤◌, Bool, true, false, cond, ◌&&◌, leb, ◌⊎◌, length, sym, refl, ap, ◌∙◌, inl, inr, arith}
use Rattle.std.proofs.lemmas.Bool.{cases_lt}
use Rattle.plans.specs.Plans.{Window, most}
use Rattle.plans.specs.Runs.{total, sum}
use Rattle.plans.specs.Sets.{in_set, marks_of, RunsMarked}
use Rattle.plans.proofs.Windows.{total_grows}
use Rattle.plans.proofs.Sets.{total_same, in_marks, marks_are}

module _ (t₀ : ℕ) (us : ℕ → ℕ) (run : Window) (begins : t₀ ≤ run.0) (ordered : run.0 ≤ run.1) where
  abbrev in_run : ℕ → Bool
  in_run t = leb run.0 t && leb t run.1

  abbrev p : ℕ
  p = run.0 - t₀

  abbrev q : ℕ
  q = suc run.1 - t₀

  abbrev part : ℕ → ℕ
  part v = cond (in_run (t₀ + v)) (us v) 0

  part_in : (v : ℕ) → p ≤ v → v < q → part v ≡ us v
  part_in v h k = let e : in_run (t₀ + v) ≡ true = grind arith in rw e

  part_out : (v : ℕ) → (v < p) ⊎ (q ≤ v) → part v ≡ 0
  part_out v (inl h) = let e : in_run (t₀ + v) ≡ false = grind arith in rw e
  part_out v (inr h) = let e : in_run (t₀ + v) ≡ false = grind arith in rw e

  none_yet : (n : ℕ) → n ≤ p → total part n ≡ 0
  none_yet zero h = refl
  none_yet (suc n) h = omega (arith, none_yet n (omega arith), part_out n (inl h))

  so_far : (n : ℕ) → p ≤ n → n ≤ q → total part n + total us p ≡ total us n
  so_far n h k =
      elim (cases_lt p n) [
        | inl l ↦ step n l k
        | inr l ↦ let e : n ≡ p = omega arith in rw e (omega (arith, none_yet p (omega arith)))
      ]
    where
      step : (n : ℕ) → p < n → n ≤ q → total part n + total us p ≡ total us n
      step zero l k = absurd (omega arith)
      step (suc n) l k =
          elim (cases_lt p n) [
            | inl i ↦ omega (arith, step n i (omega arith), part_in n (omega arith) k)
            | inr i ↦
                let e : n ≡ p = omega arith in
                let f : total part n ≡ 0 = none_yet n (omega arith) in
                let g : total us n ≡ total us p = rw e in
                omega (arith, part_in n (omega arith) k)
          ]

  all_done : (i : ℕ) → total part (q + i) + total us p ≡ total us q
  all_done zero = let e : q + 0 ≡ q = omega arith in rw e (so_far q (omega arith) (omega arith))
  all_done (suc i) = let e : q + suc i ≡ suc (q + i) = omega arith in rw e (omega (arith, all_done i, part_out (q + i) (inr (omega arith))))

  pub sum_part : (d : ℕ) → q ≤ d → sum us p q ≡ total part d
  sum_part d h =
      let e : q + (d - q) ≡ d = omega arith in
      let f : total part d + total us p ≡ total us q = rw e at (all_done (d - q)) in
      omega (arith, total_grows us p q (omega arith))

pub runs_marked : RunsMarked
runs_marked t₀ pairs run R =
    let d = length pairs in
    let S : ℕ → Bool = λ t. leb run.0 t && leb t run.1 in
    let begins = R.begins in
    let ordered = R.ordered in
    record {
      are_marks = marks_are S t₀ d;
      days = in_marks S t₀ d;
      mosts =
          sum_part t₀ (most pairs) run begins ordered d (omega (arith, R.ends))
          ∙ total_same (λ v. cond (S (t₀ + v)) (most pairs v) 0) (λ v. cond (in_set t₀ (marks_of S t₀ d) (t₀ + v)) (most pairs v) 0) d
          (λ v k. ap (λ b. cond b (most pairs v) 0) (sym (in_marks S t₀ d (t₀ + v) (omega arith) (omega arith))));
    }
