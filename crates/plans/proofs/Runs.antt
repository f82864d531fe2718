-- The run that is found is the one that the rule names.
use Rattle.std.proofs.Common.{◌≡◌, ℕ, zero, suc, ◌+◌, ◌-◌, ◌<◌, ◌≤◌, Bool, false, List, length, Some, None, filter, Option, sym, refl, ap, subst, inl, inr, arith}
use Rattle.std.proofs.lemmas.Bool.{cases_lt, cases_order, ltb-true, ltb-false}
use Rattle.plans.specs.Plans.{Window, Pair, head}
use Rattle.plans.specs.Runs.{Run, held, room, Roomy, overfull?, runs, overfull_run, Named, RunNamed}
use Rattle.plans.proofs.RunSearch.{latest, to_run, or_else, head_runs, LatestOf, latest_found}

module _ (t₀ : ℕ) (pairs : List Pair) (ws : List Window) where
  abbrev Fits : Window → Type 0
  Fits run = held ws run ≤ room t₀ pairs run

  -- the rule, among the runs of the first n days
  Rule : ℕ → Option Window → Type 0
  Rule n None = (run : Window) → Run t₀ n run → Fits run
  Rule n (Some run) =
      Run t₀ n run × (room t₀ pairs run < held ws run) × ((other : Window) → Run t₀ n other → other.1 < run.1 → Fits other)
      × ((other : Window) → Run t₀ n other → other.1 ≡ run.1 → run.0 < other.0 → Fits other)

  -- a run that ends on the last of the days, by the place of its first day
  at_end : (n : ℕ) (run : Window) → Run t₀ (suc n) run → run.1 ≡ t₀ + n
      → overfull? t₀ pairs ws (t₀ + (run.0 - t₀), t₀ + n) ≡ false → Fits run
  at_end n run r e f =
      let begins = r.begins in
      let a : t₀ + (run.0 - t₀) ≡ run.0 = omega arith in
      let g : Fits (t₀ + (run.0 - t₀), t₀ + n) =
      ltb-false (room t₀ pairs (t₀ + (run.0 - t₀), t₀ + n)) (held ws (t₀ + (run.0 - t₀), t₀ + n)) f in
      rw (a, sym e) at g

  shorter : (n : ℕ) (run : Window) → Run t₀ (suc n) run → run.1 < t₀ + n → Run t₀ n run
  shorter n run r h = record { begins = r.begins; ordered = r.ordered; ends = h }

  rule_step : (n : ℕ) (o : Option Window) → Rule n o → Rule (suc n) (or_else o (to_run t₀ n (latest (λ p. overfull? t₀ pairs ws (t₀ + p, t₀ + n)) (suc n))))
  unfolding Rule LatestOf
  rule_step n (Some run) R = (
    record { begins = R.0.begins; ordered = R.0.ordered; ends = omega (arith, R.0.ends) },
    R.1,
    λ other r h. R.2 other (shorter n other r (omega (arith, R.0.ends))) h,
    λ other r e h. R.3 other (shorter n other r (omega (arith, R.0.ends))) e h,
  )
  rule_step n None R = go (latest test (suc n)) (latest_found test (suc n))
    where
      test : ℕ → Bool
      test p = overfull? t₀ pairs ws (t₀ + p, t₀ + n)

      go : (o : Option ℕ) → LatestOf test (suc n) o → Rule (suc n) (to_run t₀ n o)
      go None L =
          λ run r. elim (cases_lt run.1 (t₀ + n)) [
            | inl h ↦ R run (shorter n run r h)
            | inr h ↦ at_end n run r (omega (arith, r.ends)) (L (run.0 - t₀) (omega (arith, r.begins, r.ordered, r.ends)))
          ]
      go (Some p) L = (
        record { begins = omega arith; ordered = omega (arith, L.0); ends = omega arith },
        ltb-true (room t₀ pairs (t₀ + p, t₀ + n)) (held ws (t₀ + p, t₀ + n)) L.1,
        λ other r h. R other (shorter n other r h),
        λ other r e h.
            at_end n other r e (L.2 (other.0 - t₀) (omega (arith, r.begins)) (omega (arith, r.begins, r.ordered, r.ends))),
      )

  rule : (n : ℕ) → Rule n (head (filter (overfull? t₀ pairs ws) (runs t₀ n)))
  unfolding Rule
  rule zero = λ run r. absurd (omega (arith, r.begins, r.ordered, r.ends))
  rule (suc n) =
      subst (Rule (suc n)) (sym (head_runs (overfull? t₀ pairs ws) t₀ n)) (rule_step n (head (filter (overfull? t₀ pairs ws) (runs t₀ n))) (rule n))

  -- the rule names one run at most
  pub named_one : (run other : Window) → Named t₀ pairs ws run → Named t₀ pairs ws other → run ≡ other
  named_one run other N K =
      elim (cases_order run.1 other.1) [
        | inr (inl h) ↦ absurd (omega (arith, K.smallest_last run N.is_run h, N.over))
        | inr (inr h) ↦ absurd (omega (arith, N.smallest_last other K.is_run h, K.over))
        | inl e ↦ elim (cases_order run.0 other.0) [
          | inr (inl h) ↦ absurd (omega (arith, N.largest_first other K.is_run (sym e) h, K.over))
          | inr (inr h) ↦ absurd (omega (arith, K.largest_first run N.is_run e h, N.over))
          | inl f ↦ let p : (run.0, run.1) ≡ (other.0, other.1) = rw (e, f) in p
        ]
      ]

  some_named : (o : Option Window) → Rule (length pairs) o → (run : Window) → o ≡ Some run → Named t₀ pairs ws run
  unfolding Rule
  some_named None R run e = let z : ◌≡◌ {A = ℕ} 0 1 = cc in absurd (omega arith)
  some_named (Some r) R run e =
      let f : r ≡ run = cc in
      subst (Named t₀ pairs ws) f (record { is_run = R.0; over = R.1; smallest_last = R.2; largest_first = R.3 })

  named_some : (o : Option Window) → Rule (length pairs) o → (run : Window) → Named t₀ pairs ws run → o ≡ Some run
  unfolding Rule
  named_some None R run N = absurd (omega (arith, R run N.is_run, N.over))
  named_some (Some r) R run N =
      ap (λ x. Some x) (named_one r run (record { is_run = R.0; over = R.1; smallest_last = R.2; largest_first = R.3 }) N)

  none_roomy : (o : Option Window) → Rule (length pairs) o → o ≡ None → Roomy t₀ pairs ws
  unfolding Rule
  none_roomy None R e = R
  none_roomy (Some r) R e = let z : ◌≡◌ {A = ℕ} 0 1 = cc in absurd (omega arith)

  roomy_none : (o : Option Window) → Rule (length pairs) o → Roomy t₀ pairs ws → o ≡ None
  unfolding Rule
  roomy_none None R F = refl
  roomy_none (Some r) R F = absurd (omega (arith, F r R.0, R.1))

pub run_named : RunNamed
run_named t₀ pairs ws =
    let o = overfull_run t₀ pairs ws in
    let R = rule t₀ pairs ws (length pairs) in (
      (λ run. (some_named t₀ pairs ws o R run, named_some t₀ pairs ws o R run)),
      (none_roomy t₀ pairs ws o R, roomy_none t₀ pairs ws o R),
    )
