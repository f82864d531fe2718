-- Narrowed windows: they lie in the windows that they come from, and have the same first plan.
use Rattle.std.proofs.Common.{◌≡◌, ℕ, zero, suc, ◌+◌, ◌<◌, ◌≤◌, List, [], ◌∷◌, length, Some, None, Option, refl, arith}
use Rattle.plans.specs.Plans.{Window, Pair, Plan}
use Rattle.plans.specs.Needs.{Within}
use Rattle.plans.specs.Narrowing.{window, narrowed, first_plan, Singles}
use Rattle.plans.proofs.Close.{assigned_at, within_at}
use Rattle.plans.proofs.First.{first_leads}
use Rattle.narrowing.proofs.Meaning.{narrowed_long, narrowed_ends, plans_stay}

within_by : (k d : ℕ) (ws : List Window)
    → ((i : ℕ) → i < length ws → (k ≤ (window ws i).0) × ((window ws i).0 ≤ (window ws i).1) × ((window ws i).1 < k + d)) → Within k d ws
within_by k d [] h = tt
within_by k d (w ∷ ws) h =
    let z = h 0 (omega arith) in
    (z.0, z.1, z.2, within_by k d ws (λ i l. h (suc i) (omega arith)))

singles_at : (i : ℕ) (ws : List Window) (j : ℕ) → Singles i ws → j < i → j < length ws → (window ws j).0 ≡ (window ws j).1
singles_at zero ws j S h l = absurd (omega arith)
singles_at (suc i) [] j S h l = absurd (omega arith)
singles_at (suc i) (w ∷ ws) zero S h l = S.0
singles_at (suc i) (w ∷ ws) (suc j) S h l = singles_at i ws j S.1 (omega arith) (omega arith)

singles_by : (i : ℕ) (ws : List Window) → ((j : ℕ) → j < i → j < length ws → (window ws j).0 ≡ (window ws j).1) → Singles i ws
singles_by zero ws h = tt
singles_by (suc i) [] h = tt
singles_by (suc i) (w ∷ ws) h = (h 0 (omega arith) (omega arith), singles_by i ws (λ j l m. h (suc j) (omega arith) (omega arith)))

module _ (k : ℕ) (pairs : List Pair) (ws : List Window) (plan : (ts : List ℕ) × Plan k pairs ws ts) where
  inner : (i : ℕ) → i < length ws
      → ((window ws i).0 ≤ (window (narrowed k pairs ws) i).0) × ((window (narrowed k pairs ws) i).0 ≤ (window (narrowed k pairs ws) i).1)
      × ((window (narrowed k pairs ws) i).1 ≤ (window ws i).1)
  inner i h =
      let N = narrowed_ends k pairs ws plan in
      let low = (N.first i h).possible in
      let high = (N.last i h).possible in
      let first = assigned_at ws low.0 i low.1.assigned h in
      let last = assigned_at ws high.0 i high.1.assigned h in
      (omega (arith, low.2), omega (arith, (N.first i h).none_before high.0 high.1, high.2), omega (arith, high.2))

  pub narrowed_within : Within k (length pairs) ws → Within k (length pairs) (narrowed k pairs ws)
  narrowed_within W =
      within_by k (length pairs) (narrowed k pairs ws) (λ i l.
      let h : i < length ws = omega (arith, narrowed_long k pairs ws) in
      let w = within_at k (length pairs) ws i W h in
      let v = inner i h in
      (omega arith, v.1, omega arith))

  pub narrowed_singles : (i : ℕ) → Singles i ws → Singles i (narrowed k pairs ws)
  narrowed_singles i S =
      singles_by i (narrowed k pairs ws) (λ j l m.
      let h : j < length ws = omega (arith, narrowed_long k pairs ws) in
      let v = inner j h in
      omega (arith, singles_at i ws j S l h))

  pub narrowed_first : first_plan k pairs (narrowed k pairs ws) ≡ first_plan k pairs ws
  narrowed_first = go (first_plan k pairs ws) refl
    where
      go : (o : Option (List ℕ)) → first_plan k pairs ws ≡ o → first_plan k pairs (narrowed k pairs ws) ≡ o
      go None e = absurd ((first_leads k pairs ws).1.0 e plan.0 plan.1)
      go (Some ts) e =
          let L = ((first_leads k pairs ws).0 ts).0 e in
          let stay = plans_stay k pairs ws plan in
          ((first_leads k pairs (narrowed k pairs ws)).0 ts).1 (record { plan = (stay ts).1 L.plan; before = λ s P. L.before s ((stay s).0 P) })
