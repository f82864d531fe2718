-- Narrowing is the two scans of each window.
use Rattle.std.proofs.Common.{◌≡◌, ℕ, suc, ◌+◌, ◌<◌, List, [], ◌∷◌, map, length, refl, arith}
use Rattle.plans.specs.Plans.{Window, from}
use Rattle.plans.specs.Narrowing.{window, narrowed_at}
use Rattle.plans.specs.Tight.{lowest, highest, NarrowedScanned}
use Rattle.plans.proofs.Exists.{plan_exists}
use Rattle.plans.proofs.Narrowing.{narrowed_means}
use Rattle.plans.proofs.Scan.{lowest_smallest, highest_largest}

-- a list made place by place, where each place has what its window gives
place_by_place : (f : ℕ → Window) (g : Window → Window) (ws : List Window) (a : ℕ) → ((i : ℕ) → i < length ws → f (a + i) ≡ g (window ws i))
    → map f (from a (length ws)) ≡ map g ws
place_by_place f g [] a h = refl
place_by_place f g (w ∷ ws) a h =
    let z : a + 0 ≡ a = omega arith in
    let here : f a ≡ g w = rw z at (h 0 (omega arith)) in
    let rest : (i : ℕ) → i < length ws → f (suc a + i) ≡ g (window ws i) =
    λ i k. let e : a + suc i ≡ suc a + i = omega arith in rw e at (h (suc i) (omega arith)) in
    rw (here, place_by_place f g ws (suc a) rest)

pub narrowed_scanned : NarrowedScanned
narrowed_scanned t₀ pairs ws M N early late Y E L =
    let P = (plan_exists t₀ pairs ws M Y.proper Y.left).1 (Y.roomy, Y.fits) in
    place_by_place (narrowed_at t₀ pairs ws) (λ w. (lowest t₀ early w, highest t₀ late w)) ws 0 (λ i h.
    let z : 0 + i ≡ i = omega arith in
    let w = window ws i in
    let low = (narrowed_means t₀ pairs ws P.0 P.1 i (lowest t₀ early w)).0.1 (lowest_smallest t₀ pairs ws M N early Y E i h) in
    let high = (narrowed_means t₀ pairs ws P.0 P.1 i (highest t₀ late w)).1.1 (highest_largest t₀ pairs ws M N late Y L i h) in
    let pair : narrowed_at t₀ pairs ws i ≡ (lowest t₀ early w, highest t₀ late w) = rw (low, high) in
    rw z pair)
