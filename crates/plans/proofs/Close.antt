-- A window closed to one of its days.
use Rattle.std.proofs.Common.{◌≡◌, ℕ, zero, suc, ◌+◌, ◌<◌, ◌≤◌, ◌⊎◌, List, [], ◌∷◌, length, set, inl, inr, arith}
use Rattle.plans.specs.Plans.{Window, Assignment, tick}
use Rattle.plans.specs.Runs.{lies, inside}
use Rattle.plans.specs.Needs.{Within, forced}
use Rattle.plans.specs.Narrowing.{window, entry}
use Rattle.plans.proofs.Windows.{lies_yes, lies_early, lies_late}

abbrev pub close : List Window → ℕ → ℕ → List Window
close ws i t = set ws i (t, t)

pub within_at : (t₀ d : ℕ) (ws : List Window) (i : ℕ) → Within t₀ d ws → i < length ws
    → (t₀ ≤ (window ws i).0) × ((window ws i).0 ≤ (window ws i).1) × ((window ws i).1 < t₀ + d)
within_at t₀ d [] i W h = absurd (omega arith)
within_at t₀ d (w ∷ ws) zero W h = (W.0, W.1, W.2)
within_at t₀ d (w ∷ ws) (suc i) W h = within_at t₀ d ws i W.3 (omega arith)

pub close_within : (t₀ d : ℕ) (ws : List Window) (i t : ℕ) → Within t₀ d ws → t₀ ≤ t → t < t₀ + d → Within t₀ d (close ws i t)
close_within t₀ d [] i t W h k = tt
close_within t₀ d (w ∷ ws) zero t W h k = (h, omega arith, k, W.3)
close_within t₀ d (w ∷ ws) (suc i) t W h k = (W.0, W.1, W.2, close_within t₀ d ws i t W.3 h k)

close_inside : (ws : List Window) (i t p q : ℕ) → i < length ws
    → inside (close ws i t) p q + tick (lies p q (window ws i)) ≡ inside ws p q + tick (lies p q (t, t))
close_inside [] i t p q h = absurd (omega arith)
close_inside (w ∷ ws) zero t p q h = omega arith
close_inside (w ∷ ws) (suc i) t p q h = omega (arith, close_inside ws i t p q (omega arith))

-- an assignment gives each place a day of its window
pub assigned_at : (ws : List Window) (ts : List ℕ) (i : ℕ) → Assignment ws ts → i < length ws → ((window ws i).0 ≤ entry ts i) × (entry ts i ≤ (window ws i).1)
assigned_at [] ts i a h = absurd (omega arith)
assigned_at (w ∷ ws) [] i a h = absurd a
assigned_at (w ∷ ws) (t ∷ ts) zero a h = (a.0, a.1)
assigned_at (w ∷ ws) (t ∷ ts) (suc i) a h = assigned_at ws ts i a.2 (omega arith)

-- those that give a place the day t are those of the windows with that place closed to t
pub assigned_close : (ws : List Window) (ts : List ℕ) (i t : ℕ) → Assignment ws ts → entry ts i ≡ t → Assignment (close ws i t) ts
assigned_close [] ts i t a e = a
assigned_close (w ∷ ws) [] i t a e = absurd a
assigned_close (w ∷ ws) (s ∷ ts) zero t a e = (omega arith, omega arith, a.2)
assigned_close (w ∷ ws) (s ∷ ts) (suc i) t a e = (a.0, a.1, assigned_close ws ts i t a.2 e)

pub assigned_open : (ws : List Window) (ts : List ℕ) (i t : ℕ) → i < length ws → (window ws i).0 ≤ t → t ≤ (window ws i).1 → Assignment (close ws i t) ts
    → Assignment ws ts × (entry ts i ≡ t)
assigned_open [] ts i t h k l a = absurd (omega arith)
assigned_open (w ∷ ws) [] zero t h k l a = absurd a
assigned_open (w ∷ ws) [] (suc i) t h k l a = absurd a
assigned_open (w ∷ ws) (s ∷ ts) zero t h k l a = ((omega arith, omega arith, a.2), omega arith)
assigned_open (w ∷ ws) (s ∷ ts) (suc i) t h k l a = let r = assigned_open ws ts i t (omega arith) k l a.2 in ((a.0, a.1, r.0), r.1)

-- what a run is forced to hold grows by one if it has day t and not the whole window, and stays otherwise
module _ (t₀ : ℕ) (ws : List Window) (i t : ℕ) (h : i < length ws) (k : (window ws i).0 ≤ t) (l : t ≤ (window ws i).1) where
  ticks : (p q : ℕ) → forced t₀ (close ws i t) p q + tick (lies (t₀ + p) (t₀ + q) (window ws i)) ≡ forced t₀ ws p q + tick (lies (t₀ + p) (t₀ + q) (t, t))
  ticks p q = close_inside ws i t (t₀ + p) (t₀ + q) h

  pub splits_grow : (p q : ℕ) → t₀ + p ≤ t → t < t₀ + q → ((window ws i).0 < t₀ + p) ⊎ (t₀ + q ≤ (window ws i).1)
      → forced t₀ (close ws i t) p q ≡ suc (forced t₀ ws p q)
  splits_grow p q m n (inl o) = omega (arith, ticks p q, lies_early (t₀ + p) (t₀ + q) (window ws i) o, lies_yes (t₀ + p) (t₀ + q) (t, t) m n)
  splits_grow p q m n (inr o) = omega (arith, ticks p q, lies_late (t₀ + p) (t₀ + q) (window ws i) o, lies_yes (t₀ + p) (t₀ + q) (t, t) m n)

  pub stays_early : (p q : ℕ) → t < t₀ + p → forced t₀ (close ws i t) p q ≡ forced t₀ ws p q
  stays_early p q m = omega (arith, ticks p q, lies_early (t₀ + p) (t₀ + q) (window ws i) (omega arith), lies_early (t₀ + p) (t₀ + q) (t, t) m)

  pub stays_late : (p q : ℕ) → t₀ + q ≤ t → forced t₀ (close ws i t) p q ≡ forced t₀ ws p q
  stays_late p q m = omega (arith, ticks p q, lies_late (t₀ + p) (t₀ + q) (window ws i) (omega arith), lies_late (t₀ + p) (t₀ + q) (t, t) m)

  pub stays_inside : (p q : ℕ) → t₀ + p ≤ (window ws i).0 → (window ws i).1 < t₀ + q → forced t₀ (close ws i t) p q ≡ forced t₀ ws p q
  stays_inside p q m n =
      omega (arith, ticks p q, lies_yes (t₀ + p) (t₀ + q) (window ws i) m n, lies_yes (t₀ + p) (t₀ + q) (t, t) (omega arith) (omega arith))
