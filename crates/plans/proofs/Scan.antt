-- The scans find the smallest and the largest day of a place in any plan.
use Rattle.std.proofs.Common.{◌≡◌, ℕ, zero, suc, ◌+◌, ◌-◌, ◌<◌, ◌≤◌, ltb, leb, List, length, refl, inl, inr, arith}
use Rattle.std.proofs.lemmas.Bool.{cases_lt, cases_eq, cases_Bool, leb-true, leb-false, ltb-true, ltb-false}
use Rattle.plans.specs.Plans.{Window, Pair, Plan}
use Rattle.plans.specs.Narrowing.{window, entry, Smallest, Largest}
use Rattle.plans.specs.Tight.{Ready, Free, Earliest, Latest, scan_up, lowest, scan_down, highest, LowestSmallest, HighestLargest}
use Rattle.plans.proofs.Exists.{plan_exists}
use Rattle.plans.proofs.Close.{within_at, assigned_at}
use Rattle.plans.proofs.Tight.{day_possible}

module _ (t₀ : ℕ) (pairs : List Pair) (ws : List Window) (M N m : ℕ → ℕ) (Y : Ready t₀ pairs ws M N) (i : ℕ) (h : i < length ws) where
  -- the window is t₀ + a to t₀ + b
  abbrev w : Window
  w = window ws i

  abbrev a : ℕ
  a = w.0 - t₀

  abbrev b : ℕ
  b = w.1 - t₀

  bounds : (t₀ + a ≡ w.0) × (t₀ + b ≡ w.1) × (a ≤ b) × (b < length pairs) × (b - a ≡ w.1 - w.0)
  bounds =
      let s = within_at t₀ (length pairs) ws i Y.proper.within h in
      (omega arith, omega arith, omega arith, omega arith, omega arith)

  -- the day that a plan gives place i
  plan_free : (ts : List ℕ) → Plan t₀ pairs ws ts → Free t₀ pairs ws M N w (entry ts i)
  plan_free ts P = let r = assigned_at ws ts i P.assigned h in (day_possible t₀ pairs ws M N Y i h (entry ts i) r.0 r.1).0 (ts, P, refl)

  some_plan : (ts : List ℕ) × Plan t₀ pairs ws ts
  some_plan = (plan_exists t₀ pairs ws M Y.proper Y.left).1 (Y.roomy, Y.fits)

  module _ (E : Earliest t₀ pairs ws M N m) where
    -- no plan has a day that the scan has passed
    up_below : (t : ℕ) → Free t₀ pairs ws M N w t → (n q low : ℕ) → low < q → q + n ≡ suc b → t₀ + low ≤ t → t₀ + scan_up m low q n ≤ t
    up_below t F zero q low k e l = l
    up_below t F (suc n) q low k e l =
        elim (cases_Bool (leb (m q) low)) [
          | inl f ↦
              let g : m q ≤ low = leb-true (m q) low f in
              let s = bounds in
              let j : t₀ + q ≤ t =
              elim (cases_lt t (t₀ + q)) [
                | inl o ↦ absurd (let r = F (m q) q (omega arith) o (omega arith) (E.tight q (omega arith) (omega arith)) in omega arith)
                | inr o ↦ o
              ] in
              rw f (up_below t F n (suc q) q (omega arith) (omega arith) j)
          | inr f ↦ rw f (up_below t F n (suc q) low (omega arith) (omega arith) l)
        ]

    -- no run that ends in the window and has the day found is tight
    UpOk : ℕ → Type 0
    UpOk r = (a ≤ r) × (r ≤ b) × ((q : ℕ) → r < q → q ≤ b → r < m q)

    up_ok : (n q low : ℕ) → low < q → a ≤ low → q + n ≡ suc b → ((v : ℕ) → low < v → v < q → low < m v) → UpOk (scan_up m low q n)
    unfolding UpOk
    up_ok zero q low k l e inv = (l, omega arith, λ v o r. inv v o (omega arith))
    up_ok (suc n) q low k l e inv =
        elim (cases_Bool (leb (m q) low)) [
          | inl f ↦ rw f (up_ok n (suc q) q (omega arith) (omega arith) (omega arith) (λ v o r. absurd (omega arith)))
          | inr f ↦
              let g : low < m q = leb-false (m q) low f in
              rw f (up_ok n (suc q) low (omega arith) l (omega arith) (λ v o r. elim (cases_eq v q) [ inl s ↦ rw s g | inr s ↦ inv v o (omega arith) ]))
        ]

    low : ℕ
    low = scan_up m a (suc a) (w.1 - w.0)

    low_below : (ts : List ℕ) → Plan t₀ pairs ws ts → t₀ + low ≤ entry ts i
    unfolding low
    low_below ts P =
        let s = bounds in
        let r = assigned_at ws ts i P.assigned h in
        up_below (entry ts i) (plan_free ts P) (w.1 - w.0) (suc a) a (omega arith) (omega arith) (omega arith)

    low_ok : UpOk low
    unfolding low
    low_ok = let s = bounds in up_ok (w.1 - w.0) (suc a) a (omega arith) (omega arith) (omega arith) (λ v o r. absurd (omega arith))

    low_free : Free t₀ pairs ws M N w (t₀ + low)
    unfolding UpOk
    low_free p q k l o g =
        let s = bounds in
        let c : b < q =
        elim (cases_lt b q) [
          | inl r ↦ r
          | inr r ↦ absurd (omega (arith, low_ok.2 q (omega arith) r, E.earliest p q (omega arith) o g))
        ] in
        let P = some_plan in
        let r = assigned_at ws P.0 i P.1.assigned h in
        let f = plan_free P.0 P.1 p q (omega (arith, low_below P.0 P.1)) (omega arith) o g in
        (f.0, omega arith)

    pub low_smallest : Smallest t₀ pairs ws i (lowest t₀ m (window ws i))
    unfolding low UpOk
    low_smallest =
        let s = bounds in
        record {
          possible = (day_possible t₀ pairs ws M N Y i h (t₀ + low) (omega (arith, low_ok.0)) (omega (arith, low_ok.1))).1 low_free;
          none_before = low_below;
        }

  module _ (E : Latest t₀ pairs ws M N m) where
    down_above : (t : ℕ) → Free t₀ pairs ws M N w t → (n high : ℕ) → t ≤ t₀ + high → t ≤ t₀ + scan_down m high a n
    down_above t F zero high l = l
    down_above t F (suc n) high l =
        elim (cases_Bool (ltb high (m (suc (a + n))))) [
          | inl f ↦
              let g : high < m (suc (a + n)) = ltb-true high (m (suc (a + n))) f in
              let s = bounds in
              let j : t ≤ t₀ + (a + n) =
              elim (cases_lt (t₀ + (a + n)) t) [
                | inl o ↦ absurd (let r = E.tight (suc (a + n)) (omega arith) in let x = F (suc (a + n)) (m (suc (a + n))) (omega arith) (omega arith) r.0 r.1 in omega arith)
                | inr o ↦ o
              ] in
              rw f (down_above t F n (a + n) j)
          | inr f ↦ rw f (down_above t F n high l)
        ]

    DownOk : ℕ → Type 0
    DownOk r = (a ≤ r) × (r ≤ b) × ((p : ℕ) → a < p → p ≤ r → m p ≤ r)

    down_ok : (n high : ℕ) → a + n ≤ high → high ≤ b → ((v : ℕ) → a + n < v → v ≤ high → m v ≤ high) → DownOk (scan_down m high a n)
    unfolding DownOk
    down_ok zero high k l inv = (omega arith, l, λ v o r. inv v (omega arith) r)
    down_ok (suc n) high k l inv =
        elim (cases_Bool (ltb high (m (suc (a + n))))) [
          | inl f ↦ rw f (down_ok n (a + n) (omega arith) (omega arith) (λ v o r. absurd (omega arith)))
          | inr f ↦
              let g : m (suc (a + n)) ≤ high = ltb-false high (m (suc (a + n))) f in
              rw f (down_ok n high (omega arith) l (λ v o r. elim (cases_eq v (suc (a + n))) [ inl s ↦ rw s g | inr s ↦ inv v (omega arith) r ]))
        ]

    high : ℕ
    high = scan_down m b a (w.1 - w.0)

    high_above : (ts : List ℕ) → Plan t₀ pairs ws ts → entry ts i ≤ t₀ + high
    unfolding high
    high_above ts P =
        let s = bounds in
        let r = assigned_at ws ts i P.assigned h in
        down_above (entry ts i) (plan_free ts P) (w.1 - w.0) b (omega arith)

    high_ok : DownOk high
    unfolding high
    high_ok = let s = bounds in down_ok (w.1 - w.0) b (omega arith) (omega arith) (λ v o r. absurd (omega arith))

    high_free : Free t₀ pairs ws M N w (t₀ + high)
    unfolding DownOk
    high_free p q k l o g =
        let s = bounds in
        let c : p ≤ a =
        elim (cases_lt a p) [
          | inr r ↦ r
          | inl r ↦ absurd (omega (arith, high_ok.2 p r (omega arith), E.latest p q (omega arith) o g))
        ] in
        let P = some_plan in
        let r = assigned_at ws P.0 i P.1.assigned h in
        let f = plan_free P.0 P.1 p q (omega arith) (omega (arith, high_above P.0 P.1)) o g in
        (omega arith, f.1)

    pub high_largest : Largest t₀ pairs ws i (highest t₀ m (window ws i))
    unfolding high DownOk
    high_largest =
        let s = bounds in
        record {
          possible = (day_possible t₀ pairs ws M N Y i h (t₀ + high) (omega (arith, high_ok.0)) (omega (arith, high_ok.1))).1 high_free;
          none_after = high_above;
        }

pub lowest_smallest : LowestSmallest
lowest_smallest t₀ pairs ws M N m Y E i h = low_smallest t₀ pairs ws M N m Y i h E

pub highest_largest : HighestLargest
highest_largest t₀ pairs ws M N m Y E i h = high_largest t₀ pairs ws M N m Y i h E
