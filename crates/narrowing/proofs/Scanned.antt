-- The table of the scans, and that it gives the narrowing where there is a plan.
use Rattle.std.proofs.Common.{◌≡◌, ℕ, suc, ◌+◌, ◌-◌, ◌*◌, ◌<◌, ◌≤◌, List, [], ◌∷◌, map, length, get_or, sym, refl, ap, ◌∙◌, inl, inr, arith}
use Rattle.std.proofs.lemmas.Bool.{cases_eq}
use Rattle.plans.specs.Plans.{Window, Pair, fewest, Plan}
use Rattle.plans.specs.Needs.{Within, Proper, NeedLeft, NeedRight}
use Rattle.plans.specs.Narrowing.{window, narrowed}
use Rattle.plans.specs.Tight.{Ready, Earliest, Latest, scan_up, scan_down, lowest, highest}
use Rattle.plans.proofs.Close.{assigned_at}
use Rattle.plans.proofs.Exists.{plan_exists}
use Rattle.plans.proofs.NeedRight.{needs_meet}
use Rattle.plans.proofs.Scan.{lowest_smallest, highest_largest}
use Rattle.plans.proofs.Scanned.{narrowed_scanned}
use Rattle.narrowing.specs.Counting.{tabled}
use Rattle.narrowing.specs.Scanning.{low_day, Lows, Highs, found, Shorter}
use Rattle.narrowing.proofs.Windows.{window_at}
use Rattle.narrowing.proofs.ScanSteps.{low_one, high_one}

-- the lowest days are still there once the highest are in
pub lows_kept : (d : ℕ) (earliest latest xs ys : List ℕ) → Lows d earliest xs → Highs d latest ys
    → ((a b : ℕ) → a < b → b < d → get_or ys (b * 128 + a) 0 ≡ get_or xs (b * 128 + a) 0) → Lows d earliest ys
lows_kept d earliest latest xs ys L H same a b h l =
    elim (cases_eq a b) [
      | inl e ↦
          ap (λ j. get_or ys (b * 128 + j) 0) e ∙ H b b (omega arith) l ∙ high_one (tabled latest) b ∙ sym (low_one (tabled earliest) b)
          ∙ ap (λ j. low_day (tabled earliest) j b) (sym e)
      | inr ne ↦ same a b (omega arith) l ∙ L a b h l
    ]

module _ (k d : ℕ) (earliest latest table : List ℕ) (L : Lows d earliest table) (H : Highs d latest table) where
  -- the table gives the two scans
  pub found_scanned : (w : Window) → k ≤ w.0 → w.0 ≤ w.1 → w.1 < k + d → found k table w ≡ (lowest k (tabled earliest) w, highest k (tabled latest) w)
  found_scanned w begins ordered ends =
      let a = w.0 - k in
      let b = w.1 - k in
      let n : b - a ≡ w.1 - w.0 = omega arith in
      let low : get_or table (b * 128 + a) 0 ≡ scan_up (tabled earliest) a (suc a) (w.1 - w.0) = L a b (omega arith) (omega arith) ∙ ap (scan_up (tabled earliest) a (suc a)) n in
      let high : get_or table (a * 128 + b) 0 ≡ scan_down (tabled latest) b a (w.1 - w.0) = H a b (omega arith) (omega arith) ∙ ap (scan_down (tabled latest) b a) n in
      rw (low, high)

  pub found_all : (ws : List Window) → Within k d ws → map (found k table) ws ≡ map (λ w. (lowest k (tabled earliest) w, highest k (tabled latest) w)) ws
  found_all [] W = refl
  found_all (w ∷ ws) W = rw (found_scanned w W.0 W.1 W.2, found_all ws W.3)

-- where there is a plan, the needs are those that the narrowing asks for
pub ready : (k : ℕ) (pairs : List Pair) (ws : List Window) (M N : ℕ → ℕ) → Proper k pairs ws → ((ts : List ℕ) × Plan k pairs ws ts)
    → NeedLeft k (length pairs) (fewest pairs) ws M → NeedRight k (length pairs) (fewest pairs) ws N → Ready k pairs ws M N
ready k pairs ws M N P plan left right =
    let r = (plan_exists k pairs ws M P left).0 plan in
    record { proper = P; left = left; right = right; roomy = r.0; fits = r.1 }

pub needs_within : (k : ℕ) (pairs : List Pair) (ws : List Window) (M N : ℕ → ℕ) → Ready k pairs ws M N → (v : ℕ) → v ≤ length pairs → M v + N v ≤ length ws
needs_within k pairs ws M N Y v h = omega (arith, needs_meet k (length pairs) (fewest pairs) ws M N Y.left Y.right v h, Y.fits)

module _ (k : ℕ) (pairs : List Pair) (ws : List Window) (M N : ℕ → ℕ) (earliest latest table : List ℕ) (Y : Ready k pairs ws M N)
    (plan : (ts : List ℕ) × Plan k pairs ws ts) (E : Earliest k pairs ws M N (tabled earliest)) (F : Latest k pairs ws M N (tabled latest))
    (L : Lows (length pairs) earliest table) (H : Highs (length pairs) latest table) where
  -- the day of a plan stands in the window that the table gives, and that one ends on a day of a plan
  pub found_shorter : Shorter k table ws
  found_shorter i h =
      let w = window ws i in
      let s = window_at k (length pairs) ws i Y.proper.within h in
      let e = found_scanned k (length pairs) earliest latest table L H w s.0 s.1 s.2 in
      let low = lowest_smallest k pairs ws M N (tabled earliest) Y E i h in
      let high = highest_largest k pairs ws M N (tabled latest) Y F i h in
      let last = high.possible in
      let in_window = assigned_at ws last.0 i last.1.assigned h in
      let first = ap (λ v. v.0) e in
      let end = ap (λ v. v.1) e in
      (omega (arith, low.none_before plan.0 plan.1, high.none_after plan.0 plan.1), omega (arith, last.2, in_window.1))

  pub found_narrowed : map (found k table) ws ≡ narrowed k pairs ws
  found_narrowed = found_all k (length pairs) earliest latest table L H ws Y.proper.within ∙ sym (narrowed_scanned k pairs ws M N (tabled earliest) (tabled latest) Y E F)
