-- How many windows begin and end where, and how the counts of runs grow from that.
use Rattle.std.proofs.Common.{◌≡◌, ℕ, zero, suc, ◌+◌, ◌-◌, ◌*◌, ◌<◌, ◌≤◌, ◌&&◌, eqb, leb, List, [], ◌∷◌, ◌++◌, map, length, get_or, take, drop, set, sum, sym, refl, ap, ◌∙◌, inl, inr, arith}
use Rattle.std.proofs.lemmas.Bool.{cases_eq}
use Rattle.std.proofs.lemmas.List.{get_or-set_same, get_or-set_other, take_more, drop_all, length-take-le, length-map}
use Rattle.records.proofs.Windows.{told_at}
use Rattle.plans.specs.Plans.{Window, tick}
use Rattle.plans.specs.Runs.{lies, inside}
use Rattle.plans.specs.Needs.{Within, forced}
use Rattle.plans.proofs.Sets.{tick_small}
use Rattle.narrowing.specs.Counting.{matching, Tallied}
use Rattle.narrowing.proofs.Writes.{sum_drop}

-- a window at a place stands in the days
pub window_at : (k d : ℕ) (ws : List Window) (i : ℕ) → Within k d ws → i < length ws
    → (k ≤ (get_or ws i (0, 0)).0) × ((get_or ws i (0, 0)).0 ≤ (get_or ws i (0, 0)).1) × ((get_or ws i (0, 0)).1 < k + d)
window_at k d [] i W h = absurd (omega arith)
window_at k d (w ∷ ws) zero W h = (W.0, W.1, W.2)
window_at k d (w ∷ ws) (suc i) W h = window_at k d ws i W.3 (omega arith)

pub within_more : (k d e : ℕ) (ws : List Window) → d ≤ e → Within k d ws → Within k e ws
within_more k d e [] h W = tt
within_more k d e (w ∷ ws) h W = (W.0, W.1, omega (arith, W.2), within_more k d e ws h W.3)

matching_push : (ws : List Window) (w : Window) (a b : ℕ) → matching (ws ++ w ∷ []) a b ≡ matching ws a b + tick (eqb a w.0 && eqb b w.1)
matching_push [] w a b = omega arith
matching_push (v ∷ ws) w a b = omega (arith, matching_push ws w a b)

matching_le : (ws : List Window) (a b : ℕ) → matching ws a b ≤ length ws
matching_le [] a b = omega arith
matching_le (v ∷ ws) a b = omega (arith, matching_le ws a b, tick_small (eqb a v.0 && eqb b v.1))

-- the count of a cell, before all windows are in
pub matching_few : (ws : List Window) (i a b : ℕ) → i < length ws → matching (take i ws) a b ≤ i
matching_few ws i a b h = omega (arith, matching_le (take i ws) a b, length-take-le i ws (omega arith))

pub forced_le : (k : ℕ) (ws : List Window) (p q : ℕ) → forced k ws p q ≤ length ws
forced_le k [] p q = omega arith
forced_le k (w ∷ ws) p q = omega (arith, forced_le k ws p q, tick_small (lies (k + p) (k + q) w))

-- one window more in the table
pub tally_more : (k : ℕ) (ws : List Window) (i : ℕ) (xs : List ℕ) (w : Window) → i < length ws → w ≡ get_or ws i (0, 0)
    → k ≤ w.0 → w.0 < k + 128 → k ≤ w.1 → w.1 < k + 128 → length xs ≡ 16384 → Tallied k (take i ws) xs
    → Tallied k (take (i + 1) ws) (set xs ((w.1 - k) * 128 + (w.0 - k)) (get_or xs ((w.1 - k) * 128 + (w.0 - k)) 0 + 1))
tally_more k ws i xs w h is f f' l l' len T b hb a ha =
    let at : ℕ = (w.1 - k) * 128 + (w.0 - k) in
    let more : matching (take (i + 1) ws) (k + a) (k + b) ≡ matching (take i ws) (k + a) (k + b) + tick (eqb (k + a) w.0 && eqb (k + b) w.1) =
    ap (λ l. matching l (k + a) (k + b)) (take_more ws i (0, 0) h)
    ∙ matching_push (take i ws) (get_or ws i (0, 0)) (k + a) (k + b)
    ∙ ap (λ v. matching (take i ws) (k + a) (k + b) + tick (eqb (k + a) v.0 && eqb (k + b) v.1)) (sym is) in
    let old = T b hb a ha in
    let within : at < length xs = omega arith in
    elim (cases_eq (b * 128 + a) at) [
      | inl e ↦
          let ea : k + a ≡ w.0 = omega arith in
          let eb : k + b ≡ w.1 = omega arith in
          let one : tick (eqb (k + a) w.0 && eqb (k + b) w.1) ≡ 1 = both (k + a) (k + b) w.0 w.1 ea eb in
          let same : get_or (set xs at (get_or xs at 0 + 1)) (b * 128 + a) 0 ≡ get_or xs at 0 + 1 =
          ap (λ j. get_or (set xs at (get_or xs at 0 + 1)) j 0) e ∙ get_or-set_same xs at (get_or xs at 0 + 1) 0 within in
          let was : get_or xs (b * 128 + a) 0 ≡ get_or xs at 0 = ap (λ j. get_or xs j 0) e in
          omega arith
      | inr ne ↦
          let none : tick (eqb (k + a) w.0 && eqb (k + b) w.1) ≡ 0 = other (k + a) (k + b) w.0 w.1 (λ ea eb. ne (omega arith)) in
          let same = get_or-set_other xs at (b * 128 + a) (get_or xs at 0 + 1) 0 ne in
          omega arith
    ]
  where
    both : (a b f l : ℕ) → a ≡ f → b ≡ l → tick (eqb a f && eqb b l) ≡ 1
    both a b f l e g = grind arith

    other : (a b f l : ℕ) → (a ≡ f → b ≡ l → ⊥) → tick (eqb a f && eqb b l) ≡ 0
    other a b f l ne = grind arith

-- how many windows begin on day p or later and end on day b
abbrev since : List Window → ℕ → ℕ → ℕ
since [] p b = 0
since (w ∷ ws) p b = tick (leb p w.0 && eqb b w.1) + since ws p b

since_one : (p b : ℕ) (w : Window) → tick (leb p w.0 && eqb b w.1) ≡ tick (leb (suc p) w.0 && eqb b w.1) + tick (eqb p w.0 && eqb b w.1)
since_one p b w = grind arith

since_step : (ws : List Window) (p b : ℕ) → since ws p b ≡ since ws (suc p) b + matching ws p b
since_step [] p b = omega arith
since_step (w ∷ ws) p b = omega (arith, since_step ws p b, since_one p b w)

inside_one : (p b : ℕ) (w : Window) → tick (lies p (suc b) w) ≡ tick (lies p b w) + tick (leb p w.0 && eqb b w.1)
inside_one p b w = grind arith

inside_step : (ws : List Window) (p b : ℕ) → inside ws p (suc b) ≡ inside ws p b + since ws p b
inside_step [] p b = omega arith
inside_step (w ∷ ws) p b = omega (arith, inside_step ws p b, inside_one p b w)

none_one : (b : ℕ) (w : Window) → w.0 ≤ w.1 → tick (leb (suc b) w.0 && eqb b w.1) ≡ 0
none_one b w h = grind arith

since_none : (k d : ℕ) (ws : List Window) (b : ℕ) → Within k d ws → since ws (suc b) b ≡ 0
since_none k d [] b W = refl
since_none k d (w ∷ ws) b W = omega (arith, none_one b w W.1, since_none k d ws b W.3)

-- the sum of a row of the tally, from day p on
row_since : (k d : ℕ) (ws : List Window) (b : ℕ) (xs : List ℕ) → Within k d ws → length xs ≡ suc b
    → ((a : ℕ) → a ≤ b → get_or xs a 0 ≡ matching ws (k + a) (k + b)) → (n p : ℕ) → p + n ≡ suc b → sum (drop p xs) ≡ since ws (k + p) (k + b)
row_since k d ws b xs W len is zero p e =
    let f : k + p ≡ suc (k + b) = omega arith in
    ap sum (drop_all p xs (omega arith)) ∙ sym (since_none k d ws (k + b) W) ∙ ap (λ t. since ws t (k + b)) (sym f)
row_since k d ws b xs W len is (suc n) p e =
    let f : k + suc p ≡ suc (k + p) = omega arith in
    let g : since ws (k + suc p) (k + b) ≡ since ws (suc (k + p)) (k + b) = ap (λ t. since ws t (k + b)) f in
    omega (arith, sum_drop xs (suc p) p refl (omega arith), is p (omega arith), row_since k d ws b xs W len is n (suc p) (omega arith), since_step ws (k + p) (k + b))

-- what a row comes to, on top of what the rows before came to
pub row_grows : (k d : ℕ) (ws : List Window) (b : ℕ) (xs : List ℕ) → Within k d ws → length xs ≡ suc b
    → ((a : ℕ) → a ≤ b → get_or xs a 0 ≡ matching ws (k + a) (k + b)) → (p : ℕ) → p ≤ b
    → forced k ws p b + sum (drop p xs) ≡ forced k ws p (suc b)
row_grows k d ws b xs W len is p h =
    let e : k + suc b ≡ suc (k + b) = omega arith in
    let f : forced k ws p (suc b) ≡ inside ws (k + p) (suc (k + b)) = ap (inside ws (k + p)) e in
    omega (arith, row_since k d ws b xs W len is (suc b - p) p (omega arith), inside_step ws (k + p) (k + b))

-- the window that the record at a place tells, where all windows stand in the days
pub told_within : {X : Type 0} (span : X → Window) (k d : ℕ) (xs : List X) (i : ℕ) (x : X) (w : Window) → Within k d (map span xs)
    → i < length xs → x ≡ get_or xs i x → w ≡ span x → (k ≤ w.0) × (w.0 ≤ w.1) × (w.1 < k + d)
told_within span k d xs i x w W h is tells =
    let e = told_at span xs i x w h is tells in
    rw e (window_at k d (map span xs) i W (simp length-map h))
