-- Sets of days as functions: which windows meet them, and that a set given by marks is such.
use Rattle.std.proofs.Common.{◌≡◌, ℕ, zero, suc, ◌+◌, ◌-◌, ◌<◌, ◌≤◌, Bool, true, false, cond, ◌||◌, eqb, List, [], ◌∷◌, length, get_or, refl, ap, inl, inr, arith}
use Rattle.std.proofs.lemmas.Bool.{cases_lt, le-leb}
use Rattle.plans.specs.Plans.{Window, Pair, from, days, tick, fewest}
use Rattle.plans.specs.Runs.{total}
use Rattle.plans.specs.Sets.{in_set, marks_of, some_day, having, meeting, needed, Marks, ShowsShortage}
use Rattle.plans.specs.Needs.{Within}

pub some_yes : (S : ℕ → Bool) (a n t : ℕ) → a ≤ t → t < a + n → S t ≡ true → some_day S (from a n) ≡ true
some_yes S a zero t h k e = absurd (omega arith)
some_yes S a (suc n) t h k e =
    elim (cases_lt a t) [
      | inl l ↦ let r = some_yes S (suc a) n t l (omega arith) e in rw r (go (S a))
      | inr l ↦ let f : t ≡ a = omega arith in let g : S a ≡ true = rw f at e in rw g
    ]
  where
    go : (b : Bool) → (b || true) ≡ true
    go true = refl
    go false = refl

pub some_none : (S : ℕ → Bool) (a n : ℕ) → ((t : ℕ) → a ≤ t → S t ≡ false) → some_day S (from a n) ≡ false
some_none S a zero q = refl
some_none S a (suc n) q = rw (q a (omega arith)) (some_none S (suc a) n (λ t h. q t (omega arith)))

pub some_same : (S S' : ℕ → Bool) (a n : ℕ) → ((t : ℕ) → a ≤ t → t < a + n → S t ≡ S' t) → some_day S (from a n) ≡ some_day S' (from a n)
some_same S S' a zero q = refl
some_same S S' a (suc n) q = rw (q a (omega arith) (omega arith), some_same S S' (suc a) n (λ t h l. q t (omega arith) (omega arith)))

pub having_same : (S S' : ℕ → Bool) (t₀ d : ℕ) (ws : List Window) → Within t₀ d ws → ((t : ℕ) → t₀ ≤ t → t < t₀ + d → S t ≡ S' t) → having S ws ≡ having S' ws
having_same S S' t₀ d [] W q = refl
having_same S S' t₀ d (w ∷ ws) W q =
    let e : some_day S (days w) ≡ some_day S' (days w) =
    some_same S S' w.0 (suc w.1 - w.0) (λ t h l. q t (omega arith) (omega arith)) in
    rw (e, having_same S S' t₀ d ws W.3 q)

pub total_same : (f g : ℕ → ℕ) (n : ℕ) → ((v : ℕ) → v < n → f v ≡ g v) → total f n ≡ total g n
total_same f g zero h = refl
total_same f g (suc n) h = omega (arith, total_same f g n (λ v l. h v (omega arith)), h n (omega arith))

-- the sum of the fewests of the first d days that are in the set
abbrev pub needs_of : (ℕ → Bool) → ℕ → (ℕ → ℕ) → ℕ → ℕ
needs_of S t₀ ls d = total (λ v. cond (S (t₀ + v)) (ls v) 0) d

-- the marks of a set
pub marks_long : (S : ℕ → Bool) (t₀ d : ℕ) → length (marks_of S t₀ d) ≡ d
marks_long S t₀ zero = refl
marks_long S t₀ (suc d) = omega (arith, marks_long S (suc t₀) d)

pub tick_small : (b : Bool) → tick b ≤ 1
tick_small true = omega arith
tick_small false = omega arith

marks_small : (S : ℕ → Bool) (t₀ d v : ℕ) → get_or (marks_of S t₀ d) v 0 ≤ 1
marks_small S t₀ zero v = omega arith
marks_small S t₀ (suc d) zero = tick_small (S t₀)
marks_small S t₀ (suc d) (suc v) = marks_small S (suc t₀) d v

pub marks_at : (S : ℕ → Bool) (t₀ d v : ℕ) → v < d → get_or (marks_of S t₀ d) v 0 ≡ tick (S (t₀ + v))
marks_at S t₀ zero v h = absurd (omega arith)
marks_at S t₀ (suc d) zero h = let e : t₀ + 0 ≡ t₀ = omega arith in rw e
marks_at S t₀ (suc d) (suc v) h =
    let e : t₀ + suc v ≡ suc t₀ + v = omega arith in
    rw e (marks_at S (suc t₀) d v (omega arith))

pub marks_are : (S : ℕ → Bool) (t₀ d : ℕ) → Marks d (marks_of S t₀ d)
marks_are S t₀ d = record { long = marks_long S t₀ d; marked = marks_small S t₀ d }

marked : (b : Bool) → eqb (tick b) 1 ≡ b
marked true = refl
marked false = refl

pub in_marks : (S : ℕ → Bool) (t₀ d t : ℕ) → t₀ ≤ t → t < t₀ + d → in_set t₀ (marks_of S t₀ d) t ≡ S t
in_marks S t₀ d t h k =
    let e : t₀ + (t - t₀) ≡ t = omega arith in
    rw (le-leb t₀ t h, marks_at S t₀ d (t - t₀) (omega arith), e) (marked (S t))

-- a set that shows a shortage as a function shows it as marks
pub shown_by_marks : (S : ℕ → Bool) (t₀ : ℕ) (pairs : List Pair) (ws : List Window) → Within t₀ (length pairs) ws
    → having S ws < needs_of S t₀ (fewest pairs) (length pairs)
    → (marks : List ℕ) × Marks (length pairs) marks × ShowsShortage t₀ pairs ws marks
shown_by_marks S t₀ pairs ws W h =
    let d = length pairs in
    let marks = marks_of S t₀ d in
    let met : meeting t₀ marks ws ≡ having S ws = having_same (in_set t₀ marks) S t₀ d ws W (λ t k l. in_marks S t₀ d t k l) in
    let sums : needed t₀ marks pairs ≡ needs_of S t₀ (fewest pairs) d =
    total_same (λ v. cond (in_set t₀ marks (t₀ + v)) (fewest pairs v) 0) (λ v. cond (S (t₀ + v)) (fewest pairs v) 0) d
    (λ v k. ap (λ b. cond b (fewest pairs v) 0) (in_marks S t₀ d (t₀ + v) (omega arith) (omega arith))) in
    (marks, marks_are S t₀ d, omega arith)
