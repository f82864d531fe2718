-- Sets of days by their marks: which windows miss them, and what their days need.
use Rattle.std.proofs.Common.{◌≡◌, ℕ, zero, suc, ◌+◌, ◌-◌, ◌<◌, ◌≤◌, Bool, true, false, cond, not, ◌&&◌, ◌||◌, eqb, ltb, leb, List, [], ◌∷◌, ◌++◌, length, get_or, set, sym, refl, ap, ◌∙◌, inl, inr, arith}
use Rattle.std.proofs.lemmas.List.{get_or-set_same, get_or-set_other}
use Rattle.std.proofs.lemmas.Bool.{cases_lt, cases_eq, eq-eqb, ne_eqb, le-leb, le-ltb}
use Rattle.std.proofs.lemmas.Bool.Decides.{nat_tests}
use Rattle.plans.specs.Plans.{Window, Pair, from, days, tick, fewest}
use Rattle.plans.specs.Runs.{lies, inside, total}
use Rattle.plans.specs.Sets.{in_set, some_day, having, needed}
use Rattle.plans.specs.Needs.{Within}
use Rattle.plans.proofs.Windows.{total_grows}
use Rattle.plans.proofs.Sets.{some_same, some_none}
use Rattle.narrowing.specs.Counting.{tabled}

-- a day of the range is in the set if its mark is 1
pub in_set_at : (k : ℕ) (marks : List ℕ) (v : ℕ) → in_set k marks (k + v) ≡ eqb (get_or marks v 0) 1
in_set_at k marks v =
    let e : k + v - k ≡ v = omega arith in
    rw (le-leb k (k + v) (omega arith), e)

-- how many windows begin on day t or later and miss the set
abbrev pub missing : (ℕ → Bool) → ℕ → List Window → ℕ
missing S t [] = 0
missing S t (w ∷ ws) = tick (leb t w.0 && not (some_day S (days w))) + missing S t ws

pub missing_rest : (S : ℕ → Bool) (t : ℕ) (ws : List Window) → missing S t ws + having S ws ≤ length ws
missing_rest S t [] = omega arith
missing_rest S t (w ∷ ws) = omega (arith, go (some_day S (days w)), missing_rest S t ws)
  where
    go : (b : Bool) → tick (leb t w.0 && not b) + tick b ≤ 1
    go b = grind arith

day_one : (S S' : ℕ → Bool) (t : ℕ) (w : Window) → ((u : ℕ) → t < u → S' u ≡ S u)
    → tick (leb (suc t) w.0 && not (some_day S (days w))) ≤ tick (leb t w.0 && not (some_day S' (days w)))
day_one S S' t w same =
    elim (cases_lt t w.0) [
      | inl h ↦
          let e : some_day S' (days w) ≡ some_day S (days w) = some_same S' S w.0 (suc w.1 - w.0) (λ u l m. same u (omega arith)) in
          rw e (go (some_day S (days w)) h)
      | inr h ↦ ho (some_day S (days w)) h (tick (leb t w.0 && not (some_day S' (days w))))
    ]
  where
    go : (b : Bool) → t < w.0 → tick (leb (suc t) w.0 && not b) ≤ tick (leb t w.0 && not b)
    go b h = grind arith

    ho : (b : Bool) → w.0 ≤ t → (n : ℕ) → tick (leb (suc t) w.0 && not b) ≤ n
    ho b h n = grind arith

-- a day before all windows that are counted may join the set
pub missing_day : (S S' : ℕ → Bool) (t : ℕ) (ws : List Window) → ((u : ℕ) → t < u → S' u ≡ S u) → missing S (suc t) ws ≤ missing S' t ws
missing_day S S' t [] same = omega arith
missing_day S S' t (w ∷ ws) same = omega (arith, day_one S S' t w same, missing_day S S' t ws same)

run_one : (S : ℕ → Bool) (p q : ℕ) (w : Window) → ((t : ℕ) → t < q → S t ≡ false) → w.0 ≤ w.1 → p ≤ q
    → tick (leb q w.0 && not (some_day S (days w))) + tick (lies p q w) ≤ tick (leb p w.0 && not (some_day S (days w)))
run_one S p q w none h k = go (some_day S (days w)) early
  where
    early : w.1 < q → some_day S (days w) ≡ false
    early l =
        some_same S (λ _. false) w.0 (suc w.1 - w.0) (λ t i j. none t (omega arith))
        ∙ some_none (λ _. false) w.0 (suc w.1 - w.0) (λ t i. refl)

    go : (b : Bool) → (w.1 < q → b ≡ false) → tick (leb q w.0 && not b) + tick (lies p q w) ≤ tick (leb p w.0 && not b)
    go b e = grind arith

-- a run before the set's first day adds the windows inside it
pub missing_run : (k d : ℕ) (S : ℕ → Bool) (p q : ℕ) (ws : List Window) → Within k d ws → ((t : ℕ) → t < q → S t ≡ false) → p ≤ q
    → missing S q ws + inside ws p q ≤ missing S p ws
missing_run k d S p q [] W none h = omega arith
missing_run k d S p q (w ∷ ws) W none h = omega (arith, run_one S p q w none W.1 h, missing_run k d S p q ws W.3 none h)

-- a sum with one term that grows
total_one : (f g : ℕ → ℕ) (u x n : ℕ) → u < n → f u ≡ g u + x → ((v : ℕ) → (v ≡ u → ⊥) → f v ≡ g v) → total f n ≡ total g n + x
total_one f g u x n h e same = elim (cases_lt u n) [ inl l ↦ done n l | inr l ↦ absurd (omega arith) ]
  where
    until : (n : ℕ) → n ≤ u → total f n ≡ total g n
    until zero l = refl
    until (suc n) l = omega (arith, until n (omega arith), same n (λ i. omega arith))

    done : (n : ℕ) → u < n → total f n ≡ total g n + x
    done zero l = absurd (omega arith)
    done (suc n) l =
        elim (cases_eq n u) [
          | inl i ↦
              let a : f n ≡ f u = ap f i in
              let b : g n ≡ g u = ap g i in
              omega (arith, until n (omega arith))
          | inr i ↦ omega (arith, done n (omega arith), same n i)
        ]

-- a day that is marked adds its fewest
pub needed_day : (k : ℕ) (marks : List ℕ) (pairs : List Pair) (u : ℕ) → u < length pairs → u < length marks → get_or marks u 0 ≡ 0
    → needed k (set marks u 1) pairs ≡ needed k marks pairs + fewest pairs u
needed_day k marks pairs u h l z =
    total_one (λ v. cond (in_set k (set marks u 1) (k + v)) (fewest pairs v) 0) (λ v. cond (in_set k marks (k + v)) (fewest pairs v) 0) u (fewest pairs u) (length pairs) h
    here
    (λ v ne. ap (λ b. cond b (fewest pairs v) 0) (in_set_at k (set marks u 1) v ∙ ap (λ m. eqb m 1) (get_or-set_other marks u v 1 0 ne) ∙ sym (in_set_at k marks v)))
  where
    here : cond (in_set k (set marks u 1) (k + u)) (fewest pairs u) 0 ≡ cond (in_set k marks (k + u)) (fewest pairs u) 0 + fewest pairs u
    here =
        let a : in_set k (set marks u 1) (k + u) ≡ true = in_set_at k (set marks u 1) u ∙ eq-eqb (get_or (set marks u 1) u 0) 1 (get_or-set_same marks u 1 0 l) in
        let b : in_set k marks (k + u) ≡ false = in_set_at k marks u ∙ ne_eqb (get_or marks u 0) 1 (λ e. omega arith) in
        rw (a, b) (omega arith)

-- later days stay in or out when a day is marked
pub day_later : (k : ℕ) (marks : List ℕ) (u t : ℕ) → k + u < t → in_set k (set marks u 1) t ≡ in_set k marks t
day_later k marks u t h = ap (λ m. leb k t && eqb m 1) (get_or-set_other marks u (t - k) 1 0 (λ e. omega arith))

-- no day before the first mark is in the set
pub day_before : (k : ℕ) (marks : List ℕ) (v t : ℕ) → ((j : ℕ) → j < v → get_or marks j 0 ≡ 0) → t < k + v → in_set k marks t ≡ false
day_before k marks v t none h =
    elim (cases_lt t k) [
      | inl l ↦ early (eqb (get_or marks (t - k) 0) 1) l
      | inr l ↦
          let z = none (t - k) (omega arith) in
          rw (ne_eqb (get_or marks (t - k) 0) 1 (λ e. omega arith)) (late (leb k t))
    ]
  where
    early : (b : Bool) → t < k → (leb k t && b) ≡ false
    early b l = grind arith

    late : (b : Bool) → (b && false) ≡ false
    late true = refl
    late false = refl

-- a window has a marked day if there are more marks before its end than before its beginning
pub some_by_sums : (k : ℕ) (marks : List ℕ) → ((v : ℕ) → get_or marks v 0 ≤ 1) → (a n : ℕ)
    → some_day (in_set k marks) (from (k + a) n) ≡ ltb (total (tabled marks) a) (total (tabled marks) (a + n))
some_by_sums k marks bits a zero = let e : a + 0 ≡ a = omega arith in rw e (sym (le-ltb (total (tabled marks) a) (total (tabled marks) a) (omega arith)))
some_by_sums k marks bits a (suc n) =
    let e : suc (k + a) ≡ k + suc a = omega arith in
    let f : a + suc n ≡ suc a + n = omega arith in
    rw (in_set_at k marks a, e, f, some_by_sums k marks bits (suc a) n)
    (go (get_or marks a 0) (bits a) (total (tabled marks) a) (total (tabled marks) (suc a + n)) (total_grows (tabled marks) (suc a) (suc a + n) (omega arith)))
  where
    go : (m : ℕ) → m ≤ 1 → (x y : ℕ) → x + m ≤ y → (eqb m 1 || ltb (x + m) y) ≡ ltb x y
    go m h x y l = grind (arith, nat_tests)

pub having_push : (S : ℕ → Bool) (ws : List Window) (w : Window) → having S (ws ++ w ∷ []) ≡ having S ws + tick (some_day S (days w))
having_push S [] w = omega arith
having_push S (v ∷ ws) w = omega (arith, having_push S ws w)
