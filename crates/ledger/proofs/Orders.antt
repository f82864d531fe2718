-- Lists of held orders: what entering, changing, withdrawing and letting out do to them.
use Rattle.std.proofs.Common.{◌≡◌, ℕ, suc, ◌+◌, ◌<◌, ◌≤◌, true, false, eqb, ltb, List, [], ◌∷◌, ◌++◌, map, length, sym, refl, arith}
use Rattle.std.specs.List.{AllByRecursion}
use Rattle.std.proofs.lemmas.Bool.{eqb-true, eqb-false, ltb-true, ltb-false, cond_both, or_parts}
use Rattle.std.proofs.ByRecursion.{All-map, All-weaker}
use Rattle.plans.specs.Plans.{Window, tick, count, Assignment}
use Rattle.ledger.specs.Orders.{Order, numbers, holds, enter, rewindow, without, leaving, staying}
use Rattle.ledger.specs.Ledger.{begun_at}
use Rattle.ledger.specs.Law.{Ascends}

pub count_append : (n : ℕ) (xs ys : List ℕ) → count n (xs ++ ys) ≡ count n xs + count n ys
count_append n [] ys = omega arith
count_append n (x ∷ xs) ys = omega (arith, count_append n xs ys)

pub all_both : {A : Type 0} (P Q : A → Type 0) (xs : List A) → AllByRecursion P xs → AllByRecursion Q xs → AllByRecursion (λ x. P x × Q x) xs
all_both P Q [] h k = tt
all_both P Q (x ∷ xs) h k = ((h.0, k.0), all_both P Q xs h.1 k.1)

pub all_unmap : {A B : Type 0} (P : B → Type 0) (f : A → B) (xs : List A) → AllByRecursion P (map f xs) → AllByRecursion (λ x. P (f x)) xs
all_unmap P f [] h = tt
all_unmap P f (x ∷ xs) h = (h.0, all_unmap P f xs h.1)

-- numbers that are not there, and numbers in ascending order
pub count_none : (n : ℕ) (os : List Order) → holds n os ≡ false → count n (numbers os) ≡ 0
count_none n [] h = refl
count_none n (o ∷ os) h = let p = or_parts (eqb n o.number) (holds n os) h in rw p.0 (omega (arith, count_none n os p.1))

pub others : (n : ℕ) (os : List Order) → holds n os ≡ false → AllByRecursion (λ o. o.number ≡ n → ⊥) os
others n [] h = tt
others n (o ∷ os) h =
    let p = or_parts (eqb n o.number) (holds n os) h in
    ((λ e. eqb-false n o.number p.0 (sym e)), others n os p.1)

none_above : (n m : ℕ) (ns : List ℕ) → n ≤ m → AllByRecursion (λ k. m < k) ns → count n ns ≡ 0
none_above n m [] h a = refl
none_above n m (k ∷ ns) h a = grind (arith, none_above n m ns h a.1)

pub ascends_once : (n : ℕ) (ns : List ℕ) → Ascends ns → count n ns ≤ 1
ascends_once n [] a = omega arith
ascends_once n (m ∷ ns) a = grind (arith, ascends_once n ns a.1, none_above n m ns, a.0, eqb-true n m)

-- entering
pub count_enter : (n : ℕ) (o : Order) (os : List Order) → count n (numbers (enter o os)) ≡ tick (eqb n o.number) + count n (numbers os)
count_enter n o [] = refl
count_enter n o (p ∷ os) = grind (arith, count_enter n o os)

pub length_enter : (o : Order) (os : List Order) → length (enter o os) ≡ suc (length os)
length_enter o [] = refl
length_enter o (p ∷ os) = grind (arith, length_enter o os)

pub all_enter : (P : Order → Type 0) (o : Order) (os : List Order) → P o → AllByRecursion P os → AllByRecursion P (enter o os)
all_enter P o [] h k = (h, tt)
all_enter P o (p ∷ os) h k =
    cond_both (ltb o.number p.number) (o ∷ (p ∷ os)) (p ∷ enter o os) (AllByRecursion P) (λ _. (h, k)) (λ _. (k.0, all_enter P o os h k.1))

-- all numbers are above k
abbrev Above : ℕ → List Order → Type 0
Above k os = AllByRecursion (λ m. k < m) (numbers os)

above_by : (f : List Order → List Order) → ((P : Order → Type 0) (os : List Order) → AllByRecursion P os → AllByRecursion P (f os)) → (k : ℕ) (os : List Order) → Above k os → Above k (f os)
above_by f g k os a = All-map (λ m. k < m) (λ o. o.number) (f os) (g (λ o. k < o.number) os (all_unmap (λ m. k < m) (λ o. o.number) os a))

pub ascends_enter : (o : Order) (os : List Order) → holds o.number os ≡ false → Ascends (numbers os) → Ascends (numbers (enter o os))
ascends_enter o [] h a = (tt, tt)
ascends_enter o (p ∷ os) h a =
    let q = or_parts (eqb o.number p.number) (holds o.number os) h in
    cond_both (ltb o.number p.number) (o ∷ (p ∷ os)) (p ∷ enter o os) (λ qs. Ascends (numbers qs))
    (λ e.
    let l : o.number < p.number = ltb-true o.number p.number e in
    ((l, All-weaker (λ m. p.number < m) (λ m. o.number < m) (λ m i. omega arith) (numbers os) a.0), a))
    (λ e.
    let l : p.number < o.number = grind (arith, eqb-false o.number p.number q.0, ltb-false o.number p.number e) in (
      All-map (λ m. p.number < m) (λ r. r.number) (enter o os)
          (all_enter (λ r. p.number < r.number) o os l (all_unmap (λ m. p.number < m) (λ r. r.number) os a.0)),
      ascends_enter o os q.1 a.1,
    ))

-- changing
pub numbers_rewindow : (n : ℕ) (w : Window) (os : List Order) → numbers (rewindow n w os) ≡ numbers os
numbers_rewindow n w [] = refl
numbers_rewindow n w (o ∷ os) = grind (arith, numbers_rewindow n w os)

pub length_rewindow : (n : ℕ) (w : Window) (os : List Order) → length (rewindow n w os) ≡ length os
length_rewindow n w [] = refl
length_rewindow n w (o ∷ os) = grind (arith, length_rewindow n w os)

pub all_rewindow : (P Q : Order → Type 0) (n : ℕ) (w : Window) (os : List Order) → Ascends (numbers os)
    → ((o : Order) → o.number ≡ n → P o → Q (record { number = o.number; asked = w })) → ((o : Order) → (o.number ≡ n → ⊥) → P o → Q o)
    → AllByRecursion P os → AllByRecursion Q (rewindow n w os)
all_rewindow P Q n w [] a f g h = tt
all_rewindow P Q n w (o ∷ os) a f g h =
    cond_both (eqb n o.number) (record { number = o.number; asked = w } ∷ os) (o ∷ rewindow n w os) (AllByRecursion Q)
    (λ e.
    let i : n ≡ o.number = eqb-true n o.number e in (
      f o (sym i) h.0,
      All-weaker (λ p. (o.number < p.number) × P p) Q (λ p j. g p (λ k. omega (arith, i, j.0)) j.1) os
          (all_both (λ p. o.number < p.number) P os (all_unmap (λ m. o.number < m) (λ p. p.number) os a.0) h.1),
    ))
    (λ e. (g o (λ i. eqb-false n o.number e (sym i)) h.0, all_rewindow P Q n w os a.1 f g h.1))

-- withdrawing
pub count_without : (m n : ℕ) (os : List Order) → holds n os ≡ true → count m (numbers os) ≡ tick (eqb m n) + count m (numbers (without n os))
count_without m n [] h = grind arith
count_without m n (o ∷ os) h = grind (arith, count_without m n os, eqb-true n o.number)

pub length_without : (n : ℕ) (os : List Order) → holds n os ≡ true → length os ≡ suc (length (without n os))
length_without n [] h = grind arith
length_without n (o ∷ os) h = grind (arith, length_without n os)

pub all_without : (n : ℕ) (P : Order → Type 0) (os : List Order) → AllByRecursion P os → AllByRecursion P (without n os)
all_without n P [] h = tt
all_without n P (o ∷ os) h = cond_both (eqb n o.number) os (o ∷ without n os) (AllByRecursion P) (λ _. h.1) (λ _. (h.0, all_without n P os h.1))

pub ascends_without : (n : ℕ) (os : List Order) → Ascends (numbers os) → Ascends (numbers (without n os))
ascends_without n [] a = tt
ascends_without n (o ∷ os) a =
    cond_both (eqb n o.number) os (o ∷ without n os) (λ qs. Ascends (numbers qs)) (λ _. a.1)
    (λ _. (above_by (without n) (all_without n) o.number os a.0, ascends_without n os a.1))

-- letting out
pub all_staying : (t : ℕ) (ts : List ℕ) (P : Order → Type 0) (os : List Order) → AllByRecursion P os → AllByRecursion P (staying t os ts)
all_staying t ts P [] h = tt
all_staying t [] P (o ∷ os) h = tt
all_staying t (u ∷ ts) P (o ∷ os) h =
    cond_both (eqb t u) (staying t os ts) (o ∷ staying t os ts) (AllByRecursion P) (λ _. all_staying t ts P os h.1) (λ _. (h.0, all_staying t ts P os h.1))

pub ascends_staying : (t : ℕ) (os : List Order) (ts : List ℕ) → Ascends (numbers os) → Ascends (numbers (staying t os ts))
ascends_staying t [] ts a = tt
ascends_staying t (o ∷ os) [] a = tt
ascends_staying t (o ∷ os) (u ∷ ts) a =
    cond_both (eqb t u) (staying t os ts) (o ∷ staying t os ts) (λ qs. Ascends (numbers qs)) (λ _. ascends_staying t os ts a.1)
    (λ _. (above_by (λ qs. staying t qs ts) (all_staying t ts) o.number os a.0, ascends_staying t os ts a.1))

pub length_staying : (t : ℕ) (os : List Order) (ts : List ℕ) → length (staying t os ts) ≤ length os
length_staying t [] ts = omega arith
length_staying t (o ∷ os) [] = omega arith
length_staying t (o ∷ os) (u ∷ ts) = grind (arith, length_staying t os ts)

all_leaving : (P : ℕ → Type 0) (t : ℕ) (os : List Order) (ts : List ℕ) → AllByRecursion P (numbers os) → AllByRecursion P (leaving t os ts)
all_leaving P t [] ts h = tt
all_leaving P t (o ∷ os) [] h = tt
all_leaving P t (o ∷ os) (u ∷ ts) h =
    cond_both (eqb t u) (o.number ∷ leaving t os ts) (leaving t os ts) (AllByRecursion P) (λ _. (h.0, all_leaving P t os ts h.1)) (λ _. all_leaving P t os ts h.1)

pub ascends_leaving : (t : ℕ) (os : List Order) (ts : List ℕ) → Ascends (numbers os) → Ascends (leaving t os ts)
ascends_leaving t [] ts a = tt
ascends_leaving t (o ∷ os) [] a = tt
ascends_leaving t (o ∷ os) (u ∷ ts) a =
    cond_both (eqb t u) (o.number ∷ leaving t os ts) (leaving t os ts) Ascends
    (λ _. (all_leaving (λ m. o.number < m) t os ts a.0, ascends_leaving t os ts a.1)) (λ _. ascends_leaving t os ts a.1)

-- under an assignment of the windows, begun no earlier than day k
module _ (k : ℕ) where
  pub count_parted : (n t : ℕ) (os : List Order) (ts : List ℕ) → Assignment (map (begun_at k) os) ts
      → count n (numbers os) ≡ count n (leaving t os ts) + count n (numbers (staying t os ts))
  count_parted n t [] ts a = refl
  count_parted n t (o ∷ os) [] a = absurd a
  count_parted n t (o ∷ os) (u ∷ ts) a = grind (arith, count_parted n t os ts a.2)

  pub length_parted : (t : ℕ) (os : List Order) (ts : List ℕ) → Assignment (map (begun_at k) os) ts
      → length os ≡ length (leaving t os ts) + length (staying t os ts)
  length_parted t [] ts a = refl
  length_parted t (o ∷ os) [] a = absurd a
  length_parted t (o ∷ os) (u ∷ ts) a = grind (arith, length_parted t os ts a.2)

  pub length_leaving : (t : ℕ) (os : List Order) (ts : List ℕ) → Assignment (map (begun_at k) os) ts → length (leaving t os ts) ≡ count t ts
  length_leaving t [] [] a = refl
  length_leaving t [] (u ∷ ts) a = absurd a
  length_leaving t (o ∷ os) [] a = absurd a
  length_leaving t (o ∷ os) (u ∷ ts) a = grind (arith, length_leaving t os ts a.2)

  -- who leaves on day t has it in its window
  pub leaving_inside : (P : ℕ → Type 0) (t : ℕ) (os : List Order) (ts : List ℕ) → Assignment (map (begun_at k) os) ts
      → AllByRecursion (λ o. o.asked.0 ≤ t → t ≤ o.asked.1 → P o.number) os → AllByRecursion P (leaving t os ts)
  leaving_inside P t [] ts a h = tt
  leaving_inside P t (o ∷ os) [] a h = absurd a
  leaving_inside P t (o ∷ os) (u ∷ ts) a h =
      cond_both (eqb t u) (o.number ∷ leaving t os ts) (leaving t os ts) (AllByRecursion P)
      (λ e.
      let f : t ≡ u = eqb-true t u e in
      (h.0 (omega arith) (omega arith), leaving_inside P t os ts a.2 h.1))
      (λ _. leaving_inside P t os ts a.2 h.1)

  -- an order with a day has not passed its window
  pub not_past : (os : List Order) (ts : List ℕ) → Assignment (map (begun_at k) os) ts → AllByRecursion (λ o. k ≤ o.asked.1) os
  not_past [] ts a = tt
  not_past (o ∷ os) [] a = absurd a
  not_past (o ∷ os) (u ∷ ts) a = (omega arith, not_past os ts a.2)

  -- no one is done on a day past all windows
  pub none_far : (t : ℕ) (os : List Order) (ts : List ℕ) → Assignment (map (begun_at k) os) ts → AllByRecursion (λ o. o.asked.1 < t) os → count t ts ≡ 0
  none_far t [] [] a h = refl
  none_far t [] (u ∷ ts) a h = absurd a
  none_far t (o ∷ os) [] a h = absurd a
  none_far t (o ∷ os) (u ∷ ts) a h = grind (arith, none_far t os ts a.2 h.1)
