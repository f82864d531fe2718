-- Marks that are written: those of a run.
use Rattle.std.proofs.Common.{◌≡◌, ℕ, ◌+◌, ◌-◌, ◌<◌, ◌≤◌, ◌&&◌, leb, List, length, get_or, replicate, sym, ap, ◌∙◌, inl, inr, arith}
use borrow.Rule.Slice.PartMut.{put_mid}
use Rattle.std.proofs.lemmas.List.{places, ext_get_or, length-replicate, get_or-replicate}
use Rattle.std.proofs.lemmas.Bool.{cases_lt}
use Rattle.plans.specs.Plans.{tick}
use Rattle.plans.specs.Sets.{run_marks}
use Rattle.plans.proofs.Sets.{marks_at, marks_long}
use Rattle.narrowing.proofs.Writes.{zeros}

mid_length : (xs ys : List ℕ) (p n : ℕ) → p + n ≤ length xs → length ys ≡ n → length (put_mid p n xs ys) ≡ length xs
mid_length xs ys p n h l = grind (arith, places)

mid_low : (xs ys : List ℕ) (p n i : ℕ) → p + n ≤ length xs → length ys ≡ n → i < p → get_or (put_mid p n xs ys) i 0 ≡ get_or xs i 0
mid_low xs ys p n i h l lt = grind (arith, places)

mid_at : (xs ys : List ℕ) (p n i : ℕ) → p + n ≤ length xs → length ys ≡ n → p ≤ i → i < p + n → get_or (put_mid p n xs ys) i 0 ≡ get_or ys (i - p) 0
mid_at xs ys p n i h l le lt = grind (arith, places)

mid_high : (xs ys : List ℕ) (p n i : ℕ) → p + n ≤ length xs → length ys ≡ n → p + n ≤ i → get_or (put_mid p n xs ys) i 0 ≡ get_or xs i 0
mid_high xs ys p n i h l le = grind (arith, places)

in_run : (k p b i : ℕ) → p ≤ i → i ≤ b → tick (leb (k + p) (k + i) && leb (k + i) (k + b)) ≡ 1
in_run k p b i h l = grind arith

before_run : (k p b i : ℕ) → i < p → tick (leb (k + p) (k + i) && leb (k + i) (k + b)) ≡ 0
before_run k p b i h = grind arith

after_run : (k p b i : ℕ) → b < i → tick (leb (k + p) (k + i) && leb (k + i) (k + b)) ≡ 0
after_run k p b i h = grind arith

-- zeros, and then ones on the days p to b
pub run_written : (xs ys : List ℕ) (d p b : ℕ) → p ≤ b → b < d → xs ≡ replicate d 0 → ys ≡ replicate (b + 1 - p) 1 → (k : ℕ)
    → put_mid p (b + 1 - p) xs ys ≡ run_marks k d (k + p, k + b)
run_written xs ys d p b h l zero one k =
    let n : ℕ = b + 1 - p in
    let zs : List ℕ = put_mid p n xs ys in
    let xl : length xs ≡ d = ap length zero ∙ length-replicate d 0 in
    let yl : length ys ≡ n = ap length one ∙ length-replicate n 1 in
    let len : length zs ≡ d = mid_length xs ys p n (omega arith) yl ∙ xl in
    let none : (i : ℕ) → get_or xs i 0 ≡ 0 = λ i. ap (λ l. get_or l i 0) zero ∙ zeros d i in
    ext_get_or 0 zs (run_marks k d (k + p, k + b)) (len ∙ sym (marks_long (λ t. leb (k + p) t && leb t (k + b)) k d)) (λ i lt.
    let is = marks_at (λ t. leb (k + p) t && leb t (k + b)) k d i (omega arith) in
    elim (cases_lt i p) [
      | inl a ↦ mid_low xs ys p n i (omega arith) yl a ∙ none i ∙ sym (is ∙ before_run k p b i a)
      | inr a ↦ elim (cases_lt b i) [
        | inl e ↦ mid_high xs ys p n i (omega arith) yl (omega arith) ∙ none i ∙ sym (is ∙ after_run k p b i e)
        | inr e ↦
            let o : get_or ys (i - p) 0 ≡ 1 = ap (λ l. get_or l (i - p) 0) one ∙ get_or-replicate n (i - p) 1 0 (omega arith) in
            mid_at xs ys p n i (omega arith) yl a (omega arith) ∙ o ∙ sym (is ∙ in_run k p b i a e)
      ]
    ])
