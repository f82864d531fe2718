-- The first piece of some bytes, and the pieces after it.
use Rattle.std.proofs.Common.{count_by, ◌≡◌, ℕ, suc, ◌+◌, ◌<◌, ◌≤◌, Bool, true, false, cond, eqb, leb, ltb, List, [], ◌∷◌, map, length, take, drop, sym, refl, ap, ◌∙◌, ⊎_elim, arith}
use Rattle.std.proofs.lemmas.List.{take_all, drop_all, drop-drop, length-drop, length-take-le}
use Rattle.std.proofs.lemmas.List.Sums.{sum_by-cons, prefix_len-le-length, fails_before_first, count_by-le-length}
use Rattle.std.proofs.lemmas.List.Splits.{slice_split_first, slice_split_none, length-slice_split}
use Rattle.std.proofs.lemmas.Bool.{cond-true, cond-false, lt-ltb, le-ltb, le-leb, lt-leb, cases_lt}
use Rattle.reading.specs.Pieces.{pieces, unless_empty, unended, lines, parts, before, piece_at}
use Rattle.reading.specs.Told.{words_from}
use Rattle.reading.specs.Words.{columns, word}

before_within : (e : ℕ) (s : List ℕ) → before e s ≤ length s
before_within e s = prefix_len-le-length _ s

-- the first piece, and the pieces after it, which there are where a byte ends it
pub pieces_first : (e : ℕ) (s : List ℕ) → pieces e s ≡ take (before e s) s ∷ cond (ltb (before e s) (length s)) (pieces e (drop (before e s + 1) s)) []
pieces_first e s =
    let p = λ (b : ℕ). eqb b e in
    ⊎_elim
    (λ h. slice_split_first p s 0 h ∙ ap (λ ps. take (before e s) s ∷ ps) (sym (cond-true _ _ _ (lt-ltb _ _ h))))
    (λ h.
    slice_split_none p s (λ k d l. fails_before_first p s k d (omega (arith, h)))
    ∙ ap (λ l. l ∷ []) (sym (take_all _ _ h))
    ∙ ap (λ ps. take (before e s) s ∷ ps) (sym (cond-false _ _ _ (le-ltb _ _ h))))
    (cases_lt (before e s) (length s))

any : (s : List ℕ) → 0 < length s → unless_empty s ≡ s ∷ []
any [] h = absurd (omega arith)
any (b ∷ bs) h = refl

unended_more : (p q : List ℕ) (ps qs : List (List ℕ)) → qs ≡ q ∷ ps → unended (p ∷ qs) ≡ p ∷ unended qs
unended_more p q ps qs h = ap (λ x. unended (p ∷ x)) h ∙ ap (λ x. p ∷ unended x) (sym h)

-- the first line of what is left, and the lines after it
pub lines_first : (s : List ℕ) → 0 < length s → lines s ≡ take (before 10 s) s ∷ lines (drop (before 10 s + 1) s)
lines_first s some =
    let n = before 10 s in
    let rest = drop (n + 1) s in
    ap unended (pieces_first 10 s)
    ∙ ⊎_elim
    (λ h. ap (λ ps. unended (take n s ∷ ps)) (cond-true _ _ _ (lt-ltb n (length s) h)) ∙ unended_more (take n s) _ _ (pieces 10 rest) (pieces_first 10 rest))
    (λ h.
    ap (λ ps. unended (take n s ∷ ps)) (cond-false _ _ _ (le-ltb n (length s) h))
    ∙ ap unless_empty (take_all n s h)
    ∙ any s some
    ∙ sym (ap (λ l. l ∷ lines rest) (take_all n s h) ∙ ap (λ r. s ∷ lines r) (drop_all (n + 1) s (omega arith))))
    (cases_lt n (length s))

module _ (e : ℕ) (s : List ℕ) (p : ℕ) (inside : p ≤ length s) where
  pub piece_length : length (piece_at e s p) ≡ before e (drop p s)
  piece_length = length-take-le (before e (drop p s)) (drop p s) (before_within e (drop p s))

  past : drop (before e (drop p s) + 1) (drop p s) ≡ drop (p + (length (piece_at e s p) + 1)) s
  past =
      drop-drop (before e (drop p s) + 1) p s
      ∙ ap (λ n. drop (p + (n + 1)) s) (sym piece_length)

-- the first line of what is left of a sheet, and the lines after it
pub lines_at : (s : List ℕ) (p : ℕ) (l : List ℕ) → p < length s → l ≡ piece_at 10 s p → lines (drop p s) ≡ l ∷ lines (drop (p + (length l + 1)) s)
lines_at s p l h is =
    lines_first (drop p s) (omega (arith, length-drop p s))
    ∙ ap (λ r. piece_at 10 s p ∷ lines r) (past 10 s p (omega arith))
    ∙ ap (λ l. l ∷ lines (drop (p + (length l + 1)) s)) (sym is)

-- the first field of what is left of a line, and the fields after it
pub words_at : (l : List ℕ) (p : ℕ) (f : List ℕ) → p ≤ length l → f ≡ piece_at 32 l p → words_from l p ≡ word (p + 1, f) ∷ words_from l (p + 1 + length f)
words_at l p f h is =
    cond-true _ _ _ (le-leb p (length l) h)
    ∙ ap (λ ps. map word (columns (p + 1) ps)) (pieces_first 32 (drop p l))
    ∙ ap (λ ws. word (p + 1, piece_at 32 l p) ∷ ws) after
    ∙ ap (λ f. word (p + 1, f) ∷ words_from l (p + 1 + length f)) (sym is)
  where
    after : map word (columns (p + 1 + length (piece_at 32 l p) + 1) (cond (ltb (before 32 (drop p l)) (length (drop p l))) (pieces 32 (drop (before 32 (drop p l) + 1) (drop p l))) [])) ≡ words_from l (p + 1 + length (piece_at 32 l p))
    after =
        let q = p + 1 + length (piece_at 32 l p) in
        let n = before 32 (drop p l) in
        let long : length (piece_at 32 l p) ≡ n = piece_length 32 l p h in
        ⊎_elim
        (λ g.
        ap (λ ps. map word (columns (q + 1) ps)) (cond-true _ _ _ (lt-ltb n (length (drop p l)) g) ∙ ap parts (past 32 l p h ∙ ap (λ m. drop m l) (let same : p + (length (piece_at 32 l p) + 1) ≡ q = omega arith in same)))
        ∙ sym (cond-true _ _ _ (le-leb q (length l) (omega (arith, long, length-drop p l)))))
        (λ g.
        ap (λ ps. map word (columns (q + 1) ps)) (cond-false _ _ _ (le-ltb n (length (drop p l)) g))
        ∙ sym (cond-false _ _ _ (lt-leb q (length l) (omega (arith, long, length-drop p l)))))
        (cases_lt n (length (drop p l)))

-- one piece more for each byte that ends one
pub pieces_more : (e b : ℕ) (bs : List ℕ) → length (pieces e (b ∷ bs)) ≡ cond (eqb b e) (suc (length (pieces e bs))) (length (pieces e bs))
pieces_more e b bs =
    let ends = λ (x : ℕ). eqb x e in
    let n = length-slice_split ends bs in
    length-slice_split ends (b ∷ bs)
    ∙ ap (λ k. k + 1) (sum_by-cons (λ y. cond (ends y) 1 0) b bs)
    ∙ by (eqb b e) (count_by ends bs) n
  where
    by : (t : Bool) (k : ℕ) → length (pieces e bs) ≡ k + 1 → (cond t 1 0 + k) + 1 ≡ cond t (suc (length (pieces e bs))) (length (pieces e bs))
    by true k h = omega (arith, h)
    by false k h = omega (arith, h)

pub pieces_few : (e : ℕ) (s : List ℕ) → length (pieces e s) ≤ suc (length s)
pieces_few e s = let ends = λ (b : ℕ). eqb b e in omega (arith, length-slice_split ends s, count_by-le-length ends s)

pub length_columns : (c : ℕ) (ps : List (List ℕ)) → length (map word (columns c ps)) ≡ length ps
length_columns c [] = refl
length_columns c (p ∷ ps) = ap suc (length_columns (c + length p + 1) ps)

-- as many fields as parts, where the place is not past the end of the line
pub length_words : (l : List ℕ) (p : ℕ) → p ≤ length l → length (words_from l p) ≡ length (parts (drop p l))
length_words l p h = ap length (cond-true _ _ _ (le-leb p (length l) h)) ∙ length_columns (p + 1) (parts (drop p l))

-- there are no more fields than bytes and one
pub fields_few : (l : List ℕ) (p : ℕ) → length (words_from l p) ≤ length l + 1
fields_few l p = by (leb p (length l))
  where
    by : (t : Bool) → length (cond t (map word (columns (p + 1) (parts (drop p l)))) []) ≤ length l + 1
    by true = omega (arith, length_columns (p + 1) (parts (drop p l)), pieces_few 32 (drop p l), length-drop p l)
    by false = omega arith
