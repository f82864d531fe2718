-- A row of the table, as far as its own day, and the front of a list.
use Rattle.std.proofs.Common.{◌≡◌, ℕ, ◌+◌, ◌-◌, ◌*◌, ◌<◌, ◌≤◌, List, ◌++◌, length, get_or, take, drop, ap, ◌∙◌, arith}
use borrow.Rule.Slice.PartMut.{put_mid}
use Rattle.std.proofs.lemmas.List.{get_or-take, get_or-drop, length-take-le, length-drop, places, get_or_append_left, get_or-append_right, length-append}

-- row b of the table
abbrev pub part : List ℕ → ℕ → List ℕ
part xs b = take (b * 128 + b + 1 - b * 128) (drop (b * 128) xs)

pub part_length : (xs : List ℕ) (b : ℕ) → length xs ≡ 16384 → b < 128 → length (part xs b) ≡ b + 1
part_length xs b len h = let e = length-drop (b * 128) xs in length-take-le (b * 128 + b + 1 - b * 128) (drop (b * 128) xs) (omega arith) ∙ omega arith

pub part_at : (xs : List ℕ) (b p : ℕ) → p ≤ b → get_or (part xs b) p 0 ≡ get_or xs (b * 128 + p) 0
part_at xs b p h = get_or-take (b * 128 + b + 1 - b * 128) (drop (b * 128) xs) p 0 (omega arith) ∙ get_or-drop (b * 128) xs p 0

-- the table with another row b
abbrev pub put : List ℕ → ℕ → List ℕ → List ℕ
put xs b ys = put_mid (b * 128) (b * 128 + b + 1 - b * 128) xs ys

pub put_same : (xs ys : List ℕ) (b p : ℕ) → length xs ≡ 16384 → b < 128 → length ys ≡ b + 1 → p ≤ b → get_or (put xs b ys) (b * 128 + p) 0 ≡ get_or ys p 0
put_same xs ys b p len h l k = grind (arith, places)

pub put_low : (xs ys : List ℕ) (b j a : ℕ) → length xs ≡ 16384 → b < 128 → length ys ≡ b + 1 → j < b → a < 128 → get_or (put xs b ys) (j * 128 + a) 0 ≡ get_or xs (j * 128 + a) 0
put_low xs ys b j a len h l lt ha = grind (arith, places)

pub put_high : (xs ys : List ℕ) (b j a : ℕ) → length xs ≡ 16384 → b < 128 → length ys ≡ b + 1 → b < j → a < 128 → get_or (put xs b ys) (j * 128 + a) 0 ≡ get_or xs (j * 128 + a) 0
put_high xs ys b j a len h l lt ha = grind (arith, places)

-- the front of a list, up to place b
pub front_length : (xs : List ℕ) (b n : ℕ) → length xs ≡ n → b < n → length (take (b + 1) xs) ≡ b + 1
front_length xs b n len h = length-take-le (b + 1) xs (omega arith)

pub front_at : (xs : List ℕ) (b p : ℕ) → p ≤ b → get_or (take (b + 1) xs) p 0 ≡ get_or xs p 0
front_at xs b p h = get_or-take (b + 1) xs p 0 (omega arith)

-- a list with another front
pub over_length : (xs ys : List ℕ) (b n : ℕ) → length xs ≡ n → b < n → length ys ≡ b + 1 → length (ys ++ drop (b + 1) xs) ≡ n
over_length xs ys b n len h l = simp (length-append, length-drop) (omega arith)

pub over_low : (xs ys : List ℕ) (b p : ℕ) → length ys ≡ b + 1 → p ≤ b → get_or (ys ++ drop (b + 1) xs) p 0 ≡ get_or ys p 0
over_low xs ys b p l h = get_or_append_left ys (drop (b + 1) xs) 0 p (omega arith)

pub over_high : (xs ys : List ℕ) (b p : ℕ) → length ys ≡ b + 1 → b < p → get_or (ys ++ drop (b + 1) xs) p 0 ≡ get_or xs p 0
over_high xs ys b p l h =
    let e : b + 1 + (p - (b + 1)) ≡ p = omega arith in
    get_or-append_right ys (drop (b + 1) xs) (b + 1) p 0 l (omega arith) ∙ get_or-drop (b + 1) xs (p - (b + 1)) 0 ∙ ap (λ j. get_or xs j 0) e
