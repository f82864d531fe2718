-- The front of an array after a change of one of its elements, and after a turn of one of its parts by one place.
use Rattle.std.proofs.Common.{◌≡◌, ℕ, suc, ◌+◌, ◌-◌, ◌<◌, ◌≤◌, List, [], ◌∷◌, ◌++◌, length, get_or, take, drop, set, sym, ap, ◌∙◌, add-one, arith}
use borrow.Rule.Slice.PartMut.{put_mid, mid_of}
use Rattle.std.specs.List.{remove, insert}
use Rattle.std.proofs.Math.Seq.{take-set-lt}
use Rattle.std.proofs.lemmas.List.{length-append, length-drop, length-set, length-take-le, take_at, take-take, append_assoc, drop-drop, take_more_set, drop-append-le, drop_at, take-set-le, get_or-take}
use Rattle.std.proofs.lemmas.Slice.{between_is}
use Rattle.std.proofs.lemmas.List.Edits.{length-between}

-- the front after one of its elements has changed
pub front_changed : {A : Type 0} (f : A → A) (xs : List A) (n i : ℕ) (d : A) → i < n → take n (set xs i (f (get_or xs i d))) ≡ set (take n xs) i (f (get_or (take n xs) i d))
front_changed f xs n i d h = take-set-lt n xs i (f (get_or xs i d)) h ∙ ap (λ x. set (take n xs) i (f x)) (sym (get_or-take n xs i d h))

-- an element is taken out of the first n by a turn to the left of what stands from it on
pub turned_out : {A : Type 0} (xs ys : List A) (at n : ℕ) → at < n → n ≤ length xs
    → ys ≡ drop 1 (mid_of at (n - at) xs) ++ take 1 (mid_of at (n - at) xs)
    → take (n - 1) (put_mid at (n - at) xs ys) ≡ remove (take n xs) at
turned_out {A} xs ys at n h l turned =
    let mid : List A = take (n - at) (drop at xs) in
    let p : List A = take at xs in
    let post : List A = drop (n - at) (drop at xs) in
    let lm : length mid ≡ n - at = length-between xs at n l in
    let lp : length p ≡ at = length-take-le at xs (omega arith) in
    let la : length (p ++ drop 1 mid) ≡ n - 1 = simp (length-append, length-drop) (omega arith) in
    let cut : take (n - 1) ((p ++ drop 1 mid) ++ (take 1 mid ++ post)) ≡ p ++ drop 1 mid = take_at (p ++ drop 1 mid) (take 1 mid ++ post) (n - 1) la in
    let regroup : p ++ ((drop 1 mid ++ take 1 mid) ++ post) ≡ (p ++ drop 1 mid) ++ (take 1 mid ++ post) = simp append_assoc in
    let front : take at (take n xs) ≡ p = take-take at n xs (omega arith) in
    let one : drop 1 mid ≡ drop (suc at) (take n xs) = ap (drop 1) (between_is xs at n) ∙ drop-drop 1 at (take n xs) ∙ ap (λ k. drop k (take n xs)) (add-one at) in
    ap (λ z. take (n - 1) (put_mid at (n - at) xs z)) turned ∙ ap (take (n - 1)) regroup ∙ cut ∙ ap (λ z. p ++ z) one
    ∙ ap (λ z. z ++ drop (suc at) (take n xs)) (sym front)

-- an element is put into the first n: written behind them, and brought to its place by a turn to the right
pub turned_in : {A : Type 0} (xs ys : List A) (at n : ℕ) (y : A) → at ≤ n → n < length xs
    → ys ≡ drop (length (mid_of at (n + 1 - at) (set xs n y)) - 1) (mid_of at (n + 1 - at) (set xs n y))
    ++ take (length (mid_of at (n + 1 - at) (set xs n y)) - 1) (mid_of at (n + 1 - at) (set xs n y))
    → take (n + 1) (put_mid at (n + 1 - at) (set xs n y) ys) ≡ insert (take n xs) at y
turned_in {A} xs ys at n y h l turned =
    let zs : List A = set xs n y in
    let mid : List A = take (n + 1 - at) (drop at zs) in
    let t : List A = drop at (take n xs) in
    let p : List A = take at (take n xs) in
    let post : List A = drop (n + 1 - at) (drop at zs) in
    let lz : length zs ≡ length xs = length-set xs n y in
    let lm : length mid ≡ n + 1 - at = length-between zs at (n + 1) (omega arith) in
    let m : ℕ = length mid - 1 in
    let ln : length (take n xs) ≡ n = length-take-le n xs (omega arith) in
    let lt : length t ≡ m = simp length-drop (omega arith) in
    let lp : length p ≡ at = length-take-le at (take n xs) (omega arith) in
    let whole : mid ≡ t ++ (y ∷ []) = between_is zs at (n + 1) ∙ ap (drop at) (take_more_set xs n y l) ∙ drop-append-le at (take n xs) (y ∷ []) (omega arith) in
    let d : drop m mid ≡ y ∷ [] = ap (drop m) whole ∙ drop_at t (y ∷ []) m lt in
    let k : take m mid ≡ t = ap (take m) whole ∙ take_at t (y ∷ []) m lt in
    let f : take at zs ≡ p = take-set-le at xs n y h ∙ sym (take-take at n xs h) in
    let all : take at zs ++ ((drop m mid ++ take m mid) ++ post) ≡ (p ++ (y ∷ t)) ++ post = rw (d, k, f) (sym (append_assoc p (y ∷ t) post)) in
    let la : length (p ++ (y ∷ t)) ≡ n + 1 = simp length-append (omega arith) in
    ap (λ z. take (n + 1) (put_mid at (n + 1 - at) zs z)) turned ∙ ap (take (n + 1)) all ∙ take_at (p ++ (y ∷ t)) post (n + 1) la
