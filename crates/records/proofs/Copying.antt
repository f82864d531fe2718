-- Windows that are copied one after the other.
use Rattle.std.proofs.Common.{◌≡◌, ℕ, zero, suc, ◌<◌, ◌≤◌, List, [], ◌∷◌, ◌++◌, map, length, take, drop, set, refl, ap, ◌∙◌, arith}
use Rattle.records.specs.declared.record.bare.Window.{Window}
use Rattle.records.specs.Bare.{span_of, bare, copied}

-- the window that comes next, put at its place
pub copy_next : (s : ℕ × ℕ) (ws : List (ℕ × ℕ)) (i : ℕ) (work : List Window) → i < length work → take i work ++ copied (s ∷ ws) (drop i work) ≡ take (suc i) (set work i (bare s)) ++ copied ws (drop (suc i) (set work i (bare s)))
copy_next s ws i [] h = absurd (omega arith)
copy_next s ws zero (x ∷ work) h = refl
copy_next s ws (suc i) (x ∷ work) h = ap (λ l. x ∷ l) (copy_next s ws i work (omega arith))

-- nothing is left to copy,
pub none_left : (i : ℕ) (work : List Window) (ws : List (ℕ × ℕ)) → length ws ≡ 0 → take i work ++ copied ws (drop i work) ≡ work
none_left i work (w ∷ ws) e = absurd (omega arith)
none_left zero work [] e = refl
none_left (suc i) [] [] e = refl
none_left (suc i) (x ∷ work) [] e = ap (λ l. x ∷ l) (none_left i work [] e)

-- or no place
pub no_place_left : (i : ℕ) (work : List Window) (ws : List (ℕ × ℕ)) → length work ≤ i → take i work ++ copied ws (drop i work) ≡ work
no_place_left zero [] [] h = refl
no_place_left zero [] (w ∷ ws) h = refl
no_place_left zero (x ∷ work) ws h = absurd (omega arith)
no_place_left (suc i) [] [] h = refl
no_place_left (suc i) [] (w ∷ ws) h = refl
no_place_left (suc i) (x ∷ work) ws h = ap (λ l. x ∷ l) (no_place_left i work ws (omega arith))

-- the windows at the front of the list
pub front_spans : (ws : List (ℕ × ℕ)) (work xs : List Window) (n : ℕ) → length ws ≡ n → n ≤ length work → xs ≡ copied ws work → map span_of (take n xs) ≡ ws
front_spans ws work xs n e h is = ap (λ l. map span_of (take n l)) is ∙ go ws work n e h
  where
    go : (ws : List (ℕ × ℕ)) (work : List Window) (n : ℕ) → length ws ≡ n → n ≤ length work → map span_of (take n (copied ws work)) ≡ ws
    go [] work zero e h = refl
    go [] work (suc n) e h = absurd (omega arith)
    go (w ∷ ws) work zero e h = absurd (omega arith)
    go (w ∷ ws) [] (suc n) e h = absurd (omega arith)
    go (w ∷ ws) (x ∷ work) (suc n) e h = ap (λ l. w ∷ l) (go ws work n (omega arith) (omega arith))

-- bare windows tell what they were made of
pub spans_bare : (ws : List (ℕ × ℕ)) → map span_of (map bare ws) ≡ ws
spans_bare [] = refl
spans_bare (w ∷ ws) = ap (λ l. w ∷ l) (spans_bare ws)
