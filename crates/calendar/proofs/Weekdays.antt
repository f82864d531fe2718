-- The table of weekdays, entry by entry.
use Rattle.std.proofs.Common.{◌≡◌, ℕ, ◌+◌, ◌%◌, ◌<◌, List, [], map, get_or, ap, ◌∙◌, arith}
use Rattle.std.specs.List.{range_with_len}
use Rattle.std.proofs.lemmas.List.FromFn.{get_or-map-range_with_len}

-- seven rows of seven, each entry the sum of its row and its column, mod 7
abbrev table : List (List ℕ)
table = map (λ i. map (λ j. (i + j) % 7) (range_with_len 0 7)) (range_with_len 0 7)

pub entry : (i j : ℕ) → i < 7 → j < 7 → get_or (get_or table i []) j 0 ≡ (i + j) % 7
entry i j hi hj =
    ap (λ row. get_or row j 0) (get_or-map-range_with_len (λ i. map (λ j. (i + j) % 7) (range_with_len 0 7)) 0 7 i i [] hi (omega arith))
    ∙ get_or-map-range_with_len (λ j. (i + j) % 7) 0 7 j j 0 hj (omega arith)
