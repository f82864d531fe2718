-- What stays blank behind a list that grows.
use Rattle.std.proofs.Common.{◌≡◌, ℕ, ◌+◌, ◌-◌, List, set, drop, replicate, ap, sym, ◌∙◌, arith}
use Rattle.std.proofs.lemmas.List.{drop-set-lt, drop-drop, drop-replicate}

pub blank_after : (vs : List ℕ) (i k n : ℕ) → drop i vs ≡ replicate (k - i) 0 → drop (i + 1) (set vs i n) ≡ replicate (k - (i + 1)) 0
blank_after vs i k n h =
    let less : k - i - 1 ≡ k - (i + 1) = omega arith in
    drop-set-lt (i + 1) vs i n (omega arith)
    ∙ sym (drop-drop 1 i vs)
    ∙ ap (drop 1) h
    ∙ drop-replicate 1 (k - i) 0
    ∙ ap (λ m. replicate m 0) less
