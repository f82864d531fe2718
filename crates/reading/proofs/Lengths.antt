-- The numbers of fields, one for each.
use Rattle.std.proofs.Common.{◌≡◌, ℕ, suc, List, [], ◌∷◌, length, Ok, Err, Result, sym, refl, ap, ◌∙◌, arith}
use Rattle.reading.specs.declared.words.Unfit.{Unfit}
use Rattle.reading.specs.Words.{Word, letter, number, bad, with_first, values}

first_length : (n : ℕ) (r : Result (List ℕ) Unfit) (ns : List ℕ) (m : ℕ) → ((ms : List ℕ) → r ≡ Ok ms → length ms ≡ m) → with_first n r ≡ Ok ns → length ns ≡ suc m
first_length n (Ok ms) ns m h e = let same : n ∷ ms ≡ ns = cc in sym (ap length same) ∙ ap suc (h ms refl)
first_length n (Err c) ns m h e = absurd (let z : ◌≡◌ {A = ℕ} 0 1 = cc in omega arith)

-- each field gives one number
pub values_length : (ws : List Word) (ns : List ℕ) → values ws ≡ Ok ns → length ns ≡ length ws
values_length [] ns e = let same : [] ≡ ns = cc in sym (ap length same)
values_length (letter c b ∷ ws) ns e = absurd (let z : ◌≡◌ {A = ℕ} 0 1 = cc in omega arith)
values_length (number c n ∷ ws) ns e = first_length n (values ws) ns (length ws) (values_length ws) e
values_length (bad c bs ∷ ws) ns e = absurd (let z : ◌≡◌ {A = ℕ} 0 1 = cc in omega arith)
