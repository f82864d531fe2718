-- A table and the lists that it stands for.
use Rattle.std.proofs.Common.{◌≡◌, ℕ, ◌-◌, ◌<◌, ◌≤◌, List, ◌++◌, length, take, drop, Some, ap, ◌∙◌, arith}
use Rattle.std.proofs.lemmas.List.{length-map, length-take-le, take-append-le, take_at}
use Rattle.orders.specs.declared.table.Table.{Table}
use Rattle.orders.specs.Records.{entry_of}
use Rattle.orders.specs.Lists.{place_in}
use Rattle.orders.specs.Tables.{listed, held_in}
use Rattle.orders.proofs.Edits.{found}

pub long : (t : Table) → length (held_in t) ≡ t.len
long t = length-map (listed t) entry_of ∙ length-take-le t.len t.orders (omega arith)

-- the place of a number that is held
pub found_within : (t : Table) (n i : ℕ) → Some i ≡ place_in n (held_in t) → i < t.len
found_within t n i e = omega (arith, (found n (held_in t) i e).1, long t)

-- what a loan of the first n leaves
module _ {A : Type 0} (xs ys : List A) (n : ℕ) (h : n ≤ length xs) (e : length ys ≡ length (take (n - 0) xs)) where
  pub lent_front : (m : ℕ) → m ≤ n → take m (ys ++ drop (n - 0) xs) ≡ take m ys
  lent_front m k = let l = length-take-le (n - 0) xs (omega arith) in take-append-le m ys (drop (n - 0) xs) (omega arith)

  pub lent_all : take n (ys ++ drop (n - 0) xs) ≡ ys
  lent_all = let l = length-take-le (n - 0) xs (omega arith) in take_at ys (drop (n - 0) xs) n (omega arith)

-- the front as it is lent
pub front_lent : {A : Type 0} (xs : List A) (n : ℕ) → take (n - 0) xs ≡ take n xs
front_lent xs n = let z : n - 0 ≡ n = omega arith in ap (λ m. take m xs) z
