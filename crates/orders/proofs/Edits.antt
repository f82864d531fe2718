-- Orders entered, changed and removed, as lists.
use Rattle.std.proofs.Common.{◌≡◌, ℕ, zero, suc, ◌<◌, true, false, List, [], ◌∷◌, map, length, get_or, set, Some, None, refl, ap, inl, inr, one-add, arith}
use Rattle.std.specs.List.{insert, remove}
use Rattle.std.proofs.lemmas.List.{map-append, take-map, drop-map}
use Rattle.std.proofs.lemmas.Bool.{cases_lt, lt-leb, le-leb, lt-ltb, le-ltb}
use Rattle.records.specs.declared.record.bare.Window.{Window as Bare}
use Rattle.records.specs.Bare.{span_of}
use Rattle.ledger.specs.Orders.{Order as Held, holds, place, enter, rewindow, without}
use Rattle.orders.specs.declared.order.Order.{Order}
use Rattle.orders.specs.Records.{told_span, reasked, entry_of}
use Rattle.orders.specs.Lists.{place_in, entry_place}

-- what a search tells of the number
place_below : (n : ℕ) (os : List Held) → holds n os ≡ true → place n os < length os
place_below n [] h = grind arith
place_below n (o ∷ os) h = grind (arith, place_below n os)

module _ (n : ℕ) (os : List Held) where
  pub found : (i : ℕ) → Some i ≡ place_in n os → (i ≡ place n os) × (i < length os)
  found i e = let b = place_below n os in (grind arith, grind arith)

  pub missing : None ≡ place_in n os → holds n os ≡ false
  missing e = grind arith

-- entered
pub enter_map : (o : Order) (os : List Order) → map entry_of (insert os (entry_place o.number (map entry_of os)) o) ≡ enter (entry_of o) (map entry_of os)
enter_map o [] = refl
enter_map o (p ∷ ps) =
    elim (cases_lt o.number p.number) [
      | inl h ↦ rw (lt-leb p.number o.number h, lt-ltb o.number p.number h)
      | inr h ↦ rw (le-leb p.number o.number h, le-ltb o.number p.number h, one-add) (ap (λ x. entry_of p ∷ x) (enter_map o ps))
    ]

pub map_inserted : {A B : Type 0} (f : A → B) (xs : List A) (i : ℕ) (x : A) → map f (insert xs i x) ≡ insert (map f xs) i (f x)
map_inserted f xs i x = simp (map-append, take-map, drop-map)

-- changed
pub rewindow_map : (n : ℕ) (w : Bare) (os : List Order) (d : Order)
    → map entry_of (set os (place n (map entry_of os)) (reasked w (get_or os (place n (map entry_of os)) d))) ≡ rewindow n (span_of w) (map entry_of os)
rewindow_map n w [] d = refl
rewindow_map n w (o ∷ os) d = let e = rewindow_map n w os d in grind arith

pub rewindow_none : (n : ℕ) (w : ℕ × ℕ) (os : List Held) → holds n os ≡ false → os ≡ rewindow n w os
rewindow_none n w [] h = refl
rewindow_none n w (o ∷ os) h = grind (arith, rewindow_none n w os)

pub told_reasked : (w : Bare) (os : List Order) (i : ℕ) (d : Order) → map told_span (set os i (reasked w (get_or os i d))) ≡ map told_span os
told_reasked w [] i d = refl
told_reasked w (o ∷ os) zero d = refl
told_reasked w (o ∷ os) (suc i) d = ap (λ l. told_span o ∷ l) (told_reasked w os i d)

-- removed
pub without_map : (n : ℕ) (os : List Order) → map entry_of (remove os (place n (map entry_of os))) ≡ without n (map entry_of os)
without_map n [] = refl
without_map n (o ∷ os) = let e = without_map n os in grind arith

pub map_removed : {A B : Type 0} (f : A → B) (xs : List A) (i : ℕ) → map f (remove xs i) ≡ remove (map f xs) i
map_removed f xs i = simp (map-append, take-map, drop-map)

pub removed_none : {A : Type 0} (n : ℕ) (os : List Order) (f : Order → A) → holds n (map entry_of os) ≡ false
    → map f os ≡ remove (map f os) (place n (map entry_of os))
removed_none n [] f h = refl
removed_none n (o ∷ os) f h = let e = removed_none n os f in grind arith
