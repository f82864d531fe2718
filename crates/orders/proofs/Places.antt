-- The place of a number in a list of orders, where a search in halves finds it.
use Rattle.std.proofs.Common.{◌≡◌, ℕ, zero, suc, ◌+◌, ◌<◌, ◌≤◌, Bool, true, false, cond, eqb, ltb, leb, List, [], ◌∷◌, map, length, get_or, Some, None, sym, refl, ap, ◌∙◌, inl, inr, arith}
use Rattle.std.specs.Bool.{then_some}
use Rattle.std.specs.List.{AllByRecursion, prefix_len}
use Rattle.std.specs.List.Sorted.{IsNonDecreasingBy, IsPartitionedBy, IsPartitionPoint}
use Rattle.std.proofs.lemmas.Bool.{cases_Bool, cases_lt, eqb-true, eqb-false, eq-eqb, ne_eqb, ltb-true, ltb-false}
use Rattle.std.proofs.lemmas.List.Sums.{prefix_len_is}
use Rattle.std.proofs.lemmas.List.Sorted.{IsPartitionedBy-leb, IsPartitionedBy-ltb}
use Rattle.records.specs.declared.record.bare.Window.{Window}
use Rattle.ledger.specs.Orders.{holds, place}
use Rattle.orders.specs.declared.order.Order.{Order}
use Rattle.orders.specs.Records.{new_order, entry_of}
use Rattle.orders.specs.Lists.{InOrder, place_in, entry_place}

-- what stands past the end of a list
abbrev pub unused : Order
unused = let none : Window = record { first = 0; last = 0 } in new_order 0 none

at_least_at : (k : ℕ) (os : List Order) (j : ℕ) (d : Order) → AllByRecursion (λ p. k ≤ p.number) (map entry_of os) → j < length os → k ≤ (get_or os j d).number
at_least_at k [] j d h l = absurd (omega arith)
at_least_at k (o ∷ os) zero d h l = h.0
at_least_at k (o ∷ os) (suc j) d h l = at_least_at k os j d h.1 (omega arith)

rises : (os : List Order) → InOrder (map entry_of os) → IsNonDecreasingBy (λ (o : Order). o.number) os
rises [] h i j d l k = absurd (omega arith)
rises (o ∷ os) h zero zero d l k = omega arith
rises (o ∷ os) h zero (suc j) d l k = at_least_at o.number os j d h.0 (omega arith)
rises (o ∷ os) h (suc i) zero d l k = absurd (omega arith)
rises (o ∷ os) h (suc i) (suc j) d l k = rises os h.1 i j d (omega arith) (omega arith)

-- where the elements that pass a test end
pub point_is : {A : Type 0} (p : A → Bool) (xs : List A) (i : ℕ) (d : A) → i ≤ length xs → IsPartitionPoint (λ x. p x ≡ true) (λ x. p x ≡ false) xs i → i ≡ prefix_len p xs
point_is p xs i d l s = sym (prefix_len_is p xs i d l (λ k h. s.0 k d (omega arith) h) (λ h. s.1 i d (omega arith) h))

pub entry_map : (n : ℕ) (os : List Order) → entry_place n (map entry_of os) ≡ prefix_len (λ (o : Order). leb o.number n) os
entry_map n [] = refl
entry_map n (o ∷ os) = ap (λ k. cond (leb o.number n) (1 + k) 0) (entry_map n os)

-- a number is at the first place that is not below it, or nowhere
module _ (n : ℕ) where
  found_at : (os : List Order) (i : ℕ) (d : Order) → i < length os → ((k : ℕ) → k < i → (get_or os k d).number < n) → (get_or os i d).number ≡ n
      → (holds n (map entry_of os) ≡ true) × (i ≡ place n (map entry_of os))
  found_at [] i d l b e = absurd (omega arith)
  found_at (o ∷ os) zero d l b e = let t : eqb n o.number ≡ true = eq-eqb n o.number (sym e) in (rw t, rw t)
  found_at (o ∷ os) (suc i) d l b e =
      let r = found_at os i d (omega arith) (λ k h. b (suc k) (omega arith)) e in
      let s : o.number < n = b 0 (omega arith) in
      let f : eqb n o.number ≡ false = ne_eqb n o.number (λ x. omega arith) in
      (rw f r.0, rw f (ap suc r.1))

  found_nowhere : (os : List Order) (d : Order) → ((k : ℕ) → k < length os → (get_or os k d).number ≡ n → ⊥) → holds n (map entry_of os) ≡ false
  found_nowhere [] d b = refl
  found_nowhere (o ∷ os) d b =
      let f : eqb n o.number ≡ false = ne_eqb n o.number (λ x. b 0 (omega arith) (sym x)) in
      rw f (found_nowhere os d (λ k h. b (suc k) (omega arith)))

module _ (n : ℕ) (os : List Order) (h : InOrder (map entry_of os)) where
  -- the tests of a search can be answered in halves
  pub parted_below : IsPartitionedBy (λ (o : Order). ltb o.number n) os
  parted_below = IsPartitionedBy-ltb (λ (o : Order). o.number) os n (rises os h)

  pub parted_upto : IsPartitionedBy (λ (o : Order). leb o.number n) os
  parted_upto = IsPartitionedBy-leb (λ (o : Order). o.number) os n (rises os h)

  module _ (i : ℕ) (s : IsPartitionPoint (λ (o : Order). ltb o.number n ≡ true) (λ (o : Order). ltb o.number n ≡ false) os i) where
    below : (d : Order) (k : ℕ) → k < i → (get_or os k d).number < n
    below d k l = ltb-true (get_or os k d).number n (s.0 k d (omega arith) l)

    sought_here : (d : Order) → i < length os → (get_or os i d).number ≡ n → Some i ≡ place_in n (map entry_of os)
    sought_here d l e = let f = found_at n os i d l (below d) e in rw f.0 (ap Some f.1)

    pub sought_past : (d : Order) → (i < length os → (get_or os i d).number ≡ n → ⊥) → None ≡ place_in n (map entry_of os)
    sought_past d other_at =
        let other : (k : ℕ) → k < length os → (get_or os k d).number ≡ n → ⊥ =
        λ k l e.
        elim (cases_lt k i) [
          | inl b ↦ omega (arith, below d k b)
          | inr b ↦
              let up : (get_or os i d).number ≤ (get_or os k d).number = rises os h i k d b l in
              let from : n ≤ (get_or os i d).number = ltb-false (get_or os i d).number n (s.1 i d (omega arith) (omega arith)) in
              other_at (omega arith) (omega arith)
        ]
        in
        rw (found_nowhere n os d other)

    -- the order there has the number, or none has it
    pub sought : (o d : Order) → i < length os → o ≡ get_or os i d → then_some (eqb o.number n) i ≡ place_in n (map entry_of os)
    sought o d l here =
        elim (cases_Bool (eqb o.number n)) [
          | inl t ↦ rw t (sought_here d l (ap (λ p. p.number) (sym here) ∙ eqb-true o.number n t))
          | inr f ↦ rw f (sought_past d (λ k e. eqb-false o.number n f (ap (λ p. p.number) here ∙ e)))
        ]
