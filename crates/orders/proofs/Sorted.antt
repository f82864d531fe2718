-- What keeps orders in ascending order of number.
use Rattle.std.proofs.Common.{ℕ, ◌<◌, ◌≤◌, eqb, ltb, List, [], ◌∷◌, arith}
use Rattle.std.specs.List.{AllByRecursion}
use Rattle.std.proofs.ByRecursion.{All-weaker}
use Rattle.std.proofs.lemmas.Bool.{cond_both, ltb-true, ltb-false}
use Rattle.plans.specs.Plans.{Window}
use Rattle.ledger.specs.Orders.{Order, enter, rewindow, without, staying}
use Rattle.ledger.proofs.Orders.{all_enter, all_without, all_staying}
use Rattle.orders.specs.Lists.{InOrder}

-- no number is below k
abbrev AtLeast : ℕ → List Order → Type 0
AtLeast k os = AllByRecursion (λ p. k ≤ p.number) os

pub in_order_enter : (o : Order) (os : List Order) → InOrder os → InOrder (enter o os)
in_order_enter o [] h = (tt, tt)
in_order_enter o (p ∷ os) h =
    cond_both (ltb o.number p.number) (o ∷ (p ∷ os)) (p ∷ enter o os) InOrder
    (λ e.
    let l : o.number < p.number = ltb-true o.number p.number e in
    ((omega arith, All-weaker (λ q. p.number ≤ q.number) (λ q. o.number ≤ q.number) (λ q i. omega arith) os h.0), h))
    (λ e. (all_enter (λ q. p.number ≤ q.number) o os (ltb-false o.number p.number e) h.0, in_order_enter o os h.1))

at_least_rewindow : (k n : ℕ) (w : Window) (os : List Order) → AtLeast k os → AtLeast k (rewindow n w os)
at_least_rewindow k n w [] h = tt
at_least_rewindow k n w (o ∷ os) h =
    cond_both (eqb n o.number) (record { number = o.number; asked = w } ∷ os) (o ∷ rewindow n w os) (AtLeast k) (λ _. h) (λ _. (h.0, at_least_rewindow k n w os h.1))

pub in_order_rewindow : (n : ℕ) (w : Window) (os : List Order) → InOrder os → InOrder (rewindow n w os)
in_order_rewindow n w [] h = tt
in_order_rewindow n w (o ∷ os) h =
    cond_both (eqb n o.number) (record { number = o.number; asked = w } ∷ os) (o ∷ rewindow n w os) InOrder (λ _. h)
    (λ _. (at_least_rewindow o.number n w os h.0, in_order_rewindow n w os h.1))

pub in_order_without : (n : ℕ) (os : List Order) → InOrder os → InOrder (without n os)
in_order_without n [] h = tt
in_order_without n (o ∷ os) h =
    cond_both (eqb n o.number) os (o ∷ without n os) InOrder (λ _. h.1) (λ _. (all_without n (λ q. o.number ≤ q.number) os h.0, in_order_without n os h.1))

pub in_order_staying : (t : ℕ) (os : List Order) (ts : List ℕ) → InOrder os → InOrder (staying t os ts)
in_order_staying t [] ts h = tt
in_order_staying t (o ∷ os) [] h = tt
in_order_staying t (o ∷ os) (u ∷ ts) h =
    cond_both (eqb t u) (staying t os ts) (o ∷ staying t os ts) InOrder (λ _. in_order_staying t os ts h.1)
    (λ _. (all_staying t ts (λ q. o.number ≤ q.number) os h.0, in_order_staying t os ts h.1))
