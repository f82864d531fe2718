-- The windows that orders are told: begun at today, or narrowed. What the ledger keeps of the orders stays.
use Rattle.std.proofs.Common.{◌≡◌, ℕ, List, [], ◌∷◌, map, Ok, Err, sym, refl, ap, ◌∙◌}
use Rattle.std.proofs.lemmas.List.{length-map}
use Rattle.std.proofs.lemmas.Simd.{map-map}
use Rattle.plans.specs.Plans.{Window, Pair}
use Rattle.plans.specs.Narrowing.{narrowed}
use Rattle.records.specs.Checks.{Outcome}
use Rattle.narrowing.specs.Narrow.{placed, narrow_of}
use Rattle.narrowing.proofs.Meaning.{narrowed_long, rest_stays}
use Rattle.ledger.specs.Ledger.{begun_at}
use Rattle.orders.specs.declared.order.Order.{Order}
use Rattle.orders.specs.Records.{told_span, retold, entry_of, told_begun}
use Rattle.orders.specs.Tables.{told_after}

pub begin_entries : (today : ℕ) (os : List Order) → map entry_of (map (told_begun today) os) ≡ map entry_of os
begin_entries today os = map-map entry_of (told_begun today) os

pub begin_told : (today : ℕ) (os : List Order) → map told_span (map (told_begun today) os) ≡ map (begun_at today) (map entry_of os)
begin_told today os = map-map told_span (told_begun today) os ∙ sym (map-map (begun_at today) entry_of os)

placed_entries : (ws : List Window) (os : List Order) → map entry_of (placed retold ws os) ≡ map entry_of os
placed_entries [] os = refl
placed_entries (w ∷ ws) [] = refl
placed_entries (w ∷ ws) (o ∷ os) = ap (λ l. entry_of o ∷ l) (placed_entries ws os)

pub narrow_entries : (k : ℕ) (pairs : List Pair) (ws : List Window) (r : Outcome) (os : List Order) → map entry_of (narrow_of retold k pairs ws r os) ≡ map entry_of os
narrow_entries k pairs ws (Ok _) os = placed_entries (narrowed k pairs ws) os
narrow_entries k pairs ws (Err fault) os = refl

pub narrow_told : (k : ℕ) (pairs : List Pair) (r : Outcome) (os : List Order)
    → map told_span (narrow_of retold k pairs (map told_span os) r os) ≡ told_after r k pairs (map told_span os)
narrow_told k pairs (Ok _) os =
    (rest_stays told_span retold (λ o w. refl) (λ o v w. refl) (λ o. refl) os _ (narrowed_long k pairs (map told_span os) ∙ length-map os told_span)).told
narrow_told k pairs (Err fault) os = refl
