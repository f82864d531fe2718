use Rattle.std.proofs.Common.{◌≡◌, ℕ, List, take, Some, sym, ap, ◌∙◌, arith}
use Rattle.std.specs.Option.{option_map}
use Rattle.std.proofs.lemmas.List.{get_or-take, get_or-map, length-take-le}
use Rattle.plans.specs.Narrowing.{window}
use Rattle.orders.specs.declared.order.Order.{Order}
use Rattle.orders.specs.Records.{told_span}
use Rattle.orders.specs.Tables.{told_in}
use Rattle.orders.proofs.Places.{unused}
use Rattle.orders.proofs.Tables.{found_within}
use Rattle.orders.proofs.table.Table.told.Goals as goal

pub returns : goal.returns
returns c =
    let t = c.args.self.now in
    let i : ℕ = c.in_ok-place.place in
    let os : List Order = take t.len t.orders in
    let h = found_within t c.args.number i c.in_ok-place.ensures in
    let e : c.window.result ≡ window (told_in t) i =
    c.window.ensures ∙ ap told_span (sym (get_or-take t.len t.orders i unused h)) ∙ sym (get_or-map told_span os i unused (0, 0) (omega (arith, length-take-le t.len t.orders (omega arith)))) in
    ap Some e ∙ ap (option_map (window (told_in t))) c.in_ok-place.ensures
