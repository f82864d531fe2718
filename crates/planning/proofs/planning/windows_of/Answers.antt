use Rattle.std.proofs.Common.{◌≡◌, ℕ, List, [], ◌∷◌, ◌++◌, map, get_or, sym, ap, ap₂, ◌∙◌}
use Rattle.std.proofs.lemmas.List.{length-map, map_more}
use Rattle.plans.specs.Plans.{Window}
use Rattle.records.specs.declared.record.bare.Window.{Window as Bare}
use Rattle.records.specs.Bare.{bare}
use Rattle.records.proofs.Windows.{told_at}
use Rattle.planning.proofs.planning.windows_of.Goals as goal

pub loop-each-preserved : goal.loop-each-preserved
loop-each-preserved g c =
    let span = g.R.Record.span in
    let records = c.args.records.now in
    let ws : List Window = map span records in
    let i : ℕ = c.loop-each.each-index in
    let told : c.window.result ≡ get_or ws i (0, 0) = told_at span records i _ c.window.result c.loop-each-test.true c.each-item.is c.window.ensures in
    let more = map_more bare ws i (0, 0) (simp length-map c.loop-each-test.true) in
    c.push.ensures.items
    ∙ ap₂ (λ (l : List Bare) (b : Bare). l ++ b ∷ []) c.loop-each.invariant (c.into.ensures ∙ ap bare told)
    ∙ sym more
