use Rattle.std.proofs.Common.{◌≡◌, add-one, List, ◌∷◌, ◌++◌, map, length, take, drop, sym, ap, ◌∙◌, arith}
use Rattle.std.proofs.lemmas.List.{length-map, set-get_or}
use Rattle.records.specs.declared.record.bare.Window.{Window}
use Rattle.records.specs.Bare.{bare, copied}
use Rattle.records.proofs.Copying.{copy_next, none_left, no_place_left}
use Rattle.records.proofs.record.bare.copy_windows.Goals as goal

pub loop-window-preserved : goal.loop-window-preserved
loop-window-preserved g c =
    let span = g.R.Record.span in
    let i = c.loop-window.window-index in
    let work : List Window = c.loop-window.windows in
    let later = map span c.next.new.self.rest.now in
    let is : c.into.result ≡ bare (span c.in-Some.each.now) = c.into.ensures ∙ ap bare c.window.ensures in
    let left : map span c.loop-window.rest.rest.now ≡ span c.in-Some.each.now ∷ later = ap (map span) c.in-Some.ensures.steps in
    rw (is, add-one) (sym (copy_next (span c.in-Some.each.now) later i work (omega (arith, c.loop-window.auto.windows))) ∙ ap (λ ws. take i work ++ copied ws (drop i work)) (sym left) ∙ c.loop-window.invariant)

pub returns-in_default : goal.returns-in_default
returns-in_default g c =
    let i = c.loop-window.window-index in
    let work : List Window = c.loop-window.windows in
    let ws = map g.R.Record.span c.loop-window.rest.rest.now in
    let none : length ws ≡ 0 = length-map c.loop-window.rest.rest.now g.R.Record.span ∙ c.in_default.ensures.steps.0 in
    set-get_or work i (bare (0, 0)) ∙ sym (none_left i work ws none) ∙ c.loop-window.invariant

pub returns : goal.returns
returns g c =
    sym (no_place_left c.loop-window.window-index c.loop-window.windows (map g.R.Record.span c.loop-window.rest.rest.now) (omega arith)) ∙ c.loop-window.invariant
