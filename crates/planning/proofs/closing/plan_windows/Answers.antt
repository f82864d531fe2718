use Rattle.std.proofs.Common.{◌≡◌, ℕ, ◌≤◌, List, map, length, Some, refl, ap, ◌∙◌, arith}
use Rattle.std.specs.Option.{option_map}
use Rattle.std.proofs.lemmas.List.{length-map}
use Rattle.plans.specs.Plans.{Pair}
use Rattle.records.specs.declared.record.bare.Window.{Window}
use Rattle.records.specs.Bare.{span_of}
use Rattle.records.proofs.Checked.{passed}
use Rattle.lists.specs.Fronts.{items}
use Rattle.planning.proofs.Turns.{no_first, ok_from, begun, ended}
use Rattle.planning.proofs.closing.plan_windows.Goals as goal

pub returns-in_err-ok : goal.returns-in_err-ok
returns-in_err-ok c =
    let k : ℕ = c.args.first in
    let pairs : List Pair = c.args.pairs.now in
    let bs : List Window = c.args.windows.now in
    let few : length pairs ≤ 128 = (passed k pairs (map span_of bs) (length pairs) c.requires).range.few_days in
    ap (option_map items) c.from_residual.ensures ∙ no_first k pairs bs bs 128 _ c.narrow.result c.requires few c.narrow.ensures.answer c.in_err-ok.ensures.value

pub loop-place-init : goal.loop-place-init
loop-place-init c =
    let k : ℕ = c.args.first in
    let pairs : List Pair = c.args.pairs.now in
    let bs : List Window = c.args.windows.now in
    let few : length pairs ≤ 128 = (passed k pairs (map span_of bs) (length pairs) c.requires).range.few_days in
    let kept = begun k pairs bs c.narrow.new.records 128 _ c.narrow.result c.requires few c.narrow.ensures.answer (ok_from _ c.in_ok-ok.ensures.value) c.narrow.ensures.records in
    (kept.0, refl)

pub first_days-requires : goal.first_days-requires
first_days-requires c =
    let bs : List Window = c.loop-place.windows in
    omega (arith, (passed c.args.first c.args.pairs.now (map span_of bs) (length c.args.pairs.now) c.loop-place.invariant.0.passes).few_records, length-map bs span_of)

pub returns : goal.returns
returns c =
    let k : ℕ = c.args.first in
    let pairs : List Pair = c.args.pairs.now in
    let bs : List Window = c.args.windows.now in
    let few : length pairs ≤ 128 = (passed k pairs (map span_of bs) (length pairs) c.requires).range.few_days in
    let kept = begun k pairs bs c.narrow.new.records 128 _ c.narrow.result c.requires few c.narrow.ensures.answer (ok_from _ c.in_ok-ok.ensures.value) c.narrow.ensures.records in
    let size : c.loop-place.place ≡ length c.loop-place.windows = omega arith in
    ap (λ ts. Some ts) c.first_days.ensures ∙ ended k pairs c.loop-place.place c.loop-place.windows c.loop-place.invariant.0 size
    ∙ c.loop-place.invariant.1 ∙ kept.1
