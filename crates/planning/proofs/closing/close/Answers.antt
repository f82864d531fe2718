use Rattle.std.proofs.Common.{ℕ, ◌≤◌, List, map, length, refl}
use Rattle.plans.specs.Plans.{Pair}
use Rattle.records.specs.declared.record.bare.Window.{Window}
use Rattle.records.proofs.Checked.{passed}
use Rattle.records.specs.Bare.{span_of}
use Rattle.planning.proofs.Turns.{one_day, granted, shut_day}
use Rattle.planning.proofs.closing.close.Goals as goal

pub returns-then-windows-place : goal.returns-then-windows-place
returns-then-windows-place c = record {
  closed = one_day c.args.first c.args.pairs.now c.args.place c.args.windows.now c.requires.place_in_bounds c.requires.closed_before c.if-windows-place.true;
  plan = refl;
}

pub unwrap-requires : goal.unwrap-requires
unwrap-requires c =
    let k : ℕ = c.args.first in
    let pairs : List Pair = c.args.pairs.now in
    let bs : List Window = c.args.windows.now in
    let few : length pairs ≤ 128 = (passed k pairs (map span_of bs) (length pairs) c.requires.closed_before.passes).range.few_days in
    rw (granted k pairs c.args.place bs c.requires.place_in_bounds c.requires.closed_before 128 _ c.narrow.result few c.narrow.ensures.answer)

pub returns : goal.returns
returns c =
    let k : ℕ = c.args.first in
    let pairs : List Pair = c.args.pairs.now in
    let bs : List Window = c.args.windows.now in
    let few : length pairs ≤ 128 = (passed k pairs (map span_of bs) (length pairs) c.requires.closed_before.passes).range.few_days in
    let kept = shut_day k pairs c.args.place bs c.requires.place_in_bounds c.requires.closed_before c.narrow.new.records 128 _ c.narrow.result few c.narrow.ensures.answer c.narrow.ensures.records in
    record { closed = kept.0; plan = kept.1 }
