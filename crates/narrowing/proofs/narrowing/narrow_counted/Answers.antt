use Rattle.std.proofs.Common.{ℕ, List, map, length, ap, ◌∙◌, arith}
use Rattle.std.proofs.lemmas.List.{length-map}
use Rattle.plans.specs.Plans.{Window, Pair}
use Rattle.plans.specs.Tight.{Ready}
use Rattle.narrowing.specs.Counting.{tabled}
use Rattle.narrowing.specs.Narrow.{placed}
use Rattle.narrowing.specs.Scanning.{Lows}
use Rattle.narrowing.proofs.Windows.{within_more}
use Rattle.narrowing.proofs.Writes.{zeros}
use Rattle.narrowing.proofs.Scanned.{lows_kept, ready, needs_within, found_shorter, found_narrowed}
use Rattle.narrowing.proofs.narrowing.narrow_counted.Goals as goal

pub needs_right-requires : goal.needs_right-requires
needs_right-requires g c = zeros 129

pub tight_ends-requires-clause-needs_meet : goal.tight_ends-requires-clause-needs_meet
tight_ends-requires-clause-needs_meet g c v h =
    let k : ℕ = c.args.days.now.first in
    let pairs : List Pair = c.args.days.now.pairs.now in
    let ws : List Window = map g.R.Record.span c.args.records.now in
    let M : ℕ → ℕ = tabled c.args.tables.now.left in
    let N : ℕ → ℕ = tabled c.needs_right.new.right in
    let Y : Ready k pairs ws M N = ready k pairs ws M N c.requires.proper c.requires.planned.plan c.requires.planned.needs (c.needs_right.ensures k ws c.requires.planned.counted) in
    omega (arith, needs_within k pairs ws M N Y v h, length-map c.args.records.now g.R.Record.span)

pub tight_ends-requires-clause-blank : goal.tight_ends-requires-clause-blank
tight_ends-requires-clause-blank g c = zeros 129

pub put_windows-requires : goal.put_windows-requires
put_windows-requires g c =
    let k : ℕ = c.args.days.now.first in
    let pairs : List Pair = c.args.days.now.pairs.now in
    let ws : List Window = map g.R.Record.span c.args.records.now in
    let M : ℕ → ℕ = tabled c.args.tables.now.left in
    let N : ℕ → ℕ = tabled c.needs_right.new.right in
    let Y : Ready k pairs ws M N = ready k pairs ws M N c.requires.proper c.requires.planned.plan c.requires.planned.needs (c.needs_right.ensures k ws c.requires.planned.counted) in
    let early : List ℕ = c.tight_ends.new.earliest in
    let late : List ℕ = c.tight_ends.new.latest in
    let table : List ℕ = c.highs.new.table in
    let n = length-map c.args.records.now g.R.Record.span in
    let L : Lows (length pairs) early table = lows_kept (length pairs) early late c.lows.new.table table c.lows.ensures c.highs.ensures.above c.highs.ensures.below in record {
      within = within_more k (length pairs) 128 ws c.args.days.now.few c.requires.proper.within;
      shorter = found_shorter k pairs ws M N early late table Y c.requires.planned.plan (c.tight_ends.ensures.early k ws c.requires.planned.counted n) (c.tight_ends.ensures.late k ws c.requires.planned.counted n) L c.highs.ensures.above;
    }

pub returns : goal.returns
returns g c =
    let k : ℕ = c.args.days.now.first in
    let pairs : List Pair = c.args.days.now.pairs.now in
    let ws : List Window = map g.R.Record.span c.args.records.now in
    let M : ℕ → ℕ = tabled c.args.tables.now.left in
    let N : ℕ → ℕ = tabled c.needs_right.new.right in
    let Y : Ready k pairs ws M N = ready k pairs ws M N c.requires.proper c.requires.planned.plan c.requires.planned.needs (c.needs_right.ensures k ws c.requires.planned.counted) in
    let early : List ℕ = c.tight_ends.new.earliest in
    let late : List ℕ = c.tight_ends.new.latest in
    let table : List ℕ = c.highs.new.table in
    let n = length-map c.args.records.now g.R.Record.span in
    let L : Lows (length pairs) early table = lows_kept (length pairs) early late c.lows.new.table table c.lows.ensures c.highs.ensures.above c.highs.ensures.below in
    let e = found_narrowed k pairs ws M N early late table Y c.requires.planned.plan (c.tight_ends.ensures.early k ws c.requires.planned.counted n) (c.tight_ends.ensures.late k ws c.requires.planned.counted n) L c.highs.ensures.above in
    c.put_windows.ensures ∙ ap (λ vs. placed g.R.Record.put vs c.args.records.now) e
