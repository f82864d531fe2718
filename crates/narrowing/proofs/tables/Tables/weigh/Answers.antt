use Rattle.std.proofs.Common.{◌≤◌, map, length}
use Rattle.std.proofs.lemmas.List.{length-map}
use Rattle.plans.proofs.Exists.{plan_exists}
use Rattle.narrowing.specs.Counting.{tabled}
use Rattle.narrowing.proofs.tables.Tables.weigh.Goals as goal

pub returns : goal.returns
returns g c =
    let pairs = c.args.days.now.pairs.now in
    let ws = map g.R.Record.span c.args.records.now in
    let left = c.needs_left.new.left in
    let C = c.count_runs.ensures in
    let L = c.needs_left.ensures.needs c.args.days.now.first ws C in
    let fits : tabled left (length pairs) ≤ length ws = simp length-map c.if-self-days.false in
    record {
      plan = (plan_exists c.args.days.now.first pairs ws (tabled left) c.requires.proper L).1 (c.in_default.ensures c.args.days.now.first ws C, fits);
      counted = C;
      summed = c.sum_mosts.ensures;
      needs = L;
    }
