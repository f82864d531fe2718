use Rattle.std.proofs.Common.{ℕ, List, ◌∙◌, arith}
use Rattle.plans.specs.Plans.{Pair}
use Rattle.records.specs.declared.record.bare.Window.{Window}
use Rattle.records.specs.Bare.{bare}
use Rattle.narrowing.proofs.Closing.{put_back, no_day, closed_proper, by_plan}
use Rattle.narrowing.proofs.support.possible.Goals as goal

pub returns-then-day-old-clause-answer : goal.returns-then-day-old-clause-answer
returns-then-day-old-clause-answer c =
    no_day c.args.days.now.first c.args.days.now.pairs.now c.args.windows.now c.args.place c.args.day c.requires.place_in_bounds (λ l m. omega (arith, c.then-day-old.either))

pub has_plan-requires-clause-proper : goal.has_plan-requires-clause-proper
has_plan-requires-clause-proper c =
    closed_proper c.args.days.now.first c.args.days.now.pairs.now c.args.windows.now c.args.place c.args.day c.requires.proper c.requires.place_in_bounds (omega arith) (omega arith)

pub returns : goal.returns
returns c =
    let pairs : List Pair = c.args.days.now.pairs.now in
    let bs : List Window = c.args.windows.now in
    let i : ℕ = c.args.place in
    let t : ℕ = c.args.day in
    let yes = c.has_plan.ensures in
    record {
      answer = by_plan c.args.days.now.first pairs bs i t c.requires.proper c.requires.place_in_bounds (omega arith) (omega arith) c.has_plan.result yes.yes (λ q. yes.no q.0 q.1);
      same = c.drop-guard.ensures ∙ put_back bs i (bare (t, t)) (bare (0, 0));
    }
