use Rattle.std.proofs.Common.{map, ◌∙◌}
use Rattle.records.specs.Bare.{span_of}
use Rattle.narrowing.proofs.Weighed.{weighed_plan}
use Rattle.narrowing.proofs.support.Closed.has_plan.Goals as goal

pub returns-clause-no : goal.returns-clause-no
returns-clause-no c ts plan =
    c.is_ok.ensures.value ∙ weighed_plan c.args.days.now.first c.args.days.now.pairs.now (map span_of c.args.self.now.windows.now) c.weigh.new.self c.weigh.result c.requires.proper c.weigh.ensures ts plan
