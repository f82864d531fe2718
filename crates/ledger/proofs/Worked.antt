-- The worked cases by computation.
use Rattle.std.proofs.Common.{refl}
use Rattle.plans.proofs.Worked.{worked_cases as worked_plans}
use Rattle.ledger.specs.Worked.{WorkedCases}

pub worked_cases : WorkedCases
worked_cases = record { on_plans = worked_plans; pushed = refl; lit_day = refl; tried = refl; struck_out = refl; at_the_edge = refl }
