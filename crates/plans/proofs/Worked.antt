-- The worked cases, by computation.
use Rattle.std.proofs.Common.{refl}
use Rattle.plans.specs.Worked.{WorkedCases}

pub worked_cases : WorkedCases
worked_cases =
    record {
      nothing_asked = refl;
      nobody_there = refl;
      three_on_two = refl;
      three_on_two_marks = refl;
      pushed_on = refl;
      both_ends = refl;
      both_ends_only = refl;
      drawn_on = refl;
      gap_stays = refl;
      gap_unsupported = refl;
      overfull_first = refl;
      five_settled = refl;
    }
