use Rattle.std.proofs.Common.{◌≡◌, ◌≤◌, map, take}
use Rattle.plans.specs.Sets.{meeting}
use Rattle.narrowing.proofs.shortage.count_meeting.Given as goal

abbrev pub invariant-loop-each : goal.invariant-loop-each
invariant-loop-each g l = (l.met ≤ l.each-index) × (l.met ≡ meeting l.day l.marks (take l.each-index (map g.R.Record.span l.records)))
