use Rattle.std.proofs.Common.{◌≡◌, map, take}
use Rattle.planning.specs.Closed.{first_of}
use Rattle.lists.specs.Fronts.{items}
use Rattle.planning.proofs.closing.first_days.Given as goal

abbrev pub invariant-loop-window : goal.invariant-loop-window
invariant-loop-window l = items l.days ≡ map first_of (take l.window-index l.windows)
