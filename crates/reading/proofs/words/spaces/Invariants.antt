use Rattle.std.proofs.Common.{◌≡◌, ◌+◌, ◌≤◌, length, drop}
use Rattle.reading.specs.Pieces.{parts}
use Rattle.reading.proofs.words.spaces.Given as goal

abbrev pub invariant-loop-b : goal.invariant-loop-b
invariant-loop-b l = (l.n + length (parts (drop l.b-index l.bytes)) ≡ length (parts l.bytes)) × (l.n ≤ l.b-index)
