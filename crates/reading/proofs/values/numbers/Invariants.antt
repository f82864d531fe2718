use Rattle.std.proofs.Common.{◌≡◌, ◌+◌, length}
use Rattle.reading.specs.Told.{fields_left, numbers_of}
use Rattle.reading.specs.Words.{values}
use Rattle.reading.proofs.Readers.{in_front}
use Rattle.reading.proofs.values.numbers.Given as goal

abbrev pub invariant-loop-field : goal.invariant-loop-field
invariant-loop-field l =
    (in_front (numbers_of l.numbers) (values (fields_left l.field-iterator)) ≡ values (fields_left l.initial.field-iterator))
    × (length (numbers_of l.numbers) + length (fields_left l.field-iterator) ≡ length (fields_left l.initial.field-iterator))

abbrev pub decreases-loop-field : goal.decreases-loop-field
decreases-loop-field l = length (fields_left l.field-iterator)
