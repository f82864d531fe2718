use Rattle.std.proofs.Common.{◌≡◌, ◌++◌}
use Rattle.std.specs.Slice.Iter.{chunks_exact_rest, chunks_exact_size}
use Rattle.sheet.specs.Header.{in_pairs}
use Rattle.sheet.proofs.pairing.pairs_of.Given as goal

abbrev pub invariant-loop-pair : goal.invariant-loop-pair
invariant-loop-pair l =
    (l.pairs.items ++ in_pairs (chunks_exact_rest l.pair-iterator) ≡ in_pairs l.numbers)
    × (chunks_exact_size l.pair-iterator ≡ 2)
