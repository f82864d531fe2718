-- Numbers read so far, in front of those still to come.
use Rattle.std.proofs.Common.{ℕ, List, ◌++◌, Result}
use Rattle.reading.specs.declared.words.Unfit.{Unfit}
use Rattle.reading.specs.Results.{map_ok}

abbrev pub in_front : List ℕ → Result (List ℕ) Unfit → Result (List ℕ) Unfit
in_front ns r = map_ok (λ ms. ns ++ ms) r
