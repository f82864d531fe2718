use Rattle.std.proofs.Common.{◌≡◌, ◌∷◌, ◌++◌, length, get_or, ap, rules, arith}
use Rattle.std.proofs.lemmas.List.{length-append}
use Rattle.std.specs.Slice.Iter.{chunks_exact_rest}
use Rattle.sheet.specs.Header.{in_pairs}
use Rattle.sheet.proofs.Pairings.{length_in_pairs, in_pairs_more}
use Rattle.sheet.proofs.pairing.pairs_of.Goals as goal

pub push-requires : goal.push-requires
push-requires c =
    let pair = c.in-Some.pair.now in
    let rest = chunks_exact_rest c.next.new.self in
    let more = in_pairs_more pair rest (grind arith) in
    let cut = c.in-Some.ensures.steps.1.0 in
    let all : c.loop-pair.pairs.items ++ ((get_or pair 0 0, get_or pair 1 0) ∷ in_pairs rest) ≡ in_pairs c.args.numbers.now = cc in
    (search rules, omega (arith, simp length-append at (ap length all), length_in_pairs c.args.numbers.now))
