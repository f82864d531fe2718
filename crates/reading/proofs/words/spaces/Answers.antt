use Rattle.std.proofs.Common.{◌≡◌, suc, ◌+◌, cond, eqb, length, get_or, drop, ap, ◌∙◌, arith}
use Rattle.std.proofs.lemmas.List.{drop_more, at_drop_all}
use Rattle.std.proofs.lemmas.Bool.Decides.{nat_tests}
use Rattle.reading.specs.Pieces.{parts}
use Rattle.reading.proofs.Cuts.{pieces_more}
use Rattle.reading.proofs.words.spaces.Goals as goal

pub loop-b-preserved : goal.loop-b-preserved
loop-b-preserved c =
    let bs = c.args.bytes.now in
    let i = c.loop-b.b-index in
    let step : length (parts (drop i bs)) ≡ cond (eqb (get_or bs i 0) 32) (suc (length (parts (drop (i + 1) bs)))) (length (parts (drop (i + 1) bs))) = ap (λ l. length (parts l)) (drop_more bs i 0 c.loop-b-test.true) ∙ pieces_more 32 (get_or bs i 0) (drop (i + 1) bs) in
    grind (arith, nat_tests)

pub returns : goal.returns
returns c =
    let end : length (parts (drop c.loop-b.b-index c.args.bytes.now)) ≡ 1 = at_drop_all (λ l. length (parts l)) c.args.bytes.now c.loop-b.b-index c.loop-b-test.false in
    omega (arith, c.loop-b.invariant.0)
