use Rattle.std.proofs.Common.{◌≡◌, false, rules, sym, ◌∙◌, arith}
use Rattle.std.proofs.lemmas.Grind.{common_steps}
use borrow.Author.Tests.{tests}
use Rattle.std.proofs.lemmas.Iterator.{YieldsList-from_slice}
use Rattle.reading.specs.Numbers.{unfit}
use Rattle.reading.proofs.Decimals.{folded, fit_reading}
use Rattle.reading.proofs.decimal.number.Goals as goal

pub returns-in_default : goal.returns-in_default
returns-in_default c =
    let bs = c.args.bytes.now in
    let fit : unfit bs ≡ false = grind (arith, common_steps) in
    folded _ (λ x. x.now) _ _ (λ n x r q k. search (rules, tests)) bs _ (YieldsList-from_slice bs cc) c.try_fold.ensures.ran ∙ sym (fit_reading bs fit)
