use Rattle.std.proofs.Common.{◌≡◌, ◌≢◌, ◌∙◌, sym, refl, rules, arith}
use Rattle.std.proofs.lemmas.Iterator.{index_from_first, IsFirst-from_position, YieldsList-from_slice}
use Rattle.std.proofs.lemmas.Bool.Decides.{nat_tests}
use borrow.Author.Tests.{tests}
use Rattle.reading.specs.Pieces.{before}
use Rattle.reading.proofs.cut.distance.Goals as goal

pub returns-clause-value : goal.returns-clause-value
returns-clause-value c =
    let e = c.args.end in
    let xs = c.args.bytes.now in
    c.unwrap_or.ensures ∙ sym (index_from_first (before e) (λ b. b ≡ e) (λ b. b ≢ e) refl (λ b bs h. grind (arith, nat_tests)) (λ b bs h. grind (arith, nat_tests)) xs _ (IsFirst-from_position _ _ _ (λ b. b ≡ e) (λ b. b ≢ e) c.position.ensures.ran (YieldsList-from_slice xs cc) (λ x q k. search (rules, tests)) (λ x q k. search (rules, tests))))
