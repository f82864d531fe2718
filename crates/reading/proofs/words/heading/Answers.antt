use Rattle.std.proofs.Common.{length, ap, arith}
use Rattle.reading.proofs.Cuts.{fields_few}
use Rattle.reading.proofs.words.heading.Goals as goal

pub returns-in-Letter-clause-few : goal.returns-in-Letter-clause-few
returns-in-Letter-clause-few c =
    let fields = c.new-fields.result in
    omega (arith, fields_few fields.line.now fields.place, ap (λ l. length l.now) c.new-fields.ensures.line, ap length c.in_ok-letter.ensures.steps)
