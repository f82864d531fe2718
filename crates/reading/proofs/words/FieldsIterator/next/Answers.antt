use Rattle.std.proofs.Common.{length, ap, arith}
use Rattle.reading.proofs.Cuts.{words_at}
use Rattle.reading.proofs.words.FieldsIterator.next.Goals as goal

pub returns-clause-steps : goal.returns-clause-steps
returns-clause-steps c =
    let w = words_at _ _ _ c.if-self.false c.piece-bytes.ensures.value in
    let told = c.read_field.ensures.value in
    cc

pub returns-clause-goes : goal.returns-clause-goes
returns-clause-goes c =
    let w = words_at _ _ _ c.if-self.false c.piece-bytes.ensures.value in
    let fewer = ap length w in
    grind arith
