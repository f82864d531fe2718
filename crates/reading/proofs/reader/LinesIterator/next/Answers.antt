use Rattle.std.proofs.Common.{length, ap, arith}
use Rattle.reading.proofs.Cuts.{lines_at}
use Rattle.reading.proofs.reader.LinesIterator.next.Goals as goal

pub returns-clause-steps : goal.returns-clause-steps
returns-clause-steps c = lines_at _ _ _ c.if-self.false c.piece-line.ensures.value

pub invariant_of-self-clause-all : goal.invariant_of-self-clause-all
invariant_of-self-clause-all c = omega (arith, c.args.self.now.all, ap length (lines_at _ _ _ c.if-self.false c.piece-line.ensures.value))
