use Rattle.sheet.proofs.Marks.{only_mark}
use Rattle.sheet.proofs.opening.mark.Goals as goal

pub returns-in-Some-eq1-clause-only : goal.returns-in-Some-eq1-clause-only
returns-in-Some-eq1-clause-only c = λ _. only_mark c.args.line.now cc
