use Rattle.std.proofs.Common.{rules}
use Rattle.ledger.specs.Calls.{Edit.change}
use Rattle.book.proofs.Lives.{goes_by}
use Rattle.book.proofs.desk.Desk.change.Goals as goal

pub returns-clause-goes : goal.returns-clause-goes
returns-clause-goes g c = goes_by g.C.Calendar.told g.M.Mode.begun c.args.self.now _ (change c.args.number c.args.asked.first c.args.asked.last) _ (search rules)
