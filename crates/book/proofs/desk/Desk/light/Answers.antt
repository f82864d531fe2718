use Rattle.std.proofs.Common.{rules}
use Rattle.ledger.specs.Calls.{Edit.light}
use Rattle.book.proofs.Lives.{goes_by}
use Rattle.book.proofs.desk.Desk.light.Goals as goal

pub returns-clause-goes : goal.returns-clause-goes
returns-clause-goes g c = goes_by g.C.Calendar.told g.M.Mode.begun c.args.self.now _ (light c.args.day) _ (search rules)
