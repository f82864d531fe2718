use Rattle.narrowing.proofs.Writes.{zeros}
use Rattle.narrowing.proofs.tables.Tables.blank.Goals as goal

pub returns : goal.returns
returns c = zeros 16384
