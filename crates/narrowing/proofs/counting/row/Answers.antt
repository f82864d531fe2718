use Rattle.narrowing.proofs.Parts.{part_length, part_at}
use Rattle.narrowing.proofs.counting.row.Goals as goal

pub returns : goal.returns
returns c = record {
  long = part_length c.args.table.now c.args.last c.told-table c.requires;
  cells = λ p h. part_at c.args.table.now c.args.last p h;
}
