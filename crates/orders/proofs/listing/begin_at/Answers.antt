use Rattle.std.proofs.Common.{rules}
use Rattle.std.proofs.lemmas.List.Edits.{map_over_more}
use Rattle.orders.specs.Records.{told_begun}
use Rattle.orders.proofs.listing.begin_at.Goals as goal

pub loop-order-preserved : goal.loop-order-preserved
loop-order-preserved c = search (rules, map_over_more (told_begun c.args.today))
