use Rattle.std.proofs.Common.{map, length, sym, refl}
use Rattle.records.proofs.Checked.{passed}
use Rattle.narrowing.proofs.Meaning.{narrowest}
use Rattle.narrowing.proofs.narrowing.narrow.Goals as goal

pub judge-requires-clause-proper : goal.judge-requires-clause-proper
judge-requires-clause-proper g c =
    (passed c.args.first c.args.pairs.now (map g.R.Record.span c.args.records.now) (length c.args.marks.now) (sym c.in_ok-check.ensures)).proper

pub returns-clause-means : goal.returns-clause-means
returns-clause-means g c _ =
    let m = g.R.Record in
    let laws = g.met.R.Record in
    narrowest m.span m.put laws.tells laws.again laws.same c.args.first c.args.pairs.now c.args.records.now c.narrow_counted.new.records (c.in_ok-judge.ensures.tables refl).plan c.narrow_counted.ensures
