use Rattle.std.proofs.Common.{ℕ, map, length, take, sym, subst}
use Rattle.narrowing.specs.Verdict.{VerdictMeans}
use Rattle.records.proofs.Checked.{passed}
use Rattle.narrowing.proofs.Replies.{told_means}
use Rattle.narrowing.proofs.judging.verdict.Goals as goal

pub judge-requires-clause-proper : goal.judge-requires-clause-proper
judge-requires-clause-proper g c =
    (passed c.args.first c.args.pairs.now (map g.R.Record.span c.args.records.now) (length c.args.marks.now) (sym c.in_ok-check.ensures)).proper

pub returns-clause-means : goal.returns-clause-means
returns-clause-means g c ok =
    let k : ℕ = c.args.first in
    let pairs = c.args.pairs.now in
    let ws = map g.R.Record.span c.args.records.now in
    let P = passed k pairs ws (length c.args.marks.now) ok in
    subst (VerdictMeans k pairs ws) (sym c.judge.ensures.answer) (told_means k pairs ws (take (length pairs) c.judge.new.marks) P.proper.within)
