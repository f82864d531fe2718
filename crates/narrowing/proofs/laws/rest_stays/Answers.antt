use Rattle.narrowing.proofs.Meaning.{rest_stays}
use Rattle.narrowing.proofs.laws.rest_stays.Goals as goal

pub returns : goal.returns
returns g c =
    let m = g.R.Record in
    let laws = g.met.R.Record in
    rest_stays m.span m.put laws.tells laws.again laws.same
