use Rattle.std.proofs.Common.{◌≡◌, ℕ, List, map, length, Ok, sym, ap, ◌∙◌, subst, arith}
use Rattle.std.proofs.lemmas.List.{length-map}
use Rattle.plans.specs.Plans.{Window, Pair}
use Rattle.plans.specs.Narrowing.{first_plan}
use Rattle.records.specs.Checks.{checked}
use Rattle.records.proofs.Checked.{passed}
use Rattle.records.specs.Bare.{span_of}
use Rattle.records.proofs.Copying.{spans_bare}
use Rattle.planning.specs.Planned.{Planned, told_plan, past_checks, planned_of, PlannedMeans}
use Rattle.planning.proofs.Answered.{planned_means}
use Rattle.planning.proofs.planning.first_plan.Goals as goal

pub windows_of-windows-requires : goal.windows_of-windows-requires
windows_of-windows-requires g c =
    let pairs : List Pair = c.args.pairs.now in
    let records = c.args.records.now in
    let ws : List Window = map g.R.Record.span records in
    let ok : checked c.args.first pairs ws (length pairs) ≡ Ok tt = sym c.in_ok-check.ensures in
    omega (arith, (passed c.args.first pairs ws (length pairs) ok).few_records, length-map records g.R.Record.span)

pub plan_windows-requires : goal.plan_windows-requires
plan_windows-requires g c =
    let k : ℕ = c.args.first in
    let pairs : List Pair = c.args.pairs.now in
    let records = c.args.records.now in
    let ws : List Window = map g.R.Record.span records in
    let ok : checked c.args.first pairs ws (length pairs) ≡ Ok tt = sym c.in_ok-check.ensures in
    let spans : map span_of c.as_mut_slice.result.now ≡ ws = ap (map span_of) (c.as_mut_slice.ensures.value ∙ c.windows_of-windows.ensures) ∙ spans_bare ws in
    ap (λ vs. checked k pairs vs (length pairs)) spans ∙ ok

pub returns : goal.returns
returns g c =
    let k : ℕ = c.args.first in
    let pairs : List Pair = c.args.pairs.now in
    let records = c.args.records.now in
    let ws : List Window = map g.R.Record.span records in
    let ok : checked c.args.first pairs ws (length pairs) ≡ Ok tt = sym c.in_ok-check.ensures in
    let spans : map span_of c.as_mut_slice.result.now ≡ ws = ap (map span_of) (c.as_mut_slice.ensures.value ∙ c.windows_of-windows.ensures) ∙ spans_bare ws in
    let told : ◌≡◌ {A = Planned} (told_plan (Ok c.plan_windows.result)) (planned_of k pairs ws) =
    ap (λ plan. Ok plan) (c.plan_windows.ensures ∙ ap (first_plan k pairs) spans)
    ∙ ap (λ o. past_checks o (first_plan k pairs ws)) (sym ok) in
    let P : Planned → Type 0 = PlannedMeans k pairs ws in
    record { answer = told; means = subst P (sym told) (planned_means k pairs ws) }
