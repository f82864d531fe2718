use Rattle.std.proofs.Common.{ℕ, ◌+◌, ◌*◌, ◌<◌, ◌≤◌, map, get_or, take, set, sym, ap, ◌∙◌, subst, arith}
use Rattle.std.proofs.lemmas.List.{length-set, length-map, take_all}
use Rattle.plans.specs.Plans.{Window}
use Rattle.narrowing.specs.Counting.{matching, Tallied}
use Rattle.records.proofs.Windows.{told_at}
use Rattle.narrowing.proofs.Windows.{told_within, matching_few, tally_more}
use Rattle.narrowing.proofs.counting.tally.Goals as goal

pub places-a-requires : goal.places-a-requires
places-a-requires g c =
    let s = told_within g.R.Record.span c.args.day 128 c.args.records.now c.loop-each.each-index _ _ c.requires.within c.loop-each-test.true c.each-item.is c.window.ensures in
    record { begins = s.0; ordered = s.1; ends = s.2 }

pub overflow_add-table-in-loop-each : goal.overflow_add-table-in-loop-each
overflow_add-table-in-loop-each g c =
    let k : ℕ = c.args.day in
    let ws = map g.R.Record.span c.args.records.now in
    let i : ℕ = c.loop-each.each-index in
    let a : ℕ = c.places-a.result.0 in
    let b : ℕ = c.places-a.result.1 in
    let few = matching_few ws i (k + a) (k + b) (simp length-map c.loop-each-test.true) in
    omega (arith, c.loop-each.invariant.1 b (omega arith) a (omega arith), few, c.requires.records_len_bound)

pub loop-each-preserved : goal.loop-each-preserved
loop-each-preserved g c =
    let k : ℕ = c.args.day in
    let ws = map g.R.Record.span c.args.records.now in
    let i : ℕ = c.loop-each.each-index in
    let xs = c.loop-each.table in
    let w : Window = c.window.result in
    let s : (k ≤ w.0) × (w.0 ≤ w.1) × (w.1 < k + 128) =
    told_within g.R.Record.span k 128 c.args.records.now i _ _ c.requires.within c.loop-each-test.true c.each-item.is c.window.ensures in
    let is = told_at g.R.Record.span c.args.records.now i _ w c.loop-each-test.true c.each-item.is c.window.ensures in
    let P : ℕ × ℕ → Type 0 = λ q. Tallied k (take (i + 1) ws) (set xs (q.1 * 128 + q.0) (get_or xs (q.1 * 128 + q.0) 0 + 1)) in (
      length-set xs _ _ ∙ c.loop-each.invariant.0,
      subst P (sym c.places-a.ensures.at) (tally_more k ws i xs w (simp length-map c.loop-each-test.true) is s.0 (omega arith) (omega arith) s.2 c.loop-each.invariant.0 c.loop-each.invariant.1),
    )

pub returns : goal.returns
returns g c b hb a ha =
    let ws = map g.R.Record.span c.args.records.now in
    c.loop-each.invariant.1 b hb a ha
    ∙ ap (λ l. matching l (c.args.day + a) (c.args.day + b)) (take_all c.loop-each.each-index ws (simp length-map c.loop-each-test.false))
