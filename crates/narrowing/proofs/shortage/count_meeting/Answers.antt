use Rattle.std.proofs.Common.{◌≡◌, ℕ, suc, ◌+◌, ◌-◌, ◌<◌, ◌≤◌, Bool, ltb, map, length, get_or, take, sym, ap, ◌∙◌, arith}
use Rattle.std.proofs.lemmas.List.{length-map, take_all, take_more}
use Rattle.std.proofs.lemmas.Bool.{lt-ltb, le-ltb}
use Rattle.plans.specs.Plans.{Window, days, from, tick}
use Rattle.plans.specs.Runs.{total}
use Rattle.plans.specs.Sets.{in_set, some_day, having, meeting}
use Rattle.narrowing.specs.Counting.{tabled}
use Rattle.records.proofs.Windows.{told_at}
use Rattle.narrowing.proofs.Windows.{told_within}
use Rattle.narrowing.proofs.Missing.{some_by_sums, having_push}
use Rattle.narrowing.proofs.shortage.count_meeting.Goals as goal

pub places-a-requires : goal.places-a-requires
places-a-requires g c =
    let s = told_within g.R.Record.span c.args.day (length c.args.marks.now) c.args.records.now c.loop-each.each-index _ _ c.requires.within c.loop-each-test.true c.each-item.is c.window.ensures in
    record { begins = s.0; ordered = s.1; ends = omega (arith, s.2, c.requires.marks_len_bound) }

pub loop-each-preserved : goal.loop-each-preserved
loop-each-preserved g c =
    let k : ℕ = c.args.day in
    let marks = c.args.marks.now in
    let span = g.R.Record.span in
    let ws = map span c.args.records.now in
    let i : ℕ = c.loop-each.each-index in
    let w : Window = c.window.result in
    let S : ℕ → Bool = in_set k marks in
    let h = c.loop-each-test.true in
    let s : (k ≤ w.0) × (w.0 ≤ w.1) × (w.1 < k + length marks) =
    told_within span k (length marks) c.args.records.now i _ _ c.requires.within h c.each-item.is c.window.ensures in
    let is = told_at span c.args.records.now i _ w h c.each-item.is c.window.ensures in
    let a : ℕ = c.places-a.result.0 in
    let b : ℕ = c.places-a.result.1 + 1 in
    let ea : a ≡ w.0 - k = ap (λ (q : ℕ × ℕ). q.0) c.places-a.ensures.at in
    let eb : c.places-a.result.1 ≡ w.1 - k = ap (λ (q : ℕ × ℕ). q.1) c.places-a.ensures.at in
    let n : ℕ = suc w.1 - w.0 in
    let e : k + a ≡ w.0 = omega arith in
    let f : a + n ≡ b = omega arith in
    let sums : some_day S (days w) ≡ ltb (total (tabled marks) a) (total (tabled marks) b) =
    ap (λ t. some_day S (from t n)) (sym e) ∙ some_by_sums k marks c.requires.marks.marked a n ∙ ap (λ q. ltb (total (tabled marks) a) (total (tabled marks) q)) f in
    let low = c.sum_marks.ensures a (omega arith) in
    let high = c.sum_marks.ensures b (omega arith) in
    let more : meeting k marks (take (i + 1) ws) ≡ meeting k marks (take i ws) + tick (some_day S (days w)) =
    ap (having S) (take_more ws i (0, 0) (simp length-map h)) ∙ having_push S (take i ws) (get_or ws i (0, 0))
    ∙ ap (λ v. having S (take i ws) + tick (some_day S (days v))) (sym is) in
    elim c.if-before-a.branch [
      | goal.then-before-a x ↦
          let one : tick (some_day S (days w)) ≡ 1 = ap tick (sums ∙ lt-ltb _ _ (omega (arith, x.if-before-a.true))) in
          (omega (arith, x.met-is, c.loop-each.invariant.0), omega (arith, x.met-is, c.loop-each.invariant.1))
      | goal.else-before-a x ↦
          let none : tick (some_day S (days w)) ≡ 0 = ap tick (sums ∙ le-ltb _ _ (omega (arith, x.if-before-a.false))) in
          (omega (arith, x.met-is, c.loop-each.invariant.0), omega (arith, x.met-is, c.loop-each.invariant.1))
    ]

pub returns : goal.returns
returns g c =
    let ws = map g.R.Record.span c.args.records.now in
    c.loop-each.invariant.1
    ∙ ap (meeting c.args.day c.args.marks.now) (take_all c.loop-each.each-index ws (simp length-map c.loop-each-test.false))
