use Rattle.std.proofs.Common.{◌≡◌, ℕ, ◌+◌, ◌∷◌, ◌++◌, [], cond, length, get_or, ap, ◌∙◌, add-one, arith, rules, length-append}
use Rattle.std.proofs.lemmas.Bool.{eq-eqb, ne_eqb}
use Rattle.std.proofs.lemmas.Slice.Zip.{zip_turn, zip_end}
use Rattle.plans.specs.Plans.{fewest}
use Rattle.plans.specs.Sets.{in_set, sum_over}
use Rattle.narrowing.proofs.Missing.{in_set_at}
use Rattle.narrowing.proofs.shortage.sum_needed.Goals as goal

pub loop-pair-preserved-then-mark-eq1 : goal.loop-pair-preserved-then-mark-eq1
loop-pair-preserved-then-mark-eq1 c =
    let pairs = c.args.days.now.pairs.now in
    let marks = c.args.marks.now in
    let v : ℕ = length c.loop-pair.yielded in
    let here = zip_turn pairs marks c.loop-pair.yielded c.into_iter-pair-iterator.result _ c.next.new.self _ (search rules) (search rules) c.loop-pair.yielded_by (c.in-Some.pair, c.in-Some.mark) c.in-Some.is c.next.ensures.steps in
    let ls : ℕ → ℕ = fewest pairs in
    let more : c.in-Some.pair.now.0 ≡ ls v = ap (λ (p : ℕ × ℕ). p.0) (here.2 (0, 0)) in
    let marked : get_or marks v 0 ≡ 1 = cc (here.3 0, c.if-mark-eq1.true) in
    let long : length (c.loop-pair.yielded ++ (c.in-Some.pair, c.in-Some.mark) ∷ []) ≡ v + 1 = simp length-append in
    rw long (
      omega (arith, c.loop-pair.invariant.0),
      λ k.
          let step : sum_over k marks ls (v + 1) ≡ sum_over k marks ls v + cond (in_set k marks (k + v)) (ls v) 0 = ap (sum_over k marks ls) (add-one v) in
          let one : cond (in_set k marks (k + v)) (ls v) 0 ≡ ls v = ap (λ b. cond b (ls v) 0) (in_set_at k marks v ∙ eq-eqb (get_or marks v 0) 1 marked) in
          omega (arith, step, one, c.loop-pair.invariant.1 k),
    )

pub loop-pair-preserved : goal.loop-pair-preserved
loop-pair-preserved c =
    let pairs = c.args.days.now.pairs.now in
    let marks = c.args.marks.now in
    let v : ℕ = length c.loop-pair.yielded in
    let here = zip_turn pairs marks c.loop-pair.yielded c.into_iter-pair-iterator.result _ c.next.new.self _ (search rules) (search rules) c.loop-pair.yielded_by (c.in-Some.pair, c.in-Some.mark) c.in-Some.is c.next.ensures.steps in
    let ls : ℕ → ℕ = fewest pairs in
    let long : length (c.loop-pair.yielded ++ (c.in-Some.pair, c.in-Some.mark) ∷ []) ≡ v + 1 = simp length-append in
    rw long (
      omega (arith, c.loop-pair.invariant.0),
      λ k.
          let step : sum_over k marks ls (v + 1) ≡ sum_over k marks ls v + cond (in_set k marks (k + v)) (ls v) 0 = ap (sum_over k marks ls) (add-one v) in
          let none : cond (in_set k marks (k + v)) (ls v) 0 ≡ 0 = ap (λ b. cond b (ls v) 0) (in_set_at k marks v ∙ ne_eqb (get_or marks v 0) 1 (λ e. c.if-mark-eq1.false (here.3 0 ∙ e))) in
          omega (arith, step, none, c.loop-pair.invariant.1 k),
    )

pub returns : goal.returns
returns c k =
    let pairs = c.args.days.now.pairs.now in
    let marks = c.args.marks.now in
    let all = zip_end pairs marks c.loop-pair.yielded c.into_iter-pair-iterator.result _ c.next.new.self _ (search rules) (search rules) c.loop-pair.yielded_by c.in-None.is c.next.ensures.steps in
    c.loop-pair.invariant.1 k ∙ ap (sum_over k marks (fewest pairs)) (omega (arith, all))
