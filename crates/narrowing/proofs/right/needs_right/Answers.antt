use Rattle.std.proofs.Common.{◌≡◌, ℕ, suc, ◌+◌, ◌-◌, ◌*◌, ◌<◌, ◌≤◌, max, List, ◌++◌, length, get_or, drop, set, ap, ◌∙◌, subst, inl, inr, add-one, arith}
use Rattle.std.proofs.lemmas.List.{get_or-set_same, get_or-set_other}
use Rattle.std.proofs.lemmas.Bool.{cases_lt, cases_eq}
use Rattle.plans.specs.Plans.{fewest}
use Rattle.plans.specs.Needs.{forced}
use Rattle.plans.proofs.Windows.{forced_none}
use Rattle.narrowing.specs.Counting.{tabled}
use Rattle.narrowing.proofs.Parts.{front_length, front_at, over_length, over_low, over_high}
use Rattle.narrowing.proofs.Backward.{RightFrom, right_more, right_all}
use Rattle.narrowing.proofs.right.needs_right.Goals as goal

pub loop-v-preserved : goal.loop-v-preserved
loop-v-preserved c =
    let b : ℕ = c.loop-v.v - 1 in
    let d : ℕ = length c.args.days.now.pairs.now in
    let xs = c.args.table.now in
    let ys : List ℕ = c.loop-v.right in
    let zs : List ℕ = c.lift.new.needs in
    let ls : ℕ → ℕ = fewest c.args.days.now.pairs.now in
    let os : List ℕ = zs ++ drop (b + 1) ys in
    let x : ℕ = c.max.result in
    let N : ℕ → ℕ = tabled ys in
    let N' : ℕ → ℕ = tabled (set os b x) in
    let n = c.row.ensures.long in
    let yl : length ys ≡ 129 = omega arith in
    let m = front_length ys b 129 yl (omega arith) in
    let zl : length zs ≡ b + 1 = c.lift.auto.needs ∙ m in
    let ol : length os ≡ 129 = over_length ys zs b 129 yl (omega arith) zl in
    let nx : N (b + 1) ≡ N (suc b) = ap N (add-one b) in
    let cell : ℕ → ℕ = λ p. get_or xs (b * 128 + p) 0 in
    let high : (j : ℕ) → b < j → j ≤ d → N' j ≡ N j = λ j h l. get_or-set_other os b j x 0 (omega arith) ∙ over_high ys zs b j zl h in
    let lifted : (p : ℕ) → p ≤ b → get_or os p 0 ≡ max (N p) (cell p + N (suc b)) = λ p h.
    let f = c.lift.ensures p (omega arith) in
    omega (arith, over_low ys zs b p zl h, f, front_at ys b p h, c.row.ensures.cells p h) in
    let low : (p : ℕ) → p < b → N' p ≡ max (N p) (cell p + N (suc b)) = λ p h. get_or-set_other os b p x 0 (omega arith) ∙ lifted p (omega arith) in
    let top : N' b ≡ x = get_or-set_same os b x 0 (omega arith) in
    let here : N' b ≡ max (max (N b) (cell b + N (suc b))) (ls b + N (suc b)) = omega (arith, top, c.max.ensures, lifted b (omega arith)) in (
      (λ k ws C.
          let is : (p : ℕ) → p ≤ b → cell p ≡ forced k ws p (suc b) = λ p h. C.cells b (omega arith) p h in
          right_more k d b c.loop-v.v ls ws N N' (omega arith) (omega arith) (c.loop-v.invariant.0 k ws C) high
          (λ p h. omega (arith, low p h, is p (omega arith)))
          (omega (arith, here, is b (omega arith)))),
      λ j h. elim (cases_lt b j) [
        | inl l ↦ omega (arith, high j l h, c.loop-v.invariant.1 j h)
        | inr g ↦ elim (cases_eq j b) [
          | inl e ↦ rw e (omega (arith, here, c.fits-table (b * 128 + b), c.loop-v.invariant.1 b (omega arith), c.loop-v.invariant.1 (b + 1) (omega arith)))
          | inr ne ↦ omega (arith, low j (omega arith), c.fits-table (b * 128 + j), c.loop-v.invariant.1 j h, c.loop-v.invariant.1 (b + 1) (omega arith))
        ]
      ],
    )

pub returns : goal.returns
returns c k ws C =
    let d : ℕ = length c.args.days.now.pairs.now in
    let ls : ℕ → ℕ = fewest c.args.days.now.pairs.now in
    let z : c.loop-v.v ≡ 0 = omega arith in
    let N : ℕ → ℕ = tabled c.loop-v.right in
    let P : ℕ → Type 0 = λ b. RightFrom k d b ls ws N in
    right_all k d ls ws N (λ p. forced_none k d p ws C.within) (subst P z (c.loop-v.invariant.0 k ws C))
