use Rattle.std.proofs.Common.{◌≡◌, ℕ, suc, ◌+◌, ◌*◌, ◌≤◌, ◌⊎◌, List, length, get_or, set, sym, ap, ◌∙◌, subst, inl, inr, add-one, arith}
use Rattle.std.proofs.lemmas.List.{get_or-set_same, get_or-set_other}
use Rattle.std.proofs.lemmas.Bool.{cases_eq}
use Rattle.plans.specs.Plans.{Window, fewest}
use Rattle.plans.specs.Needs.{forced, NeedLeft}
use Rattle.plans.proofs.Windows.{forced_none}
use Rattle.narrowing.specs.Counting.{Counted}
use Rattle.narrowing.proofs.Parts.{front_length, front_at}
use Rattle.narrowing.proofs.Grow.{left_none, left_more}
use Rattle.narrowing.proofs.needs.needs_left.Goals as goal

pub loop-v-init : goal.loop-v-init
loop-v-init c =
    let xs = c.args.left.now in
    let d : ℕ = length c.args.days.now.pairs.now in
    let z : get_or (set xs 0 0) 0 0 ≡ 0 = get_or-set_same xs 0 0 0 (omega arith) in (
      (λ k ws C. left_none k (fewest c.args.days.now.pairs.now) ws (λ v. get_or (set xs 0 0) v 0) (λ p. forced_none k d p ws C.within) z),
      λ j h. let e : j ≡ 0 = omega arith in rw e (omega (arith, z)),
    )

pub reach-requires : goal.reach-requires
reach-requires c =
    let v : ℕ = c.loop-v.v in
    let ys = c.loop-v.left in
    let n = c.row.ensures.long in
    let m = front_length ys v 129 (omega arith) (omega arith) in
    record {
      row_len = n ∙ sym m;
      small = λ p h. omega (arith, front_at ys v p (omega arith), c.loop-v.invariant.1 p (omega arith));
    }

pub loop-v-preserved : goal.loop-v-preserved
loop-v-preserved c =
    let b : ℕ = c.loop-v.v in
    let d : ℕ = length c.args.days.now.pairs.now in
    let xs = c.args.table.now in
    let ys = c.loop-v.left in
    let ls : ℕ → ℕ = fewest c.args.days.now.pairs.now in
    let x : ℕ = c.reach.result in
    let r = c.reach.ensures in
    let n = c.row.ensures.long in
    let len : length ys ≡ 129 = omega arith in
    let M : ℕ → ℕ = λ v. get_or ys v 0 in
    let M' : ℕ → ℕ = λ v. get_or (set ys (b + 1) x) v 0 in
    let at : get_or (set ys (b + 1) x) (b + 1) 0 ≡ x = get_or-set_same ys (b + 1) x 0 (omega arith) in
    let top : M' (suc b) ≡ x = ap M' (sym (add-one b)) ∙ at in
    let same : (j : ℕ) → j ≤ b → M' j ≡ M j = λ j h. get_or-set_other ys (b + 1) j x 0 (omega arith) in
    let more : (k : ℕ) (ws : List Window) → Counted k d ws xs → NeedLeft k (suc b) ls ws M' =
    λ k ws C.
    let cell : (p : ℕ) → p ≤ b → get_or c.row.result.now p 0 ≡ forced k ws p (suc b) = λ p h. c.row.ensures.cells p h ∙ C.cells b (omega arith) p h in
    let att : (M' (suc b) ≡ M b + ls b) ⊎ ((p : ℕ) × (p ≤ b) × (M' (suc b) ≡ M p + forced k ws p (suc b))) =
    elim r.attained [
      | inl e ↦ inl (top ∙ e)
      | inr e ↦ inr (e.0, omega (arith, e.1), omega (arith, e.2, cell e.0 (omega (arith, e.1)), front_at ys b e.0 (omega (arith, e.1))))
    ] in
    left_more k b ls ws M M' (λ p. forced_none k d p ws C.within) (c.loop-v.invariant.0 k ws C) same (omega (arith, r.from_start))
    (λ p h. omega (arith, r.above p (omega arith), cell p h, front_at ys b p h)) att in
    let P : ℕ → Type 0 = λ n. (k : ℕ) (ws : List Window) → Counted k d ws xs → NeedLeft k n ls ws M' in (
      subst P (sym (add-one b)) more,
      λ j h. elim (cases_eq j (b + 1)) [
        | inl e ↦ rw e (elim r.attained [
          | inl q ↦ omega (arith, c.loop-v.invariant.1 b (omega arith))
          | inr q ↦
              omega (
                arith,
                q.2,
                c.row.ensures.cells q.0 (omega (arith, q.1)),
                c.fits-table (b * 128 + q.0),
                front_at ys b q.0 (omega (arith, q.1)),
                c.loop-v.invariant.1 q.0 (omega (arith, q.1)),
              )
        ])
        | inr ne ↦ omega (arith, get_or-set_other ys (b + 1) j x 0 ne, c.loop-v.invariant.1 j (omega arith))
      ],
    )
