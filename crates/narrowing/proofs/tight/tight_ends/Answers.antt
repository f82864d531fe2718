use Rattle.std.proofs.Common.{◌≡◌, ℕ, suc, ◌+◌, ◌-◌, ◌<◌, ◌≤◌, Bool, true, false, cond, MatchOption, List, ◌++◌, length, get_or, take, drop, set, sym, ap, ◌∙◌, subst, inl, inr, add-one, arith, rules}
use Rattle.std.proofs.lemmas.List.{get_or-set_same, get_or-set_other, length-set}
use Rattle.std.proofs.lemmas.Bool.{cases_lt, both_ways}
use Rattle.plans.specs.Plans.{Window, most}
use Rattle.plans.specs.Runs.{total}
use Rattle.plans.specs.Tight.{Tight}
use Rattle.plans.proofs.Windows.{total_grows}
use Rattle.narrowing.specs.Counting.{Counted, tabled}
use Rattle.narrowing.specs.Scanning.{tight?}
use Rattle.narrowing.proofs.Parts.{front_length, front_at, over_length, over_low, over_high}
use Rattle.narrowing.proofs.TightEnds.{tells_tight, first_or, EarlyTo, early_more, LateTo, late_more}
use Rattle.narrowing.proofs.tight.tight_ends.Goals as goal

pub invariant_of-runs-clause-before_bound : goal.invariant_of-runs-clause-before_bound
invariant_of-runs-clause-before_bound c p h =
    let b : ℕ = c.loop-v.v in
    let us : ℕ → ℕ = most c.args.days.now.pairs.now in
    let n = c.row.ensures.long in
    omega (arith, front_at c.args.tables.now.before b p (omega arith), c.requires.summed p (omega arith), c.requires.summed (b + 1) (omega arith), total_grows us p (b + 1) (omega arith))

pub invariant_of-runs-clause-left_bound : goal.invariant_of-runs-clause-left_bound
invariant_of-runs-clause-left_bound c p h =
    let b : ℕ = c.loop-v.v in
    let n = c.row.ensures.long in
    omega (arith, front_at c.args.tables.now.left b p (omega arith), c.requires.needs_meet p (omega arith))

pub loop-v-preserved : goal.loop-v-preserved
loop-v-preserved c =
    let b : ℕ = c.loop-v.v in
    let ps = c.args.days.now.pairs.now in
    let us : ℕ → ℕ = most ps in
    let ys = c.args.tables.now.before in
    let zs = c.args.tables.now.left in
    let rs = c.args.right.now in
    let M : ℕ → ℕ = tabled zs in
    let N : ℕ → ℕ = tabled rs in
    let es : List ℕ = c.loop-v.earliest in
    let ls : List ℕ = c.loop-v.latest in
    let new : List ℕ = c.mark_and_find.new.latest in
    let x : ℕ = c.map_or.result in
    let top : ℕ = get_or ys (b + 1) 0 in
    let rest : ℕ = c.args.windows - get_or rs (b + 1) 0 in
    let row = c.row.result.now in
    let n = c.row.ensures.long in
    let ml : length (take (b + 1) ls) ≡ b + 1 = front_length ls b 129 c.loop-v.invariant.3 (omega arith) in
    let nl : length new ≡ b + 1 = c.mark_and_find.auto.latest ∙ ml in
    let el : length es ≡ 129 = c.loop-v.invariant.2 in
    let t : ℕ → Bool = tight? row (take (b + 1) ys) (take (b + 1) zs) top rest in
    let from : MatchOption c.mark_and_find.result (x ≡ b + 1) (λ i. x ≡ i) = search rules in
    let first = first_or t (length row) (b + 1) x c.mark_and_find.result c.mark_and_find.ensures.first from in
    let tot : total us (b + 1) ≡ total us (suc b) = ap (total us) (add-one b) in
    let nx : get_or rs (b + 1) 0 ≡ N (suc b) = ap N (add-one b) in
    let m : ℕ → ℕ = tabled (set es (b + 1) x) in
    let l : ℕ → ℕ = tabled (new ++ drop (b + 1) ls) in
    let here : m (suc b) ≡ x = ap m (sym (add-one b)) ∙ get_or-set_same es (b + 1) x 0 (omega arith) in
    let wrote : (p : ℕ) → p ≤ b → l p ≡ cond (t p) (suc b) (tabled ls p) = λ p h.
    over_low ls new b p nl h ∙ c.mark_and_find.ensures.marks p (omega arith) ∙ ap (λ e. cond (t p) e (get_or (take (b + 1) ls) p 0)) (add-one b)
    ∙ ap (cond (t p) (suc b)) (front_at ls b p h) in
    let kept : (p : ℕ) → b < p → l p ≡ tabled ls p = λ p h. over_high ls new b p nl h in
    let more : (k : ℕ) (ws : List Window) → Counted k (length ps) ws c.args.tables.now.held → length ws ≡ c.args.windows
    → EarlyTo k ps ws M N (suc b) m × LateTo k ps ws M N (suc b) l = λ k ws C w.
    let is : (p : ℕ) → p ≤ b → (t p ≡ true → Tight k ps ws M N p (suc b)) × (Tight k ps ws M N p (suc b) → t p ≡ true) = λ p h.
    tells_tight k ps ws M N row (take (b + 1) ys) (take (b + 1) zs) top rest b p
    (c.row.ensures.cells p h ∙ C.cells b (omega arith) p h)
    (omega (arith, front_at ys b p h, c.requires.summed p (omega arith), c.requires.summed (b + 1) (omega arith)))
    (front_at zs b p h) (omega (arith, c.requires.needs_meet (suc b) (omega arith))) (omega arith) in
    let old = c.loop-v.invariant.0 k ws C w in
    let T : ℕ → Type 0 = λ p. Tight k ps ws M N p (suc b) in (
      early_more k ps ws M N b (tabled es) m old.0 (λ q h. get_or-set_other es (b + 1) q x 0 (omega arith))
          (λ p h ti. elim (cases_lt p x) [
            | inl i ↦ absurd (both_ways (t p) (first.0 p i (omega arith)) ((is p h).1 ti))
            | inr i ↦ omega (arith, here)
          ])
          (λ lt. let lx : x < b + 1 = omega (arith, here) in subst T (sym here) ((is x (omega arith)).0 (first.1 lx))),
      late_more k ps ws M N b (tabled ls) l t old.1 is wrote kept,
    ) in
    let P : ℕ → Type 0 = λ n. (k : ℕ) (ws : List Window) → Counted k (length ps) ws c.args.tables.now.held → length ws ≡ c.args.windows
    → EarlyTo k ps ws M N n m × LateTo k ps ws M N n l in (
      subst P (sym (add-one b)) more,
      λ p. elim (cases_lt b p) [
        | inl i ↦ omega (arith, kept p i, c.loop-v.invariant.1 p)
        | inr i ↦ omega (arith, wrote p i, either (t p) (suc b) (tabled ls p) (omega (arith, c.loop-v.invariant.1 p)))
      ],
      length-set es (b + 1) x ∙ el,
      over_length ls new b 129 c.loop-v.invariant.3 (omega arith) nl,
    )
  where
    either : (t : Bool) (e x : ℕ) → x ≤ e → cond t e x ≤ e
    either true e x h = omega arith
    either false e x h = h
