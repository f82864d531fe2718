use Rattle.std.proofs.Common.{◌≡◌, ℕ, ◌+◌, ◌-◌, length, get_or, drop, sum, sym, refl, ap, arith}
use Rattle.std.proofs.lemmas.List.{drop_all, length-set}
use Rattle.narrowing.proofs.Writes.{set_down, sum_drop}
use Rattle.narrowing.proofs.counting.add_row.Goals as goal

pub loop-p-init : goal.loop-p-init
loop-p-init c = (
  ap sum (sym (drop_all (length c.args.row.now) c.args.row.now (omega arith))),
  (λ j h. refl),
  (λ j h. refl),
  (λ j h l. absurd (omega arith)),
  (λ j h l. absurd (omega arith)),
)

pub overflow_add-run : goal.overflow_add-run
overflow_add-run c =
    let i : ℕ = c.loop-p.p - 1 in
    let xs = c.args.row.now in
    omega (arith, c.loop-p.invariant.0, c.loop-p.invariant.1 i (omega arith), sum_drop xs c.loop-p.p i (omega arith) (omega arith), c.requires.fits i (omega arith))

pub overflow_add-all : goal.overflow_add-all
overflow_add-all c =
    let i : ℕ = c.loop-p.p - 1 in
    let xs = c.args.row.now in
    omega (arith, c.loop-p.invariant.0, c.loop-p.invariant.1 i (omega arith), c.loop-p.invariant.2 i (omega arith), sum_drop xs c.loop-p.p i (omega arith) (omega arith), c.requires.fits i (omega arith))

pub loop-p-preserved : goal.loop-p-preserved
loop-p-preserved c =
    let i : ℕ = c.loop-p.p - 1 in
    let xs = c.args.row.now in
    let ss = c.args.sums.now in
    let f : ℕ → ℕ = λ j. get_or ss j 0 + sum (drop j xs) in
    let r0 : c.loop-p.run + get_or c.loop-p.row i 0 ≡ sum (drop i xs) =
    omega (arith, c.loop-p.invariant.0, c.loop-p.invariant.1 i (omega arith), sum_drop xs c.loop-p.p i (omega arith) (omega arith)) in
    let is : get_or c.loop-p.sums i 0 + (c.loop-p.run + get_or c.loop-p.row i 0) ≡ f i = omega (arith, r0, c.loop-p.invariant.2 i (omega arith)) in
    let a = set_down c.loop-p.row (λ j. get_or xs j 0) f (length c.loop-p.row) c.loop-p.p i _ (omega arith) (omega arith) is c.loop-p.invariant.1 c.loop-p.invariant.3 in
    let b = set_down c.loop-p.sums (λ j. get_or ss j 0) f (length c.loop-p.row) c.loop-p.p i _ (omega arith) (omega arith) is c.loop-p.invariant.2 c.loop-p.invariant.4 in
    let len = length-set c.loop-p.row i (get_or c.loop-p.sums i 0 + (c.loop-p.run + get_or c.loop-p.row i 0)) in
    (r0, a.0, b.0, (λ j h l. a.1 j h (omega arith)), (λ j h l. b.1 j h (omega arith)))
