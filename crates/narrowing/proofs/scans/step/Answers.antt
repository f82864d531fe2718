use Rattle.std.proofs.Common.{◌≡◌, ℕ, Bool, cond, List, get_or, set, sym, ap, ◌∙◌, arith}
use Rattle.std.proofs.lemmas.List.{get_or-set_same, get_or-set_other}
use Rattle.narrowing.specs.Scanning.{Stepped}
use Rattle.narrowing.proofs.ScanSteps.{step_more, taken}
use Rattle.narrowing.proofs.scans.step.Goals as goal
use Rattle.narrowing.proofs.scans.step.Goals.{then-takes, else-takes}

pub loop-i-preserved : goal.loop-i-preserved
loop-i-preserved g c =
    let i : ℕ = c.loop-i.i in
    let day : ℕ = c.args.day in
    let old : ℕ → ℕ = λ j. get_or c.args.found.now j 0 in
    let xs : List ℕ = c.loop-i.found in
    let x : ℕ = c.if-takes.each in
    let post : ℕ → Bool → Type 0 = goal.F-post g c.args.takes in
    let now : get_or xs i 0 ≡ old i = c.loop-i.invariant.1 i (omega arith) in
    let is : x ≡ cond c.takes.result day (get_or xs i 0) =
    elim c.if-takes.branch [
      | then-takes w ↦ w.each-is ∙ sym (ap (λ t. cond t day (get_or xs i 0)) w.if-takes.true)
      | else-takes w ↦ w.each-is ∙ sym (ap (λ t. cond t day (get_or xs i 0)) w.if-takes.false)
    ] in
    let here : Stepped post day (old i) x = taken post day (old i) (get_or xs i 0) x c.takes.result now (omega arith) c.takes.ensures is in (
      step_more (λ j y. Stepped post day (old j) y) xs i x (omega arith) here c.loop-i.invariant.0,
      (λ j h. get_or-set_other xs i j x 0 (omega arith) ∙ c.loop-i.invariant.1 j (omega arith)),
      step_more (λ j y. y ≡ get_or (set xs i x) j 0) c.loop-i.row i x (omega arith) (sym (get_or-set_same xs i x 0 (omega arith)))
          (λ j h. c.loop-i.invariant.2 j h ∙ sym (get_or-set_other xs i j x 0 (omega arith))),
    )

pub returns-clause-found : goal.returns-clause-found
returns-clause-found g c i h = c.loop-i.invariant.0 i (omega arith)
