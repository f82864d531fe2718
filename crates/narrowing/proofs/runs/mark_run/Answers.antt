use Rattle.std.proofs.Common.{ℕ, ◌+◌, ◌-◌, List, length, drop, replicate, ap, ◌∙◌, arith}
use Rattle.std.proofs.lemmas.List.{length-take-le, length-drop}
use Rattle.narrowing.proofs.Marking.{run_written}
use Rattle.narrowing.proofs.runs.mark_run.Goals as goal

pub returns : goal.returns
returns c =
    let p : ℕ = c.args.first in
    let b : ℕ = c.args.last in
    let xs : List ℕ = c.fill.new.self in
    let zero = c.fill.ensures.after (λ y e. e) in
    let one = c.fill-2.ensures.after (λ y e. e) in
    let l = c.fill.ensures.len in
    let e = length-drop p xs in
    let n = length-take-le (b + 1 - p) (drop p xs) (omega (arith, c.requires.last_in_bounds)) in
    run_written xs c.fill-2.new.self (length c.args.marks.now) p b c.requires.first_le_last c.requires.last_in_bounds zero (one ∙ ap (λ n. replicate n 1) n)
