-- Runs of days and the cells of the table.
use Rattle.std.proofs.Common.{◌≡◌, ℕ, suc, ◌+◌, ◌-◌, ◌*◌, ◌<◌, ◌≤◌, List, length, get_or, sym, ◌∙◌, arith}
use Rattle.plans.specs.Plans.{Window, Pair, most}
use Rattle.plans.specs.Runs.{sum, held, room, Run, Roomy, Named}
use Rattle.plans.proofs.Room.{held_forced, room_sum}
use Rattle.narrowing.specs.Counting.{Counted}

module _ (k : ℕ) (pairs : List Pair) (ws : List Window) (table : List ℕ) (C : Counted k (length pairs) ws table) where
  abbrev cell : ℕ → ℕ → ℕ
  cell p b = get_or table (b * 128 + p) 0

  -- the cell of a run has the windows inside it
  pub cell_held : (p b : ℕ) → p ≤ b → b < length pairs → cell p b ≡ held ws (k + p, k + b)
  cell_held p b h l = C.cells b l p h ∙ sym (held_forced k ws p b)

  -- a run that is no more than full by the table
  fits : (run : Window) → Run k (length pairs) run → cell (run.0 - k) (run.1 - k) ≤ sum (most pairs) (run.0 - k) (suc (run.1 - k)) → held ws run ≤ room k pairs run
  fits run R h =
      let p = run.0 - k in
      let b = run.1 - k in
      let begins = R.begins in
      let ordered = R.ordered in
      let e : k + p ≡ run.0 = omega arith in
      let f : k + b ≡ run.1 = omega arith in
      let c = cell_held p b (omega arith) (omega (arith, R.ends)) in
      let r = room_sum k pairs p b in
      let s : held ws (k + p, k + b) ≤ room k pairs (k + p, k + b) = omega arith in
      rw (e, f) at s

  -- by the table no run is overfull
  pub roomy_by_cells : ((p b : ℕ) → p ≤ b → b < length pairs → cell p b ≤ sum (most pairs) p (suc b)) → Roomy k pairs ws
  roomy_by_cells all run R = fits run R (all (run.0 - k) (run.1 - k) (omega (arith, R.ordered)) (omega (arith, R.begins, R.ordered, R.ends)))

  -- by the table the run p to b is the one that 20 names
  pub named_by_cells : (p b : ℕ) → p ≤ b → b < length pairs → sum (most pairs) p (suc b) < cell p b
      → ((r e : ℕ) → r ≤ e → e < b → cell r e ≤ sum (most pairs) r (suc e))
      → ((r : ℕ) → p < r → r ≤ b → cell r b ≤ sum (most pairs) r (suc b))
      → Named k pairs ws (k + p, k + b)
  named_by_cells p b h l over before after = record {
    is_run = record { begins = omega arith; ordered = omega arith; ends = omega arith };
    over = omega (arith, over, cell_held p b h l, room_sum k pairs p b);
    smallest_last = λ run R lt. fits run R (before (run.0 - k) (run.1 - k) (omega (arith, R.ordered)) (omega (arith, R.begins, R.ordered)));
    largest_first = λ run R e lt.
        let f : run.1 - k ≡ b = omega arith in
        let s = after (run.0 - k) (omega arith) (omega (arith, R.begins, R.ordered)) in
        fits run R (rw f s);
  }
