use Rattle.std.proofs.Common.{◌≡◌, ℕ, suc, ◌+◌, ◌-◌, ◌*◌, ◌≤◌, List, get_or, take, sym, ap, ◌∙◌, subst, inl, inr, add-one, arith}
use Rattle.std.proofs.lemmas.Bool.{cases_lt}
use Rattle.plans.specs.Plans.{most}
use Rattle.plans.specs.Runs.{total, sum}
use Rattle.plans.proofs.Windows.{total_grows}
use Rattle.narrowing.proofs.Parts.{front_length, front_at}
use Rattle.narrowing.proofs.Overfull.{roomy_by_cells, named_by_cells}
use Rattle.narrowing.proofs.runs.overfull.Goals as goal

pub last_over-requires : goal.last_over-requires
last_over-requires c =
    let b : ℕ = c.loop-last.last in
    let ys = c.args.before.now in
    let us : ℕ → ℕ = most c.args.days.now.pairs.now in
    let n = c.row.ensures.long in
    let m = front_length ys b 129 (omega arith) (omega arith) in record {
      row_len = n ∙ sym m;
      before_bound = λ p h. omega (arith, front_at ys b p (omega arith), c.requires p (omega arith), c.requires (b + 1) (omega arith), total_grows us p (b + 1) (omega arith));
    }

-- what is left of the mosts from first day p to last day b
left_of : (us : ℕ → ℕ) (ys : List ℕ) (b p : ℕ) → p ≤ b → get_or ys p 0 ≡ total us p → get_or ys (b + 1) 0 ≡ total us (b + 1)
    → get_or ys (b + 1) 0 - get_or (take (b + 1) ys) p 0 ≡ sum us p (suc b)
left_of us ys b p h y z = let t : total us (b + 1) ≡ total us (suc b) = ap (total us) (add-one b) in omega (arith, front_at ys b p h)

pub returns-in-Some : goal.returns-in-Some
returns-in-Some c k ws C =
    let b : ℕ = c.loop-last.last in
    let p : ℕ = c.in-Some.first in
    let pairs = c.args.days.now.pairs.now in
    let ys = c.args.before.now in
    let table = c.args.table.now in
    let us : ℕ → ℕ = most pairs in
    let n = c.row.ensures.long in
    let r = c.in-Some.ensures in
    let le : p ≤ b = omega (arith, r.0) in
    let rest : (q : ℕ) → q ≤ b → get_or ys (b + 1) 0 - get_or (take (b + 1) ys) q 0 ≡ sum us q (suc b) =
    λ q h. left_of us ys b q h (c.requires q (omega arith)) (c.requires (b + 1) (omega arith)) in
    named_by_cells k pairs ws table C p b le (omega arith) (omega (arith, r.1, rest p le, c.row.ensures.cells p le)) c.loop-last.invariant
    (λ q lt h. omega (arith, r.2 q lt (omega arith), rest q h, c.row.ensures.cells q h))

pub loop-last-preserved : goal.loop-last-preserved
loop-last-preserved c p e h l =
    let b : ℕ = c.loop-last.last in
    let ys = c.args.before.now in
    let table = c.args.table.now in
    let us : ℕ → ℕ = most c.args.days.now.pairs.now in
    let n = c.row.ensures.long in
    elim (cases_lt e b) [
      | inl i ↦ c.loop-last.invariant p e h i
      | inr i ↦
          let f : b ≡ e = omega arith in
          let le : p ≤ b = omega arith in
          let rest = left_of us ys b p le (c.requires p (omega arith)) (c.requires (b + 1) (omega arith)) in
          let P : ℕ → Type 0 = λ e. get_or table (e * 128 + p) 0 ≤ sum us p (suc e) in
          subst P f (omega (arith, rest, c.in_default.ensures p (omega arith) (omega arith), c.row.ensures.cells p le))
    ]

pub returns : goal.returns
returns c k ws C = roomy_by_cells k c.args.days.now.pairs.now ws c.args.table.now C (λ p b h l. c.loop-last.invariant p b h (omega arith))
