use Rattle.std.proofs.Common.{◌≡◌, ℕ, suc, ◌+◌, ◌-◌, ◌<◌, ◌≤◌, Bool, length, get_or, set, sym, ap, ◌∙◌, inl, inr, arith}
use Rattle.std.proofs.lemmas.List.{get_or-set_same, get_or-set_other}
use Rattle.std.proofs.lemmas.Bool.{cases_eq, some_since}
use Rattle.std.proofs.lemmas.Option.{MatchOption-at_some}
use Rattle.plans.specs.Sets.{in_set}
use Rattle.plans.specs.Needs.{forced}
use Rattle.narrowing.specs.Counting.{tabled}
use Rattle.narrowing.proofs.Writes.{zeros}
use Rattle.narrowing.proofs.Parts.{front_length, front_at}
use Rattle.narrowing.proofs.Missing.{missing, missing_rest, missing_day, missing_run, needed_day, day_later, day_before}
use Rattle.narrowing.proofs.shortage.mark_shortage.Goals as goal

pub loop-v-init : goal.loop-v-init
loop-v-init c =
    let zero : (j : ℕ) → get_or c.fill.new.self j 0 ≡ 0 =
    λ j. ap (λ l. get_or l j 0) (c.fill.ensures.after (λ y e. e)) ∙ zeros (length c.args.marks.now) j in
    (omega arith, (λ j. omega (arith, zero j)), (λ j h. zero j), (λ k ws C. omega arith))

pub loop-v-preserved-then-tables-v : goal.loop-v-preserved-then-tables-v
loop-v-preserved-then-tables-v c =
    let v : ℕ = c.loop-v.v in
    let u : ℕ = v - 1 in
    let marks = c.loop-v.marks in
    let pairs = c.args.days.now.pairs.now in
    let top : v ≤ length pairs = c.loop-v.invariant.0 in
    let here : u < length marks = omega (arith, c.loop-v.auto.marks, c.fill.ensures.len, c.requires.marks_len) in
    let zero : get_or marks u 0 ≡ 0 = c.loop-v.invariant.2 u (omega arith) in (
      omega arith,
      (λ j. elim (cases_eq j u) [
        | inl e ↦ rw e (omega (arith, get_or-set_same marks u 1 0 here))
        | inr ne ↦ omega (arith, get_or-set_other marks u j 1 0 ne, c.loop-v.invariant.1 j)
      ]),
      (λ j h. get_or-set_other marks u j 1 0 (omega arith) ∙ c.loop-v.invariant.2 j (omega arith)),
      (λ k ws C.
          let S : ℕ → Bool = in_set k marks in
          let e : k + v ≡ suc (k + u) = omega arith in
          let f : missing S (k + v) ws ≡ missing S (suc (k + u)) ws = ap (λ t. missing S t ws) e in
          let more = missing_day S (in_set k (set marks u 1)) (k + u) ws (λ t l. day_later k marks u t l) in
          let day = needed_day k marks pairs u (omega arith) here zero in
          omega (arith, c.if-tables-v.true, c.loop-v.invariant.3 k ws C)),
    )

pub find_run-requires : goal.find_run-requires
find_run-requires c =
    let u : ℕ = c.loop-v.v - 1 in
    let top : c.loop-v.v ≤ length c.args.days.now.pairs.now = c.loop-v.invariant.0 in
    let n = c.row.ensures.long in
    let m = front_length c.args.tables.now.left u 129 (omega arith) (omega arith) in
    record { row_len = n ∙ sym m }

-- by whatever windows the table counts, some run attains the need
pub unwrap-v-requires : goal.unwrap-v-requires
unwrap-v-requires c =
    let v : ℕ = c.loop-v.v in
    let u : ℕ = v - 1 in
    let left = c.args.tables.now.left in
    let top : v ≤ length c.args.days.now.pairs.now = c.loop-v.invariant.0 in
    let n = c.row.ensures.long in
    let e : suc u ≡ v = omega arith in
    let ws = c.requires.counted.1 in
    let k = c.requires.counted.0 in
    let C = c.requires.counted.2 in
    let L = c.requires.needs_of k ws C in
    let f : tabled left (suc u) ≡ get_or left v 0 = ap (tabled left) e in
    some_since c.find_run.result _ _ c.find_run.ensures (λ none. elim (L.attained u (omega arith)) [
      | inl x ↦ c.if-tables-v.false (sym f ∙ x)
      | inr x ↦
          let q : ℕ = x.0 in
          none q (omega (arith, x.1)) (omega (arith, f, x.2, c.row.ensures.cells q x.1, C.cells u (omega arith) q x.1, front_at left u q x.1))
    ])

pub loop-v-preserved : goal.loop-v-preserved
loop-v-preserved c =
    let v : ℕ = c.loop-v.v in
    let u : ℕ = v - 1 in
    let p : ℕ = c.unwrap-v.result in
    let marks = c.loop-v.marks in
    let left = c.args.tables.now.left in
    let pairs = c.args.days.now.pairs.now in
    let d : ℕ = length pairs in
    let top : v ≤ d = c.loop-v.invariant.0 in
    let n = c.row.ensures.long in
    let r = MatchOption-at_some _ _ p c.unwrap-v.ensures c.find_run.ensures in
    let le : p ≤ u = omega (arith, r.0) in (
      omega arith,
      c.loop-v.invariant.1,
      (λ j h. c.loop-v.invariant.2 j (omega arith)),
      (λ k ws C.
          let e : suc u ≡ v = omega arith in
          let S : ℕ → Bool = in_set k marks in
          let cell : get_or c.row.result.now p 0 ≡ forced k ws p v =
          c.row.ensures.cells p le ∙ C.cells u (omega arith) p le ∙ ap (forced k ws p) e in
          let is : get_or left v 0 ≡ get_or left p 0 + forced k ws p v = omega (arith, r.1, cell, front_at left u p le) in
          let more = missing_run k d S (k + p) (k + v) ws C.within (λ t l. day_before k marks v t c.loop-v.invariant.2 l) (omega arith) in
          omega (arith, is, more, c.loop-v.invariant.3 k ws C)),
    )

pub returns : goal.returns
returns c =
    let marks = c.loop-v.marks in
    let pairs = c.args.days.now.pairs.now in
    let left = c.args.tables.now.left in
    record {
      marks = record { long = c.loop-v.auto.marks ∙ c.fill.ensures.len ∙ c.requires.marks_len; marked = c.loop-v.invariant.1 };
      shown = λ k ws C h.
          let e : c.loop-v.v ≡ 0 = omega arith in
          let z : tabled left c.loop-v.v ≡ 0 = ap (tabled left) e ∙ (c.requires.needs_of k ws C).start in
          omega (arith, z, c.loop-v.invariant.3 k ws C, missing_rest (in_set k marks) (k + c.loop-v.v) ws);
    }
