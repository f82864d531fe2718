use Rattle.std.proofs.Common.{◌≡◌, ℕ, ◌+◌, ◌-◌, ◌*◌, ◌<◌, ◌≤◌, cond, ltb, List, length, get_or, take, drop, set, sym, ap, ◌∙◌, inl, inr, arith, rules}
use borrow.Rule.Slice.PartMut.{put_mid}
use Rattle.std.proofs.lemmas.List.{get_or-set_same, get_or-set_other, length-set}
use Rattle.std.proofs.lemmas.Bool.{cases_lt, cases_eq}
use Rattle.narrowing.specs.Counting.{tabled}
use Rattle.narrowing.specs.Scanning.{high_day}
use Rattle.narrowing.proofs.ScanSteps.{high_one, high_more, either_way, part_long, part_cell, mid_long, mid_new, mid_before, mid_after}
use Rattle.narrowing.proofs.scans.highs.Goals as goal

pub loop-a-preserved : goal.loop-a-preserved
loop-a-preserved c =
    let p : ℕ = c.loop-a.a in
    let a : ℕ = c.loop-a.a - 1 in
    let d : ℕ = length c.args.days.now.pairs.now in
    let r : ℕ = a * 128 + a in
    let s : ℕ = a * 128 + d in
    let f : ℕ → ℕ = tabled c.args.latest.now in
    let xs : List ℕ = c.loop-a.table in
    let os : List ℕ = c.loop-a.high in
    let hs : List ℕ = set os a a in
    let old : List ℕ = take (d - a) (drop a hs) in
    let new : List ℕ = c.step.new.found in
    let row : List ℕ = c.step.new.row in
    let len : length xs ≡ 16384 = omega arith in
    let few : d ≤ 128 = c.args.days.now.few in
    let lt : a < d = omega arith in
    let ol : length hs ≡ 128 = length-set os a a ∙ c.loop-a.invariant.0 in
    let n = part_long xs r s (omega arith) (omega arith) in
    let m : length old ≡ d - a = part_long hs a d (omega arith) (omega arith) in
    let rl : length row ≡ s - r = c.step.auto.row ∙ n in
    let nl : length new ≡ d - a = c.step.auto.found ∙ m in
    let late : f (a + 1) ≡ f p = ap f (omega arith) in
    let was : (b : ℕ) → a ≤ b → b < d → get_or old (b - a) 0 ≡ get_or hs b 0 = λ b h l.
    let e : a + (b - a) ≡ b = omega arith in
    part_cell hs a d (b - a) (omega arith) ∙ ap (λ j. get_or hs j 0) e in
    let stepped : (b : ℕ) → a ≤ b → b < d → get_or new (b - a) 0 ≡ cond (ltb (get_or old (b - a) 0) (f (a + 1))) a (get_or old (b - a) 0) = λ b h l.
    let e = c.step.ensures.found (b - a) (omega arith) in
    let p = e.1.1 in
    let t : e.1.0 ≡ ltb (get_or old (b - a) 0) (f (a + 1)) = search rules in
    e.1.2 ∙ ap (λ t. cond t a (get_or old (b - a) 0)) t in
    let is : (b : ℕ) → a ≤ b → b < d → cond (ltb (get_or old (b - a) 0) (f (a + 1))) a (get_or old (b - a) 0) ≡ high_day f a b = λ b h l.
    elim (cases_eq b a) [
      | inl e ↦
          let v : get_or old (b - a) 0 ≡ a = was b h l ∙ ap (λ j. get_or hs j 0) e ∙ get_or-set_same os a a 0 (omega arith) in
          ap (λ x. cond (ltb x (f (a + 1))) a x) v ∙ either_way (ltb a (f (a + 1))) a ∙ sym (high_one f a) ∙ ap (high_day f a) (sym e)
      | inr ne ↦
          let v : get_or old (b - a) 0 ≡ high_day f p b = was b h l ∙ get_or-set_other os a b a 0 ne ∙ c.loop-a.invariant.2 b (omega arith) l in
          ap (λ x. cond (ltb x (f (a + 1))) a x) v ∙ ap (λ y. cond (ltb (high_day f p b) y) a (high_day f p b)) late
          ∙ sym (high_more f a b p (omega arith) (omega arith))
    ] in
    let cell : (b : ℕ) → a ≤ b → b < d → get_or (put_mid r (s - r) xs row) (a * 128 + b) 0 ≡ high_day f a b = λ b h l.
    let e : a * 128 + b ≡ r + (b - a) = omega arith in
    ap (λ j. get_or (put_mid r (s - r) xs row) j 0) e ∙ mid_new xs row r s (b - a) (omega arith) (omega arith) rl (omega arith)
    ∙ c.step.ensures.row (b - a) (omega arith) ∙ stepped b h l ∙ is b h l in (
      mid_long hs new a d (omega arith) (omega arith) nl ∙ ol,
      (λ j b h l q. elim (cases_eq j a) [
        | inl e ↦ ap (λ j. get_or (put_mid r (s - r) xs row) (j * 128 + b) 0) e ∙ cell b (omega arith) q ∙ ap (λ j. high_day f j b) (sym e)
        | inr ne ↦ mid_after xs row r s (j * 128 + b) (omega arith) (omega arith) rl (omega arith) ∙ c.loop-a.invariant.1 j b (omega arith) l q
      ]),
      (λ b h l.
          let e : b ≡ a + (b - a) = omega arith in
          ap (λ j. get_or (put_mid a (d - a) hs new) j 0) e ∙ mid_new hs new a d (b - a) (omega arith) (omega arith) nl (omega arith)
          ∙ stepped b h l ∙ is b h l),
      (λ i b h l. elim (cases_lt (b * 128 + i) r) [
        | inl e ↦ mid_before xs row r s (b * 128 + i) (omega arith) (omega arith) rl e ∙ c.loop-a.invariant.3 i b h l
        | inr e ↦ mid_after xs row r s (b * 128 + i) (omega arith) (omega arith) rl (omega arith) ∙ c.loop-a.invariant.3 i b h l
      ]),
    )
