use Rattle.std.proofs.Common.{◌≡◌, ℕ, ◌+◌, ◌-◌, ◌*◌, ◌<◌, ◌≤◌, cond, leb, List, length, get_or, take, set, sym, ap, ◌∙◌, inl, inr, arith, rules}
use Rattle.std.proofs.lemmas.List.{get_or-set_same, get_or-set_other, length-set}
use Rattle.std.proofs.lemmas.Bool.{cases_lt, cases_eq}
use Rattle.narrowing.specs.Counting.{tabled}
use Rattle.narrowing.specs.Scanning.{low_day}
use Rattle.narrowing.proofs.ScanSteps.{low_one, low_more, either_way}
use Rattle.narrowing.proofs.Parts.{part_length, put, put_same, put_low, front_length, front_at, over_length, over_low}
use Rattle.narrowing.proofs.scans.lows.Goals as goal

pub loop-b-preserved : goal.loop-b-preserved
loop-b-preserved c =
    let b : ℕ = c.loop-b.b in
    let f : ℕ → ℕ = tabled c.args.earliest.now in
    let xs = c.loop-b.table in
    let os : List ℕ = c.loop-b.low in
    let ls : List ℕ = set os b b in
    let new : List ℕ = c.step.new.found in
    let row : List ℕ = c.step.new.row in
    let few = c.args.days.now.few in
    let lt : b < 128 = omega arith in
    let len : length xs ≡ 16384 = omega arith in
    let ol : length ls ≡ 128 = length-set os b b ∙ c.loop-b.invariant.0 in
    let n = part_length xs b len lt in
    let m = front_length ls b 128 ol lt in
    let rl : length row ≡ b + 1 = c.step.auto.row ∙ n in
    let nl : length new ≡ b + 1 = c.step.auto.found ∙ m in
    let stepped : (a : ℕ) → a ≤ b → get_or new a 0 ≡ cond (leb (f b) (get_or (take (b + 1) ls) a 0)) b (get_or (take (b + 1) ls) a 0) = λ a h.
    let e = c.step.ensures.found a (omega arith) in
    let p = e.1.1 in
    let t : e.1.0 ≡ leb (f b) (get_or (take (b + 1) ls) a 0) = search rules in
    e.1.2 ∙ ap (λ t. cond t b (get_or (take (b + 1) ls) a 0)) t in
    let is : (a : ℕ) → a ≤ b → cond (leb (f b) (get_or (take (b + 1) ls) a 0)) b (get_or (take (b + 1) ls) a 0) ≡ low_day f a b = λ a h.
    elim (cases_eq a b) [
      | inl e ↦
          let v : get_or (take (b + 1) ls) a 0 ≡ b = front_at ls b a h ∙ ap (λ j. get_or ls j 0) e ∙ get_or-set_same os b b 0 (omega arith) in
          ap (λ x. cond (leb (f b) x) b x) v ∙ either_way (leb (f b) b) b ∙ sym (low_one f b) ∙ ap (λ j. low_day f j b) (sym e)
      | inr ne ↦
          let v : get_or (take (b + 1) ls) a 0 ≡ low_day f a (b - 1) =
          front_at ls b a h ∙ get_or-set_other os b a b 0 ne ∙ c.loop-b.invariant.2 a (b - 1) (omega arith) (omega arith) in
          ap (λ x. cond (leb (f b) x) b x) v ∙ sym (low_more f a (b - 1) b (omega arith) (omega arith))
    ] in (
      over_length ls new b 128 ol lt nl,
      (λ a j h l. elim (cases_lt j b) [
        | inl i ↦ put_low xs row b j a len lt rl i (omega arith) ∙ c.loop-b.invariant.1 a j h i
        | inr g ↦
            let e : j ≡ b = omega arith in
            let q : a ≤ b = omega arith in
            ap (λ i. get_or (put xs b row) (i * 128 + a) 0) e ∙ put_same xs row b a len lt rl q ∙ c.step.ensures.row a (omega arith) ∙ stepped a q ∙ is a q
            ∙ ap (low_day f a) (sym e)
      ]),
      (λ a j h l.
          let e : j ≡ b = omega arith in
          let q : a ≤ b = omega arith in
          over_low ls new b a nl q ∙ stepped a q ∙ is a q ∙ ap (low_day f a) (sym e)),
    )
