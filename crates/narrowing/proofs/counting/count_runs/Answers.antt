use Rattle.std.proofs.Common.{◌≡◌, ℕ, suc, ◌+◌, ◌*◌, ◌<◌, ◌≤◌, List, map, length, get_or, take, drop, sum, sym, refl, ap, ◌∙◌, inl, inr, add-one, arith}
use Rattle.std.proofs.lemmas.List.{length-map}
use Rattle.std.proofs.lemmas.Bool.{cases_lt}
use Rattle.plans.specs.Plans.{Window}
use Rattle.plans.specs.Needs.{Within, forced}
use Rattle.plans.proofs.Windows.{forced_none}
use Rattle.narrowing.specs.Counting.{matching}
use Rattle.narrowing.proofs.Windows.{within_more, row_grows, forced_le}
use Rattle.narrowing.proofs.Writes.{zeros}
use Rattle.narrowing.proofs.Parts.{part, part_length, part_at, front_length, front_at, put, put_same, put_low, put_high, over_length, over_low, over_high}
use Rattle.narrowing.proofs.counting.count_runs.Goals as goal

-- what row b comes to, with the sums of the rows before it
grown : (k d : ℕ) (ws : List Window) (b : ℕ) (xs ss : List ℕ) → Within k d ws → length xs ≡ 16384 → b < 128
    → ((a : ℕ) → a < 128 → get_or xs (b * 128 + a) 0 ≡ matching ws (k + a) (k + b))
    → ((p : ℕ) → p < b → get_or ss p 0 ≡ forced k ws p b) → ((p : ℕ) → b ≤ p → get_or ss p 0 ≡ 0)
    → (p : ℕ) → p ≤ b → get_or (take (b + 1) ss) p 0 + sum (drop p (part xs b)) ≡ forced k ws p (suc b)
grown k d ws b xs ss W len lt row low high p h =
    let n = part_length xs b len lt in
    let all = row_grows k d ws b (part xs b) W (omega arith) (λ a i. part_at xs b a i ∙ row a (omega arith)) p h in
    let old : get_or ss p 0 ≡ forced k ws p b =
    elim (cases_lt p b) [
      | inl l ↦ low p l
      | inr m ↦ let e : p ≡ b = omega arith in high p m ∙ sym (forced_none k d b ws W) ∙ ap (λ q. forced k ws q b) (sym e)
    ] in
    omega (arith, front_at ss b p h, all, old)

pub tally-requires : goal.tally-requires
tally-requires g c =
    record {
      records_len_bound = c.requires.records_len_bound;
      within = within_more c.args.days.now.first (length c.args.days.now.pairs.now) 128 (map g.R.Record.span c.args.records.now) c.args.days.now.few c.requires.within;
      blank = c.requires.blank;
    }

pub loop-last-init : goal.loop-last-init
loop-last-init g c = (
  refl,
  (λ b h p i. absurd (omega arith)),
  (λ b h l a m. c.tally.ensures b l a m),
  (λ p h. absurd (omega arith)),
  (λ p h. zeros 128 p),
)

pub add_row-requires : goal.add_row-requires
add_row-requires g c =
    let few = c.args.days.now.few in
    let b : ℕ = c.loop-last.last in
    let xs = c.loop-last.table in
    let ss = c.loop-last.sums in
    let ws = map g.R.Record.span c.args.records.now in
    let len : length xs ≡ 16384 = omega arith in
    let n = part_length xs b len (omega arith) in
    let m = front_length ss b 128 c.loop-last.invariant.0 (omega arith) in record {
      row_len = n ∙ sym m;
      fits = λ p h.
          let le : p ≤ b = omega arith in
          let all = grown c.args.days.now.first (length c.args.days.now.pairs.now) ws b xs ss c.requires.within len (omega arith) (λ a i. c.loop-last.invariant.2 b (omega arith) (omega arith) a i) c.loop-last.invariant.3 c.loop-last.invariant.4 p le in
          omega (arith, all, forced_le c.args.days.now.first ws p (suc b), length-map c.args.records.now g.R.Record.span, c.requires.records_len_bound);
    }

pub loop-last-preserved : goal.loop-last-preserved
loop-last-preserved g c =
    let few = c.args.days.now.few in
    let b : ℕ = c.loop-last.last in
    let k : ℕ = c.args.days.now.first in
    let xs = c.loop-last.table in
    let ss = c.loop-last.sums in
    let ws = map g.R.Record.span c.args.records.now in
    let row : List ℕ = c.add_row.new.row in
    let sums : List ℕ = c.add_row.new.sums in
    let lt : b < 128 = omega arith in
    let len : length xs ≡ 16384 = omega arith in
    let n = part_length xs b len lt in
    let m = front_length ss b 128 c.loop-last.invariant.0 lt in
    let rl : length row ≡ b + 1 = c.add_row.auto.row ∙ n in
    let sl : length sums ≡ b + 1 = c.add_row.auto.sums ∙ m in
    let all : (p : ℕ) → p ≤ b → get_or (take (b + 1) ss) p 0 + sum (drop p (part xs b)) ≡ forced k ws p (suc b) =
    grown k (length c.args.days.now.pairs.now) ws b xs ss c.requires.within len lt (λ a i. c.loop-last.invariant.2 b (omega arith) lt a i) c.loop-last.invariant.3 c.loop-last.invariant.4 in (
      over_length ss sums b 128 c.loop-last.invariant.0 lt sl,
      (λ j h p l. elim (cases_lt j b) [
        | inl i ↦ put_low xs row b j p len lt rl i (omega arith) ∙ c.loop-last.invariant.1 j i p l
        | inr i ↦
            let e : j ≡ b = omega arith in
            let q : p ≤ b = omega arith in
            ap (λ x. get_or (put xs b row) (x * 128 + p) 0) e ∙ put_same xs row b p len lt rl q ∙ c.add_row.ensures.row p (omega arith) ∙ all p q
            ∙ ap (λ x. forced k ws p (suc x)) (sym e)
      ]),
      (λ j h l a ha. put_high xs row b j a len lt rl (omega arith) ha ∙ c.loop-last.invariant.2 j (omega arith) l a ha),
      (λ p h.
          let q : p ≤ b = omega arith in
          over_low ss sums b p sl q ∙ c.add_row.ensures.sums p (omega arith) ∙ all p q ∙ ap (forced k ws p) (sym (add-one b))),
      (λ p h. over_high ss sums b p sl (omega arith) ∙ c.loop-last.invariant.4 p (omega arith)),
    )

pub returns : goal.returns
returns g c = record { within = c.requires.within; cells = λ b h p l. c.loop-last.invariant.1 b (omega arith) p l }
