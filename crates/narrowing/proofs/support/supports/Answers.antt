use Rattle.std.proofs.Common.{◌≡◌, ℕ, Bool, true, ◌↔◌, List, ◌++◌, map, length, take, drop, Ok, sym, refl, ap, ◌∙◌, subst, arith}
use Rattle.std.proofs.lemmas.List.{length-map, take-append-drop}
use Rattle.plans.specs.Plans.{Window, Pair}
use Rattle.plans.specs.Needs.{Proper}
use Rattle.plans.specs.Narrowing.{supported, Possible}
use Rattle.plans.proofs.Narrowing.{supported_means}
use Rattle.records.specs.declared.record.bare.Window.{Window as Bare}
use Rattle.records.specs.Bare.{span_of}
use Rattle.records.specs.Checks.{checked}
use Rattle.records.proofs.Checked.{passed}
use Rattle.records.proofs.Copying.{front_spans}
use Rattle.narrowing.proofs.Closing.{not_asked, asked, asked_within}
use Rattle.narrowing.proofs.support.supports.Goals as goal

pub returns-then-not-is_askable : goal.returns-then-not-is_askable
returns-then-not-is_askable g c =
    let k : ℕ = c.args.first in
    let pairs : List Pair = c.args.pairs.now in
    let records = c.args.records.now in
    let ws : List Window = map g.R.Record.span records in
    let ok : checked k pairs ws (length pairs) ≡ Ok tt = sym c.in_ok-check.ensures in
    record {
      answer = not_asked k pairs ws c.args.place c.args.day (length c.args.work.now) (length records) ok (length-map records g.R.Record.span) (sym c.is_askable.ensures ∙ c.if-not-is_askable.true);
      work = refl;
      means = λ b e. let z : ◌≡◌ {A = ℕ} 0 1 = cc in absurd (omega arith);
    }

pub possible-requires : goal.possible-requires
possible-requires g c =
    let k : ℕ = c.args.first in
    let pairs : List Pair = c.args.pairs.now in
    let records = c.args.records.now in
    let ws : List Window = map g.R.Record.span records in
    let n : ℕ = length records in
    let long : length ws ≡ n = length-map records g.R.Record.span in
    let front : List Bare = take n c.copy_windows.new.windows in
    let P = passed k pairs ws (length pairs) (sym c.in_ok-check.ensures) in
    let here = asked_within k (length pairs) n c.args.place c.args.day (length c.args.work.now) (sym c.is_askable.ensures ∙ c.if-not-is_askable.false) in
    let spans : map span_of front ≡ ws = front_spans ws c.args.work.now c.copy_windows.new.windows n long here.1 c.copy_windows.ensures in
    let size : length front ≡ n = sym (length-map front span_of) ∙ ap length spans ∙ long in
    let Q : List Window → Type 0 = Proper k pairs in
    record {
      windows_len_bound = omega (arith, P.few_records);
      proper = subst Q (sym spans) P.proper;
      place_in_bounds = omega arith;
    }

pub returns : goal.returns
returns g c =
    let k : ℕ = c.args.first in
    let i : ℕ = c.args.place in
    let t : ℕ = c.args.day in
    let pairs : List Pair = c.args.pairs.now in
    let records = c.args.records.now in
    let ws : List Window = map g.R.Record.span records in
    let n : ℕ = length records in
    let work : List Bare = c.copy_windows.new.windows in
    let ok : checked k pairs ws (length pairs) ≡ Ok tt = sym c.in_ok-check.ensures in
    let long : length ws ≡ n = length-map records g.R.Record.span in
    let here = asked_within k (length pairs) n i t (length c.args.work.now) (sym c.is_askable.ensures ∙ c.if-not-is_askable.false) in
    let spans : map span_of (take n work) ≡ ws = front_spans ws c.args.work.now work n long here.1 c.copy_windows.ensures in
    let yes : c.possible.result ≡ supported k pairs ws i t = c.possible.ensures.answer ∙ ap (λ vs. supported k pairs vs i t) spans in
    record {
      answer = asked k pairs ws i t (length c.args.work.now) n ok long (sym c.is_askable.ensures ∙ c.if-not-is_askable.false) c.possible.result yes;
      work = ap (λ l. l ++ drop n work) c.possible.ensures.same ∙ take-append-drop n work ∙ c.copy_windows.ensures;
      means = λ b e.
          let is : supported k pairs ws i t ≡ b = sym yes ∙ cc in
          let Q : Bool → Type 0 = λ b. (b ≡ true) ↔ Possible k pairs ws i t in
          subst Q is (supported_means k pairs ws i t);
    }
