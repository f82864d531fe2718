use Rattle.std.proofs.Common.{◌≡◌, length, get_or, take, Ok, Err, sym, ap, ◌∙◌, arith}
use Rattle.std.proofs.lemmas.Result.{err_from_is_err_and}
use Rattle.calendar.specs.Checks.{weekly_check}
use Rattle.calendar.specs.Told.{week_of}
use Rattle.sheet.specs.declared.fault.SheetFault.TheVariants.{Calendar}
use Rattle.reading.specs.Results.{map_ok, map_err, and_then}
use Rattle.std.proofs.lemmas.Grind.{common_steps}
use Rattle.std.specs.List.{between}
use Rattle.std.proofs.lemmas.Slice.{first_rest}
use Rattle.std.proofs.lemmas.List.{take_all, length-take, length-drop}
use Rattle.sheet.specs.Header.{in_pairs, week_from}
use Rattle.sheet.proofs.Pairings.{length_in_pairs}
use Rattle.sheet.proofs.opening.week_of_numbers.Goals as goal

pub returns-in_err-check : goal.returns-in_err-check
returns-in_err-check c =
    let ns = c.args.numbers.now in
    let start = get_or ns 0 0 in
    let rest = between 1 (length ns) ns in
    let long : length rest ≡ 14 = simp (length-take, length-drop) (omega arith) in
    let few = length_in_pairs rest in
    let all : take 7 (in_pairs rest) ≡ in_pairs rest = take_all 7 (in_pairs rest) (omega arith) in
    let rows : c.unwrap-rows.result.now ≡ in_pairs rest = grind (arith, common_steps) in
    let fails : weekly_check (in_pairs rest) start ≡ Err c.in_err-check.field-0.0 = ap (λ ps. weekly_check ps start) (sym rows) ∙ sym c.check.ensures ∙ c.in_err-check.was in
    let err = err_from_is_err_and c.from_residual.result c.from_residual.ensures.1 in
    ap (map_ok week_of) (err.1 ∙ ap Err err.2)
    ∙ sym (ap week_from (first_rest ns 0 (omega arith)) ∙ ap (λ v. and_then (map_err Calendar v) (λ _. Ok (start, in_pairs rest))) fails)

pub returns : goal.returns
returns c =
    let ns = c.args.numbers.now in
    let rest = between 1 (length ns) ns in
    let long : length rest ≡ 14 = simp (length-take, length-drop) (omega arith) in
    let few = length_in_pairs rest in
    let all : take 7 (in_pairs rest) ≡ in_pairs rest = take_all 7 (in_pairs rest) (omega arith) in
    let is = ap week_from (first_rest ns 0 (omega arith)) in
    let ok : c.check.result ≡ Ok tt = c.in_ok-check.was in
    let rows : c.unwrap-rows.result.now ≡ in_pairs rest = grind (arith, common_steps) in
    grind (arith, common_steps)
