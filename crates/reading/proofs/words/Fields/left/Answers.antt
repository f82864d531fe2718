use Rattle.std.proofs.Common.{length, drop, sym, ap, ◌∙◌, arith}
use Rattle.std.proofs.lemmas.List.{take_rest, length-drop}
use Rattle.reading.specs.Pieces.{parts}
use Rattle.reading.proofs.Cuts.{pieces_few, length_words}
use Rattle.reading.proofs.words.Fields.left.Goals as goal

pub overflow_add-result : goal.overflow_add-result
overflow_add-result c =
    let self = c.args.self.now in
    let rest = drop self.place self.line.now in
    let one = c.spaces.ensures ∙ ap (λ l. length (parts l)) (take_rest self.line.now self.place) in
    omega (arith, one, pieces_few 32 rest, length-drop self.place self.line.now)

pub returns : goal.returns
returns c =
    let self = c.args.self.now in
    c.spaces.ensures ∙ ap (λ l. length (parts l)) (take_rest self.line.now self.place) ∙ sym (length_words self.line.now self.place c.if-self.false)
