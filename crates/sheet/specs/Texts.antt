-- Replies as bytes.
use Rattle.std.specs.Prelude.{ℕ, List, ◌∷◌, ◌++◌, codes, decimal}
use Rattle.sheet.specs.declared.fault.Refusal.{Refusal}
use Rattle.sheet.specs.Faults.{number_of, layer_of}

-- the line, the column, the layer's letter and the number
abbrev pub refused_text : Refusal → List ℕ
refused_text r =
    codes "refused " ++ (decimal r.line ++ (32 ∷ (decimal r.column ++ (32 ∷ layer_of r.fault ∷ 32 ∷ decimal (number_of r.fault)))))
