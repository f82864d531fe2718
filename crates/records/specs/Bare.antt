-- The bare window as a record: it is its window, and there is no rest.
use Rattle.std.specs.Prelude.{ℕ, List, [], ◌∷◌}
use Rattle.records.specs.declared.record.bare.Window.{Window}

abbrev pub span_of : Window → ℕ × ℕ
span_of w = (w.first, w.last)

abbrev pub put_in : Window → ℕ × ℕ → Window
put_in w v = record { first = v.0; last = v.1 }

abbrev pub bare : ℕ × ℕ → Window
bare w = record { first = w.0; last = w.1 }

-- Windows at the front of a list, as many as it has room for; its later entries as they were.
abbrev pub copied : List (ℕ × ℕ) → List Window → List Window
copied [] work = work
copied (w ∷ ws) [] = []
copied (w ∷ ws) (old ∷ work) = bare w ∷ copied ws work
