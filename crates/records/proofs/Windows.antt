-- The windows that a list of records tells.
use Rattle.std.proofs.Common.{◌≡◌, ℕ, ◌<◌, List, map, length, get_or, sym, ap, ◌∙◌}
use Rattle.std.proofs.lemmas.List.{get_or-map}
use Rattle.plans.specs.Plans.{Window}

-- the window that the record at a place tells
pub told_at : {X : Type 0} (span : X → Window) (xs : List X) (i : ℕ) (x : X) (w : Window) → i < length xs → x ≡ get_or xs i x → w ≡ span x → w ≡ get_or (map span xs) i (0, 0)
told_at span xs i x w h is tells = tells ∙ ap span is ∙ sym (get_or-map span xs i x (0, 0) h)
