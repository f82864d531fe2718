-- The tight ones of the runs with one last day.
use Rattle.std.specs.Prelude.{◌≡◌, ℕ, ◌<◌, Bool, true, false, length, Option, MatchOption}
use Rattle.narrowing.specs.declared.tight.Runs.{Runs}
use Rattle.narrowing.specs.Scanning.{tight?}

-- The run from first day p on is tight.
abbrev pub tight_at : Runs → ℕ → Bool
tight_at runs p = tight? runs.held.now runs.before.now runs.left.now runs.top runs.rest p

-- The first day of the first tight run, where one is tight.
abbrev pub FirstTight : Runs → Option ℕ → Type 0
FirstTight runs first =
    MatchOption first ((p : ℕ) → p < length runs.held.now → tight_at runs p ≡ false)
    (λ i. (i < length runs.held.now) × (tight_at runs i ≡ true) × ((p : ℕ) → p < i → tight_at runs p ≡ false))
