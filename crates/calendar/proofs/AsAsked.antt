-- The pairs of each kind of calendar are those that it is asked for.
use Rattle.std.proofs.Common.{◌≡◌, ℕ, zero, suc, ◌<◌, true, leb, List, [], ◌∷◌, length, get_or, refl, ⊎_elim, arith}
use Rattle.std.proofs.lemmas.List.{get_or_past}
use Rattle.std.proofs.lemmas.Bool.{false≢true, cond-true, cond-false, cases_Bool, and_from, and_parts, or_left, or_right, or_cases, le-leb, leb-true}
use Rattle.calendar.specs.Asked.{AsListed, AsClosing, Within}
use Rattle.calendar.specs.Pairs.{listed, in_runs, closed}

run_covers : (runs : List (ℕ × ℕ)) (t i : ℕ) → i < length runs → Within (get_or runs i (0, 0)) t → in_runs runs t ≡ true
run_covers [] t i h w = absurd (omega arith)
run_covers (r ∷ rs) t zero h w = or_left _ _ (and_from _ _ (le-leb r.0 t w.0) (le-leb t r.1 w.1))
run_covers (r ∷ rs) t (suc i) h w = or_right _ _ (run_covers rs t i (omega arith) w)

covered : (runs : List (ℕ × ℕ)) (t : ℕ) → in_runs runs t ≡ true → (i : ℕ) × (i < length runs) × Within (get_or runs i (0, 0)) t
covered [] t e = absurd (false≢true e)
covered (r ∷ rs) t e =
    ⊎_elim
    (λ h. let both = and_parts (leb r.0 t) (leb t r.1) h in (0, omega arith, (leb-true _ _ both.0, leb-true _ _ both.1)))
    (λ h. let found = covered rs t h in (suc found.0, omega (arith, found.1), found.2))
    (or_cases _ _ e)

pub as_listed : (rows : List (ℕ × ℕ)) → AsListed rows (listed rows)
as_listed rows = record { first_days = λ t h. refl; later_days = λ t h. get_or_past rows t (0, 0) h }

pub as_closing : (runs : List (ℕ × ℕ)) (below : ℕ → ℕ × ℕ) → AsClosing runs below (closed runs below)
as_closing runs below =
    record {
      closed_days = λ t i h w. cond-true _ _ _ (run_covers runs t i h w);
      other_days = λ t none. ⊎_elim (λ e. let found = covered runs t e in absurd (none found.0 found.1 found.2)) (λ e. cond-false _ _ _ e) (cases_Bool (in_runs runs t));
    }
