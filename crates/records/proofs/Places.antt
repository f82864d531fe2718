-- What holds of pairs and windows where no check fails.
use Rattle.std.proofs.Common.{◌≡◌, ℕ, ◌+◌, ◌≤◌, Bool, true, false, cond, ◌&&◌, not, ltb, leb, List, [], ◌∷◌, is_some, Some, None, Option, refl, sym, ap, ◌∙◌, arith}
use Rattle.std.specs.List.{position, position_from}
use Rattle.std.proofs.lemmas.Iterator.Adapters.{position_from-zero}
use Rattle.std.proofs.lemmas.Bool.{and_parts, leb-true, ltb-true}
use Rattle.pairs.specs.Pairs.{bad_pair}
use Rattle.pairs.specs.Sound.{sound_at}
use Rattle.plans.specs.Plans.{Window, Pair, fewest, most}
use Rattle.plans.specs.Needs.{Within}
use Rattle.records.specs.Checks.{stands}

-- no fewest is above its most
pub sound_all : (pairs : List Pair) → bad_pair pairs ≡ None → (v : ℕ) → fewest pairs v ≤ most pairs v
sound_all pairs e v = (sound_at pairs (ap is_some e) v).0

-- where none is found from the front on, it passes there, and none is found later
passes : (b : Bool) (o : Option ℕ) (i : ℕ) → cond (not b) (Some i) o ≡ None → (b ≡ true) × (o ≡ None)
passes true o i e = (refl, e)
passes false o i e = let z : ◌≡◌ {A = ℕ} 0 1 = cc in absurd (omega arith)

stands_from : (k d i : ℕ) (ws : List Window) → position_from (λ w. not (stands k d w)) i ws ≡ None → Within k d ws
stands_from k d i [] e = tt
stands_from k d i (w ∷ ws) e =
    let p = passes (stands k d w) (position_from (λ v. not (stands k d v)) (i + 1) ws) i e in
    let a = and_parts (leb w.0 w.1 && leb k w.0) (ltb w.1 (k + d)) p.0 in
    let b = and_parts (leb w.0 w.1) (leb k w.0) a.0 in
    (leb-true k w.0 b.1, leb-true w.0 w.1 b.0, ltb-true w.1 (k + d) a.1, stands_from k d (i + 1) ws p.1)

-- all windows are within the days
pub stands_all : (k d : ℕ) (ws : List Window) → position (λ w. not (stands k d w)) ws ≡ None → Within k d ws
stands_all k d ws e = stands_from k d 0 ws (sym (position_from-zero (λ w. not (stands k d w)) ws) ∙ e)
