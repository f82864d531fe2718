-- Windows that pass the checks, and others that then do.
use Rattle.std.proofs.Common.{◌≡◌, ℕ, ◌+◌, ◌≤◌, not, List, [], ◌∷◌, length, None, Ok, Err, refl, ◌∙◌, arith}
use Rattle.std.proofs.lemmas.Bool.{le-leb, lt-ltb}
use Rattle.std.specs.List.{position, position_from}
use Rattle.std.proofs.lemmas.Iterator.Adapters.{position_from-zero}
use Rattle.plans.specs.Plans.{Window, Pair}
use Rattle.plans.specs.Needs.{Within}
use Rattle.records.specs.Checks.{Outcome, stands, past, range_check, pairs_check, number_check, windows_check, checked}
use Rattle.records.proofs.Checked.{passed}

-- more marks than days change nothing
pub more_marks : (k : ℕ) (pairs : List Pair) (ws : List Window) (n : ℕ) → length pairs ≤ n → checked k pairs ws n ≡ checked k pairs ws (length pairs)
more_marks k pairs ws n h = rw (le-leb (length pairs) n h, le-leb (length pairs) (length pairs) (omega arith))

-- windows within the days stand
stand_from : (k d i : ℕ) (ws : List Window) → Within k d ws → position_from (λ w. not (stands k d w)) i ws ≡ None
stand_from k d i [] W = refl
stand_from k d i (w ∷ ws) W =
    rw (le-leb w.0 w.1 W.1, le-leb k w.0 W.0, lt-ltb w.1 (k + d) W.2) (stand_from k d (i + 1) ws W.3)

within_stand : (k d : ℕ) (ws : List Window) → Within k d ws → position (λ w. not (stands k d w)) ws ≡ None
within_stand k d ws W = position_from-zero (λ w. not (stands k d w)) ws ∙ stand_from k d 0 ws W

last_parts : (a b c d c' d' : Outcome) → past a (past b (past c d)) ≡ Ok tt → c' ≡ Ok tt → d' ≡ Ok tt → past a (past b (past c' d')) ≡ Ok tt
last_parts (Ok _) (Ok _) c d c' d' e f g = rw (f, g)
last_parts (Ok _) (Err fault) c d c' d' e f g = let z : ◌≡◌ {A = ℕ} 0 1 = cc in absurd (omega arith)
last_parts (Err fault) b c d c' d' e f g = let z : ◌≡◌ {A = ℕ} 0 1 = cc in absurd (omega arith)

-- as many other windows within the days pass too
pub pass_too : (k : ℕ) (pairs : List Pair) (ws vs : List Window) (n : ℕ) → checked k pairs ws n ≡ Ok tt → length vs ≡ length ws → Within k (length pairs) vs
    → checked k pairs vs n ≡ Ok tt
pass_too k pairs ws vs n e l W =
    let d = length pairs in
    let few : number_check vs ≡ Ok tt = rw (le-leb (length vs) 512 (omega (arith, (passed k pairs ws n e).few_records))) in
    let stand : windows_check k d vs ≡ Ok tt = rw (within_stand k d vs W) in
    last_parts (range_check k d n) (pairs_check k pairs) (number_check ws) (windows_check k d ws) (number_check vs) (windows_check k d vs) e few stand
