-- The checks one after the other, and what holds where all are passed.
use Rattle.std.proofs.Common.{◌≡◌, ℕ, ◌+◌, ◌-◌, ◌≤◌, Bool, true, false, cond, ◌&&◌, not, ltb, leb, List, length, Some, None, Ok, Err, Option, refl, arith}
use Rattle.std.proofs.lemmas.Bool.{and_parts, leb-true, ltb-true}
use Rattle.plans.specs.Plans.{Window, Pair}
use Rattle.plans.specs.Needs.{Proper}
use Rattle.records.specs.declared.fault.NarrowingFault.{NarrowingFault}
use Rattle.records.specs.declared.fault.NarrowingFault.TheVariants.{BadRange, BadPair, TooManyRecords, BadWindow}
use Rattle.pairs.specs.Pairs.{bad_pair}
use Rattle.std.specs.List.{position}
use Rattle.records.specs.Checks.{Outcome, in_range, stands, past, range_check, pairs_check, number_check, windows_check, checked}
use Rattle.refusals.specs.Outcomes.{unless}
use Rattle.records.proofs.Places.{sound_all, stands_all}

-- a range that is passed
pub record InRange (k d n : ℕ) : Type 0 where
  pub few_days : d ≤ 128
  pub enough_marks : d ≤ n
  pub last_day : k + d ≤ 65536

pub range_passed : (k d n : ℕ) → range_check k d n ≡ Ok tt → InRange k d n
range_passed k d n e = go (in_range k d n) refl e
  where
    go : (b : Bool) → in_range k d n ≡ b → ◌≡◌ {A = Outcome} (cond b (Ok tt) (Err BadRange)) (Ok tt) → InRange k d n
    go false f e = let z : ◌≡◌ {A = ℕ} 0 1 = cc in absurd (omega arith)
    go true f e =
        let r = and_parts (ltb 0 d && leb d 128 && leb d n) (leb (k + d - 1) 65535) f in
        let s = and_parts (ltb 0 d && leb d 128) (leb d n) r.0 in
        let t = and_parts (ltb 0 d) (leb d 128) s.0 in
        record {
          few_days = leb-true d 128 t.1;
          enough_marks = leb-true d n s.1;
          last_day = omega (arith, ltb-true 0 d t.0, leb-true (k + d - 1) 65535 r.1);
        }

-- the two parts of checks one after the other
both_passed : (o next : Outcome) → past o next ≡ Ok tt → (o ≡ Ok tt) × (next ≡ Ok tt)
both_passed (Ok _) next e = (refl, e)
both_passed (Err fault) next e = let z : ◌≡◌ {A = ℕ} 0 1 = cc in absurd (omega arith)

none_found : (fault : ℕ → NarrowingFault) (o : Option ℕ) → unless fault o ≡ Ok tt → o ≡ None
none_found fault None e = refl
none_found fault (Some i) e = let z : ◌≡◌ {A = ℕ} 0 1 = cc in absurd (omega arith)

few : (b : Bool) → ◌≡◌ {A = Outcome} (cond b (Ok tt) (Err TooManyRecords)) (Ok tt) → b ≡ true
few true e = refl
few false e = let z : ◌≡◌ {A = ℕ} 0 1 = cc in absurd (omega arith)

-- what the verdict is given past the checks
pub record Passed (k : ℕ) (pairs : List Pair) (ws : List Window) (n : ℕ) : Type 0 where
  pub range : InRange k (length pairs) n
  pub few_records : length ws ≤ 512
  pub proper : Proper k pairs ws

pub passed : (k : ℕ) (pairs : List Pair) (ws : List Window) (n : ℕ) → checked k pairs ws n ≡ Ok tt → Passed k pairs ws n
passed k pairs ws n e =
    let d = length pairs in
    let a = both_passed (range_check k d n) (past (pairs_check k pairs) (past (number_check ws) (windows_check k d ws))) e in
    let b = both_passed (pairs_check k pairs) (past (number_check ws) (windows_check k d ws)) a.1 in
    let c = both_passed (number_check ws) (windows_check k d ws) b.1 in
    record {
      range = range_passed k d n a.0;
      few_records = leb-true (length ws) 512 (few (leb (length ws) 512) c.0);
      proper = record {
        within = stands_all k d ws (none_found BadWindow (position (λ w. not (stands k d w)) ws) c.1);
        ordered = λ v h. sound_all pairs (none_found (λ i. BadPair (k + i)) (bad_pair pairs) b.0) v;
      };
    }
