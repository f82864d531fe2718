-- What is asked of the days, the pairs and the records, and the first of it that is not met.
use Rattle.std.specs.Prelude.{ℕ, ◌+◌, ◌-◌, Bool, cond, ◌&&◌, not, List, length, Ok, Err, Result, nat_le, nat_lt}
use Rattle.std.specs.List.{position}
use Rattle.refusals.specs.Outcomes.{unless}
use Rattle.pairs.specs.Pairs.{bad_pair}
use Rattle.plans.specs.Plans.{Window, Pair}
use Rattle.records.specs.declared.fault.NarrowingFault.{NarrowingFault}
use Rattle.records.specs.declared.fault.NarrowingFault.TheVariants.{BadRange, BadPair, TooManyRecords, BadWindow}

-- Accepted, or refused with a fault.
abbrev pub Outcome : Type 0
Outcome = Result (Unit {0}) NarrowingFault

-- There are 1 to 128 days from day k on, none after day 65,535, and n marks are enough for them.
abbrev pub in_range : ℕ → ℕ → ℕ → Bool
in_range k d n = nat_lt 0 d && nat_le d 128 && nat_le d n && nat_le (k + d - 1) 65535

-- A window does not end before it begins, and all its days are of the d days.
abbrev pub stands : ℕ → ℕ → Window → Bool
stands k d w = nat_le w.0 w.1 && nat_le k w.0 && nat_lt w.1 (k + d)

-- A refusal stands; otherwise what comes next decides.
abbrev pub past : Outcome → Outcome → Outcome
past (Ok _) next = next
past (Err fault) next = Err fault

-- The checks one by one: the range of days, the pairs with the first bad day, the number of records, the windows with the
-- first bad place.
abbrev pub range_check : ℕ → ℕ → ℕ → Outcome
range_check k d n = cond (in_range k d n) (Ok tt) (Err BadRange)

abbrev pub pairs_check : ℕ → List Pair → Outcome
pairs_check k pairs = unless (λ i. BadPair (k + i)) (bad_pair pairs)

abbrev pub number_check : List Window → Outcome
number_check ws = cond (nat_le (length ws) 512) (Ok tt) (Err TooManyRecords)

abbrev pub windows_check : ℕ → ℕ → List Window → Outcome
windows_check k d ws = unless BadWindow (position (λ w. not (stands k d w)) ws)

-- All of them, in this order.
abbrev pub checked : ℕ → List Pair → List Window → ℕ → Outcome
checked k pairs ws n =
    past (range_check k (length pairs) n) (past (pairs_check k pairs) (past (number_check ws) (windows_check k (length pairs) ws)))
