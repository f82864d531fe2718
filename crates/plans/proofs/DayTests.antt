-- The two tests of a list of days, day by day.
use Rattle.std.proofs.Common.{◌≡◌, ℕ, zero, suc, ◌+◌, ◌<◌, ◌≤◌, true, leb, List, [], ◌∷◌, length, refl, arith}
use Rattle.std.proofs.lemmas.Bool.{and_parts, and_from, leb-true, le-leb}
use Rattle.plans.specs.Plans.{Pair, count, keeps_mosts, keeps_fewests, fewest, most}

pub most_kept : (k : ℕ) (pairs : List Pair) (ts : List ℕ) → keeps_mosts k pairs ts ≡ true → (v : ℕ) → v < length pairs → count (k + v) ts ≤ most pairs v
most_kept k [] ts e v h = absurd (omega arith)
most_kept k (pair ∷ pairs) ts e zero h =
    let b = and_parts (leb (count k ts) pair.1) (keeps_mosts (suc k) pairs ts) e in
    let z : k + 0 ≡ k = omega arith in
    rw z (leb-true (count k ts) pair.1 b.0)
most_kept k (pair ∷ pairs) ts e (suc v) h =
    let b = and_parts (leb (count k ts) pair.1) (keeps_mosts (suc k) pairs ts) e in
    let z : k + suc v ≡ suc k + v = omega arith in
    rw z (most_kept (suc k) pairs ts b.1 v (omega arith))

pub keep_most : (k : ℕ) (pairs : List Pair) (ts : List ℕ) → ((v : ℕ) → v < length pairs → count (k + v) ts ≤ most pairs v) → keeps_mosts k pairs ts ≡ true
keep_most k [] ts f = refl
keep_most k (pair ∷ pairs) ts f =
    let z : k + 0 ≡ k = omega arith in
    let here : count k ts ≤ pair.1 = rw z at (f 0 (omega arith)) in
    let rest : (v : ℕ) → v < length pairs → count (suc k + v) ts ≤ most pairs v =
    λ v h. let y : k + suc v ≡ suc k + v = omega arith in rw y at (f (suc v) (omega arith)) in
    and_from (leb (count k ts) pair.1) (keeps_mosts (suc k) pairs ts) (le-leb (count k ts) pair.1 here) (keep_most (suc k) pairs ts rest)

pub fewest_kept : (k : ℕ) (pairs : List Pair) (ts : List ℕ) → keeps_fewests k pairs ts ≡ true → (v : ℕ) → v < length pairs → fewest pairs v ≤ count (k + v) ts
fewest_kept k [] ts e v h = absurd (omega arith)
fewest_kept k (pair ∷ pairs) ts e zero h =
    let b = and_parts (leb pair.0 (count k ts)) (keeps_fewests (suc k) pairs ts) e in
    let z : k + 0 ≡ k = omega arith in
    rw z (leb-true pair.0 (count k ts) b.0)
fewest_kept k (pair ∷ pairs) ts e (suc v) h =
    let b = and_parts (leb pair.0 (count k ts)) (keeps_fewests (suc k) pairs ts) e in
    let z : k + suc v ≡ suc k + v = omega arith in
    rw z (fewest_kept (suc k) pairs ts b.1 v (omega arith))

pub keep_fewest : (k : ℕ) (pairs : List Pair) (ts : List ℕ) → ((v : ℕ) → v < length pairs → fewest pairs v ≤ count (k + v) ts) → keeps_fewests k pairs ts ≡ true
keep_fewest k [] ts f = refl
keep_fewest k (pair ∷ pairs) ts f =
    let z : k + 0 ≡ k = omega arith in
    let here : pair.0 ≤ count k ts = rw z at (f 0 (omega arith)) in
    let rest : (v : ℕ) → v < length pairs → fewest pairs v ≤ count (suc k + v) ts =
    λ v h. let y : k + suc v ≡ suc k + v = omega arith in rw y at (f (suc v) (omega arith)) in
    and_from (leb pair.0 (count k ts)) (keeps_fewests (suc k) pairs ts) (le-leb pair.0 (count k ts) here) (keep_fewest (suc k) pairs ts rest)
