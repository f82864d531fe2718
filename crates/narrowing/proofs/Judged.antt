-- The three ways in which the verdict ends: what is then answered, and how the marks stand.
use Rattle.std.proofs.Common.{◌≡◌, ℕ, suc, ◌+◌, ◌-◌, ◌*◌, ◌<◌, ◌≤◌, List, ◌++◌, length, get_or, take, drop, Ok, Err, sym, refl, ap, ◌∙◌, subst, add-one, arith}
use Rattle.std.proofs.lemmas.List.{take_at, drop_at}
use Rattle.plans.specs.Plans.{Window, Pair, most, Plan}
use Rattle.plans.specs.Runs.{total, held, room, Roomy, Named}
use Rattle.plans.specs.Sets.{Marks, meeting, needed, run_marks, ShowsShortage}
use Rattle.plans.specs.Needs.{Within}
use Rattle.plans.specs.Replies.{Reply, reply}
use Rattle.plans.proofs.Room.{room_sum}
use Rattle.records.specs.declared.fault.NarrowingFault.TheVariants.{Overfull, Short}
use Rattle.records.specs.Checks.{Outcome}
use Rattle.narrowing.specs.Counting.{Counted, Summed}
use Rattle.narrowing.specs.Verdict.{told, Marked}
use Rattle.narrowing.proofs.Overfull.{cell_held}
use Rattle.narrowing.proofs.Replies.{reply_accepted, reply_overfull, reply_short}

-- what is answered with the marks that stand at the end
abbrev pub Judged : ℕ → List Pair → List Window → List ℕ → List ℕ → Outcome → Type 0
Judged k pairs ws before after answer =
    let r = reply k pairs ws (take (length pairs) after) in
    (answer ≡ told r) × Marked k pairs ws before after r

judged_by : (k : ℕ) (pairs : List Pair) (ws : List Window) (before after : List ℕ) (answer : Outcome) (r : Reply)
    → reply k pairs ws (take (length pairs) after) ≡ r → answer ≡ told r → Marked k pairs ws before after r → Judged k pairs ws before after answer
judged_by k pairs ws before after answer r e is stand = (is ∙ ap told (sym e), subst (Marked k pairs ws before after) (sym e) stand)

-- the days p to b of a run that 20 names
pub judged_overfull : (k : ℕ) (pairs : List Pair) (ws : List Window) (table sums : List ℕ) (p b : ℕ) → Counted k (length pairs) ws table → Summed pairs sums
    → Named k pairs ws (k + p, k + b) → (before after : List ℕ) → after ≡ run_marks k (length pairs) (k + p, k + b) ++ drop (length pairs) before
    → Judged k pairs ws before after (Err (Overfull (get_or table (b * 128 + p) 0) (get_or sums (b + 1) 0 - get_or sums p 0)))
judged_overfull k pairs ws table sums p b C S N before after stand =
    let R = N.is_run in
    let le : p ≤ b = omega (arith, R.ordered) in
    let lt : b < length pairs = omega (arith, R.ends) in
    let run : Window = (k + p, k + b) in
    let inside : get_or table (b * 128 + p) 0 ≡ held ws run = cell_held k pairs ws table C p b le lt in
    let t : total (most pairs) (b + 1) ≡ total (most pairs) (suc b) = ap (total (most pairs)) (add-one b) in
    let full : get_or sums (b + 1) 0 - get_or sums p 0 ≡ room k pairs run =
    omega (arith, S p (omega arith), S (b + 1) (omega arith), room_sum k pairs p b) in
    judged_by k pairs ws before after _ _ (reply_overfull k pairs ws (take (length pairs) after) C.within run N) (rw (inside, full)) stand

-- there is a plan
pub judged_accepted : (k : ℕ) (pairs : List Pair) (ws : List Window) → Within k (length pairs) ws → ((ts : List ℕ) × Plan k pairs ws ts) → (marks : List ℕ)
    → Judged k pairs ws marks marks (Ok tt)
judged_accepted k pairs ws W P marks = judged_by k pairs ws marks marks _ _ (reply_accepted k pairs ws (take (length pairs) marks) W P) refl refl

-- no run is overfull, and a set shows a shortage
pub judged_short : (k : ℕ) (pairs : List Pair) (ws : List Window) → Within k (length pairs) ws → Roomy k pairs ws → (days before : List ℕ) (m n : ℕ)
    → Marks (length pairs) days → ShowsShortage k pairs ws days
    → m ≡ meeting k (take (length pairs) (days ++ drop (length pairs) before)) ws
    → n ≡ needed k (take (length pairs) (days ++ drop (length pairs) before)) pairs
    → Judged k pairs ws before (days ++ drop (length pairs) before) (Err (Short m n))
judged_short k pairs ws W R days before m n S shows met sum =
    let d = length pairs in
    let after = days ++ drop d before in
    let front : take d after ≡ days = take_at days (drop d before) d S.long in
    let marks : Marks d (take d after) = rw front S in
    let shown : ShowsShortage k pairs ws (take d after) = rw front shows in
    judged_by k pairs ws before after _ _ (reply_short k pairs ws (take d after) W R shown) (rw (met, sum)) (marks, shown, drop_at days (drop d before) d S.long)

-- the days of a set, as the front of all marks
pub front_ready : (k d : ℕ) (ws : List Window) (days rest : List ℕ) → Marks d days → d ≤ 128 → Within k d ws
    → (length (take d (days ++ rest)) ≤ 128) × Marks (length (take d (days ++ rest))) (take d (days ++ rest)) × Within k (length (take d (days ++ rest))) ws
front_ready k d ws days rest S few W =
    let P : List ℕ → Type 0 = λ l. (length l ≤ 128) × Marks (length l) l × Within k (length l) ws in
    subst P (sym (take_at days rest d S.long)) (omega (arith, S.long), rw S.long S, rw S.long W)
