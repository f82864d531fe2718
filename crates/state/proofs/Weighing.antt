-- Whether there is a plan does not depend on marks.
use Rattle.std.proofs.Common.{ℕ, Bool, true, false, cond, List, Some, None, Option}
use Rattle.plans.specs.Plans.{Window, Pair, mosts_kept, plans}
use Rattle.plans.specs.Runs.{overfull_run}
use Rattle.plans.specs.Sets.{meeting, needed}
use Rattle.plans.specs.Replies.{Reply as Weight, Reply.accepted, Reply.overfull, Reply.short, none, tell_overfull}
use Rattle.ledger.specs.Ledger.{Calendar, Ledger, pairs, windows, weigh}

-- Two replies of one problem: the same but for the counts of 21.
pub data Alike : Weight → Weight → Type 0 where
  both_accepted : Alike accepted accepted
  both_overfull : (run : Window) (windows mosts : ℕ) → Alike (overfull run windows mosts) (overfull run windows mosts)
  both_short : (a b a' b' : ℕ) → Alike (short a b) (short a' b')

told_alike : (k : ℕ) (pairs : List Pair) (ws : List Window) (o : Option Window) → Alike (tell_overfull k pairs ws o) (tell_overfull k pairs ws o)
told_alike k pairs ws None = both_accepted
told_alike k pairs ws (Some run) = both_overfull run _ _

pub weights_alike : (c : Calendar) (M : Ledger) (marks other : List ℕ) → Alike (weigh c M marks) (weigh c M other)
weights_alike c M marks other = go (none (mosts_kept k ps ws)) (none (plans k ps ws))
  where
    k : ℕ
    k = M.today

    ps : List Pair
    ps = pairs c M

    ws : List Window
    ws = windows M

    go : (a b : Bool)
        → Alike (cond a (tell_overfull k ps ws (overfull_run k ps ws)) (cond b (short (meeting k marks ws) (needed k marks ps)) accepted))
        (cond a (tell_overfull k ps ws (overfull_run k ps ws)) (cond b (short (meeting k other ws) (needed k other ps)) accepted))
    go true b = told_alike k ps ws (overfull_run k ps ws)
    go false true = both_short _ _ _ _
    go false false = both_accepted
