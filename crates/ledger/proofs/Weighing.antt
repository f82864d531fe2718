-- Whether a ledger has a plan: what the weighing finds, what it means, and that the marks of 21 do not alter it.
use Rattle.std.proofs.Common.{◌≡◌, ℕ, ◌+◌, ◌<◌, ◌≤◌, Bool, true, false, cond, ◌↔◌, List, [], ◌∷◌, map, Some, None, Option, sym, refl, subst, arith}
use Rattle.std.specs.List.{AllByRecursion}
use Rattle.plans.specs.Plans.{Window, Pair, mosts_kept, plans}
use Rattle.plans.specs.Runs.{overfull_run}
use Rattle.plans.specs.Sets.{meeting, needed}
use Rattle.plans.specs.Needs.{Within}
use Rattle.plans.specs.Replies.{Reply as Weight, Reply.accepted, Reply.short, none, tell_overfull, reply as plan_reply, Means}
use Rattle.plans.specs.Narrowing.{first_plan}
use Rattle.plans.proofs.Replies.{reply_means}
use Rattle.plans.proofs.First.{first_leads}
use Rattle.ledger.specs.Orders.{Order}
use Rattle.ledger.specs.Ledger.{Calendar, Ledger, horizon, pairs, begun_at, windows, Fits, weigh, days_in, plan_of}
use Rattle.ledger.specs.Calls.{Call, checks, first_fault, edits, subject}
use Rattle.ledger.specs.Replies.{Reply, Reply.refused, Reply.lacks, reply, told, weighed, settled, past_weighing, past_checks, refuses, number_of}
use Rattle.ledger.specs.Law.{SomePlan, Orderly, ComesFirst, MarksNoMatter}
use Rattle.ledger.proofs.Days.{pairs_long}

-- the windows of a ledger in order are within the horizon
within_all : (k d : ℕ) (os : List Order) → AllByRecursion (λ o. k ≤ o.asked.1) os → AllByRecursion (λ o. o.asked.0 ≤ o.asked.1) os → AllByRecursion (λ o. o.asked.1 < k + d) os
    → Within k d (map (begun_at k) os)
within_all k d [] a b c = tt
within_all k d (o ∷ os) a b c = (omega arith, omega arith, c.0, within_all k d os a.1 b.1 c.1)

pub within : (L : Ledger) → Orderly L → Within L.today horizon (windows L)
within L O = within_all L.today horizon L.held O.ahead O.ordered O.near

-- so the weighing means what it says
module _ (c : Calendar) (L : Ledger) (O : Orderly L) where
  pub weigh_means : (marks : List ℕ) (r : Weight) → (r ≡ weigh c L marks) ↔ Means L.today (pairs c L) (windows L) marks r
  weigh_means marks r =
      reply_means L.today (pairs c L) (windows L) marks (subst (λ d. Within L.today d (windows L)) (sym (pairs_long c L)) (within L O)) r

  pub weigh_plan : (marks : List ℕ) → weigh c L marks ≡ accepted → SomePlan c L
  weigh_plan marks e = (weigh_means marks accepted).0 (sym e)

  pub plan_weigh : (marks : List ℕ) → SomePlan c L → weigh c L marks ≡ accepted
  plan_weigh marks p = sym ((weigh_means marks accepted).1 p)

-- the plan of a ledger
pub plan_leads : (c : Calendar) (L : Ledger) → SomePlan c L → ComesFirst c L (plan_of c L)
plan_leads c L p = go (first_plan L.today (pairs c L) (windows L)) refl
  where
    go : (o : Option (List ℕ)) → first_plan L.today (pairs c L) (windows L) ≡ o → ComesFirst c L (days_in o)
    go None e = absurd ((first_leads L.today (pairs c L) (windows L)).1.0 e p.0 p.1)
    go (Some ts) e = ((first_leads L.today (pairs c L) (windows L)).0 ts).0 e

pub plan_fits : (c : Calendar) (L : Ledger) → SomePlan c L → Fits c L (plan_of c L)
plan_fits c L p = (plan_leads c L p).plan

-- what does not read the set and the counts of 21 is the same for all marks
module _ {A : Type 0} (f : Reply → A)
    (same : (about : ℕ) (s s' : List ℕ) (w w' m m' : ℕ) → f (lacks 21 about s w m) ≡ f (lacks 21 about s' w' m')) where
  either_way : (b : Bool) (about : ℕ) (s s' : List ℕ) (w w' m m' : ℕ)
      → f (cond b (lacks 21 about s w m) (refused 21 about)) ≡ f (cond b (lacks 21 about s' w' m') (refused 21 about))
  either_way true about s s' w w' m m' = same about s s' w w' m m'
  either_way false about s s' w w' m m' = refl

  settled_same : (k : Call) (about today : ℕ) (r : Reply) (t : ℕ) (ps : List Pair) (ws : List Window) (m m' : List ℕ)
      → f (settled k about today m r (plan_reply t ps ws m)) ≡ f (settled k about today m' r (plan_reply t ps ws m'))
  settled_same k about today r t ps ws m m' = go (none (mosts_kept t ps ws)) (none (plans t ps ws)) (overfull_run t ps ws)
    where
      go : (b d : Bool) (o : Option Window)
          → f (settled k about today m r (cond b (tell_overfull t ps ws o) (cond d (short (meeting t m ws) (needed t m ps)) accepted)))
          ≡ f (settled k about today m' r (cond b (tell_overfull t ps ws o) (cond d (short (meeting t m' ws) (needed t m' ps)) accepted)))
      go true d None = refl
      go true d (Some run) = refl
      go false true o = either_way (edits k) about m m' (meeting t m ws) (meeting t m' ws) (needed t m ps) (needed t m' ps)
      go false false o = refl

  pub reply_same : (c : Calendar) (L : Ledger) (k : Call) (m m' : List ℕ) → f (reply c L k m) ≡ f (reply c L k m')
  reply_same c L k m m' = checked (first_fault (checks L k))
    where
      weighing : (o : Option Ledger) → f (past_weighing c L k m o) ≡ f (past_weighing c L k m' o)
      weighing None = refl
      weighing (Some M) = settled_same k (subject L k) L.today (told c L k) M.today (pairs c M) (windows M) m m'

      checked : (o : Option ℕ) → f (past_checks c L k m o) ≡ f (past_checks c L k m' o)
      checked None = weighing (weighed L k)
      checked (Some n) = refl

pub marks_no_matter : MarksNoMatter
marks_no_matter c L k m m' =
    (reply_same refuses (λ a s s' w w' x x'. refl) c L k m m', reply_same number_of (λ a s s' w w' x x'. refl) c L k m m')
