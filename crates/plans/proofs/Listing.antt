-- The list of plans has exactly the plans, in ascending order.
use Rattle.std.proofs.Common.{ℕ, List}
use Rattle.plans.specs.Plans.{Window, Pair, assignments, keeps_mosts, keeps_fewests, mosts_kept, plans, KeepsMosts, Plan, Among, PlansListed}
use Rattle.plans.proofs.Members.{kept_has, in_kept, kept_ascend}
use Rattle.plans.proofs.DayTests.{most_kept, keep_most, fewest_kept, keep_fewest}
use Rattle.plans.proofs.Assignments.{assigned, listed, assignments_ascend}

module _ (t₀ : ℕ) (pairs : List Pair) (ws : List Window) (ts : List ℕ) where
  mosts_out : Among ts (mosts_kept t₀ pairs ws) → KeepsMosts t₀ pairs ws ts
  mosts_out m =
      let r = kept_has (keeps_mosts t₀ pairs) (assignments ws) ts m in
      record { assigned = assigned ws ts r.0; at_most = most_kept t₀ pairs ts r.1 }

  mosts_in : KeepsMosts t₀ pairs ws ts → Among ts (mosts_kept t₀ pairs ws)
  mosts_in K = in_kept (keeps_mosts t₀ pairs) (assignments ws) ts (listed ws ts K.assigned) (keep_most t₀ pairs ts K.at_most)

  plans_out : Among ts (plans t₀ pairs ws) → Plan t₀ pairs ws ts
  plans_out m =
      let r = kept_has (keeps_fewests t₀ pairs) (mosts_kept t₀ pairs ws) ts m in
      let K = mosts_out r.0 in
      record { assigned = K.assigned; at_most = K.at_most; at_least = fewest_kept t₀ pairs ts r.1 }

  plans_in : Plan t₀ pairs ws ts → Among ts (plans t₀ pairs ws)
  plans_in P =
      in_kept (keeps_fewests t₀ pairs) (mosts_kept t₀ pairs ws) ts (mosts_in (record { assigned = P.assigned; at_most = P.at_most }))
      (keep_fewest t₀ pairs ts P.at_least)

pub plans_listed : PlansListed
plans_listed t₀ pairs ws =
    record {
      mosts = λ ts. (mosts_out t₀ pairs ws ts, mosts_in t₀ pairs ws ts);
      plan = λ ts. (plans_out t₀ pairs ws ts, plans_in t₀ pairs ws ts);
      ascending = kept_ascend (keeps_fewests t₀ pairs) (mosts_kept t₀ pairs ws) (kept_ascend (keeps_mosts t₀ pairs) (assignments ws) (assignments_ascend ws));
    }
