-- What is replied means what it says, and nothing else does.
use Rattle.std.proofs.Common.{◌≡◌, ℕ, Bool, true, false, cond, List, [], ◌∷◌, length, Some, None, Option, sym, refl, ap, ◌∙◌, subst, inl, arith}
use Rattle.plans.specs.Plans.{Window, Pair, mosts_kept, plans, KeepsMosts, Plan, Among}
use Rattle.plans.specs.Runs.{held, room, overfull_run}
use Rattle.plans.specs.Sets.{meeting, needed}
use Rattle.plans.specs.Needs.{Within, RunFound}
use Rattle.plans.specs.Replies.{Reply, Reply.accepted, Reply.overfull, Reply.short, none, tell_overfull, reply, Means, ReplyMeans}
use Rattle.plans.proofs.Listing.{plans_listed}
use Rattle.plans.proofs.Exists.{mosts_kept_when}
use Rattle.plans.proofs.Runs.{run_named, named_one}

pub run_found : RunFound
run_found t₀ pairs ws W = ((λ none-keeps. found none-keeps (overfull_run t₀ pairs ws) refl), excludes)
  where
    found : ((ts : List ℕ) → KeepsMosts t₀ pairs ws ts → ⊥) → (o : Option Window) → overfull_run t₀ pairs ws ≡ o
        → (run : Window) × (overfull_run t₀ pairs ws ≡ Some run)
    found none-keeps None e = let K = (mosts_kept_when t₀ pairs ws W).1 ((run_named t₀ pairs ws).1.0 e) in absurd (none-keeps K.0 K.1)
    found none-keeps (Some run) e = (run, e)

    excludes : ((run : Window) × (overfull_run t₀ pairs ws ≡ Some run)) → (ts : List ℕ) → KeepsMosts t₀ pairs ws ts → ⊥
    excludes r ts K =
        let e : overfull_run t₀ pairs ws ≡ Some r.0 = r.1 in
        let f : overfull_run t₀ pairs ws ≡ None = (run_named t₀ pairs ws).1.1 ((mosts_kept_when t₀ pairs ws W).0 (ts, K)) in
        let z : ◌≡◌ {A = ℕ} 0 1 = cc in absurd (omega arith)

none_among : (xs : List (List ℕ)) → none xs ≡ true → (x : List ℕ) → Among x xs → ⊥
none_among [] e x m = m
none_among (y ∷ xs) e x m = let z : ◌≡◌ {A = ℕ} 0 1 = cc in absurd (omega arith)

some_among : (xs : List (List ℕ)) → none xs ≡ false → (x : List ℕ) × Among x xs
some_among [] e = let z : ◌≡◌ {A = ℕ} 0 1 = cc in absurd (omega arith)
some_among (y ∷ xs) e = (y, inl refl)

module _ (t₀ : ℕ) (pairs : List Pair) (ws : List Window) (marks : List ℕ) (W : Within t₀ (length pairs) ws) where
  -- a plan keeps the mosts
  keeps : (ts : List ℕ) → Plan t₀ pairs ws ts → KeepsMosts t₀ pairs ws ts
  keeps ts P = record { assigned = P.assigned; at_most = P.at_most }

  no_keeping : none (mosts_kept t₀ pairs ws) ≡ true → (ts : List ℕ) → KeepsMosts t₀ pairs ws ts → ⊥
  no_keeping e ts K = none_among (mosts_kept t₀ pairs ws) e ts (((plans_listed t₀ pairs ws).mosts ts).1 K)

  some_keeping : none (mosts_kept t₀ pairs ws) ≡ false → (ts : List ℕ) × KeepsMosts t₀ pairs ws ts
  some_keeping e = let r = some_among (mosts_kept t₀ pairs ws) e in (r.0, ((plans_listed t₀ pairs ws).mosts r.0).0 r.1)

  no_plan : none (plans t₀ pairs ws) ≡ true → (ts : List ℕ) → Plan t₀ pairs ws ts → ⊥
  no_plan e ts P = none_among (plans t₀ pairs ws) e ts (((plans_listed t₀ pairs ws).plan ts).1 P)

  some_plan : none (plans t₀ pairs ws) ≡ false → (ts : List ℕ) × Plan t₀ pairs ws ts
  some_plan e = let r = some_among (plans t₀ pairs ws) e in (r.0, ((plans_listed t₀ pairs ws).plan r.0).0 r.1)

  means : Means t₀ pairs ws marks (reply t₀ pairs ws marks)
  means = go (none (mosts_kept t₀ pairs ws)) (none (plans t₀ pairs ws)) (overfull_run t₀ pairs ws) refl refl refl
    where
      go : (b c : Bool) (o : Option Window) → none (mosts_kept t₀ pairs ws) ≡ b → none (plans t₀ pairs ws) ≡ c → overfull_run t₀ pairs ws ≡ o
          → Means t₀ pairs ws marks
          (cond b (tell_overfull t₀ pairs ws o) (cond c (short (meeting t₀ marks ws) (needed t₀ marks pairs)) accepted))
      go true c None e f g =
          let r = (run_found t₀ pairs ws W).0 (no_keeping e) in
          let i : overfull_run t₀ pairs ws ≡ Some r.0 = r.1 in
          let z : ◌≡◌ {A = ℕ} 0 1 = cc in absurd (omega arith)
      go true c (Some run) e f g = (no_keeping e, ((run_named t₀ pairs ws).0 run).0 g, refl, refl)
      go false true o e f g = (some_keeping e, no_plan f, refl, refl)
      go false false o e f g = some_plan f

  one_meaning : (r s : Reply) → Means t₀ pairs ws marks r → Means t₀ pairs ws marks s → r ≡ s
  one_meaning accepted accepted m n = refl
  one_meaning accepted (overfull run a b) m n = absurd (n.0 m.0 (keeps m.0 m.1))
  one_meaning accepted (short a b) m n = absurd (n.1 m.0 m.1)
  one_meaning (overfull run a b) accepted m n = absurd (m.0 n.0 (keeps n.0 n.1))
  one_meaning (overfull run a b) (overfull run' a' b') m n =
      let e : run ≡ run' = named_one t₀ pairs ws run run' m.1 n.1 in
      let f : held ws run ≡ held ws run' = ap (held ws) e in
      let g : room t₀ pairs run ≡ room t₀ pairs run' = ap (room t₀ pairs) e in
      let h : a ≡ a' = m.2 ∙ f ∙ sym n.2 in
      let i : b ≡ b' = m.3 ∙ g ∙ sym n.3 in
      rw (e, h, i)
  one_meaning (overfull run a b) (short a' b') m n = absurd (m.0 n.0.0 n.0.1)
  one_meaning (short a b) accepted m n = absurd (m.1 n.0 n.1)
  one_meaning (short a b) (overfull run a' b') m n = absurd (n.0 m.0.0 m.0.1)
  one_meaning (short a b) (short a' b') m n =
      let h : a ≡ a' = m.2 ∙ sym n.2 in
      let i : b ≡ b' = m.3 ∙ sym n.3 in
      rw (h, i)

pub reply_means : ReplyMeans
reply_means t₀ pairs ws marks W r = (
  (λ e. subst (Means t₀ pairs ws marks) (sym e) (means t₀ pairs ws marks W)),
  (λ m. one_meaning t₀ pairs ws marks W r (reply t₀ pairs ws marks) m (means t₀ pairs ws marks W)),
)
