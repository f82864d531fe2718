-- The first plan heads the list, and closing places from the front on, each to its smallest day, leaves it.
use Rattle.std.proofs.Common.{◌≡◌, ℕ, zero, suc, ◌<◌, ◌≤◌, List, [], ◌∷◌, map, length, Some, None, sym, refl, ap, ◌∙◌, subst, inl, inr, arith}
use Rattle.plans.specs.Plans.{Window, Pair, Assignment, plans, Plan, Among, Before, head, Ascending}
use Rattle.plans.specs.Narrowing.{entry, Leads, FirstLeads, Singles, FirstStep, FirstSingle}
use Rattle.plans.proofs.Listing.{plans_listed}
use Rattle.plans.proofs.Close.{close, assigned_at, assigned_close, assigned_open}

-- no two lists are before each other
before_not : (x y : List ℕ) → Before x y → Before y x → ⊥
before_not [] [] h k = h
before_not [] (y ∷ ys) h k = k
before_not (x ∷ xs) [] h k = h
before_not (x ∷ xs) (y ∷ ys) (inl h) (inl k) = omega arith
before_not (x ∷ xs) (y ∷ ys) (inl h) (inr k) = omega arith
before_not (x ∷ xs) (y ∷ ys) (inr h) (inl k) = omega arith
before_not (x ∷ xs) (y ∷ ys) (inr h) (inr k) = before_not xs ys h.1 k.1

module _ (t₀ : ℕ) (pairs : List Pair) (ws : List Window) where
  -- one plan leads at most
  leads_one : (x y : List ℕ) → Leads t₀ pairs ws x → Leads t₀ pairs ws y → x ≡ y
  leads_one x y h k =
      elim (h.before y k.plan) [
        | inl e ↦ e
        | inr b ↦ elim (k.before x h.plan) [ inl e ↦ sym e | inr c ↦ absurd (before_not x y b c) ]
      ]

  -- what heads the list, by the list
  Headed : List (List ℕ) → Type 0
  Headed [] = (ts : List ℕ) → Plan t₀ pairs ws ts → ⊥
  Headed (x ∷ xs) = Leads t₀ pairs ws x

  headed : (xs : List (List ℕ)) → Ascending xs → ((ts : List ℕ) → Among ts xs → Plan t₀ pairs ws ts) → ((ts : List ℕ) → Plan t₀ pairs ws ts → Among ts xs)
      → Headed xs
  unfolding Headed
  headed [] a f g = g
  headed (x ∷ xs) a f g = record { plan = f x (inl refl); before = λ s P. elim (g s P) [ inl e ↦ inl (sym e) | inr m ↦ inr (a.0 s m) ] }

  plans_headed : Headed (plans t₀ pairs ws)
  plans_headed =
      let L = plans_listed t₀ pairs ws in
      headed (plans t₀ pairs ws) L.ascending (λ ts. (L.plan ts).0) (λ ts. (L.plan ts).1)

  some_leads : (xs : List (List ℕ)) → Headed xs → (ts : List ℕ) → head xs ≡ Some ts → Leads t₀ pairs ws ts
  unfolding Headed
  some_leads [] H ts e = let z : ◌≡◌ {A = ℕ} 0 1 = cc in absurd (omega arith)
  some_leads (x ∷ xs) H ts e = let f : x ≡ ts = cc in subst (λ z. Leads t₀ pairs ws z) f H

  leads_some : (xs : List (List ℕ)) → Headed xs → (ts : List ℕ) → Leads t₀ pairs ws ts → head xs ≡ Some ts
  unfolding Headed
  leads_some [] H ts l = absurd (H ts l.plan)
  leads_some (x ∷ xs) H ts l = ap (λ z. Some z) (leads_one x ts H l)

  none_plan : (xs : List (List ℕ)) → Headed xs → head xs ≡ None → (ts : List ℕ) → Plan t₀ pairs ws ts → ⊥
  unfolding Headed
  none_plan [] H e = H
  none_plan (x ∷ xs) H e = let z : ◌≡◌ {A = ℕ} 0 1 = cc in absurd (omega arith)

  plan_none : (xs : List (List ℕ)) → Headed xs → ((ts : List ℕ) → Plan t₀ pairs ws ts → ⊥) → head xs ≡ None
  unfolding Headed
  plan_none [] H f = refl
  plan_none (x ∷ xs) H f = absurd (f x H.plan)

  -- where a plan is, one leads
  leader : (xs : List (List ℕ)) → Headed xs → (ts : List ℕ) → Plan t₀ pairs ws ts → (s : List ℕ) × Leads t₀ pairs ws s
  unfolding Headed
  leader [] H ts P = absurd (H ts P)
  leader (x ∷ xs) H ts P = (x, H)

pub first_leads : FirstLeads
first_leads t₀ pairs ws =
    let xs = plans t₀ pairs ws in
    let H = plans_headed t₀ pairs ws in (
      (λ ts. (some_leads t₀ pairs ws xs H ts, leads_some t₀ pairs ws xs H ts)),
      (none_plan t₀ pairs ws xs H, plan_none t₀ pairs ws xs H),
    )

-- with the first i windows single days, the earlier of two assignments has no later entry at i
singles_order : (ws : List Window) (i : ℕ) (x y : List ℕ) → Singles i ws → i < length ws → Assignment ws x → Assignment ws y → Before x y → entry x i ≤ entry y i
singles_order [] i x y S h a b o = absurd (omega arith)
singles_order (w ∷ ws) zero [] y S h a b o = absurd a
singles_order (w ∷ ws) zero (s ∷ x) [] S h a b o = absurd b
singles_order (w ∷ ws) zero (s ∷ x) (t ∷ y) S h a b (inl o) = omega arith
singles_order (w ∷ ws) zero (s ∷ x) (t ∷ y) S h a b (inr o) = omega (arith, o.0)
singles_order (w ∷ ws) (suc i) [] y S h a b o = absurd a
singles_order (w ∷ ws) (suc i) (s ∷ x) [] S h a b o = absurd b
singles_order (w ∷ ws) (suc i) (s ∷ x) (t ∷ y) S h a b (inl o) = absurd (omega arith)
singles_order (w ∷ ws) (suc i) (s ∷ x) (t ∷ y) S h a b (inr o) = singles_order ws i x y S.1 (omega arith) a.2 b.2 o.1

pub first_step : FirstStep
first_step t₀ pairs ws i t h S m =
    let P = m.possible in
    let r = assigned_at ws P.0 i P.1.assigned h in
    let l = leader t₀ pairs ws (plans t₀ pairs ws) (plans_headed t₀ pairs ws) P.0 P.1 in
    let x = l.0 in
    let X = l.1.plan in
    let up : entry x i ≤ t =
    elim (l.1.before P.0 P.1) [
      | inl e ↦ omega (arith, ap (λ z. entry z i) e, P.2)
      | inr o ↦ omega (arith, singles_order ws i x P.0 S h X.assigned P.1.assigned o, P.2)
    ] in
    let e : entry x i ≡ t = omega (arith, m.none_before x X) in
    let opened : (s : List ℕ) → Plan t₀ pairs (close ws i t) s → Plan t₀ pairs ws s =
    λ s Q. record { assigned = (assigned_open ws s i t h (omega (arith, P.2)) (omega (arith, P.2)) Q.assigned).0; at_most = Q.at_most; at_least = Q.at_least } in
    let shut : Plan t₀ pairs (close ws i t) x =
    record { assigned = assigned_close ws x i t X.assigned e; at_most = X.at_most; at_least = X.at_least } in
    let one = ((first_leads t₀ pairs ws).0 x).1 l.1 in
    let two = ((first_leads t₀ pairs (close ws i t)).0 x).1 (record { plan = shut; before = λ s Q. l.1.before s (opened s Q) }) in
    one ∙ sym two

-- single days leave one assignment
singles_days : (ws : List Window) (ts : List ℕ) → Singles (length ws) ws → Assignment ws ts → ts ≡ map (λ w. w.0) ws
singles_days [] [] S a = refl
singles_days [] (t ∷ ts) S a = absurd a
singles_days (w ∷ ws) [] S a = absurd a
singles_days (w ∷ ws) (t ∷ ts) S a = let e : t ≡ w.0 = omega arith in rw (e, singles_days ws ts S.1 a.2)

pub first_single : FirstSingle
first_single t₀ pairs ws ts S P =
    let l = leader t₀ pairs ws (plans t₀ pairs ws) (plans_headed t₀ pairs ws) ts P in
    ((first_leads t₀ pairs ws).0 l.0).1 l.1 ∙ ap (λ x. Some x) (singles_days ws l.0 S l.1.plan.assigned)
