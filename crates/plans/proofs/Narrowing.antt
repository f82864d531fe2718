-- The least and the greatest day of a place over the list of plans, and the days that stand in it.
use Rattle.std.proofs.Common.{◌≡◌, ℕ, ◌≤◌, min, max, true, eqb, List, [], ◌∷◌, sym, refl, subst, inl, inr, arith}
use Rattle.std.proofs.lemmas.Bool.{cases_lt, eqb-true, eq-eqb, or_cases, or_left, or_right}
use Rattle.plans.specs.Plans.{Window, Pair, plans, Plan, Among}
use Rattle.plans.specs.Narrowing.{window, entry, entries, least, greatest, narrowed_at, stands, Possible, Smallest, Largest, NarrowedMeans, SupportedMeans, PossibleClosed}
use Rattle.plans.proofs.Listing.{plans_listed}
use Rattle.plans.proofs.Close.{close, assigned_at, assigned_close, assigned_open}

least_in : (x : ℕ) (xs : List ℕ) → Among (least (x ∷ xs)) (x ∷ xs)
least_in x [] = inl refl
least_in x (y ∷ ys) =
    elim (cases_lt x (least (y ∷ ys))) [
      | inl h ↦ inl (omega arith)
      | inr h ↦
          let e : min x (least (y ∷ ys)) ≡ least (y ∷ ys) = omega arith in
          inr (subst (λ t. Among t (y ∷ ys)) (sym e) (least_in y ys))
    ]

least_below : (xs : List ℕ) (t : ℕ) → Among t xs → least xs ≤ t
least_below [] t m = absurd m
least_below (x ∷ []) t (inl e) = omega arith
least_below (x ∷ []) t (inr m) = absurd m
least_below (x ∷ (y ∷ ys)) t (inl e) = omega arith
least_below (x ∷ (y ∷ ys)) t (inr m) = omega (arith, least_below (y ∷ ys) t m)

greatest_in : (x : ℕ) (xs : List ℕ) → Among (greatest (x ∷ xs)) (x ∷ xs)
greatest_in x [] = inl (omega arith)
greatest_in x (y ∷ ys) =
    elim (cases_lt (greatest (y ∷ ys)) x) [
      | inl h ↦ inl (omega arith)
      | inr h ↦
          let e : max x (greatest (y ∷ ys)) ≡ greatest (y ∷ ys) = omega arith in
          inr (subst (λ t. Among t (y ∷ ys)) (sym e) (greatest_in y ys))
    ]

greatest_above : (xs : List ℕ) (t : ℕ) → Among t xs → t ≤ greatest xs
greatest_above [] t m = absurd m
greatest_above (x ∷ xs) t (inl e) = omega arith
greatest_above (x ∷ xs) t (inr m) = omega (arith, greatest_above xs t m)

-- the entries are those of the lists
entry_in : (i : ℕ) (tss : List (List ℕ)) (ts : List ℕ) → Among ts tss → Among (entry ts i) (entries i tss)
entry_in i [] ts m = absurd m
entry_in i (s ∷ tss) ts (inl e) = inl (rw e)
entry_in i (s ∷ tss) ts (inr m) = inr (entry_in i tss ts m)

entry_of : (i : ℕ) (tss : List (List ℕ)) (t : ℕ) → Among t (entries i tss) → (ts : List ℕ) × Among ts tss × (entry ts i ≡ t)
entry_of i [] t m = absurd m
entry_of i (s ∷ tss) t (inl e) = (s, inl refl, sym e)
entry_of i (s ∷ tss) t (inr m) = let r = entry_of i tss t m in (r.0, inr r.1, r.2)

least_among : (xs : List ℕ) (t : ℕ) → Among t xs → Among (least xs) xs
least_among [] t m = absurd m
least_among (x ∷ xs) t m = least_in x xs

greatest_among : (xs : List ℕ) (t : ℕ) → Among t xs → Among (greatest xs) xs
greatest_among [] t m = absurd m
greatest_among (x ∷ xs) t m = greatest_in x xs

-- an entry over the list of plans is a day that some plan gives the place
among_possible : (t₀ : ℕ) (pairs : List Pair) (ws : List Window) (i t : ℕ) → Among t (entries i (plans t₀ pairs ws)) → Possible t₀ pairs ws i t
among_possible t₀ pairs ws i t m =
    let r = entry_of i (plans t₀ pairs ws) t m in (r.0, ((plans_listed t₀ pairs ws).plan r.0).0 r.1, r.2)

plan_among : (t₀ : ℕ) (pairs : List Pair) (ws : List Window) (i : ℕ) (ts : List ℕ) → Plan t₀ pairs ws ts → Among (entry ts i) (entries i (plans t₀ pairs ws))
plan_among t₀ pairs ws i ts P = entry_in i (plans t₀ pairs ws) ts (((plans_listed t₀ pairs ws).plan ts).1 P)

pub narrowed_means : NarrowedMeans
narrowed_means t₀ pairs ws ts P i t = ((to_smallest, from_smallest), (to_largest, from_largest))
  where
    low : Smallest t₀ pairs ws i (least (entries i (plans t₀ pairs ws)))
    low =
        record {
          possible = among_possible t₀ pairs ws i (least (entries i (plans t₀ pairs ws)))
              (least_among (entries i (plans t₀ pairs ws)) (entry ts i) (plan_among t₀ pairs ws i ts P));
          none_before = λ s Q. least_below (entries i (plans t₀ pairs ws)) (entry s i) (plan_among t₀ pairs ws i s Q);
        }

    high : Largest t₀ pairs ws i (greatest (entries i (plans t₀ pairs ws)))
    high =
        record {
          possible = among_possible t₀ pairs ws i (greatest (entries i (plans t₀ pairs ws)))
              (greatest_among (entries i (plans t₀ pairs ws)) (entry ts i) (plan_among t₀ pairs ws i ts P));
          none_after = λ s Q. greatest_above (entries i (plans t₀ pairs ws)) (entry s i) (plan_among t₀ pairs ws i s Q);
        }

    to_smallest : (narrowed_at t₀ pairs ws i).0 ≡ t → Smallest t₀ pairs ws i t
    to_smallest e = subst (Smallest t₀ pairs ws i) e low

    from_smallest : Smallest t₀ pairs ws i t → (narrowed_at t₀ pairs ws i).0 ≡ t
    from_smallest S =
        let a = low.possible in
        let b = S.possible in
        omega (arith, S.none_before a.0 a.1, a.2, low.none_before b.0 b.1, b.2)

    to_largest : (narrowed_at t₀ pairs ws i).1 ≡ t → Largest t₀ pairs ws i t
    to_largest e = subst (Largest t₀ pairs ws i) e high

    from_largest : Largest t₀ pairs ws i t → (narrowed_at t₀ pairs ws i).1 ≡ t
    from_largest S =
        let a = high.possible in
        let b = S.possible in
        omega (arith, S.none_after a.0 a.1, a.2, high.none_after b.0 b.1, b.2)

stands_among : (t : ℕ) (xs : List ℕ) → stands t xs ≡ true → Among t xs
stands_among t [] e = let z : ◌≡◌ {A = ℕ} 0 1 = cc in absurd (omega arith)
stands_among t (x ∷ xs) e =
    elim (or_cases (eqb t x) (stands t xs) e) [ inl f ↦ inl (eqb-true t x f) | inr f ↦ inr (stands_among t xs f) ]

among_stands : (t : ℕ) (xs : List ℕ) → Among t xs → stands t xs ≡ true
among_stands t [] m = absurd m
among_stands t (x ∷ xs) (inl e) = or_left (eqb t x) (stands t xs) (eq-eqb t x e)
among_stands t (x ∷ xs) (inr m) = or_right (eqb t x) (stands t xs) (among_stands t xs m)

pub supported_means : SupportedMeans
supported_means t₀ pairs ws i t = (
  (λ e. among_possible t₀ pairs ws i t (stands_among t (entries i (plans t₀ pairs ws)) e)),
  (λ p.
      let m : Among t (entries i (plans t₀ pairs ws)) = subst (λ x. Among x (entries i (plans t₀ pairs ws))) p.2 (plan_among t₀ pairs ws i p.0 p.1) in
      among_stands t (entries i (plans t₀ pairs ws)) m),
)

pub possible_closed : PossibleClosed
possible_closed t₀ pairs ws i t h = (to_closed, from_closed)
  where
    Closed : Type 0
    Closed = ((window ws i).0 ≤ t) × (t ≤ (window ws i).1) × ((ts : List ℕ) × Plan t₀ pairs (close ws i t) ts)

    to_closed : Possible t₀ pairs ws i t → Closed
    to_closed p =
        let P = p.1 in
        let r = assigned_at ws p.0 i P.assigned h in (
          omega (arith, p.2),
          omega (arith, p.2),
          (p.0, record { assigned = assigned_close ws p.0 i t P.assigned p.2; at_most = P.at_most; at_least = P.at_least }),
        )

    from_closed : Closed → Possible t₀ pairs ws i t
    from_closed c =
        let ts = c.2.0 in
        let P = c.2.1 in
        let a = assigned_open ws ts i t h c.0 c.1 P.assigned in
        (ts, record { assigned = a.0; at_most = P.at_most; at_least = P.at_least }, a.1)
