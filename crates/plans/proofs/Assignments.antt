-- The list of assignments has exactly the assignments, in ascending order.
use Rattle.std.proofs.Common.{◌≡◌, ℕ, zero, suc, ◌+◌, ◌-◌, ◌<◌, ◌≤◌, List, [], ◌∷◌, map, sym, refl, ap, subst, inl, inr, arith}
use Rattle.std.proofs.lemmas.Bool.{cases_lt}
use Rattle.plans.specs.Plans.{Window, from, days, fronts, assignments, Assignment, Among, Before, Ascending}
use Rattle.plans.proofs.Members.{append_has, in_left, in_right, append_ascend}

-- the days of a window
from_has : (a n t : ℕ) → Among t (from a n) → (a ≤ t) × (t < a + n)
from_has a zero t m = absurd m
from_has a (suc n) t (inl e) = (omega arith, omega arith)
from_has a (suc n) t (inr m) = let r = from_has (suc a) n t m in (omega arith, omega arith)

in_from : (a n t : ℕ) → a ≤ t → t < a + n → Among t (from a n)
in_from a zero t h k = absurd (omega arith)
in_from a (suc n) t h k = elim (cases_lt a t) [ inl l ↦ inr (in_from (suc a) n t l (omega arith)) | inr l ↦ inl (omega arith) ]

-- one day in front of each list
put : ℕ → List (List ℕ) → List (List ℕ)
put t lists = map (λ s. t ∷ s) lists

Put : ℕ → List (List ℕ) → List ℕ → Type 0
Put t lists x = (s : List ℕ) × (x ≡ t ∷ s) × Among s lists

put_has : (t : ℕ) (lists : List (List ℕ)) (x : List ℕ) → Among x (put t lists) → Put t lists x
unfolding put Put
put_has t [] x m = absurd m
put_has t (s ∷ lists) x (inl e) = (s, e, inl refl)
put_has t (s ∷ lists) x (inr m) = let r = put_has t lists x m in (r.0, r.1, inr r.2)

in_put : (t : ℕ) (lists : List (List ℕ)) (s : List ℕ) → Among s lists → Among (t ∷ s) (put t lists)
unfolding put
in_put t [] s m = absurd m
in_put t (r ∷ lists) s (inl e) = inl (ap (λ z. t ∷ z) e)
in_put t (r ∷ lists) s (inr m) = inr (in_put t lists s m)

Fronted : List ℕ → List (List ℕ) → List ℕ → Type 0
Fronted ts lists x = (t : ℕ) × (s : List ℕ) × (x ≡ t ∷ s) × Among t ts × Among s lists

fronts_have : (ts : List ℕ) (lists : List (List ℕ)) (x : List ℕ) → Among x (fronts ts lists) → Fronted ts lists x
unfolding Fronted put Put
fronts_have [] lists x m = absurd m
fronts_have (t ∷ ts) lists x m =
    elim (append_has (put t lists) (fronts ts lists) x m) [
      | inl l ↦ let r = put_has t lists x l in (t, r.0, r.1, inl refl, r.2)
      | inr l ↦ let r = fronts_have ts lists x l in (r.0, r.1, r.2, inr r.3, r.4)
    ]

in_fronts : (ts : List ℕ) (lists : List (List ℕ)) (t : ℕ) (s : List ℕ) → Among t ts → Among s lists → Among (t ∷ s) (fronts ts lists)
unfolding put
in_fronts [] lists t s h k = absurd h
in_fronts (u ∷ ts) lists t s (inl e) k = in_left (put u lists) (fronts ts lists) (t ∷ s) (rw e (in_put u lists s k))
in_fronts (u ∷ ts) lists t s (inr m) k = in_right (put u lists) (fronts ts lists) (t ∷ s) (in_fronts ts lists t s m k)

-- the assignments
pub assigned : (ws : List Window) (ts : List ℕ) → Among ts (assignments ws) → Assignment ws ts
unfolding Fronted
assigned [] [] m = tt
assigned [] (t ∷ ts) (inl e) = let z : ◌≡◌ {A = ℕ} 0 1 = cc in absurd (omega arith)
assigned [] (t ∷ ts) (inr m) = absurd m
assigned (w ∷ ws) [] m =
    let r = fronts_have (days w) (assignments ws) [] m in
    let e : [] ≡ r.0 ∷ r.1 = r.2 in
    let z : ◌≡◌ {A = ℕ} 0 1 = cc in absurd (omega arith)
assigned (w ∷ ws) (t ∷ ts) m =
    let r = fronts_have (days w) (assignments ws) (t ∷ ts) m in
    let e : t ∷ ts ≡ r.0 ∷ r.1 = r.2 in
    let f : r.0 ≡ t = cc in
    let g : r.1 ≡ ts = cc in
    let h = from_has w.0 (suc w.1 - w.0) r.0 r.3 in
    (omega arith, omega arith, assigned ws ts (subst (λ s. Among s (assignments ws)) g r.4))

pub listed : (ws : List Window) (ts : List ℕ) → Assignment ws ts → Among ts (assignments ws)
listed [] [] a = inl refl
listed [] (t ∷ ts) a = absurd a
listed (w ∷ ws) [] a = absurd a
listed (w ∷ ws) (t ∷ ts) a =
    in_fronts (days w) (assignments ws) t ts (in_from w.0 (suc w.1 - w.0) t a.0 (omega arith)) (listed ws ts a.2)

-- the order
put_ascend : (t : ℕ) (lists : List (List ℕ)) → Ascending lists → Ascending (put t lists)
unfolding put Put
put_ascend t [] a = tt
put_ascend t (s ∷ lists) a =
    (λ y m. let r = put_has t lists y m in let b : Before (t ∷ s) (t ∷ r.0) = inr (refl, a.0 r.0 r.2) in subst (λ z. Before (t ∷ s) z) (sym r.1) b, put_ascend t lists a.1)

fronts_ascend : (a n : ℕ) (lists : List (List ℕ)) → Ascending lists → Ascending (fronts (from a n) lists)
unfolding put Put Fronted
fronts_ascend a zero lists h = tt
fronts_ascend a (suc n) lists h = append_ascend (put a lists) (fronts (from (suc a) n) lists) (put_ascend a lists h) (fronts_ascend (suc a) n lists h) less
  where
    less : (x y : List ℕ) → Among x (put a lists) → Among y (fronts (from (suc a) n) lists) → Before x y
    less x y h k =
        let p = put_has a lists x h in
        let r = fronts_have (from (suc a) n) lists y k in
        let l = from_has (suc a) n r.0 r.3 in
        let b : Before (a ∷ p.0) (r.0 ∷ r.1) = inl l.0 in
        rw (p.1, r.2) b

pub assignments_ascend : (ws : List Window) → Ascending (assignments ws)
assignments_ascend [] = ((λ y m. absurd m), tt)
assignments_ascend (w ∷ ws) = fronts_ascend w.0 (suc w.1 - w.0) (assignments ws) (assignments_ascend ws)
