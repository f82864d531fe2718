-- Windows with one place closed to a day, and lists that are written over.
use Rattle.std.proofs.Common.{◌≡◌, ℕ, zero, suc, ◌+◌, ◌<◌, ◌≤◌, Bool, true, false, ◌&&◌, ltb, leb, List, [], ◌∷◌, map, length, get_or, set, Ok, Err, sym, ap, ◌∙◌, subst, inl, inr, arith}
use Rattle.std.proofs.lemmas.List.{length-map, set-set, set-get_or, map-set, get_or-map}
use Rattle.std.proofs.lemmas.Bool.{leb-true, cases_Bool, both_ways, ltb-true, and_parts}
use Rattle.plans.specs.Plans.{Window, Pair, Plan}
use Rattle.plans.specs.Needs.{Within, Proper}
use Rattle.plans.specs.Narrowing.{window, supported, Possible}
use Rattle.plans.proofs.Narrowing.{supported_means, possible_closed}
use Rattle.records.specs.declared.record.bare.Window.{Window as Bare}
use Rattle.records.specs.Bare.{span_of, bare}
use Rattle.narrowing.specs.declared.support.SupportFault.TheVariants.{NoSuchQuestion}
use Rattle.records.specs.Checks.{checked}
use Rattle.narrowing.specs.Support.{askable, support_of}

-- what stood at a place, written back
pub put_back : {X : Type 0} (xs : List X) (i : ℕ) (x d : X) → set (set xs i x) i (get_or xs i d) ≡ xs
put_back xs i x d = set-set xs i x (get_or xs i d) ∙ set-get_or xs i d

within_closed : (k d : ℕ) (ws : List Window) (i t : ℕ) → Within k d ws → i < length ws → (window ws i).0 ≤ t → t ≤ (window ws i).1 → Within k d (set ws i (t, t))
within_closed k d [] i t W h l m = absurd (omega arith)
within_closed k d (w ∷ ws) zero t W h l m = (omega (arith, W.0), omega arith, omega (arith, W.2), W.3)
within_closed k d (w ∷ ws) (suc i) t W h l m = (W.0, W.1, W.2, within_closed k d ws i t W.3 (omega arith) l m)

proper_closed : (k : ℕ) (pairs : List Pair) (ws : List Window) (i t : ℕ) → Proper k pairs ws → i < length ws → (window ws i).0 ≤ t → t ≤ (window ws i).1
    → Proper k pairs (set ws i (t, t))
proper_closed k pairs ws i t P h l m = record { within = within_closed k (length pairs) ws i t P.within h l m; ordered = P.ordered }

-- an answer that is yes just where the day is possible
answers : (k : ℕ) (pairs : List Pair) (ws : List Window) (i t : ℕ) (b : Bool) → (b ≡ true → Possible k pairs ws i t) → (Possible k pairs ws i t → b ≡ true)
    → b ≡ supported k pairs ws i t
answers k pairs ws i t b so back =
    let s = supported_means k pairs ws i t in
    elim (cases_Bool b) [
      | inl e ↦ e ∙ sym (s.1 (so e))
      | inr e ↦ elim (cases_Bool (supported k pairs ws i t)) [
        | inl f ↦ absurd (both_ways b e (back (s.0 f)))
        | inr f ↦ e ∙ sym f
      ]
    ]

-- a day outside the window is not possible
no_outside : (k : ℕ) (pairs : List Pair) (ws : List Window) (i t : ℕ) → i < length ws → ((window ws i).0 ≤ t → t ≤ (window ws i).1 → ⊥) → false ≡ supported k pairs ws i t
no_outside k pairs ws i t h out =
    answers k pairs ws i t false (λ e. let z : ◌≡◌ {A = ℕ} 0 1 = cc in absurd (omega arith)) (λ p. let c = (possible_closed k pairs ws i t h).0 p in absurd (out c.0 c.1))

-- within it, the answer is whether there is a plan with the window closed to the day
by_closed : (k : ℕ) (pairs : List Pair) (ws : List Window) (i t : ℕ) (b : Bool) → i < length ws → (window ws i).0 ≤ t → t ≤ (window ws i).1
    → (b ≡ true → (ts : List ℕ) × Plan k pairs (set ws i (t, t)) ts) → (((ts : List ℕ) × Plan k pairs (set ws i (t, t)) ts) → b ≡ true)
    → b ≡ supported k pairs ws i t
by_closed k pairs ws i t b h l m so back =
    let p = possible_closed k pairs ws i t h in
    answers k pairs ws i t b (λ e. p.1 (l, m, so e)) (λ q. back (p.0 q).2)

module _ (k : ℕ) (pairs : List Pair) (bs : List Bare) (i t : ℕ) where
  abbrev closed : List Window
  closed = map span_of (set bs i (bare (t, t)))

  abbrev old : Bare
  old = get_or bs i (bare (0, 0))

  is_closed : closed ≡ set (map span_of bs) i (t, t)
  is_closed = map-set span_of bs i (bare (t, t))

  at_place : i < length bs → window (map span_of bs) i ≡ span_of old
  at_place h = get_or-map span_of bs i (bare (0, 0)) (0, 0) h

  pub no_day : i < length bs → (old.first ≤ t → t ≤ old.last → ⊥) → false ≡ supported k pairs (map span_of bs) i t
  no_day h out =
      let e = at_place h in
      no_outside k pairs (map span_of bs) i t (simp length-map h) (λ l m. out (omega (arith, ap (λ w. w.0) e)) (omega (arith, ap (λ w. w.1) e)))

  module _ (P : Proper k pairs (map span_of bs)) (h : i < length bs) (begun : old.first ≤ t) (ended : t ≤ old.last) where
    in_list : i < length (map span_of bs)
    in_list = simp length-map h

    low : (window (map span_of bs) i).0 ≤ t
    low = omega (arith, ap (λ w. w.0) (at_place h))

    high : t ≤ (window (map span_of bs) i).1
    high = omega (arith, ap (λ w. w.1) (at_place h))

    pub closed_proper : Proper k pairs closed
    closed_proper = let Q : List Window → Type 0 = Proper k pairs in subst Q (sym is_closed) (proper_closed k pairs (map span_of bs) i t P in_list low high)

    -- the answer is whether there is a plan with the window closed to the day
    pub by_plan : (b : Bool) → (b ≡ true → (ts : List ℕ) × Plan k pairs closed ts) → (((ts : List ℕ) × Plan k pairs closed ts) → b ≡ true)
        → b ≡ supported k pairs (map span_of bs) i t
    by_plan b so back =
        let Q : List Window → Type 0 = λ vs. (ts : List ℕ) × Plan k pairs vs ts in
        by_closed k pairs (map span_of bs) i t b in_list low high (λ e. subst Q is_closed (so e)) (λ q. back (subst Q (sym is_closed) q))

-- a question that can not be asked, and one that can
module _ (k : ℕ) (pairs : List Pair) (ws : List Window) (i t m n : ℕ) (ok : checked k pairs ws (length pairs) ≡ Ok tt) (e : length ws ≡ n) where
  pub not_asked : askable k (length pairs) n i t m ≡ false → Err NoSuchQuestion ≡ support_of k pairs ws i t m
  not_asked f = rw (ok, e, f)

  pub asked : askable k (length pairs) n i t m ≡ true → (b : Bool) → b ≡ supported k pairs ws i t → Ok b ≡ support_of k pairs ws i t m
  asked f b is = rw (ok, e, f, is)

-- the place is one of the records, and the list has room for them
pub asked_within : (k d n i t m : ℕ) → askable k d n i t m ≡ true → (i < n) × (n ≤ m)
asked_within k d n i t m e =
    let a = and_parts (ltb i n && leb k t && ltb t (k + d)) (leb n m) e in
    let b = and_parts (ltb i n && leb k t) (ltb t (k + d)) a.0 in
    (ltb-true i n (and_parts (ltb i n) (leb k t) b.0).0, leb-true n m a.1)
