-- What stands in a list: one that is joined of two, and one of what passes a test; and that these ascend.
use Rattle.std.proofs.Common.{◌≡◌, ℕ, Bool, true, false, cond, ◌⊎◌, List, [], ◌∷◌, ◌++◌, filter, sym, refl, ap, ◌∙◌, inl, inr}
use Rattle.plans.specs.Plans.{Among, Before, Ascending}

pub append_has : {A : Type 0} (xs ys : List A) (x : A) → Among x (xs ++ ys) → Among x xs ⊎ Among x ys
append_has [] ys x m = inr m
append_has (y ∷ xs) ys x (inl e) = inl (inl e)
append_has (y ∷ xs) ys x (inr m) = elim (append_has xs ys x m) [ inl l ↦ inl (inr l) | inr r ↦ inr r ]

pub in_left : {A : Type 0} (xs ys : List A) (x : A) → Among x xs → Among x (xs ++ ys)
in_left [] ys x m = absurd m
in_left (y ∷ xs) ys x (inl e) = inl e
in_left (y ∷ xs) ys x (inr m) = inr (in_left xs ys x m)

pub in_right : {A : Type 0} (xs ys : List A) (x : A) → Among x ys → Among x (xs ++ ys)
in_right [] ys x m = m
in_right (y ∷ xs) ys x m = inr (in_right xs ys x m)

pub kept_has : (f : List ℕ → Bool) (xs : List (List ℕ)) (x : List ℕ) → Among x (filter f xs) → Among x xs × (f x ≡ true)
kept_has f [] x m = absurd m
kept_has f (y ∷ xs) x m = go (f y) refl m (kept_has f xs x)
  where
    go : (b : Bool) → f y ≡ b → Among x (cond b (y ∷ filter f xs) (filter f xs)) → (Among x (filter f xs) → Among x xs × (f x ≡ true))
        → Among x (y ∷ xs) × (f x ≡ true)
    go true e (inl h) ih = (inl h, ap f h ∙ e)
    go true e (inr h) ih = (inr (ih h).0, (ih h).1)
    go false e h ih = (inr (ih h).0, (ih h).1)

pub in_kept : (f : List ℕ → Bool) (xs : List (List ℕ)) (x : List ℕ) → Among x xs → f x ≡ true → Among x (filter f xs)
in_kept f [] x m k = absurd m
in_kept f (y ∷ xs) x (inl e) k = rw (sym (ap f e) ∙ k) (inl e)
in_kept f (y ∷ xs) x (inr m) k = go (f y) (in_kept f xs x m k)
  where
    go : (b : Bool) → Among x (filter f xs) → Among x (cond b (y ∷ filter f xs) (filter f xs))
    go true h = inr h
    go false h = h

pub append_ascend : (xs ys : List (List ℕ)) → Ascending xs → Ascending ys → ((x y : List ℕ) → Among x xs → Among y ys → Before x y) → Ascending (xs ++ ys)
append_ascend [] ys a b c = b
append_ascend (x ∷ xs) ys a b c =
    (λ y m. elim (append_has xs ys y m) [ inl l ↦ a.0 y l | inr r ↦ c x y (inl refl) r ], append_ascend xs ys a.1 b (λ u v h k. c u v (inr h) k))

pub kept_ascend : (f : List ℕ → Bool) (xs : List (List ℕ)) → Ascending xs → Ascending (filter f xs)
kept_ascend f [] a = tt
kept_ascend f (x ∷ xs) a = go (f x) (kept_ascend f xs a.1)
  where
    go : (b : Bool) → Ascending (filter f xs) → Ascending (cond b (x ∷ filter f xs) (filter f xs))
    go true h = ((λ y m. a.0 y (kept_has f xs y m).0), h)
    go false h = h
