-- The orders that a list of days puts on a day, and those that it puts on other days.
use Rattle.std.proofs.Common.{◌≡◌, ℕ, ◌+◌, ◌<◌, ◌≤◌, min, true, false, cond, eqb, List, [], ◌∷◌, ◌++◌, map, length, get_or, take, drop, set, sym, refl, ap, ◌∙◌, ap₂, inl, inr, arith}
use Rattle.std.proofs.lemmas.List.{take_more_set, length-take-le, take-append-drop, append-nil, append_assoc, get_or-drop, drop-drop, drop-set-lt, at_drop_more, at_drop_all}
use Rattle.std.proofs.lemmas.Bool.{ne_eqb, eq-eqb, cases_lt}
use Rattle.ledger.specs.Orders.{Order as Held, leaving, staying}
use Rattle.ledger.specs.Replies.{onto}
use Rattle.orders.specs.declared.order.Order.{Order}
use Rattle.orders.specs.Records.{entry_of}
use Rattle.orders.specs.Lists.{off}

-- A list that began as `old`: its first n are the first of `all`, of which `rest` is still to be written, and from place k on
-- it is as it was.
module _ {A : Type 0} (all old : List A) where
  pub record Written (rest : List A) (n k : ℕ) (now : List A) : Type 0 where
    pub behind : n ≤ k
    pub front : take n now ++ rest ≡ all
    pub back : drop k now ≡ drop k old

  module _ (rest more : List A) (n k : ℕ) (now : List A) (w : Written rest n k now) where
    back_more : drop (k + 1) now ≡ drop (k + 1) old
    back_more = sym (drop-drop 1 k now) ∙ ap (drop 1) w.back ∙ drop-drop 1 k old

    pub written_more : (y : A) → n < length now → rest ≡ y ∷ more → Written more (n + 1) (k + 1) (set now n y)
    written_more y h e =
        let b = w.behind in
        record {
          behind = omega arith;
          front = ap (λ l. l ++ more) (take_more_set now n y h) ∙ append_assoc (take n now) (y ∷ []) more ∙ ap (λ l. take n now ++ l) (sym e) ∙ w.front;
          back = drop-set-lt (k + 1) now n y (omega arith) ∙ back_more;
        }

    pub written_past : rest ≡ more → Written more n (k + 1) now
    written_past e = let b = w.behind in record { behind = omega arith; front = ap (λ l. take n now ++ l) (sym e) ∙ w.front; back = back_more }

    pub still_there : (d : A) → get_or now k d ≡ get_or old k d
    still_there d =
        let z : k + 0 ≡ k = omega arith in
        ap (λ m. get_or now m d) (sym z) ∙ sym (get_or-drop k now 0 d) ∙ ap (λ l. get_or l 0 d) w.back ∙ get_or-drop k old 0 d ∙ ap (λ m. get_or old m d) z

    pub all_written : rest ≡ [] → take n now ≡ all
    all_written e = sym (append-nil (take n now)) ∙ ap (λ l. take n now ++ l) (sym e) ∙ w.front

-- the numbers that leave, written to the front of a list
pub written_onto : (all old rest : List ℕ) (n : ℕ) (now : List ℕ) → Written all old rest n n now → rest ≡ [] → n ≤ length now
    → (n ≡ length all) × (now ≡ onto all old)
written_onto all old rest n now w e h =
    let f = all_written all old rest [] n n now w e in
    let many : n ≡ length all = sym (length-take-le n now h) ∙ ap length f in
    (many, sym (take-append-drop n now) ∙ ap₂ (λ a b. a ++ b) f w.back ∙ ap (λ m. all ++ drop m old) many)

-- what is still to come at place i
module _ (t : ℕ) (ts : List ℕ) (i : ℕ) where
  module _ (os : List Order) where
    abbrev pub leaving_from : List ℕ
    leaving_from = leaving t (map entry_of (drop i os)) (drop i ts)

  module _ {A : Type 0} (xs : List A) where
    abbrev pub off_from : List A
    off_from = off t (drop i xs) (drop i ts)

no_more_leave : (t : ℕ) (os : List Held) → leaving t os [] ≡ []
no_more_leave t [] = refl
no_more_leave t (o ∷ os) = refl

-- the next element stays, or goes
module _ {A : Type 0} (t : ℕ) (xs : List A) (ts : List ℕ) (i n : ℕ) (now : List A) (h : i < length xs) (j : i < length ts)
    (w : Written (off t xs ts) xs (off_from t ts i xs) n i now) where
  abbrev next : List A
  next = off_from t ts (i + 1) xs

  off_at : (d : A) → off_from t ts i xs ≡ cond (eqb t (get_or ts i 0)) next (get_or xs i d ∷ next)
  off_at d = at_drop_more (λ l. off t l (drop i ts)) xs i d h ∙ at_drop_more (λ l. off t (get_or xs i d ∷ drop (i + 1) xs) l) ts i 0 j

  pub kept_more : (d : A) → length now ≡ length xs → (get_or ts i 0 ≡ t → ⊥) → Written (off t xs ts) xs next (n + 1) (i + 1) (set now n (get_or now i d))
  kept_more d long other =
      let x : eqb t (get_or ts i 0) ≡ false = ne_eqb t (get_or ts i 0) (λ e. other (sym e)) in
      let b = w.behind in
      rw (still_there (off t xs ts) xs _ next n i now w d)
      (written_more (off t xs ts) xs _ next n i now w (get_or xs i d) (omega arith) (off_at d ∙ rw x))

  pub kept_same : A → get_or ts i 0 ≡ t → Written (off t xs ts) xs next n (i + 1) now
  kept_same d at =
      let x : eqb t (get_or ts i 0) ≡ true = eq-eqb t (get_or ts i 0) (sym at) in
      written_past (off t xs ts) xs _ next n i now w (off_at d ∙ rw x)

pub leaving_end : (t : ℕ) (ts : List ℕ) (i : ℕ) (os : List Order) → i ≡ min (length os) (length ts) → leaving_from t ts i os ≡ []
leaving_end t ts i os e =
    elim (cases_lt (length ts) (length os)) [
      | inl h ↦ at_drop_all (λ l. leaving t (map entry_of (drop i os)) l) ts i (omega arith) ∙ no_more_leave t (map entry_of (drop i os))
      | inr h ↦ at_drop_all (λ l. leaving t (map entry_of l) (drop i ts)) os i (omega arith)
    ]

-- what the ledger keeps of those that stay, and the windows that they are told
pub off_map : {A B : Type 0} (f : A → B) (t : ℕ) (xs : List A) (ts : List ℕ) → map f (off t xs ts) ≡ off t (map f xs) ts
off_map f t [] ts = refl
off_map f t (x ∷ xs) [] = refl
off_map f t (x ∷ xs) (u ∷ ts) = grind (arith, off_map f t xs ts)

pub off_staying : (t : ℕ) (os : List Held) (ts : List ℕ) → off t os ts ≡ staying t os ts
off_staying t [] ts = refl
off_staying t (o ∷ os) [] = refl
off_staying t (o ∷ os) (u ∷ ts) = grind (arith, off_staying t os ts)
