-- The pairs of the horizon, from the pair of each day.
use Rattle.std.proofs.Common.{◌≡◌, ℕ, zero, suc, ◌+◌, ◌<◌, ◌≤◌, List, get_or, sym, refl, inl, inr, ◌∙◌, subst, arith}
use denote.Param.Members.{Mut, Called}
use Rattle.std.specs.Array.{IsFromFnResult, IsFromFnResultFrom}
use Rattle.std.proofs.lemmas.Bool.{cases_eq}
use Rattle.std.proofs.lemmas.List.{ext_get_or}
use Rattle.plans.specs.Plans.{Pair}
use Rattle.ledger.specs.Ledger.{Calendar, Ledger, pair_on, pairs}
use Rattle.ledger.proofs.Days.{pairs_long, pairs_at}

-- What `from_fn` makes of a closure that gives `value i` at i and stays as it is.
module _ {F B : Type 0} (g : Mut F (ℕ × Unit {0}) B) (f : F) (value : ℕ → B)
    (calls : (i : ℕ) (y : B) (q : F) → Called g f (i, tt) y q → (y ≡ value i) × (q ≡ f)) where
  filled : (n i : ℕ) (ys : List B) (p : F) → p ≡ f → IsFromFnResultFrom g p ys i n → (d : B) (j : ℕ) → i ≤ j → j < i + n → get_or ys j d ≡ value j
  filled zero i ys p e h d j a b = absurd (omega arith)
  filled (suc n) i ys p e h d j a b =
      let k = calls i h.1 h.0 (subst (λ x. Called g x (i, tt) h.1 h.0) e h.3) in
      elim (cases_eq j i) [
        | inl s ↦ rw s (h.2.1 d ∙ k.0)
        | inr s ↦ filled n (i + 1) ys h.0 k.1 h.4 d j (omega arith) (omega arith)
      ]

pub pairs_from : (c : Calendar) (L : Ledger) {F : Type 0} (g : Mut F (ℕ × Unit {0}) Pair) (f : F) (ps : List Pair) → IsFromFnResult g f ps 56
    → ((i : ℕ) (y : Pair) (q : F) → Called g f (i, tt) y q → (y ≡ pair_on c L (L.today + i)) × (q ≡ f)) → ps ≡ pairs c L
pairs_from c L g f ps m calls =
    ext_get_or (0, 0) ps (pairs c L) (m.long ∙ sym (pairs_long c L))
    (λ i h. filled g f (λ i. pair_on c L (L.today + i)) calls 56 0 ps f refl m.each (0, 0) i (omega arith) (omega arith)
    ∙ sym (pairs_at c L i (omega arith)))
