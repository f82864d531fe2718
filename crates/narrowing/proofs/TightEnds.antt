-- Tight runs by the tests of a row, and their earliest begins and latest ends, one row more.
use Rattle.std.proofs.Common.{◌≡◌, ℕ, suc, ◌-◌, ◌<◌, ◌≤◌, Bool, true, false, cond, List, length, get_or, None, Some, Option, MatchOption, sym, ap, ◌∙◌, subst, inl, inr, arith}
use Rattle.std.proofs.lemmas.Bool.{cases_lt, cases_Bool, both_ways}
use Rattle.plans.specs.Plans.{Window, Pair, most}
use Rattle.plans.specs.Runs.{sum}
use Rattle.plans.specs.Needs.{forced}
use Rattle.plans.specs.Tight.{Tight}
use Rattle.narrowing.specs.Scanning.{tight?}

-- the first of n places that a test tells, or the end where it tells none
pub first_or : (t : ℕ → Bool) (n end x : ℕ) (o : Option ℕ)
    → MatchOption o ((p : ℕ) → p < n → t p ≡ false) (λ i. (i < n) × (t i ≡ true) × ((p : ℕ) → p < i → t p ≡ false)) → MatchOption o (x ≡ end) (λ i. x ≡ i)
    → ((p : ℕ) → p < x → p < n → t p ≡ false) × (x < end → t x ≡ true)
first_or t n end x None none e = ((λ p l h. none p h), λ l. absurd (omega arith))
first_or t n end x (Some i) some e = let P : ℕ → Type 0 = λ j. t j ≡ true in ((λ p l h. some.2 p (omega arith)), λ l. subst P (sym e) some.1)

module _ (k : ℕ) (pairs : List Pair) (ws : List Window) (M N : ℕ → ℕ) where
  -- the tests of the row of last day b tell the tight runs that end there
  pub tells_tight : (row before left : List ℕ) (top rest b p : ℕ) → get_or row p 0 ≡ forced k ws p (suc b)
      → top - get_or before p 0 ≡ sum (most pairs) p (suc b) → get_or left p 0 ≡ M p → N (suc b) ≤ length ws → rest ≡ length ws - N (suc b)
      → (tight? row before left top rest p ≡ true → Tight k pairs ws M N p (suc b))
      × (Tight k pairs ws M N p (suc b) → tight? row before left top rest p ≡ true)
  tells_tight row before left top rest b p er eb el h e = (λ t. grind arith, λ t. grind arith)

  -- the earliest begins of the tight runs that end at b or before
  pub record EarlyTo (b : ℕ) (m : ℕ → ℕ) : Type 0 where
    pub earliest : (p q : ℕ) → p < q → q ≤ b → Tight k pairs ws M N p q → m q ≤ p
    pub tight : (q : ℕ) → q ≤ b → m q < q → Tight k pairs ws M N (m q) q

  pub early_more : (b : ℕ) (m m' : ℕ → ℕ) → EarlyTo b m
      → ((q : ℕ) → q ≤ b → m' q ≡ m q) → ((p : ℕ) → p ≤ b → Tight k pairs ws M N p (suc b) → m' (suc b) ≤ p)
      → (m' (suc b) < suc b → Tight k pairs ws M N (m' (suc b)) (suc b)) → EarlyTo (suc b) m'
  early_more b m m' E same low at = record { earliest = λ p q h l t. grind (arith, E.earliest); tight = λ q l lt. grind (arith, E.tight) }

  -- the latest ends, of the tight runs that end at b or before
  pub record LateTo (b : ℕ) (m : ℕ → ℕ) : Type 0 where
    pub latest : (p q : ℕ) → p < q → q ≤ b → Tight k pairs ws M N p q → q ≤ m p
    pub tight : (p : ℕ) → p < m p → (m p ≤ b) × Tight k pairs ws M N p (m p)

  pub late_more : (b : ℕ) (m m' : ℕ → ℕ) (t : ℕ → Bool) → LateTo b m
      → ((p : ℕ) → p ≤ b → (t p ≡ true → Tight k pairs ws M N p (suc b)) × (Tight k pairs ws M N p (suc b) → t p ≡ true))
      → ((p : ℕ) → p ≤ b → m' p ≡ cond (t p) (suc b) (m p)) → ((p : ℕ) → b < p → m' p ≡ m p) → LateTo (suc b) m'
  late_more b m m' t L is new old = record { latest = latest; tight = tight }
    where
      keep : (p : ℕ) → t p ≡ false → m' p ≡ m p
      keep p f = elim (cases_lt b p) [ inl l ↦ old p l | inr g ↦ new p g ∙ ap (λ x. cond x (suc b) (m p)) f ]

      latest : (p q : ℕ) → p < q → q ≤ suc b → Tight k pairs ws M N p q → q ≤ m' p
      latest p q h l ti =
          elim (cases_Bool (t p)) [
            | inl y ↦ let e : m' p ≡ suc b = new p (omega arith) ∙ ap (λ x. cond x (suc b) (m p)) y in omega arith
            | inr f ↦ elim (cases_lt q (suc b)) [
              | inl i ↦ omega (arith, keep p f, L.latest p q h (omega arith) ti)
              | inr i ↦
                  let e : q ≡ suc b = omega arith in
                  let P : ℕ → Type 0 = Tight k pairs ws M N p in
                  absurd (both_ways (t p) f ((is p (omega arith)).1 (subst P e ti)))
            ]
          ]

      tight : (p : ℕ) → p < m' p → (m' p ≤ suc b) × Tight k pairs ws M N p (m' p)
      tight p h =
          let P : ℕ → Type 0 = λ q. (q ≤ suc b) × Tight k pairs ws M N p q in
          elim (cases_lt b p) [
            | inl l ↦ let e = old p l in let r = L.tight p (omega arith) in subst P (sym e) (omega (arith, r.0), r.1)
            | inr g ↦ elim (cases_Bool (t p)) [
              | inl y ↦ let e : m' p ≡ suc b = new p g ∙ ap (λ x. cond x (suc b) (m p)) y in subst P (sym e) (omega arith, (is p g).0 y)
              | inr f ↦ let e = keep p f in let r = L.tight p (omega arith) in subst P (sym e) (omega (arith, r.0), r.1)
            ]
          ]
