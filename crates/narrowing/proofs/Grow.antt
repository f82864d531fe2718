-- The need from the left, one day more.
use Rattle.std.proofs.Common.{◌≡◌, ℕ, suc, ◌+◌, ◌<◌, ◌≤◌, ◌⊎◌, List, ◌∙◌, subst, inl, inr, arith}
use Rattle.std.proofs.lemmas.Bool.{cases_lt}
use Rattle.plans.specs.Plans.{Window}
use Rattle.plans.specs.Needs.{forced, NeedLeft}

-- runs without days hold no window
abbrev pub Starts : ℕ → List Window → Type 0
Starts k ws = (p : ℕ) → forced k ws p p ≡ 0

pub left_none : (k : ℕ) (ls : ℕ → ℕ) (ws : List Window) (M : ℕ → ℕ) → Starts k ws → M 0 ≡ 0 → NeedLeft k 0 ls ws M
left_none k ls ws M S e = record {
  start = e;
  by_day = λ v h. absurd (omega arith);
  by_run = λ p q h l. let f : p ≡ 0 = omega arith in let g : q ≡ 0 = omega arith in rw (f, g) (omega (arith, S 0));
  attained = λ v h. absurd (omega arith);
}

-- the need before the day after b
pub left_more : (k b : ℕ) (ls : ℕ → ℕ) (ws : List Window) (M M' : ℕ → ℕ) → Starts k ws → NeedLeft k b ls ws M
    → ((j : ℕ) → j ≤ b → M' j ≡ M j) → M b + ls b ≤ M' (suc b)
    → ((p : ℕ) → p ≤ b → M p + forced k ws p (suc b) ≤ M' (suc b))
    → (M' (suc b) ≡ M b + ls b) ⊎ ((p : ℕ) × (p ≤ b) × (M' (suc b) ≡ M p + forced k ws p (suc b)))
    → NeedLeft k (suc b) ls ws M'
left_more k b ls ws M M' S L same day run att = record { start = start; by_day = by_day; by_run = by_run; attained = attained }
  where
    start : M' 0 ≡ 0
    start = same 0 (omega arith) ∙ L.start

    by_day : (v : ℕ) → v < suc b → M' v + ls v ≤ M' (suc v)
    by_day v h =
        elim (cases_lt v b) [
          | inl l ↦ omega (arith, same v (omega arith), same (suc v) l, L.by_day v l)
          | inr l ↦ let e : v ≡ b = omega arith in rw e (omega (arith, same b (omega arith)))
        ]

    by_run : (p q : ℕ) → p ≤ q → q ≤ suc b → M' p + forced k ws p q ≤ M' q
    by_run p q h l =
        elim (cases_lt q (suc b)) [
          | inl i ↦ omega (arith, same p (omega arith), same q (omega arith), L.by_run p q h (omega arith))
          | inr i ↦
              let e : q ≡ suc b = omega arith in
              elim (cases_lt p (suc b)) [
                | inl j ↦ rw e (omega (arith, same p (omega arith), run p (omega arith)))
                | inr j ↦ let f : p ≡ suc b = omega arith in rw (e, f) (omega (arith, S (suc b)))
              ]
        ]

    attained : (v : ℕ) → v < suc b → (M' (suc v) ≡ M' v + ls v) ⊎ ((p : ℕ) × (p ≤ v) × (M' (suc v) ≡ M' p + forced k ws p (suc v)))
    attained v h =
        elim (cases_lt v b) [
          | inl l ↦ elim (L.attained v l) [
            | inl e ↦ inl (omega (arith, e, same v (omega arith), same (suc v) l))
            | inr e ↦ inr (e.0, e.1, omega (arith, e.2, same e.0 (omega arith), same (suc v) l))
          ]
          | inr l ↦
              let f : b ≡ v = omega arith in
              let P : ℕ → Type 0 = λ v. (M' (suc v) ≡ M' v + ls v) ⊎ ((p : ℕ) × (p ≤ v) × (M' (suc v) ≡ M' p + forced k ws p (suc v))) in
              subst P f (elim att [
                | inl e ↦ inl (omega (arith, e, same b (omega arith)))
                | inr e ↦ inr (e.0, e.1, omega (arith, e.2, same e.0 (omega arith)))
              ])
        ]
