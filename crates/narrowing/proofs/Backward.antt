-- The need from the right, one row of the table more: the rows come from the last day back.
use Rattle.std.proofs.Common.{◌≡◌, ℕ, suc, ◌+◌, ◌<◌, ◌≤◌, max, ◌⊎◌, List, sym, ◌∙◌, subst, inl, inr, arith}
use Rattle.std.proofs.lemmas.Bool.{cases_lt, cases_eq}
use Rattle.plans.specs.Plans.{Window}
use Rattle.plans.specs.Needs.{forced, NeedRight}
use Rattle.narrowing.proofs.Grow.{Starts}

-- the need from the right, once the rows from day b on are in
pub record RightFrom (k d b : ℕ) (ls : ℕ → ℕ) (ws : List Window) (N : ℕ → ℕ) : Type 0 where
  pub end : N d ≡ 0
  pub by_day : (v : ℕ) → b ≤ v → v < d → ls v + N (suc v) ≤ N v
  pub by_run : (p q : ℕ) → p < q → b < q → q ≤ d → forced k ws p q + N q ≤ N p
  pub attained : (v : ℕ) → b ≤ v → v < d → (N v ≡ ls v + N (suc v)) ⊎ ((q : ℕ) × (v < q) × (q ≤ d) × (N v ≡ forced k ws v q + N q))
  pub later : (v : ℕ) → v < b → (N v ≡ 0) ⊎ ((q : ℕ) × (b < q) × (q ≤ d) × (N v ≡ forced k ws v q + N q))

pub right_all : (k d : ℕ) (ls : ℕ → ℕ) (ws : List Window) (N : ℕ → ℕ) → Starts k ws → RightFrom k d 0 ls ws N → NeedRight k d ls ws N
right_all k d ls ws N S R = record {
  end = R.end;
  by_day = λ v h. R.by_day v (omega arith) h;
  by_run = λ p q h l. elim (cases_lt p q) [
    | inl i ↦ R.by_run p q i (omega arith) l
    | inr i ↦ let e : p ≡ q = omega arith in rw e (omega (arith, S q))
  ];
  attained = λ v h. R.attained v (omega arith) h;
}

-- the row of last day b
pub right_more : (k d b c : ℕ) (ls : ℕ → ℕ) (ws : List Window) (N N' : ℕ → ℕ) → c ≡ suc b → b < d → RightFrom k d c ls ws N
    → ((j : ℕ) → b < j → j ≤ d → N' j ≡ N j)
    → ((p : ℕ) → p < b → N' p ≡ max (N p) (forced k ws p (suc b) + N (suc b)))
    → N' b ≡ max (max (N b) (forced k ws b (suc b) + N (suc b))) (ls b + N (suc b))
    → RightFrom k d b ls ws N'
right_more k d b c ls ws N N' e lt R high low here = record { end = end; by_day = by_day; by_run = by_run; attained = attained; later = later }
  where
    up : (p : ℕ) → p ≤ d → N p ≤ N' p
    up p h =
        elim (cases_lt p b) [
          | inl l ↦ omega (arith, low p l)
          | inr g ↦ elim (cases_eq p b) [ inl i ↦ rw i (omega (arith, here)) | inr n ↦ omega (arith, high p (omega arith) h) ]
        ]

    end : N' d ≡ 0
    end = high d lt (omega arith) ∙ R.end

    by_day : (v : ℕ) → b ≤ v → v < d → ls v + N' (suc v) ≤ N' v
    by_day v h l = grind (arith, R.by_day)

    by_run : (p q : ℕ) → p < q → b < q → q ≤ d → forced k ws p q + N' q ≤ N' p
    by_run p q h m l = grind (arith, R.by_run)

    attained : (v : ℕ) → b ≤ v → v < d → (N' v ≡ ls v + N' (suc v)) ⊎ ((q : ℕ) × (v < q) × (q ≤ d) × (N' v ≡ forced k ws v q + N' q))
    attained v h l =
        elim (cases_eq v b) [
          | inl i ↦
              let P : ℕ → Type 0 = λ v. (N' v ≡ ls v + N' (suc v)) ⊎ ((q : ℕ) × (v < q) × (q ≤ d) × (N' v ≡ forced k ws v q + N' q)) in
              let top = high (suc b) (omega arith) lt in
              subst P (sym i) (elim (cases_lt (ls b + N (suc b)) (max (N b) (forced k ws b (suc b) + N (suc b)))) [
                | inr g ↦ inl (omega (arith, here, top))
                | inl g ↦ elim (cases_lt (forced k ws b (suc b) + N (suc b)) (N b)) [
                  | inr m ↦ inr (suc b, omega arith, lt, omega (arith, here, top))
                  | inl m ↦ elim (R.later b (omega arith)) [
                    | inl z ↦ absurd (omega arith)
                    | inr q ↦ inr (q.0, omega (arith, q.1), q.2, omega (arith, here, q.3, high q.0 (omega (arith, q.1)) q.2))
                  ]
                ]
              ])
          | inr n ↦ elim (R.attained v (omega arith) l) [
            | inl q ↦ inl (omega (arith, q, high v (omega arith) (omega arith), high (suc v) (omega arith) l))
            | inr q ↦ inr (q.0, q.1, q.2, omega (arith, q.3, high v (omega arith) (omega arith), high q.0 (omega (arith, q.1)) q.2))
          ]
        ]

    later : (v : ℕ) → v < b → (N' v ≡ 0) ⊎ ((q : ℕ) × (b < q) × (q ≤ d) × (N' v ≡ forced k ws v q + N' q))
    later v h =
        elim (cases_lt (forced k ws v (suc b) + N (suc b)) (N v)) [
          | inr g ↦ inr (suc b, omega arith, lt, omega (arith, low v h, high (suc b) (omega arith) lt))
          | inl g ↦ elim (R.later v (omega arith)) [
            | inl z ↦ inl (omega (arith, low v h, z))
            | inr q ↦ inr (q.0, omega (arith, q.1), q.2, omega (arith, low v h, q.3, high q.0 (omega (arith, q.1)) q.2))
          ]
        ]
