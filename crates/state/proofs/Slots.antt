-- A slot for each day of the horizon, as a ledger's lit days.
use Rattle.std.proofs.Common.{◌≡◌, ℕ, zero, suc, ◌+◌, ◌%◌, Bool, true, false, ◌&&◌, ltb, leb, List, length, get_or, set, replicate, refl, inl, inr, arith}
use mathlib.Core.Path.{fun_ext}
use Rattle.std.proofs.lemmas.List.{get_or-set_same, get_or-set_other}
use Rattle.std.proofs.lemmas.Bool.{cases_lt, cases_eq, le-leb, lt-leb, lt-ltb, le-ltb, ne_eqb, eq-eqb}
use Rattle.ledger.specs.Calls.{switch}
use Rattle.state.specs.Model.{lit_by}

-- The day turns: its slot is dark for the day that enters the horizon.
pub lit_turn : (k : ℕ) (fs : List Bool) → length fs ≡ 56 → lit_by (suc k) (set fs (k % 56) false) ≡ switch k false (lit_by k fs)
lit_turn k fs n = fun_ext at
  where
    at : (t : ℕ) → lit_by (suc k) (set fs (k % 56) false) t ≡ switch k false (lit_by k fs) t
    at t =
        elim (cases_lt k t) [
          | inl j ↦
              elim (cases_lt t (k + 56)) [
                | inl l ↦ rw (le-leb (suc k) t j, lt-ltb t (suc k + 56) (omega arith), ne_eqb t k (λ x. omega arith), le-leb k t (omega arith), lt-ltb t (k + 56) l)
                    (get_or-set_other fs (k % 56) (t % 56) false false (λ x. omega arith))
                | inr l ↦
                    rw (ne_eqb t k (λ x. omega arith), le-leb k t (omega arith), le-ltb t (k + 56) l)
                    (elim (cases_eq t (k + 56)) [
                      | inl e ↦
                          let m : t % 56 ≡ k % 56 = omega arith in
                          rw (le-leb (suc k) t j, lt-ltb t (suc k + 56) (omega arith), m) (get_or-set_same fs (k % 56) false false (omega arith))
                      | inr e ↦ rw (le-leb (suc k) t j, le-ltb t (suc k + 56) (omega arith))
                    ])
              ]
          | inr j ↦ rw (lt-leb (suc k) t (omega arith))
              (elim (cases_eq t k) [ inl e ↦ rw (eq-eqb t k e) | inr e ↦ rw (ne_eqb t k e, lt-leb k t (omega arith)) ])
        ]

both_false : (b : Bool) → (b && false) ≡ false
both_false true = refl
both_false false = refl

dark : (n i : ℕ) → get_or (replicate n false) i false ≡ false
dark zero i = refl
dark (suc n) zero = refl
dark (suc n) (suc i) = dark n i

pub lit_none : (k : ℕ) (fs : List Bool) → fs ≡ replicate 56 false → lit_by k fs ≡ (λ t. false)
lit_none k fs e = fun_ext (λ t. rw (e, dark 56 (t % 56)) (both_false (leb k t && ltb t (k + 56))))
