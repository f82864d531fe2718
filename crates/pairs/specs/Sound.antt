-- A list without a bad pair has a sound one at every place.
use Rattle.std.specs.Prelude.{◌≡◌, ℕ, zero, suc, ◌+◌, Bool, true, false, cond, not, List, [], ◌∷◌, is_some, Some, Option, nat_le, slice_index_or, refl}
use Rattle.std.specs.List.{position_from}
use Rattle.std.proofs.Common.{arith, sym, ap, ◌∙◌}
use Rattle.std.proofs.lemmas.Bool.{and_parts, leb-true, true≢false}
use Rattle.std.proofs.lemmas.Iterator.Adapters.{position_from-zero}
use Rattle.pairs.specs.Pairs.{Sound, sound, bad_pair}

sound_from : (p : ℕ × ℕ) → sound p ≡ true → Sound p
sound_from p e =
    let h = and_parts (nat_le p.0 p.1) (nat_le p.1 512) e in
    (leb-true p.0 p.1 h.0, leb-true p.1 512 h.1)

passes : (b : Bool) (x : Option ℕ) (i : ℕ) → is_some (cond (not b) (Some i) x) ≡ false → (b ≡ true) × (is_some x ≡ false)
passes true x i e = (refl, e)
passes false x i e = absurd (true≢false e)

sound_from_place : (i : ℕ) (pairs : List (ℕ × ℕ)) → is_some (position_from (λ p. not (sound p)) i pairs) ≡ false → (t : ℕ) → Sound (slice_index_or pairs t (0, 0))
sound_from_place i [] e t = (omega arith, omega arith)
sound_from_place i (p ∷ ps) e zero = sound_from p (passes (sound p) (position_from (λ q. not (sound q)) (i + 1) ps) i e).0
sound_from_place i (p ∷ ps) e (suc t) = sound_from_place (i + 1) ps (passes (sound p) (position_from (λ q. not (sound q)) (i + 1) ps) i e).1 t

-- and so is (0, 0) past its end
pub sound_at : (pairs : List (ℕ × ℕ)) → is_some (bad_pair pairs) ≡ false → (t : ℕ) → Sound (slice_index_or pairs t (0, 0))
sound_at pairs e t = sound_from_place 0 pairs (ap is_some (sym (position_from-zero (λ p. not (sound p)) pairs)) ∙ e) t
