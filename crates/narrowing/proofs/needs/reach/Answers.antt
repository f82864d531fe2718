use Rattle.std.proofs.Common.{◌≡◌, ℕ, ◌+◌, ◌∷◌, ◌++◌, [], max, length, get_or, inl, inr, arith, rules}
use Rattle.std.proofs.Common.{length-append}
use Rattle.std.proofs.lemmas.Bool.{cases_lt, cases_eq}
use Rattle.std.proofs.lemmas.Slice.Zip.{zip_turn}
use Rattle.narrowing.proofs.needs.reach.Goals as goal

pub loop-held-preserved : goal.loop-held-preserved
loop-held-preserved c =
    let row = c.args.row.now in
    let needs = c.args.needs.now in
    let p : ℕ = length c.loop-held.yielded in
    let I = c.loop-held.invariant in
    let here = zip_turn row needs c.loop-held.yielded c.into_iter-held-iterator.result _ c.next.new.self _ (search rules) (search rules) c.loop-held.yielded_by (c.in-Some.held, c.in-Some.need) c.in-Some.is c.next.ensures.steps in
    let held : c.in-Some.held.now ≡ get_or row p 0 = here.2 0 in
    let need : c.in-Some.need.now ≡ get_or needs p 0 = here.3 0 in
    let is : c.max-largest.result ≡ max c.loop-held.largest (c.in-Some.need.now + c.in-Some.held.now) = c.max-largest.ensures in
    let long : length (c.loop-held.yielded ++ (c.in-Some.held, c.in-Some.need) ∷ []) ≡ p + 1 = simp length-append in
    rw long (record {
      from_start = omega (arith, I.from_start);
      above = λ q h. elim (cases_eq q p) [ inl e ↦ rw e (omega arith) | inr ne ↦ omega (arith, I.above q (omega arith)) ];
      attained = elim (cases_lt c.loop-held.largest (c.in-Some.need.now + c.in-Some.held.now)) [
        | inl l ↦ inr (p, omega arith, omega arith)
        | inr g ↦ elim I.attained [ inl e ↦ inl (omega arith) | inr q ↦ inr (q.0, omega (arith, q.1), omega (arith, q.2)) ]
      ];
    })
