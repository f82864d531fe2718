-- From the checks and the weighing to the answer of a call that takes no marks.
use Rattle.std.proofs.Common.{◌≡◌, ℕ, ◌+◌, ◌<◌, ◌≤◌, Bool, true, false, cond, ltb, leb, List, [], ◌∷◌, length, Some, None, Ok, Err, Option, Result, sym, refl, ap, ◌∙◌, subst, arith}
use Rattle.std.proofs.lemmas.List.{length-map}
use Rattle.std.proofs.lemmas.Bool.{both_ways, or_parts, not-false, leb-false, ltb-false, le-leb, lt-ltb}
use Rattle.std.specs.Option.{option_map}
use Rattle.plans.specs.Plans.{Window, Pair}
use Rattle.plans.specs.Narrowing.{window as window_at, narrowed_at, narrowed, supported}
use Rattle.plans.specs.Replies.{Reply as Weight, Reply.accepted, Reply.overfull, Reply.short}
use Rattle.records.specs.Checks.{checked}
use Rattle.narrowing.specs.Support.{Support, askable, support_of}
use Rattle.orders.specs.Lists.{place_in}
use Rattle.ledger.specs.Orders.{Order, holds, place}
use Rattle.ledger.specs.Ledger.{Calendar, Ledger, begun_at, pairs, windows, weigh, days_of, may_have}
use Rattle.ledger.specs.Calls.{Call, Call.douse, edits, subject, with_light, bad_day, checks, first_fault}
use Rattle.ledger.specs.Replies.{Reply, Reply.done, told, weighed, settled, reply, ledger_after}
use Rattle.ledger.specs.Law.{Passes}
use Rattle.ledger.proofs.Checks.{clear}
use Rattle.ledger.proofs.Days.{map_from_at, pairs_long}
use Rattle.orders.proofs.Edits.{found as at_place}
use Rattle.state.specs.Answers.{plainly, douse_reply, horizon_marks}
use Rattle.state.specs.Weights.{answer_of, quiet, refusal_in, Settles}
use Rattle.faults.specs.declared.BookFault.{BookFault}
use Rattle.state.proofs.Weighing.{Alike, Alike.both_accepted, Alike.both_overfull, Alike.both_short, weights_alike}
use Rattle.state.proofs.Settling.{reply_weighed, ledger_settled}

-- The reply that was found, else what the call tells.
abbrev pub or_else : Option Reply → Reply → Reply
or_else None r = r
or_else (Some q) r = q

-- A weighing without marks.
pub quiet_alike : (about : ℕ) {V W : Weight} → Alike V W → quiet about V ≡ quiet about W
quiet_alike about both_accepted = refl
quiet_alike about (both_overfull run w m) = refl
quiet_alike about (both_short x y v w) = refl

pub quiet_same : (c : Calendar) (M : Ledger) (about : ℕ) (marks : List ℕ) → quiet about (weigh c M marks) ≡ quiet about (weigh c M [])
quiet_same c M about marks = quiet_alike about (weights_alike c M marks [])

settled_quiet : (k : Call) (about today : ℕ) (marks : List ℕ) (r : Reply) (W : Weight) → edits k ≡ false
    → settled k about today marks r W ≡ or_else (quiet about W) r
settled_quiet k about today marks r accepted q = refl
settled_quiet k about today marks r (overfull run w m) q = rw q
settled_quiet k about today marks r (short w f) q = rw q

pub reply_quiet : (c : Calendar) (L M : Ledger) (k : Call) → edits k ≡ false → first_fault (checks L k) ≡ None → weighed L k ≡ Some M
    → reply c L k [] ≡ or_else (quiet (subject L k) (weigh c M [])) (told c L k)
reply_quiet c L M k q e w = reply_weighed c L k [] M e w ∙ settled_quiet k (subject L k) L.today [] (told c L k) (weigh c M []) q

-- The engine's answer.
pub answer_quiet : (about : ℕ) (W : Weight) (r : Result (Unit {0}) BookFault) → r ≡ answer_of about W → refusal_in r ≡ quiet about W
answer_quiet about accepted r e = ap refusal_in e
answer_quiet about (overfull run w m) r e = ap refusal_in e
answer_quiet about (short w f) r e = ap refusal_in e

-- A refusal is the reply.
pub refusal_reply : (r : Reply) (o : Option Reply) (q : Reply) → Some q ≡ o → q ≡ or_else o r
refusal_reply r o q e = subst (λ x. q ≡ or_else x r) e refl

pub told_reply : (r : Reply) (o : Option Reply) → None ≡ o → r ≡ or_else o r
told_reply r o e = subst (λ x. r ≡ or_else x r) e refl

-- Douse, as a program has it.
doused : (r : Result (Unit {0}) BookFault) → douse_reply r ≡ or_else (refusal_in r) done
doused (Ok _) = refl
doused (Err fault) = refl

pub douses_to : (c : Calendar) (L : Ledger) (d : ℕ) → Passes L (douse d) → (M N : Ledger) (r : Result (Unit {0}) BookFault) (ms ms' : List ℕ)
    → M ≡ with_light d false L → Settles c L M d r ms ms' N → (douse_reply r ≡ reply c L (douse d) []) × (N ≡ ledger_after c L (douse d))
douses_to c L d pass M N r ms ms' m S =
    let K : Ledger = with_light d false L in
    let hm : List ℕ = horizon_marks ms' in
    let T : Settles c L K d r ms ms' N = subst (λ x. Settles c L x d r ms ms' N) m S in
    let a : refusal_in r ≡ quiet d (weigh c K []) = answer_quiet d (weigh c K hm) r T.answer ∙ quiet_same c K d hm in
    (doused r ∙ ap (λ x. or_else x done) a ∙ sym (reply_quiet c L K (douse d) refl pass refl), ledger_settled c L K N (douse d) hm pass refl refl refl T.ledger)

-- A question past its checks.
module _ (c : Calendar) (L : Ledger) (k : Call) (q : edits k ≡ false) (pass : Passes L k) (w : weighed L k ≡ Some L) where
  pub ask_refused : (fault : BookFault) → Some (plainly fault) ≡ quiet (subject L k) (weigh c L []) → plainly fault ≡ reply c L k []
  ask_refused fault e = refusal_reply (told c L k) (quiet (subject L k) (weigh c L [])) (plainly fault) e ∙ sym (reply_quiet c L L k q pass w)

  pub ask_told : None ≡ quiet (subject L k) (weigh c L []) → told c L k ≡ reply c L k []
  ask_told e = told_reply (told c L k) (quiet (subject L k) (weigh c L [])) e ∙ sym (reply_quiet c L L k q pass w)

pub place_below : (n : ℕ) (os : List Order) → holds n os ≡ true → place n os < length os
place_below n [] h = absurd (both_ways false refl h)
place_below n (o ∷ os) h = grind (arith, place_below n os)

-- The place of an order that is held.
pub placed : (n : ℕ) {os ps : List Order} → holds n ps ≡ true → os ≡ ps → place_in n os ≡ Some (place n ps)
placed n {ps = ps} h e = ap (place_in n) e ∙ ap (λ b. cond b (Some (place n ps)) None) h

-- The days that an order is told.
pub told_days : (c : Calendar) (L : Ledger) (n : ℕ) → holds n L.held ≡ true → (os : List Order) (ws : List Window) → os ≡ L.held
    → ws ≡ narrowed L.today (pairs c L) (windows L) → option_map (window_at ws) (place_in n os) ≡ Some (days_of c L n)
told_days c L n h os ws f e =
    let i : ℕ = place n L.held in
    let l : i < length (windows L) = omega (arith, place_below n L.held h, length-map L.held (begun_at L.today)) in
    let z : 0 + i ≡ i = omega arith in
    ap (option_map (window_at ws)) (placed n h f)
    ∙ ap Some (ap (λ t. window_at t i) e ∙ map_from_at (narrowed_at L.today (pairs c L) (windows L)) 0 (length (windows L)) i (0, 0) l
    ∙ ap (narrowed_at L.today (pairs c L) (windows L)) z)

-- Whether a day is possible for an order.
module _ (c : Calendar) (L : Ledger) (n i d : ℕ) (found : Some i ≡ place_in n L.held) (day : bad_day L d ≡ false) (few : length L.held ≤ 512)
    (pass : checked L.today (pairs c L) (windows L) 56 ≡ Ok tt) (ps : List Pair) (e : ps ≡ pairs c L) where
  pub supported_told : (r : Support) → r ≡ support_of L.today ps (windows L) i d 512 → r ≡ Ok (may_have c L n d)
  supported_told r f =
      let p = at_place n L.held i found in
      let t = or_parts (ltb d L.today) (leb (L.today + 56) d) day in
      let m : length (windows L) ≡ length L.held = length-map L.held (begun_at L.today) in
      let x : i < length (windows L) = omega (arith, p.1) in
      let y : length (windows L) ≤ 512 = omega arith in
      let ask : askable L.today (length (pairs c L)) (length (windows L)) i d 512 ≡ true =
      rw (pairs_long c L, lt-ltb i (length (windows L)) x, le-leb L.today d (ltb-false d L.today t.0), lt-ltb d (L.today + 56) (leb-false (L.today + 56) d t.1), le-leb (length (windows L)) 512 y) in
      let over : checked L.today (pairs c L) (windows L) (length (pairs c L)) ≡ Ok tt = ap (checked L.today (pairs c L) (windows L)) (pairs_long c L) ∙ pass in
      f ∙ ap (λ x. support_of L.today x (windows L) i d 512) e ∙ rw (over, ask) (ap (λ j. Ok (supported L.today (pairs c L) (windows L) j d)) p.0)

-- What the checks of the two questions leave.
pub window_held : (L : Ledger) (n : ℕ) → Passes L (Call.window n) → holds n L.held ≡ true
window_held L n e = not-false (holds n L.held) (clear (checks L (Call.window n)) e).0

pub probe_held : (L : Ledger) (n d : ℕ) → Passes L (Call.probe n d) → (holds n L.held ≡ true) × (bad_day L d ≡ false)
probe_held L n d e = let q = clear (checks L (Call.probe n d)) e in (not-false (holds n L.held) q.0, q.1.0)

-- What is asked of a held order passes.
pub window_passes : (L : Ledger) (n : ℕ) → holds n L.held ≡ true → Passes L (Call.window n)
window_passes L n h = rw h

held_there : (n i : ℕ) (os : List Order) → Some i ≡ place_in n os → holds n os ≡ true
held_there n i os e = go (holds n os) e
  where
    go : (b : Bool) → Some i ≡ cond b (Some (place n os)) None → b ≡ true
    go true e = refl
    go false e = let z : ◌≡◌ {A = ℕ} 0 1 = cc in absurd (omega arith)

pub probe_passes : (L : Ledger) (n i d : ℕ) → Some i ≡ place_in n L.held → bad_day L d ≡ false → Passes L (Call.probe n d)
probe_passes L n i d f g = rw (held_there n i L.held f, g)
