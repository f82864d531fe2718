-- The law, call by call and over whole histories.
use Rattle.std.proofs.Common.{◌≡◌, ℕ, Bool, true, false, cond, List, [], ◌∷◌, is_some, Some, None, Option, sym, refl, subst}
use Rattle.std.proofs.lemmas.Bool.{both_ways}
use Rattle.ledger.specs.Ledger.{Calendar, Ledger}
use Rattle.ledger.specs.Calls.{Call, Call.edit, Call.douse, Call.window, Call.probe, Call.plan, Call.turn, Call.begin, Call.keep, Call.undo}
use Rattle.ledger.specs.Replies.{Reply, reply, refuses}
use Rattle.ledger.specs.Lives.{Life, opened, before, next, after, stands}
use Rattle.ledger.specs.Histories.{History, Reaches.opening, Reaches.more, Deed, Deed.let_out, Account, account, entered, written}
use Rattle.ledger.specs.Law.{SomePlan, Sound, SoundBegun, Lawful, Law, LawGoesOn}
use Rattle.ledger.proofs.Weighing.{marks_no_matter}
use Rattle.ledger.proofs.Keeping.{passed, kept_by_calls}
use Rattle.ledger.proofs.Accounts.{account_edit, account_douse, account_turn, sound_fresh}
use Rattle.ledger.proofs.Telling.{tells, answers, refusals}

-- an account and a life
record Right (c : Calendar) (a : Account) (l : Life) : Type 0 where
  now : Sound c a.deeds l.now
  begun : SoundBegun c a.begun l.begun

-- a life that the deeds account for, now and in a trial, is lawful
lawful : (c : Calendar) (h : History) (l : Life) → Right c (account h) l → Lawful c h l
lawful c h l R =
    record {
      now = R.now;
      begun = R.begun;
      answers = answers c l.now R.now.kept;
      refusals = refusals c l R.now.kept (some_before (account h).begun l.begun refl R.begun);
    }
  where
    some_before : (ds : Option (List Deed)) (o : Option Ledger) → l.begun ≡ o → SoundBegun c ds o → SomePlan c (before l)
    some_before None None e b = rw e R.now.kept.fits
    some_before None (Some L) e b = absurd b
    some_before (Some ds) None e b = absurd b
    some_before (Some ds) (Some L) e b = rw e b.kept.fits

module _ (c : Calendar) (a : Account) (l : Life) (R : Right c a l) where
  undone : (ads : Option (List Deed)) (ls : Option Ledger) → is_some ls ≡ true → SoundBegun c ads ls
      → Sound c (elim ads [ None ↦ a.deeds | Some ds ↦ ds ]) (elim ls [ None ↦ l.now | Some L ↦ L ])
  undone None None e b = absurd (both_ways false refl e)
  undone None (Some L) e b = absurd b
  undone (Some ds) None e b = absurd b
  undone (Some ds) (Some L) e b = b

  -- an accepted call
  right_next : (k : Call) (marks : List ℕ) → stands l k ≡ true → refuses (reply c l.now k marks) ≡ false
      → Right c (entered k (reply c l.now k marks) a) (next c l k)
  right_next (edit e m) marks st h =
      let K = kept_by_calls c l.now (edit e m) marks R.now.kept h in
      record {
        now = record { kept = K; accounted = account_edit c a.deeds l.now R.now e m (passed c l.now (edit e m) marks h) K };
        begun = R.begun;
      }
  right_next (douse d) marks st h =
      record {
        now = record { kept = kept_by_calls c l.now (douse d) marks R.now.kept h; accounted = account_douse c a.deeds l.now R.now d };
        begun = R.begun;
      }
  right_next (window n) marks st h = R
  right_next (probe n d) marks st h = R
  right_next (plan m) marks st h = R
  right_next (turn m) marks st h =
      let K = kept_by_calls c l.now (turn m) marks R.now.kept h in
      let e = tells c l.now R.now.kept (turn m) marks refl (passed c l.now (turn m) marks h) in
      record {
        now = subst (λ r. Sound c (let_out (written r) ∷ a.deeds) (next c l (turn m)).now) (sym e)
            (record { kept = K; accounted = account_turn c a.deeds l.now R.now K });
        begun = R.begun;
      }
  right_next begin marks st h = record { now = R.now; begun = R.now }
  right_next keep marks st h = record { now = R.now; begun = tt }
  right_next undo marks st h = record { now = undone a.begun l.begun st R.begun; begun = tt }

  -- any call that stands
  right_after : (k : Call) (marks : List ℕ) → stands l k ≡ true
      → Right c (cond (refuses (reply c l.now k marks)) a (entered k (reply c l.now k marks) a)) (after c l k)
  right_after k marks st =
      subst (λ b. Right c (cond (refuses r) a (entered k r a)) (cond b l (next c l k))) (marks_no_matter c l.now k marks []).0 (go (refuses r) refl)
    where
      r : Reply
      r = reply c l.now k marks

      go : (b : Bool) → refuses r ≡ b → Right c (cond b a (entered k r a)) (cond b l (next c l k))
      go true e = R
      go false e = right_next k marks st e

pub law_goes_on : LawGoesOn
law_goes_on c h l L k marks st =
    lawful c ((k, reply c l.now k marks) ∷ h) (after c l k)
    (right_after c (account h) l (record { now = L.now; begun = L.begun }) k marks st)

pub law : Law
law c h l opening = lawful c [] opened (record { now = sound_fresh c; begun = tt })
law c h l (more {h = h'} {l = l'} r k marks st al) = law_goes_on c h' l' (law c h' l' r) k marks st
