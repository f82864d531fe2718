-- From the checks and the weighing to the answer of an edit.
use Rattle.std.proofs.Common.{◌≡◌, ℕ, ◌<◌, ◌≤◌, Bool, false, cond, ltb, List, [], ◌++◌, length, take, drop, Some, None, Result, sym, refl, ap, ◌∙◌, subst, arith}
use Rattle.std.proofs.lemmas.List.{length-take-le, take_at, take-append-drop}
use Rattle.plans.specs.Plans.{Window}
use Rattle.plans.specs.Sets.{Marks, run_marks, ShowsShortage}
use Rattle.plans.specs.Replies.{Reply as Weight, Reply.accepted, Reply.overfull, Reply.short}
use Rattle.narrowing.specs.Verdict.{Marked}
use Rattle.std.proofs.lemmas.Bool.{lt-ltb}
use Rattle.ledger.specs.Orders.{Order, enter}
use Rattle.ledger.specs.Ledger.{Calendar, Ledger, pairs, windows, weigh}
use Rattle.ledger.specs.Calls.{Edit, Edit.admit, Edit.change, Edit.withdraw, Edit.light, Call, Call.edit, edits, edit_subject, subject, edited, made, checks, first_fault}
use Rattle.ledger.specs.Replies.{Reply, Reply.done, Reply.lacks, told, weighed, settled, past_weighing, past_checks, reply, number_of, refuses, onto, marks_after, ledger_after}
use Rattle.state.specs.Answers.{edit_reply, horizon_marks, Edits, Edited}
use Rattle.state.specs.Weights.{answer_of, ledger_by, Settles}
use Rattle.faults.specs.declared.BookFault.{BookFault}
use Rattle.ledger.specs.Law.{Passes}
use Rattle.ledger.proofs.Days.{map_from_long, pairs_long}
use Rattle.ledger.proofs.Keeping.{refused_so}
use Rattle.state.proofs.Passing.{marks_enough}
use Rattle.state.proofs.Weighing.{Alike, Alike.both_accepted, Alike.both_overfull, Alike.both_short, weights_alike}

run_long : (k d : ℕ) (run : Window) → length (run_marks k d run) ≡ d
run_long k d run = map_from_long _ k d

-- The reply past the checks.
module _ (c : Calendar) (L : Ledger) (k : Call) (marks : List ℕ) where
  pub reply_weighed : (M : Ledger) → first_fault (checks L k) ≡ None → weighed L k ≡ Some M
      → reply c L k marks ≡ settled k (subject L k) L.today marks (told c L k) (weigh c M marks)
  reply_weighed M e w = ap (past_checks c L k marks) e ∙ ap (past_weighing c L k marks) w

-- The ledger past the checks.
ledger_alike : (k : Call) (a t : ℕ) (L M : Ledger) (marks : List ℕ) (r : Reply) → refuses r ≡ false → {V W : Weight} → Alike V W
    → ledger_by L M V ≡ cond (refuses (settled k a t marks r W)) L M
ledger_alike k a t L M marks r n both_accepted = rw n
ledger_alike k a t L M marks r n (both_overfull run w m) = rw (refused_so (edits k) 20 a (run_marks t 56 run) w m)
ledger_alike k a t L M marks r n (both_short x y v w) = rw (refused_so (edits k) 21 a marks v w)

pub ledger_settled : (c : Calendar) (L M N : Ledger) (k : Call) (marks : List ℕ) → first_fault (checks L k) ≡ None → weighed L k ≡ Some M
    → refuses (told c L k) ≡ false → made c L k ≡ M → N ≡ ledger_by L M (weigh c M marks) → N ≡ ledger_after c L k
ledger_settled c L M N k marks e w n m b =
    b ∙ ledger_alike k (subject L k) L.today L M [] (told c L k) n (weights_alike c M marks [])
    ∙ ap (λ r. cond (refuses r) L M) (sym (reply_weighed c L k [] M e w)) ∙ ap (cond (refuses (reply c L k [])) L) (sym m)

today_edited : (e : Edit) (L : Ledger) → (edited e L).today ≡ L.today
today_edited (admit n f l) L = refl
today_edited (change n f l) L = refl
today_edited (withdraw n) L = refl
today_edited (light d) L = refl

-- An edit past its checks.
module _ (c : Calendar) (L : Ledger) (e : Edit) (ms ms' : List ℕ) (none : first_fault (checks L (edit e (length ms))) ≡ None) (long : 56 ≤ length ms) (same : length ms' ≡ length ms) where
  abbrev M : Ledger
  M = edited e L

  abbrev n : ℕ
  n = length ms

  abbrev hm : List ℕ
  hm = horizon_marks ms'

  hm_long : length hm ≡ 56
  hm_long = length-take-le 56 ms' (omega arith)

  told_as : (m : List ℕ) → reply c L (edit e n) m ≡ settled (edit e n) (edit_subject e) L.today m done (weigh c M m)
  told_as m = reply_weighed c L (edit e n) m M none refl

  -- The marks of a run are those of the days of the horizon, and the others stay.
  front : (k : ℕ) (run : Window) → ms' ≡ run_marks k (length (pairs c M)) run ++ drop (length (pairs c M)) ms
      → (hm ≡ run_marks k 56 run) × (ms' ≡ onto (run_marks k 56 run) ms)
  front k run h =
      let g : ms' ≡ run_marks k 56 run ++ drop 56 ms = h ∙ ap (λ d. run_marks k d run ++ drop d ms) (pairs_long c M) in
      (ap (take 56) g ∙ take_at (run_marks k 56 run) (drop 56 ms) 56 (run_long k 56 run), g ∙ ap (λ d. run_marks k 56 run ++ drop d ms) (sym (run_long k 56 run)))

  answered : (W : Weight) → Marked L.today (pairs c M) (windows M) ms ms' W
      → edit_reply (answer_of (edit_subject e) W) hm ≡ settled (edit e n) (edit_subject e) L.today hm done W
  answered accepted h = refl
  answered (overfull run w m) h = ap (λ s. lacks 20 (edit_subject e) s w m) (front L.today run h).0
  answered (short w f) h = refl

  shown : (W : Weight) → Marked L.today (pairs c M) (windows M) ms ms' W → number_of (settled (edit e n) (edit_subject e) L.today hm done W) ≡ 21
      → Marks 56 hm × ShowsShortage L.today (pairs c M) (windows M) hm
  shown accepted h i = absurd (omega arith)
  shown (overfull run w m) h i = absurd (omega arith)
  shown (short w f) h i =
      (subst (λ d. Marks d (take d ms')) (pairs_long c M) h.0, subst (λ d. ShowsShortage L.today (pairs c M) (windows M) (take d ms')) (pairs_long c M) h.1)

  left : (W : Weight) → Marked L.today (pairs c M) (windows M) ms ms' W → ms' ≡ marks_after (settled (edit e n) (edit_subject e) L.today hm done W) ms
  left accepted h = h
  left (overfull run w m) h = (front L.today run h).1
  left (short w f) h =
      let g : drop 56 ms' ≡ drop 56 ms = subst (λ d. drop d ms' ≡ drop d ms) (pairs_long c M) h.2 in
      sym (take-append-drop 56 ms') ∙ ap (λ x. hm ++ x) g ∙ ap (λ d. hm ++ drop d ms) (sym hm_long)

  pub edited_by : (r : Result (Unit {0}) BookFault) (N : Ledger) → Settles c L M (edit_subject e) r ms ms' N → Edits c L e r ms ms'
  edited_by r N S =
      record {
        answer = ap (λ x. edit_reply x hm) S.answer ∙ answered (weigh c M hm) marked ∙ sym (told_as hm);
        set = λ _ i. shown (weigh c M hm) marked (ap number_of (sym (told_as hm)) ∙ i);
        marks = left (weigh c M hm) marked ∙ ap (λ x. marks_after x ms) (sym (told_as hm));
      }
    where
      marked : Marked L.today (pairs c M) (windows M) ms ms' (weigh c M hm)
      marked = subst (λ t. Marked t (pairs c M) (windows M) ms ms' (weigh c M hm)) (today_edited e L) S.marks

  pub ledger_by_edit : (r : Result (Unit {0}) BookFault) (N : Ledger) → Settles c L M (edit_subject e) r ms ms' N → N ≡ ledger_after c L (edit e n)
  ledger_by_edit r N S = ledger_settled c L M N (edit e n) hm none refl refl refl S.ledger

-- As a program has it: the checks were passed, and the ledger was made.
pub edits_to : (c : Calendar) (L : Ledger) (e : Edit) (ms ms' : List ℕ) → Passes L (edit e (length ms)) → length ms' ≡ length ms → (M N : Ledger)
    (r : Result (Unit {0}) BookFault) → M ≡ edited e L → Settles c L M (edit_subject e) r ms ms' N → Edited c L e r ms ms' N
edits_to c L e ms ms' pass same M N r m S =
    let long = marks_enough L e (length ms) pass in
    let T : Settles c L (edited e L) (edit_subject e) r ms ms' N = subst (λ x. Settles c L x (edit_subject e) r ms ms' N) m S in
    record { told = edited_by c L e ms ms' pass long same r N T; ledger = ledger_by_edit c L e ms ms' pass long same r N T }

-- There is room, so the order is entered.
pub entered : (os ps : List Order) (o : Order) (r : Bool) → length os < 512 → r ≡ ltb (length os) 512 → ps ≡ cond r (enter o os) os → ps ≡ enter o os
entered os ps o r h e f = f ∙ ap (λ b. cond b (enter o os) os) (e ∙ lt-ltb (length os) 512 h)
