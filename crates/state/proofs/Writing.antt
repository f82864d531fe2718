-- From the checks, the weighing and the first plan to the answers of plan and turn.
use Rattle.std.proofs.Common.{◌≡◌, ℕ, suc, ◌+◌, ◌%◌, ◌≤◌, Bool, true, false, cond, ◌&&◌, leb, List, [], ◌++◌, length, take, drop, set, is_some, Some, None, Ok, Err, Option, sym, refl, ap, ◌∙◌, ap₂, add-one, arith, length-append}
use Rattle.std.proofs.lemmas.List.{take_at}
use Rattle.std.proofs.lemmas.Bool.{le-leb, and_from}
use Rattle.ledger.specs.Orders.{Order, leaving, staying}
use Rattle.ledger.specs.Ledger.{Calendar, Ledger, weigh, Fits, plan_of}
use Rattle.ledger.specs.Calls.{Call, Call.plan, Call.turn, switch, turned, made}
use Rattle.ledger.specs.Replies.{Reply.planned, Reply.out, reply, refuses, onto, list_after, ledger_after}
use Rattle.ledger.specs.Law.{Passes}
use Rattle.state.specs.Answers.{plainly, Lists}
use Rattle.orders.specs.Tables.{held_in}
use Rattle.state.specs.Model.{lit_by, ledger_of}
use Rattle.state.specs.Near.{near_all}
use Rattle.state.specs.declared.state.State.{State}
use Rattle.state.specs.Weights.{quiet}
use Rattle.faults.specs.declared.BookFault.{BookFault}
use Rattle.state.proofs.Slots.{lit_turn}
use Rattle.state.proofs.Nearness.{near_staying}
use Rattle.state.proofs.Asking.{ask_told}

-- A refusal writes nothing and alters nothing.
pub lists_refused : (c : Calendar) (L : Ledger) (k : Call) (fault : BookFault) (ns : List ℕ) → plainly fault ≡ reply c L k []
    → Lists c L k (Err fault) (plainly fault) ns ns × (L ≡ ledger_after c L k)
lists_refused c L k fault ns e =
    (record { answer = e; written = tt; list = ap (λ r. list_after r ns) e }, ap (λ r. cond (refuses r) L (made c L k)) e)

front : (xs ns : List ℕ) (n : ℕ) → n ≡ length xs → take n (xs ++ drop n ns) ≡ xs
front xs ns n e = take_at xs (drop n ns) n (sym e)

long : (xs ns ys : List ℕ) (n : ℕ) → n ≡ length xs → ys ≡ xs ++ drop n ns → n ≤ length ys
long xs ns ys n e f = omega (arith, ap length f, length-append xs (drop n ns))

pub plan_lists : (c : Calendar) (L : Ledger) (ns ys : List ℕ) (n : ℕ) → n ≡ length (plan_of c L) → planned (plan_of c L) ≡ reply c L (plan (length ns)) []
    → ys ≡ plan_of c L ++ drop n ns → Lists c L (plan (length ns)) (Ok n) (planned (take n ys)) ns ys
plan_lists c L ns ys n e a f =
    record {
      answer = ap planned (ap (take n) f ∙ front (plan_of c L) ns n e) ∙ a;
      written = long (plan_of c L) ns ys n e f;
      list = f ∙ ap (λ d. plan_of c L ++ drop d ns) e ∙ ap (λ r. list_after r ns) a;
    }

-- A turn past its checks, on a ledger that has a plan.
module _ (c : Calendar) (L : Ledger) (ns : List ℕ) (pass : Passes L (turn (length ns))) (e : None ≡ quiet L.today (weigh c L [])) where
  abbrev gone : List ℕ
  gone = leaving L.today L.held (plan_of c L)

  told_out : out gone ≡ reply c L (turn (length ns)) []
  told_out = ask_told c L (turn (length ns)) refl pass refl e

  pub turn_lists : (ys : List ℕ) (n : ℕ) → n ≡ length gone → ys ≡ onto gone ns → Lists c L (turn (length ns)) (Ok n) (out (take n ys)) ns ys
  turn_lists ys n i f =
      let g : ys ≡ gone ++ drop n ns = f ∙ ap (λ d. gone ++ drop d ns) (sym i) in
      record {
        answer = ap out (ap (take n) g ∙ front gone ns n i) ∙ told_out;
        written = long gone ns ys n i g;
        list = f ∙ ap (λ r. list_after r ns) told_out;
      }

  pub turn_ledger : (M : Ledger) → M ≡ turned (plan_of c L) L → M ≡ ledger_after c L (turn (length ns))
  turn_ledger M m = m ∙ ap (λ r. cond (refuses r) L (turned (plan_of c L) L)) told_out

-- What was let out.
module _ (os : List Order) (us ns : List ℕ) (g : length os ≤ length us) (h : length os ≤ length ns) (n : ℕ) {o : Option ℕ}
    (e : o ≡ cond (leb (length os) (length us) && leb (length os) (length ns)) (Some n) None) where
  pub let_some : o ≡ Some n
  let_some = e ∙ ap (λ b. cond b (Some n) None) (and_from _ _ (le-leb (length os) (length us) g) (le-leb (length os) (length ns) h))

  pub let_those : {A : Type 0} {x z : A} (y : A) → z ≡ cond (is_some o) x y → z ≡ x
  let_those {x = x} y f = f ∙ ap (λ p. cond (is_some p) x y) let_some

pub some_same : {A : Type 0} {x y : A} → Some x ≡ Some y → x ≡ y
some_same e = cc

-- Who stays is near on the next day.
pub near_next : (c : Calendar) (L : Ledger) → Fits c L (plan_of c L) → near_all L.today L.held ≡ true → (os : List Order)
    → os ≡ staying L.today L.held (plan_of c L) → near_all (L.today + 1) os ≡ true
near_next c L F h os e = ap₂ near_all (add-one L.today) e ∙ near_staying L.today L.held (plan_of c L) F.assigned h

-- The day turns.
pub turned_to : (s : State) (i : ℕ) (os : List Order) (ts : List ℕ) → i ≡ s.today → os ≡ staying s.today (held_in s.table) ts
    → record { today = s.today + 1; lit = lit_by (s.today + 1) (set s.lit (i % 56) false); held = os } ≡ turned ts (ledger_of s)
turned_to s i os ts n e =
    let L : ℕ → (ℕ → Bool) → List Order → Ledger = λ t f xs. record { today = t; lit = f; held = xs } in
    ap (λ j. L (s.today + 1) (lit_by (s.today + 1) (set s.lit (j % 56) false)) os) n
    ∙ ap (λ d. L d (lit_by d (set s.lit (s.today % 56) false)) os) (add-one s.today) ∙ ap (λ f. L (suc s.today) f os) (lit_turn s.today s.lit s.slots)
    ∙ ap (L (suc s.today) (switch s.today false (ledger_of s).lit)) e
