-- Records that are put into windows one after the other.
use Rattle.std.proofs.Common.{◌≡◌, ℕ, ◌+◌, ◌-◌, ◌<◌, ◌≤◌, List, [], ◌∷◌, ◌++◌, map, length, get_or, take, drop, sym, refl, ap, ◌∙◌, subst, arith}
use Rattle.std.proofs.lemmas.Bool.{le-leb}
use Rattle.std.proofs.lemmas.List.{get_or-append_right, get_or-drop, length-map, length-take-le, take_all, drop_all, append-nil}
use Rattle.plans.specs.Plans.{Window}
use Rattle.plans.specs.Needs.{Within}
use Rattle.records.specs.Records.{taking}
use Rattle.narrowing.specs.Narrow.{placed}
use Rattle.narrowing.specs.Scanning.{found, AtHand, Shorter}
use Rattle.records.proofs.Windows.{told_at}
use Rattle.narrowing.proofs.Windows.{told_within}

-- a map in place has not touched what is to come
pub untouched : {X : Type 0} (f : X → X) (xs ys : List X) (i : ℕ) (x : X) → i < length xs → ys ≡ map f (take i xs) ++ drop i xs → x ≡ get_or ys i x → x ≡ get_or xs i x
untouched f xs ys i x h e is =
    let n : length (map f (take i xs)) ≡ i = length-map (take i xs) f ∙ length-take-le i xs (omega arith) in
    let z : i + (i - i) ≡ i = omega arith in
    is ∙ ap (λ l. get_or l i x) e ∙ get_or-append_right (map f (take i xs)) (drop i xs) i i x n (omega arith) ∙ get_or-drop i xs (i - i) x ∙ ap (λ j. get_or xs j x) z

-- a record in the window that the table gives for its own
abbrev pub moved : {X : Type 0} → (X → Window → X) → (X → Window) → ℕ → List ℕ → X → X
moved put span k table x = put x (found k table (span x))

placed_moved : {X : Type 0} (put : X → Window → X) (span : X → Window) (k : ℕ) (table : List ℕ) (xs : List X)
    → placed put (map (found k table) (map span xs)) xs ≡ map (moved put span k table) xs
placed_moved put span k table [] = refl
placed_moved put span k table (x ∷ xs) = ap (λ l. moved put span k table x ∷ l) (placed_moved put span k table xs)

-- a map in place, once it is through
pub moved_all : {X : Type 0} (put : X → Window → X) (span : X → Window) (k : ℕ) (table : List ℕ) (xs ys : List X) (i : ℕ) → length xs ≤ i
    → ys ≡ map (moved put span k table) (take i xs) ++ drop i xs → ys ≡ placed put (map (found k table) (map span xs)) xs
moved_all put span k table xs ys i h e =
    let t = take_all i xs h in
    let d = drop_all i xs h in
    e ∙ rw (t, d) (append-nil (map (moved put span k table) xs)) ∙ sym (placed_moved put span k table xs)

-- a record takes a window that has a day
pub taken : {X : Type 0} (put : X → Window → X) (x : X) (w : Window) → w.0 ≤ w.1 → taking put x w ≡ put x w
taken put x w h = rw (le-leb w.0 w.1 h)

-- so it is of the window that the loop has come to
pub at_hand : {X : Type 0} (span : X → Window) (f : X → X) (k : ℕ) (table : List ℕ) (xs ys : List X) (i : ℕ) (x : X) (w : Window)
    → Within k 128 (map span xs) → Shorter k table (map span xs) → i < length xs → ys ≡ map f (take i xs) ++ drop i xs
    → x ≡ get_or ys i x → w ≡ span (get_or ys i x) → AtHand k table w
at_hand span f k table xs ys i x w W S h e is tells' =
    let tells : w ≡ span x = tells' ∙ ap span (sym is) in
    let same = untouched f xs ys i x h e is in
    let r = told_within span k 128 xs i x w W h same tells in
    let n : i < length (map span xs) = simp length-map h in
    let P : Window → Type 0 = λ v. ((found k table v).0 ≤ (found k table v).1) × ((found k table v).1 ≤ v.1) in
    let s : P w = subst P (sym (told_at span xs i x w h same tells)) (S i n) in
    record { begins = r.0; ordered = r.1; ends = r.2; has_day = s.0; no_later = s.1 }
