-- Numbers read digit by digit.
use denote.Param.Members.{Mut}
use Rattle.std.specs.declared.ops.ControlFlow.{ControlFlow}
use Rattle.std.specs.ControlFlow.{continue_value}
use Rattle.std.specs.declared.ops.ControlFlow.TheVariants.{Continue, Break}
use Rattle.std.specs.Fn.{Called}
use Rattle.std.specs.List.{FoldsTo}
use Rattle.std.specs.Iterator.{TryFoldTurn, TryFoldsItems}
use Rattle.std.proofs.lemmas.Iterator.{YieldsList}
use Rattle.std.proofs.lemmas.Iterator.Consumers.{YieldsList-so_far, YieldsList-turn, YieldsList-end}
use Rattle.std.proofs.Common.{◌++◌, map, length, take, drop, subst, sym, ◌∙◌, MatchOption, ◌≡◌, ℕ, ◌+◌, ◌-◌, ◌*◌, ◌<◌, ◌≤◌, Bool, true, false, cond, not, ◌&&◌, leb, List, [], ◌∷◌, Some, None, Option, refl, ap, arith}
use Rattle.std.proofs.lemmas.Bool.{cond-true, le-leb, cond-false, lt-leb, and_right, leb-true, leb-false}
use Rattle.std.proofs.lemmas.List.{append-nil, drop_more, take-append-drop}
use Rattle.reading.specs.Numbers.{digit, digits, value, unfit, number_of}
use Rattle.reading.specs.Steps.{step_of}

-- the number that digits write after the value n
abbrev pub reading : ℕ → List ℕ → Option ℕ
reading n bs = cond (digits bs && leb (value n bs) 65535) (Some (value n bs)) None

abbrev pub go_on : Option ℕ → (ℕ → Option ℕ) → Option ℕ
go_on None f = None
go_on (Some n) f = f n

pub value_grows : (n : ℕ) (bs : List ℕ) → n ≤ value n bs
value_grows n [] = omega arith
value_grows n (b ∷ bs) = omega (arith, value_grows (n * 10 + (b - 48)) bs)

step_by : (d t : Bool) (m : ℕ) (bs : List ℕ) → (t ≡ false → 65535 < m) → cond ((d && digits bs) && leb (value m bs) 65535) (Some (value m bs)) None ≡ go_on (cond (d && t) (Some m) None) (λ k. reading k bs)
step_by false t m bs h = refl
step_by true true m bs h = refl
step_by true false m bs h = cond-false _ _ _ (and_right (digits bs) _ (lt-leb (value m bs) 65535 (omega (arith, h refl, value_grows m bs))))

pub reading_more : (n b : ℕ) (bs : List ℕ) → reading n (b ∷ bs) ≡ go_on (step_of n b) (λ k. reading k bs)
reading_more n b bs = step_by (digit b) (leb (n * 10 + (b - 48)) 65535) (n * 10 + (b - 48)) bs (λ e. leb-false _ _ e)

pub step_within : (n b m : ℕ) → step_of n b ≡ Some m → m ≤ 65535
step_within n b m e = by (digit b) (leb (n * 10 + (b - 48)) 65535) (λ h. leb-true _ _ h) e
  where
    by : (d t : Bool) → (t ≡ true → n * 10 + (b - 48) ≤ 65535) → cond (d && t) (Some (n * 10 + (b - 48))) None ≡ Some m → m ≤ 65535
    by true true h e = let same : n * 10 + (b - 48) ≡ m = cc in omega (arith, h refl)
    by true false h e = absurd (let z : ◌≡◌ {A = ℕ} 0 1 = cc in omega arith)
    by false t h e = absurd (let z : ◌≡◌ {A = ℕ} 0 1 = cc in omega arith)

-- what `?` makes of an option
abbrev gives : {E : Type 0} → Option ℕ → ControlFlow E ℕ → Type 0
gives o c = o ≡ continue_value c

-- `try_fold`, where each call of the closure gives `step_of`
module _ {A F : Type 0} (E : Type 0) (v : A → ℕ) (g : Mut F (ℕ × (A × Unit {0})) (Option ℕ)) (f : F) (calls : (n : ℕ) (x : A) (r : Option ℕ) (q : F) → Called g f (n, (x, tt)) r q → (q ≡ f) × (r ≡ step_of n (v x))) where
  turns : (xs : List A) (n a : ℕ) (p q : F) (ys : List ℕ) → p ≡ f → n ≤ 65535 → FoldsTo {P = F × ℕ} (TryFoldTurn g (gives {E = E})) (p, n) xs (q, a) → (q ≡ f) × (a ≤ 65535) × (reading n (map v xs ++ ys) ≡ reading a ys)
  turns [] n a p q ys e h t =
      let same : n ≡ a = ap (λ z. z.1) t in
      let kept : p ≡ q = ap (λ z. z.0) t in
      (sym kept ∙ e, omega (arith, same), ap (λ k. reading k ys) same)
  turns (x ∷ xs) n a p q ys e h t =
      let r = t.1.0 in
      let m = t.0.1 in
      let call = calls n x r t.0.0 (let P : F → Type 0 = λ z. Called g z (n, (x, tt)) r t.0.0 in subst P e t.1.1) in
      let some : step_of n (v x) ≡ Some m = sym call.1 ∙ t.1.2 in
      let later = turns xs m a t.0.0 q ys call.0 (step_within n (v x) m some) t.2 in
      (later.0, later.1, reading_more n (v x) (map v xs ++ ys) ∙ ap (λ o. go_on o (λ k. reading k (map v xs ++ ys))) some ∙ later.2)

  pub folded : {S : Type 0} {steps : S → Option A → S → Type 0} {s u : S} (bs : List ℕ) (r : Option ℕ) → YieldsList steps v s bs → TryFoldsItems steps g (gives {E = E}) (λ _ r. r ≡ None) s f 0 r u → r ≡ reading 0 bs
  folded {S} {steps} {s} {u} bs r y ran = by ran.1 ran.4.2 ran.6
    where
      by : (o : Option A) → steps ran.4.0 o u → MatchOption o (gives {E = E} r (Continue ran.3)) (λ x. (w : Option ℕ) × (h : F) × (e : E) × Called g ran.2 (ran.3, (x, tt)) w h × gives w (Break e) × (r ≡ None)) → r ≡ reading 0 bs
      by None st m =
          let end = YieldsList-end y ran.0 ran.4.0 ran.4.1 None u refl st in
          let all = turns ran.0 0 ran.3 f ran.2 [] refl (omega arith) ran.5 in
          m ∙ sym (cond-true _ _ _ (le-leb ran.3 65535 all.1)) ∙ sym all.2 ∙ ap (reading 0) (append-nil (map v ran.0) ∙ end.0)
      by (Some x) st m =
          let n = length ran.0 in
          let turn = YieldsList-turn y ran.0 ran.4.0 ran.4.1 (Some x) u x refl st in
          let later = drop (n + 1) bs in
          let front = YieldsList-so_far y ran.0 ran.4.0 ran.4.1 in
          let all : map v ran.0 ++ (v x ∷ later) ≡ bs = ap (λ l. l ++ (v x ∷ later)) front ∙ ap (λ b. take n bs ++ (b ∷ later)) turn.1 ∙ ap (λ l. take n bs ++ l) (sym (drop_more bs n (v x) turn.0)) ∙ take-append-drop n bs in
          let till = turns ran.0 0 ran.3 f ran.2 (v x ∷ later) refl (omega arith) ran.5 in
          let call = calls ran.3 x m.0 m.1 (let P : F → Type 0 = λ z. Called g z (ran.3, (x, tt)) m.0 m.1 in subst P till.0 m.3) in
          let none : step_of ran.3 (v x) ≡ None = sym call.1 ∙ m.4 in
          m.5 ∙ sym (ap (reading 0) (sym all) ∙ till.2 ∙ reading_more ran.3 (v x) later ∙ ap (λ o. go_on o (λ k. reading k later)) none)

-- what is left of a number once its front is seen to be fit
pub fit_reading : (bs : List ℕ) → unfit bs ≡ false → number_of bs ≡ reading 0 bs
fit_reading bs e = ap (λ t. cond ((not t && digits bs) && leb (value 0 bs) 65535) (Some (value 0 bs)) None) e
