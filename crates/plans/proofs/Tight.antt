-- The days that a window can have in a plan: those that no tight run bars.
use Rattle.std.proofs.Common.{◌≡◌, ℕ, zero, suc, ◌+◌, ◌<◌, ◌≤◌, ◌⊎◌, List, length, inl, inr, arith, length-set}
use Rattle.std.proofs.lemmas.Bool.{cases_lt, cases_eq}
use Rattle.plans.specs.Plans.{Window, Pair, fewest, most, Plan}
use Rattle.plans.specs.Runs.{sum}
use Rattle.plans.specs.Needs.{forced, NeedLeft}
use Rattle.plans.specs.Narrowing.{window, entry, Possible}
use Rattle.plans.specs.Tight.{Ready, Tight, Free, DayPossible, ReadyFromPlan}
use Rattle.plans.proofs.Windows.{total_grows}
use Rattle.plans.proofs.Room.{Room, room_from_roomy, roomy_from_room}
use Rattle.plans.proofs.NeedLeft.{left_exists}
use Rattle.plans.proofs.NeedRight.{needs_meet, right_exists, no_more}
use Rattle.plans.proofs.Fitting.{fitting_plan, fitting_exists}
use Rattle.plans.proofs.Before.{before_run, taken, no_less, needs_room, needs_fit}
use Rattle.plans.proofs.Close.{close, within_at, close_within, assigned_close, assigned_open, splits_grow, stays_early, stays_late, stays_inside}

module _ (t₀ : ℕ) (pairs : List Pair) (ws : List Window) (M N : ℕ → ℕ) (Y : Ready t₀ pairs ws M N)
    (i : ℕ) (h : i < length ws) (t : ℕ) (k : (window ws i).0 ≤ t) (l : t ≤ (window ws i).1) where
  abbrev w : Window
  w = window ws i

  abbrev d : ℕ
  d = length pairs

  -- a run that is tight and has day t, but not the whole window, would have to hold one more
  no_split : (ts : List ℕ) → Plan t₀ pairs ws ts → entry ts i ≡ t → (p q : ℕ) → t₀ + p ≤ t → t < t₀ + q → q ≤ d → Tight t₀ pairs ws M N p q
      → (w.0 < t₀ + p) ⊎ (t₀ + q ≤ w.1) → ⊥
  no_split ts P e p q m n o (inl g) s =
      let F = fitting_plan t₀ pairs ws ts P in
      omega (
        arith,
        g,
        splits_grow t₀ ws i t h k l p q m n s,
        before_run t₀ (close ws i t) ts p q (assigned_close ws ts i t P.assigned e) (omega arith),
        taken t₀ d (fewest pairs) (most pairs) ws ts F p q (omega arith) o,
        total_grows (most pairs) p q (omega arith),
      )
  no_split ts P e p q m n o (inr g) s =
      let F = fitting_plan t₀ pairs ws ts P in
      omega (
        arith,
        g,
        splits_grow t₀ ws i t h k l p q m n s,
        before_run t₀ (close ws i t) ts p q (assigned_close ws ts i t P.assigned e) (omega arith),
        no_less t₀ d (fewest pairs) (most pairs) ws ts F M Y.left (suc p) p (omega arith) (omega arith),
        no_more t₀ d (fewest pairs) (most pairs) ws ts F N Y.right q o,
      )

  free : Possible t₀ pairs ws i t → Free t₀ pairs ws M N w t
  free r p q m n o g = (
    elim (cases_lt w.0 (t₀ + p)) [ inl s ↦ absurd (no_split r.0 r.1 r.2 p q m n o g (inl s)) | inr s ↦ s ],
    elim (cases_lt w.1 (t₀ + q)) [ inl s ↦ s | inr s ↦ absurd (no_split r.0 r.1 r.2 p q m n o g (inr s)) ],
  )

  module _ (F : Free t₀ pairs ws M N w t) where
    -- with the window closed to day t, a run holds what it held, or one more where it is not tight
    closed : (p q : ℕ) → p ≤ q → q ≤ d
        → (forced t₀ (close ws i t) p q ≡ forced t₀ ws p q)
        ⊎ ((forced t₀ (close ws i t) p q ≡ suc (forced t₀ ws p q)) × (t₀ + p ≤ t) × (t < t₀ + q) × (Tight t₀ pairs ws M N p q → ⊥))
    closed p q m n =
        elim (cases_lt t (t₀ + p)) [
          | inl o ↦ inl (stays_early t₀ ws i t h k l p q o)
          | inr o ↦ elim (cases_lt t (t₀ + q)) [
            | inr r ↦ inl (stays_late t₀ ws i t h k l p q r)
            | inl r ↦ elim (cases_lt w.0 (t₀ + p)) [
              | inl s ↦ inr (splits_grow t₀ ws i t h k l p q o r (inl s), o, r, λ g. let f = F p q o r n g in omega arith)
              | inr s ↦ elim (cases_lt w.1 (t₀ + q)) [
                | inl v ↦ inl (stays_inside t₀ ws i t h k l p q s v)
                | inr v ↦ inr (splits_grow t₀ ws i t h k l p q o r (inr v), o, r, λ g. let f = F p q o r n g in omega arith)
              ]
            ]
          ]
        ]

    closed_room : Room t₀ d (most pairs) (close ws i t)
    closed_room p q m n =
        let R = room_from_roomy t₀ pairs ws Y.proper.within Y.roomy in
        elim (closed p q m n) [
          | inl e ↦ omega (arith, e, R p q m n)
          | inr e ↦ elim (cases_eq (forced t₀ ws p q) (sum (most pairs) p q)) [
            | inl f ↦ absurd (e.3 (inl f))
            | inr f ↦ omega (arith, e.0, f, R p q m n)
          ]
        ]

    module _ (M' : ℕ → ℕ) (L : NeedLeft t₀ d (fewest pairs) (close ws i t) M') where
      -- up to day t the need from the left is no larger
      early : (n v : ℕ) → v < n → t₀ + v ≤ t → v ≤ d → M' v ≤ M v
      early zero v b m o = absurd (omega arith)
      early (suc n) zero b m o = omega (arith, L.start)
      early (suc n) (suc v) b m o =
          elim (L.attained v o) [
            | inl e ↦ omega (arith, e, early n v (omega arith) (omega arith) (omega arith), Y.left.by_day v o)
            | inr e ↦
                let p = e.0 in
                omega (arith, e.2, early n p (omega arith) (omega arith) (omega arith), stays_late t₀ ws i t h k l p (suc v) m, Y.left.by_run p (suc v) (omega arith) o)
          ]

      -- after it, with the need from the right it is no more than there is
      late : (n v : ℕ) → v < n → t < t₀ + v → v ≤ d → M' v + N v ≤ length ws
      late zero v b m o = absurd (omega arith)
      late (suc n) zero b m o =
          let s = within_at t₀ d ws i Y.proper.within h in absurd (omega arith)
      late (suc n) (suc v) b m o =
          let meet = needs_meet t₀ d (fewest pairs) ws M N Y.left Y.right in
          elim (L.attained v o) [
            | inl e ↦ elim (cases_lt t (t₀ + v)) [
              | inl r ↦ omega (arith, e, late n v (omega arith) r (omega arith), Y.right.by_day v o)
              | inr r ↦ omega (arith, e, early (suc v) v (omega arith) r (omega arith), Y.right.by_day v o, meet v (omega arith), Y.fits)
            ]
            | inr e ↦
                let p = e.0 in
                elim (cases_lt t (t₀ + p)) [
                  | inl r ↦ omega (arith, e.2, stays_early t₀ ws i t h k l p (suc v) r, late n p (omega arith) r (omega arith), Y.right.by_run p (suc v) (omega arith) o)
                  | inr r ↦ elim (closed p (suc v) (omega arith) o) [
                    | inl f ↦ omega (arith, e.2, f, early (suc p) p (omega arith) r (omega arith), Y.left.by_run p (suc v) (omega arith) o, meet (suc v) o, Y.fits)
                    | inr f ↦ elim (cases_eq (M p + forced t₀ ws p (suc v) + N (suc v)) (length ws)) [
                      | inl g ↦ absurd (f.3 (inr g))
                      | inr g ↦ omega (arith, e.2, f.0, g, early (suc p) p (omega arith) r (omega arith), Y.left.by_run p (suc v) (omega arith) o, meet (suc v) o, Y.fits)
                    ]
                  ]
                ]
          ]

    possible : Possible t₀ pairs ws i t
    possible =
        let b = within_at t₀ d ws i Y.proper.within h in
        let W = close_within t₀ d ws i t Y.proper.within (omega arith) (omega arith) in
        let m = left_exists t₀ d (fewest pairs) (close ws i t) W in
        let f : m.0 d ≤ length (close ws i t) =
        omega (arith, length-set ws i (t, t), late m.0 m.1 (suc d) d (omega arith) (omega arith) (omega arith), Y.right.end) in
        let P = fitting_exists t₀ d (fewest pairs) (most pairs) (close ws i t) m.0 W Y.proper.ordered m.1 closed_room f in
        let a = assigned_open ws P.0 i t h k l P.1.assigned in
        (P.0, record { assigned = a.0; at_most = P.1.at_most; at_least = P.1.at_least }, a.1)

pub day_possible : DayPossible
day_possible t₀ pairs ws M N Y i h t k l = (free t₀ pairs ws M N Y i h t k l, possible t₀ pairs ws M N Y i h t k l)

pub ready_from_plan : ReadyFromPlan
ready_from_plan t₀ pairs ws ts W P =
    let d = length pairs in
    let m = left_exists t₀ d (fewest pairs) ws W in
    let n = right_exists t₀ d (fewest pairs) ws W in
    let F = fitting_plan t₀ pairs ws ts P in (
      m.0,
      n.0,
      record {
        proper = record { within = W; ordered = λ v h. omega (arith, P.at_least v h, P.at_most v h) };
        left = m.1;
        right = n.1;
        roomy = roomy_from_room t₀ pairs ws (needs_room t₀ d (fewest pairs) (most pairs) ws ts F);
        fits = needs_fit t₀ d (fewest pairs) (most pairs) ws ts F m.0 m.1;
      },
    )
