-- The definitions at work on small cases. The first day is day 0.
use Rattle.std.specs.Prelude.{◌≡◌, ℕ, zero, suc, false, List, [], ◌∷◌, filter, nat_lt}
use Rattle.plans.specs.Plans.{Window, Pair, fronts}
use Rattle.plans.specs.Sets.{run_marks, meeting, needed}
use Rattle.plans.specs.Replies.{Reply.accepted, Reply.overfull, Reply.short, reply}
use Rattle.plans.specs.Narrowing.{narrowed, supported}

-- Every list of d marks.
abbrev pub every_set : ℕ → List (List ℕ)
every_set zero = [] ∷ []
every_set (suc d) = fronts (0 ∷ 1 ∷ []) (every_set d)

-- The sets of the first d days that show a shortage.
abbrev pub showing : ℕ → List Pair → List Window → List (List ℕ)
showing d pairs ws = filter (λ marks. nat_lt (meeting 0 marks ws) (needed 0 marks pairs)) (every_set d)

-- Days 0 and 2 need one each, and all windows but one have day 1 alone.
abbrev pub around : List Window
around = (0, 2) ∷ (1, 1) ∷ (1, 1) ∷ []

abbrev pub ends_needed : List Pair
ends_needed = (1, 3) ∷ (0, 3) ∷ (1, 3) ∷ []

-- One window over three days, of which the middle one takes none.
abbrev pub gap : List Pair
gap = (0, 1) ∷ (0, 0) ∷ (0, 1) ∷ []

-- Each line has the pairs, the windows and, for a reply, the marks.
pub record WorkedCases : Type 0 where
  pub nothing_asked : reply 0 ((0, 0) ∷ []) [] [] ≡ accepted
  pub nobody_there : reply 0 ((1, 1) ∷ []) [] (1 ∷ []) ≡ short 0 1
  pub three_on_two : reply 0 ((0, 1) ∷ (0, 1) ∷ []) ((0, 0) ∷ (0, 1) ∷ (0, 1) ∷ []) [] ≡ overfull (0, 1) 3 2
  pub three_on_two_marks : run_marks 0 2 (0, 1) ≡ 1 ∷ 1 ∷ []
  pub pushed_on : narrowed 0 ((0, 1) ∷ (0, 1) ∷ (0, 1) ∷ []) ((0, 0) ∷ (0, 1) ∷ (0, 2) ∷ []) ≡ (0, 0) ∷ (1, 1) ∷ (2, 2) ∷ []
  pub both_ends : reply 0 ends_needed around (1 ∷ 0 ∷ 1 ∷ []) ≡ short 1 2
  pub both_ends_only : showing 3 ends_needed around ≡ (1 ∷ 0 ∷ 1 ∷ []) ∷ []
  pub drawn_on : narrowed 0 ((0, 2) ∷ (2, 2) ∷ []) ((0, 1) ∷ (0, 1) ∷ []) ≡ (1, 1) ∷ (1, 1) ∷ []
  pub gap_stays : narrowed 0 gap ((0, 2) ∷ []) ≡ (0, 2) ∷ []
  pub gap_unsupported : supported 0 gap ((0, 2) ∷ []) 0 1 ≡ false
  pub overfull_first : reply 0 ((0, 1) ∷ (1, 1) ∷ []) ((0, 0) ∷ (0, 0) ∷ []) [] ≡ overfull (0, 0) 2 1
  pub five_settled : narrowed 0 ((1, 2) ∷ (0, 2) ∷ (1, 2) ∷ (2, 2) ∷ []) ((0, 1) ∷ (0, 3) ∷ (2, 3) ∷ (1, 2) ∷ (1, 1) ∷ [])
      ≡ (0, 0) ∷ (3, 3) ∷ (3, 3) ∷ (2, 2) ∷ (1, 1) ∷ []
