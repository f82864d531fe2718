use Rattle.std.proofs.Common.{◌≡◌, ℕ, ◌+◌, ◌<◌, ◌≤◌, ◌++◌, map, length, take, drop, ap, ◌∙◌, arith}
use Rattle.std.proofs.lemmas.List.{length-take-le}
use Rattle.plans.specs.Plans.{most}
use Rattle.plans.specs.Sets.{run_marks}
use Rattle.plans.proofs.Windows.{total_grows}
use Rattle.narrowing.proofs.Judged.{judged_overfull, judged_accepted, judged_short, front_ready}
use Rattle.narrowing.proofs.judging.judge.Goals as goal

pub overflow_sub-result : goal.overflow_sub-result
overflow_sub-result g c =
    let p : ℕ = c.in-Err-Room.begin in
    let b : ℕ = c.in-Err-Room.end in
    let X = rw c.in-Err-Room.field-0-is at c.in-Err-Room.ensures in
    let R = X.named.is_run in
    let le : p ≤ b = omega (arith, R.ordered) in
    let lt : b < length c.args.days.now.pairs.now = omega (arith, R.ends) in
    omega (arith, X.summed p (omega arith), X.summed (b + 1) (omega arith), total_grows (most c.args.days.now.pairs.now) p (b + 1) (omega arith))

pub mark_shortage-requires-clause-counted : goal.mark_shortage-requires-clause-counted
mark_shortage-requires-clause-counted g c =
    let X = rw c.in-Err-Windows.field-0-is at c.in-Err-Windows.ensures in
    (c.args.days.now.first, map g.R.Record.span c.args.records.now, X.counted)

pub count_meeting-requires : goal.count_meeting-requires
count_meeting-requires g c =
    let pairs = c.args.days.now.pairs.now in
    let ws = map g.R.Record.span c.args.records.now in
    let F = front_ready c.args.days.now.first (length pairs) ws c.mark_shortage.new.marks (drop (length pairs) c.args.marks.now) c.mark_shortage.ensures.marks c.args.days.now.few c.requires.proper.within in
    record {
      records_len_bound = c.requires.records_len_bound;
      marks_len_bound = F.0;
      marks = F.1;
      within = F.2;
    }

pub returns-in-Ok : goal.returns-in-Ok
returns-in-Ok g c =
    let ws = map g.R.Record.span c.args.records.now in
    let J = judged_accepted c.args.days.now.first c.args.days.now.pairs.now ws c.requires.proper.within c.in-Ok.ensures.plan c.args.marks.now in
    record { answer = J.0; marks = J.1; tables = λ _. c.in-Ok.ensures }

pub returns-in-Err-Room : goal.returns-in-Err-Room
returns-in-Err-Room g c =
    let k : ℕ = c.args.days.now.first in
    let pairs = c.args.days.now.pairs.now in
    let ws = map g.R.Record.span c.args.records.now in
    let marks = c.args.marks.now in
    let p : ℕ = c.in-Err-Room.begin in
    let b : ℕ = c.in-Err-Room.end in
    let X = rw c.in-Err-Room.field-0-is at c.in-Err-Room.ensures in
    let len : length (take (length pairs) marks) ≡ length pairs = length-take-le (length pairs) marks c.requires.pairs_in_bounds in
    let run : c.mark_run.new.marks ≡ run_marks k (length pairs) (k + p, k + b) = c.mark_run.ensures k ∙ ap (λ d. run_marks k d (k + p, k + b)) len in
    let J = judged_overfull k pairs ws c.weigh.new.self.held c.weigh.new.self.before p b X.counted X.summed
    X.named marks (c.mark_run.new.marks ++ drop (length pairs) marks) (ap (λ l. l ++ drop (length pairs) marks) run) in
    record { answer = J.0; marks = J.1; tables = λ e. cc }

pub returns-in-Err-Windows : goal.returns-in-Err-Windows
returns-in-Err-Windows g c =
    let k : ℕ = c.args.days.now.first in
    let pairs = c.args.days.now.pairs.now in
    let ws = map g.R.Record.span c.args.records.now in
    let X = rw c.in-Err-Windows.field-0-is at c.in-Err-Windows.ensures in
    let J = judged_short k pairs ws X.counted.within X.roomy c.mark_shortage.new.marks c.args.marks.now c.count_meeting.result c.sum_needed.result
    c.mark_shortage.ensures.marks (c.mark_shortage.ensures.shown k ws X.counted X.over) c.count_meeting.ensures (c.sum_needed.ensures k) in
    record { answer = J.0; marks = J.1; tables = λ e. cc }
