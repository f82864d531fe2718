-- Which reply it is, from what the verdict finds; and what it means.
use Rattle.std.proofs.Common.{◌≡◌, ℕ, List, length, sym, refl, arith}
use Rattle.plans.specs.Plans.{Window, Pair, KeepsMosts, Plan}
use Rattle.plans.specs.Runs.{held, room, Roomy, Named}
use Rattle.plans.specs.Sets.{meeting, needed, ShowsShortage}
use Rattle.plans.specs.Needs.{Within}
use Rattle.plans.specs.Replies.{Reply, Reply.accepted, Reply.overfull, Reply.short, reply, Means}
use Rattle.plans.proofs.Exists.{mosts_kept_when}
use Rattle.plans.proofs.Excludes.{shortage_excludes}
use Rattle.plans.proofs.Runs.{run_named}
use Rattle.plans.proofs.Replies.{run_found, reply_means}
use Rattle.narrowing.specs.Verdict.{told, VerdictMeans}

module _ (k : ℕ) (pairs : List Pair) (ws : List Window) (marks : List ℕ) (W : Within k (length pairs) ws) where
  pub reply_accepted : ((ts : List ℕ) × Plan k pairs ws ts) → reply k pairs ws marks ≡ accepted
  reply_accepted P = sym ((reply_means k pairs ws marks W accepted).1 P)

  pub reply_overfull : (run : Window) → Named k pairs ws run → reply k pairs ws marks ≡ overfull run (held ws run) (room k pairs run)
  reply_overfull run N =
      let none = (run_found k pairs ws W).1 (run, ((run_named k pairs ws).0 run).1 N) in
      sym ((reply_means k pairs ws marks W (overfull run (held ws run) (room k pairs run))).1 (none, N, refl, refl))

  pub reply_short : Roomy k pairs ws → ShowsShortage k pairs ws marks → reply k pairs ws marks ≡ short (meeting k marks ws) (needed k marks pairs)
  reply_short R S =
      let some = (mosts_kept_when k pairs ws W).1 R in
      sym ((reply_means k pairs ws marks W (short (meeting k marks ws) (needed k marks pairs))).1 (some, (λ ts P. shortage_excludes k pairs ws marks ts S P), refl, refl))

  keeps : (ts : List ℕ) → Plan k pairs ws ts → KeepsMosts k pairs ws ts
  keeps ts P = record { assigned = P.assigned; at_most = P.at_most }

  meant : (r : Reply) → Means k pairs ws marks r → VerdictMeans k pairs ws (told r)
  meant accepted m = record {
    accepts = ((λ e. m), (λ P. refl));
    says_20 = ((λ e. absurd (omega arith)), (λ none. absurd (none m.0 (keeps m.0 m.1))));
    says_21 = ((λ e. absurd (omega arith)), (λ s. absurd (s.1 m.0 m.1)));
  }
  meant (overfull run windows mosts) m = record {
    accepts = ((λ e. absurd (omega arith)), (λ P. absurd (m.0 P.0 (keeps P.0 P.1))));
    says_20 = ((λ e. m.0), (λ none. refl));
    says_21 = ((λ e. absurd (omega arith)), (λ s. absurd (m.0 s.0.0 s.0.1)));
  }
  meant (short windows fewests) m = record {
    accepts = ((λ e. absurd (omega arith)), (λ P. absurd (m.1 P.0 P.1)));
    says_20 = ((λ e. absurd (omega arith)), (λ none. absurd (none m.0.0 m.0.1)));
    says_21 = ((λ e. (m.0, m.1)), (λ s. refl));
  }

  pub told_means : VerdictMeans k pairs ws (told (reply k pairs ws marks))
  told_means = meant (reply k pairs ws marks) ((reply_means k pairs ws marks W (reply k pairs ws marks)).0 refl)
