-- A group is closed beside read-only transactions: what the core stands for then.
use Rattle.std.proofs.Common.{ℕ, false, List, [], ◌++◌, append-nil, refl, sym, subst}
use Rattle.std.specs.Prelude.{Result, Ok, Err}
use Rattle.mvo_types.specs.declared.refusal.Refusal.{Refusal}
use Rattle.mvo_types.specs.Keys.{Map}
use Rattle.mvo_model.specs.Trace.{Step}
use Rattle.mvo_group.specs.Data.{GroupData}
use Rattle.mvo_theory.specs.Changes.{after_close}
use Rattle.mvo_theory.specs.Calls.Call.{Close}
use Rattle.mvo_theory.specs.Calls.Result.{Accepted, Refused}
use Rattle.mvo_tale.specs.Records.{fits}
use Rattle.mvo_readonly.specs.Whole.{WholeState}
use Rattle.mvo_core.specs.declared.answers.Closed.{Closed}
use Rattle.mvo_core.specs.Data.{CoreData}
use Rattle.mvo_core.specs.Standing.{StandsAmong}
use Rattle.mvo_core.specs.Closing.{HasClosedAmong}
use Rattle.mvo_core.specs.WholeClosing.{HasClosedWhole}
use Rattle.mvo_core.specs.WholeStanding.{readers_of, StandsWhole}
use Rattle.mvo_core.proofs.OthersLead.{others_lead}
use Rattle.rtrb.specs.declared.producer.Producer.{Producer}

module _ {A P : Type 0} (opening : Map) (steps own : List Step) (w : WholeState) (c : CoreData) (h : StandsWhole opening steps own w c) where
  pub closes_whole : (ring ring' : Producer GroupData A P) (result : Result Closed Refusal) (new : CoreData) → HasClosedAmong (readers_of w) opening own w.core ring result new ring' → HasClosedWhole opening steps own w ring result new ring'
  closes_whole ring ring' (Ok k) new l =
      let g = l.1.0 in
      let is = l.1.2 in (
        g,
        l.1.1,
        record {
          commits = is.commits;
          records = is.records;
          rules = is.rules;
          prev = is.prev;
          mark = is.mark;
          leads = others_lead opening steps own w (Close fits (record { prev = g.prev; mark = g.mark; commits = is.commits }) false) Accepted c new h refl tt (record {
            may = (l.0, is.next);
            stands = subst (λ (n : ℕ). StandsAmong (readers_of w) opening (own ++ []) (after_close w.core n) new) (sym is.mark)
                (subst (λ ys. StandsAmong (readers_of w) opening ys (after_close w.core k.mark.0) new) (sym (append-nil own)) is.stands);
          });
        },
      )
  closes_whole ring ring' (Err r) new l = (
    λ g. others_lead opening steps own w (Close fits g _) (Refused r) c new h refl tt (record {
      may = l.0.refused;
      stands = subst (λ ys. StandsAmong (readers_of w) opening ys w.core new) (sym (append-nil own)) l.0.stands;
    }),
    l.1,
  )
