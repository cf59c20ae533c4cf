use Rattle.std.proofs.Common.{Bool, ℕ, map, append-nil, [], ◌∷◌, ◌++◌, ap, sym, ◌∙◌, refl, append_assoc}
use Rattle.mvo_txn.specs.Txns.{state_of}
use Rattle.mvo_chain.specs.Slots.{version_at}
use Rattle.mvo_hash.specs.Lists.{number, numbers_of}
use Rattle.mvo_validate.specs.Entries.{key_at}
use Rattle.mvo_core.specs.Scanning.{is_met_by}
use Rattle.mvo_versions.proofs.Walked.{met, still_none, none_met}
use Rattle.mvo_core.proofs.scanning.is_met.Goals as goal

pub loop-number-init : goal.loop-number-init
loop-number-init c = (refl, sym (c.into_iter-number-iterator.ensures.into_iter_gives ∙ c.walk-number-items.ensures ∙ ap (λ k. map number (numbers_of c.args.versions.now.lists k)) c.row_key.ensures))

pub returns-then-meets : goal.returns-then-meets
returns-then-meets c =
    let p : ℕ → Bool = λ n. is_met_by (state_of c.args.table.now) c.args.start.0 c.args.tx.0 c.args.place.sort (version_at c.args.versions.now.slots (number n)) in
    sym (met p (numbers_of c.args.versions.now.lists (key_at c.args.place)) c.loop-number.yielded c.in-Some.number c.next.new.self (c.loop-number.invariant.1 ∙ ap (λ it. c.loop-number.yielded ++ it) c.in-Some.ensures.steps) (sym c.meets.ensures ∙ c.if-meets.true))

pub loop-number-preserved : goal.loop-number-preserved
loop-number-preserved c =
    let p : ℕ → Bool = λ n. is_met_by (state_of c.args.table.now) c.args.start.0 c.args.tx.0 c.args.place.sort (version_at c.args.versions.now.slots (number n)) in (
      still_none p c.loop-number.yielded c.in-Some.number c.loop-number.invariant.0 (sym c.meets.ensures ∙ c.if-meets.false),
      c.loop-number.invariant.1 ∙ ap (λ it. c.loop-number.yielded ++ it) c.in-Some.ensures.steps ∙ sym (append_assoc c.loop-number.yielded (c.in-Some.number ∷ []) c.next.new.self),
    )

pub returns : goal.returns
returns c =
    let p : ℕ → Bool = λ n. is_met_by (state_of c.args.table.now) c.args.start.0 c.args.tx.0 c.args.place.sort (version_at c.args.versions.now.slots (number n)) in
    sym (none_met p (numbers_of c.args.versions.now.lists (key_at c.args.place)) c.loop-number.yielded (c.loop-number.invariant.1 ∙ ap (λ it. c.loop-number.yielded ++ it) c.in-None.ensures.steps.0 ∙ append-nil c.loop-number.yielded) c.loop-number.invariant.0)
