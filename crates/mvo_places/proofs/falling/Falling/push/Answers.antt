use Rattle.std.proofs.Common.{◌≤◌, ◌++◌, ◌∷◌, [], Bool, cond, List, Result, Ok, Err, sym, subst, ◌∙◌, ap}
use Rattle.std.specs.Prelude.{IfOk, IsTrue, ◌↔◌}
use Rattle.std.specs.List.{IsDistinct}
use Rattle.std.specs.declared.alloc.AllocError.{AllocError}
use Rattle.mvo_types.specs.declared.row.RowKey.{RowKey}
use Rattle.mvo_types.specs.declared.limits.TheConstants.{MAX_TABLE}
use Rattle.mvo_places.specs.Fixed.{Numbers, AllLive, places_of_live}
use Rattle.mvo_places.specs.Falling.{IsBelowLast, PlaceList, keys}
use Rattle.mvo_places.proofs.Keys.{eq}
use Rattle.mvo_places.proofs.Falls.{falls_apart}
use Rattle.mvo_places.proofs.Over.{keys-live, places-pushed, live-pushed}
use Rattle.mvo_places.proofs.falling.Falling.push.Goals as goal

if_ok : {P Q : Bool → Type 0} (r : Result Bool AllocError) → ((b : Bool) → P b → Q b) → IfOk r P → IfOk r Q
if_ok (Ok b) to holds = to b holds
if_ok (Err e) to holds = holds

pub returns-clause-answer : goal.returns-clause-answer
returns-clause-answer c =
    subst (λ (ks : List RowKey). IfOk c.push.result (λ pushed. IsTrue pushed ↔ ((c.args.key.table ≤ MAX_TABLE) × IsBelowLast ks c.args.key)))
    (sym (keys-live c.self.inside.fixed c.self.invariant.0) ∙ ap (λ (es : PlaceList). keys es) c.self.view_is)
    c.push.ensures.answer

pub returns-clause-ok : goal.returns-clause-ok
returns-clause-ok c = if_ok c.push.result (λ b is.
    ap (λ (es : Numbers). places_of_live es) is
    ∙ places-pushed c.self.inside.fixed c.args.key c.args.place c.as_number.result c.as_number.ensures c.requires.number b
    ∙ ap (λ (es : PlaceList). cond b (es ++ (c.args.key, c.args.place) ∷ []) es) c.self.view_is) c.push.ensures.ok

live : (c : goal.After-push) → AllLive c.push.new.self
live c = live-pushed c.self.inside.fixed c.push.new.self c.args.key c.as_number.result c.push.result c.push.ensures.ok c.push.ensures.err c.self.invariant.0

pub returns-clause-apart : goal.returns-clause-apart
returns-clause-apart c =
    subst (λ (ks : List RowKey). IsDistinct eq ks) (sym (keys-live c.push.new.self (live c)))
    (falls_apart c.push.new.self c.push.ensures.falls)
