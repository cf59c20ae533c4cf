-- The version that is shown, and who stands in the way of ending it.
use Rattle.std.proofs.Common.{◌≡◌, Bool, true, false, cond, not, ◌&&◌, List, ◌∷◌, ◌++◌, Option, None, Some, refl, sym, ap, ◌∙◌, subst, ◌⊎◌, inl, inr}
use Rattle.std.specs.Prelude.{is_some}
use Rattle.std.specs.List.{AllByRecursion}
use Rattle.std.specs.FinMap as fin
use Rattle.std.specs.Option.{option_map}
use Rattle.std.proofs.lemmas.Bool.{true≢false, false≢true}
use Rattle.std.proofs.lemmas.Cmp.{eq_by_cmp_equiv}
use Rattle.mvo_types.proofs.Maps.{keys_total}
use Rattle.mvo_types.specs.declared.row.RowKey.{RowKey}
use Rattle.mvo_types.specs.declared.cause.Cause.{Cause}
use Rattle.mvo_types.specs.RowData.{ContentData, content_of}
use Rattle.mvo_types.specs.Keys.{Map}
use Rattle.mvo_types.specs.Write.{Effect}
use Rattle.mvo_model.specs.History.{net_write}
use Rattle.mvo_model.specs.Trace.{Step}
use Rattle.mvo_theory.specs.State.{State, ActiveTx, active_of, history_of_active, snapshot}
use Rattle.mvo_theory.specs.Causes.{conflict, claimed_by}
use Rattle.mvo_theory.proofs.Cases.{found_is}
use Rattle.mvo_theory.proofs.Each.{each_back}
use Rattle.mvo_theory.proofs.Who.{active_holds}
use Rattle.mvo_word.specs.declared.held.Held.{Held}
use Rattle.mvo_word.specs.declared.held.Held.TheVariants.{Infinity}
use Rattle.mvo_txn.specs.declared.state.TxState.TheVariants.{Active}
use Rattle.mvo_txn.specs.Txns.{state_of}
use Rattle.mvo_chain.specs.declared.version.Version.{Version}
use Rattle.mvo_chain.specs.declared.version.VersionNo.{VersionNo}
use Rattle.mvo_visible.specs.Words.{names}
use Rattle.mvo_visible.specs.Causes.{cause_of}
use Rattle.mvo_visible.specs.Versions.{versions_at}
use Rattle.mvo_visible.specs.Shown.{AreVersionsInOrder, shown_to}
use Rattle.mvo_representation.specs.Words.{NetEffect, with_effect, effect_by, as_net_effect, net_effect}
use Rattle.mvo_representation.specs.Words.NetEffect.{Untouched, Removed, Puts, Clash}
use Rattle.mvo_representation.specs.Versions.{Say, IsInside}
use Rattle.mvo_representation.specs.Indexes.{all_versions}
use Rattle.mvo_representation.specs.Steps.{MayEnd, IsOwnNewest}
use Rattle.mvo_representation.specs.Table.{phases_of, content_shown, IsShown, IsShownAs}
use Rattle.mvo_representation.specs.Table.IsShownAs.{AsOwn, AsOthers}
use Rattle.mvo_representation.proofs.Effects.{net_effect-at}
use Rattle.mvo_representation.proofs.OrderFalls.{order_falls, order_has_own_in_front}
use Rattle.mvo_representation.proofs.Proved.{shows_snapshot, shown_is_there, free_may_be_ended, tells_cause}
use Rattle.mvo_representation.proofs.Slots.{slot_emptied}
use Rattle.mvo_core.specs.Readers.{Readers}
use Rattle.mvo_core.specs.Data.{CoreData}
use Rattle.mvo_core.specs.Standing.{StandsAmong}
use Rattle.mvo_core.specs.Looking.{cause_for, cause_at}

-- ---- who put a version and hasn't ended it has written its key
puts_some : (g : ContentData) (d : NetEffect) → with_effect (Puts g) d ≡ Untouched → ⊥
puts_some g Untouched q = cc
puts_some g Removed q = cc
puts_some g (Puts h) q = cc
puts_some g Clash q = cc

put_has_effect : (n : Held → Bool) (xs : List Version) (v : Version) (ys : List Version) → n v.begin ≡ true → n v.end ≡ false → net_effect n v.row.key (xs ++ v ∷ ys) ≡ Untouched → ⊥
put_has_effect n xs v ys b e q = puts_some (content_of v.row) (net_effect n v.row.key (xs ++ ys))
    (ap (λ x. with_effect (effect_by x false (content_of v.row)) (net_effect n v.row.key (xs ++ ys))) (sym b)
    ∙ ap (λ x. with_effect (effect_by (n v.begin) x (content_of v.row)) (net_effect n v.row.key (xs ++ ys))) (sym e)
    ∙ ap (λ x. with_effect (cond x (effect_by (n v.begin) (n v.end) (content_of v.row)) Untouched) (net_effect n v.row.key (xs ++ ys))) (sym ((eq_by_cmp_equiv keys_total).refl v.row.key))
    ∙ sym (net_effect-at n v.row.key xs v ys) ∙ q)

written_some : (w : Option Effect) → (w ≡ None → ⊥) → is_some w ≡ true
written_some None n = absurd (n refl)
written_some (Some x) n = refl

no_conflict : (b : Bool) (w : Bool) (o : Option Cause) → w ≡ true → cond (b && not w) o None ≡ None
no_conflict true true o e = refl
no_conflict false true o e = refl
no_conflict b false o e = absurd (false≢true e)

none_there : (w : Bool) (o : Option Cause) → None ≡ cond (false && not w) o None
none_there w o = refl

module _ (rs : Readers) (opening : Map) (steps : List Step) (s : State) (c : CoreData) (h : StandsAmong rs opening steps s c) (r : ActiveTx) (f : active_of r.id s.active ≡ Some r) where
  -- a walk over the versions of the key shows what the rules say
  pub in_order : (k : RowKey) → state_of c.table r.id ≡ Some Active → AreVersionsInOrder (state_of c.table) r.id r.id (versions_at c.versions.slots c.versions.lists k)
  in_order k active = record {
    falling = order_falls opening s (state_of c.table) c.versions.slots c.versions.lists c.versions.places h.versions h.order k;
    own = order_has_own_in_front s.start (state_of c.table) c.versions.slots c.versions.lists r.id active h.order k;
  }

  -- ---- what is shown of a key
  module _ (k : RowKey) where
    abbrev pub shown : Option VersionNo
    shown = (shown_to (state_of c.table) r.id r.id (versions_at c.versions.slots c.versions.lists k)).version

    pub snapshot_is : content_shown c.versions.slots shown ≡ fin.get (snapshot s r.id) k
    snapshot_is = shows_snapshot opening s (state_of c.table) c.versions.slots c.versions.lists c.versions.places r k h.versions f

    pub shown_there : (n : VersionNo) → shown ≡ Some n → IsShown s (state_of c.table) c.versions.slots r.id k n
    shown_there n e = shown_is_there opening s (state_of c.table) c.versions.slots c.versions.lists c.versions.places r k n h.versions f e

    pub row_there : (n : VersionNo) (e : shown ≡ Some n) → fin.get (snapshot s r.id) k ≡ Some (content_of (shown_there n e).version.row)
    row_there n e = sym snapshot_is ∙ ap (content_shown c.versions.slots) e ∙ ap (option_map (λ v. content_of v.row)) (shown_there n e).at

    pub nothing_there : shown ≡ None → fin.get (snapshot s r.id) k ≡ None
    nothing_there e = sym snapshot_is ∙ ap (content_shown c.versions.slots) e

    pub may_end : (n : VersionNo) (e : shown ≡ Some n) → cause_at (state_of c.table) c.versions.slots r.id (Some n) ≡ None
        → MayEnd s (phases_of (state_of c.table)) r.id (all_versions c.versions.slots) (shown_there n e).version
    may_end n e free = free_may_be_ended opening s (state_of c.table) c.versions.slots c.versions.lists c.versions.places r k n h.versions f (shown_there n e)
        (sym (ap (cause_for (state_of c.table) r.id) (shown_there n e).at) ∙ free)

    -- ---- its own newest one
    own_wrote : (n : VersionNo) (w : IsShown s (state_of c.table) c.versions.slots r.id k n) → IsOwnNewest r.id w.version → is_some (net_write k (history_of_active r.id s.active)) ≡ true
    own_wrote n w o =
        let m = slot_emptied c.versions.slots n.0 w.version w.at in
        let say = active_holds (λ q. Say (names q.id) q.history q.footprint (all_versions c.versions.slots)) r.id s.active r f h.versions.versions.active in
        written_some (net_write k (history_of_active r.id s.active)) (λ none. put_has_effect (names r.id) m.before w.version m.after o.mine o.kept
        (ap (net_effect (names r.id) w.version.row.key) m.with'
        ∙ say.0.writes w.version.row.key
        ∙ ap (λ j. as_net_effect (net_write j r.history)) w.key
        ∙ ap (λ ts. as_net_effect (net_write k ts)) (sym (found_is r.id s.active r f).1)
        ∙ ap as_net_effect none))

    own_free : (n : VersionNo) (w : IsShown s (state_of c.table) c.versions.slots r.id k n) → IsOwnNewest r.id w.version → cause_of (state_of c.table) r.id w.version.end ≡ None
    own_free n w o = go (inside.0 o.mine)
      where
        each : AllByRecursion (λ v. AllByRecursion (IsInside v) s.active) (w.version ∷ (slot_emptied c.versions.slots n.0 w.version w.at).after)
        each = let m = slot_emptied c.versions.slots n.0 w.version w.at in
            each_back (λ v. AllByRecursion (IsInside v) s.active) m.before (w.version ∷ m.after)
            (subst (AllByRecursion (λ v. AllByRecursion (IsInside v) s.active)) (sym m.with') h.versions.versions.inside)

        inside : IsInside w.version r × (r.id ≡ r.id)
        inside = active_holds (IsInside w.version) r.id s.active r f each.0

        go : (w.version.end ≡ Infinity) ⊎ (names r.id w.version.end ≡ true) → cause_of (state_of c.table) r.id w.version.end ≡ None
        go (inl e) = ap (cause_of (state_of c.table) r.id) e
        go (inr e) = absurd (true≢false (sym e ∙ o.kept))

    -- the End of what is shown tells the cause of the state
    pub in_the_way_is : cause_at (state_of c.table) c.versions.slots r.id shown ≡ conflict s r.id k
    in_the_way_is = go shown refl
      where
        by : (n : VersionNo) (w : IsShown s (state_of c.table) c.versions.slots r.id k n) → IsShownAs s (state_of c.table) r.id (all_versions c.versions.slots) w.version
            → cause_of (state_of c.table) r.id w.version.end ≡ conflict s r.id k
        by n w (AsOwn o) = own_free n w o ∙ sym (no_conflict (fin.contains_key (snapshot s r.id) k) (is_some (net_write k (history_of_active r.id s.active))) (claimed_by s r.id k) (own_wrote n w o))
        by n w (AsOthers stamp x is) = sym (tells_cause opening s (state_of c.table) c.versions.slots c.versions.lists c.versions.places r n w.version stamp h.versions f w.at x is) ∙ ap (conflict s r.id) w.key

        go : (o : Option VersionNo) → shown ≡ o → cause_at (state_of c.table) c.versions.slots r.id shown ≡ conflict s r.id k
        go None e =
            ap (cause_at (state_of c.table) c.versions.slots r.id) e
            ∙ none_there (is_some (net_write k (history_of_active r.id s.active))) (claimed_by s r.id k)
            ∙ ap (λ (o : Option ContentData). cond (is_some o && not (is_some (net_write k (history_of_active r.id s.active)))) (claimed_by s r.id k) None) (sym (nothing_there e))
        go (Some n) e =
            let w = shown_there n e in
            ap (cause_at (state_of c.table) c.versions.slots r.id) e ∙ ap (cause_for (state_of c.table) r.id) w.at ∙ by n w w.as'
