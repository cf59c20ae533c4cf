-- The version that the rules show is the one that a transaction may end, and its End tells the cause.
use Rattle.std.proofs.Common.{◌≡◌, ℕ, Bool, true, false, cond, not, List, [], ◌∷◌, ◌++◌, Option, None, Some, refl, sym, ap, ◌∙◌, subst}
use Rattle.std.specs.Prelude.{is_some}
use Rattle.std.specs.List.{list_any}
use Rattle.std.specs.Option.{option_map, option_or}
use Rattle.std.proofs.lemmas.Bool.{true≢false, and_parts, not-true}
use Rattle.std.proofs.lemmas.Map.Views.{tells_apart}
use Rattle.mvo_types.specs.declared.row.RowKey.{RowKey}
use Rattle.mvo_types.specs.Keys.{Map}
use Rattle.mvo_types.proofs.Maps.{exact_keys}
use Rattle.mvo_types.specs.Write.{Effect}
use Rattle.mvo_types.specs.Write.Effect.{Put, Delete as Gone}
use Rattle.mvo_model.specs.History.{net_write}
use Rattle.mvo_theory.specs.State.{State, ActiveTx, active_of, history_of_active}
use Rattle.mvo_theory.specs.Causes.{conflict}
use Rattle.mvo_shared.specs.Standing.{IsStanding}
use Rattle.mvo_theory.proofs.Cases.{found_is}
use Rattle.mvo_theory.proofs.Who.{active_holds}
use Rattle.mvo_word.specs.declared.held.Held.{Held}
use Rattle.mvo_chain.specs.declared.version.Version.{Version}
use Rattle.mvo_chain.specs.declared.version.VersionNo.{VersionNo}
use Rattle.mvo_chain.specs.Slots.{Slots, version_at}
use Rattle.mvo_hash.specs.Lists.{Lists}
use Rattle.mvo_visible.specs.Words.{States, names}
use Rattle.mvo_visible.specs.Causes as rule
use Rattle.mvo_visible.specs.Versions.{NumberedVersion, versions_at, is_own, own_newest}
use Rattle.mvo_visible.specs.Changes.{changes_of, greatest_below, done_with, deciding}
use Rattle.mvo_visible.specs.Shown.{shown_by, own_or, shown_to}
use Rattle.mvo_representation.specs.Words.{ends_of, stamp_in, has_stamp, net_effect, as_net_effect, change_below, IsShownAt}
use Rattle.mvo_representation.specs.Versions.{Say, AreVersionsOf}
use Rattle.mvo_representation.specs.Indexes.{all_versions, HasNumbers}
use Rattle.mvo_representation.specs.Steps.{MayEnd}
use Rattle.mvo_representation.specs.Steps.MayEnd.{Own, Other}
use Rattle.mvo_representation.specs.Table.{phases_of, IsShownAs, IsShown}
use Rattle.mvo_representation.specs.Table.IsShownAs.{AsOwn, AsOthers}
use Rattle.mvo_representation.specs.Words.NetEffect.{Untouched}
use Rattle.mvo_representation.proofs.Conflict.{end_has_effect}
use Rattle.mvo_representation.proofs.Seen.{cause_same}
use Rattle.mvo_representation.proofs.Calls.{conflict_right}
use Rattle.mvo_representation.proofs.Slots.{slot_emptied}
use Rattle.mvo_representation.proofs.Decided.{is_put_by, first_put, number_of, version_first, AreOfKey, unnumbered, is_change, change_any, last_of_versions}
use Rattle.mvo_representation.proofs.ShownTo.{AreThere, of_key, there, keyed, below_keyed, own_newest_first}
use Rattle.mvo_representation.proofs.DependsOn.{stamp_some}

-- ---- the first that is put
-- the version with this number stands there, is of the key, and is put by words that pass
record IsFirst (slots : Slots) (k : RowKey) (n : Held → Bool) (number : VersionNo) : Type 0 where
  pub version : Version
  pub at : version_at slots number ≡ Some version
  pub key : version.row.key ≡ k
  pub put : n version.begin ≡ true
  pub kept : n version.end ≡ false

none_number : (n : VersionNo) → ◌≡◌ {A = Option VersionNo} None (Some n) → ⊥
none_number n q = cc

some_number : (m n : VersionNo) → ◌≡◌ {A = Option VersionNo} (Some m) (Some n) → m ≡ n
some_number m n q = cc

is_first : (slots : Slots) (k : RowKey) (n : Held → Bool) (number : VersionNo) (vs : List NumberedVersion) → AreOfKey k vs → AreThere slots vs → number_of (first_put n vs) ≡ Some number → IsFirst slots k n number
is_first slots k n number [] of th e = absurd (none_number number e)
is_first slots k n number (v ∷ vs) of th e = go (is_put_by n v) refl e (λ r. is_first slots k n number vs of.1 th.1 r)
  where
    go : (b : Bool) → is_put_by n v ≡ b → number_of (option_or (cond b (Some v) None) (first_put n vs)) ≡ Some number → (number_of (first_put n vs) ≡ Some number → IsFirst slots k n number) → IsFirst slots k n number
    go true p q again =
        let w = and_parts (n v.1.begin) (not (n v.1.end)) p in
        record {
          version = v.1;
          at = ap (version_at slots) (sym (some_number v.0 number q)) ∙ th.0;
          key = sym (tells_apart exact_keys k v.1.row.key of.0);
          put = w.0;
          kept = not-true (n v.1.end) w.1;
        }
    go false p q again = again q

-- ---- the version that is shown
some_write : (w : Option Effect) → is_change (as_net_effect w) ≡ is_some w
some_write None = refl
some_write (Some Gone) = refl
some_write (Some (Put g)) = refl

no_write : (w : Option Effect) → is_some w ≡ false → w ≡ None
no_write None e = refl
no_write (Some x) e = absurd (true≢false e)

-- whether it wrote the key
pub own_is : (s : State) (states : States) (slots : Slots) (lists : Lists) (t : ℕ) (r : ActiveTx) (k : RowKey) → AreVersionsOf s (phases_of states) (all_versions slots) → HasNumbers slots lists → active_of t s.active ≡ Some r → list_any (is_own t) (versions_at slots lists k) ≡ is_some (net_write k r.history)
own_is s states slots lists t r k h ns f =
    sym (change_any (names t) k (versions_at slots lists k) (of_key slots lists k ns))
    ∙ ap is_change (sym (keyed slots lists k ns (names t)))
    ∙ (let w = active_holds (λ q. Say (names q.id) q.history q.footprint (all_versions slots)) t s.active r f h.active in subst (λ (n : ℕ). is_change (net_effect (names n) k (all_versions slots)) ≡ is_some (net_write k r.history)) w.1 (ap is_change (w.0.writes k) ∙ some_write (net_write k r.history)))

pub shown_as : (s : State) (states : States) (slots : Slots) (lists : Lists) (t : ℕ) (r : ActiveTx) (k : RowKey) (number : VersionNo) → AreVersionsOf s (phases_of states) (all_versions slots) → HasNumbers slots lists → active_of t s.active ≡ Some r → (shown_to states t t (versions_at slots lists k)).version ≡ Some number → IsShown s states slots t k number
shown_as s states slots lists t r k number h ns f e = go (list_any (is_own t) (versions_at slots lists k)) refl
  where
    by_others : net_write k r.history ≡ None → (w : Option ℕ) → greatest_below t (changes_of states (versions_at slots lists k)) ≡ w → (shown_by (option_map (done_with (changes_of states (versions_at slots lists k))) w)).version ≡ Some number → IsShown s states slots t k number
    by_others n None g q = absurd (none_number number q)
    by_others n (Some m) g q =
        let w = is_first slots k (has_stamp (ends_of (phases_of states)) m) number (versions_at slots lists k) (of_key slots lists k ns) (there slots lists k) (sym (version_first states m (versions_at slots lists k)) ∙ q) in
        record {
          version = w.version;
          at = w.at;
          key = w.key;
          as' = AsOthers m
              (ap (λ j. net_write j (history_of_active t s.active)) w.key ∙ ap (net_write k) (found_is t s.active r f).1 ∙ n)
              (record {
                key = refl;
                put = stamp_some m (stamp_in (ends_of (phases_of states)) w.version.begin) w.put;
                stays = w.kept;
                last = (
                  net_effect (has_stamp (ends_of (phases_of states)) m) k (unnumbered (versions_at slots lists k)),
                  ap (λ j. change_below (ends_of (phases_of states)) t j (all_versions slots)) w.key
                      ∙ below_keyed states slots lists k t ns
                      ∙ last_of_versions states t k (versions_at slots lists k) (of_key slots lists k ns)
                      ∙ ap (option_map (λ i. (i, net_effect (has_stamp (ends_of (phases_of states)) i) k (unnumbered (versions_at slots lists k))))) g,
                );
              });
        }

    go : (b : Bool) → list_any (is_own t) (versions_at slots lists k) ≡ b → IsShown s states slots t k number
    go true o =
        let w = is_first slots k (names t) number (versions_at slots lists k) (of_key slots lists k ns) (there slots lists k)
        (sym (own_newest_first t (versions_at slots lists k)) ∙ sym (ap (λ b. (own_or b (own_newest t (versions_at slots lists k)) (deciding t (changes_of states (versions_at slots lists k)))).version) o) ∙ e) in
        record { version = w.version; at = w.at; key = w.key; as' = AsOwn (record { mine = w.put; kept = w.kept }) }
    go false o = by_others (no_write (net_write k r.history) (sym (own_is s states slots lists t r k h ns f) ∙ o)) (greatest_below t (changes_of states (versions_at slots lists k))) refl
        (sym (ap (λ b. (own_or b (own_newest t (versions_at slots lists k)) (deciding t (changes_of states (versions_at slots lists k)))).version) o) ∙ e)

-- ---- another's version that is shown: its End tells the cause of the state
not_named : (s : State) (states : States) (xs ys : List Version) (v : Version) (t : ℕ) (r : ActiveTx) → AreVersionsOf s (phases_of states) (xs ++ v ∷ ys) → active_of t s.active ≡ Some r → net_write v.row.key r.history ≡ None → names t v.end ≡ false
not_named s states xs ys v t r h f n = go (names t v.end) refl
  where
    nothing : net_effect (names t) v.row.key (xs ++ v ∷ ys) ≡ Untouched
    nothing = let w = active_holds (λ q. Say (names q.id) q.history q.footprint (xs ++ v ∷ ys)) t s.active r f h.active in subst (λ (m : ℕ). net_effect (names m) v.row.key (xs ++ v ∷ ys) ≡ Untouched) w.1 (w.0.writes v.row.key ∙ ap as_net_effect n)

    go : (b : Bool) → names t v.end ≡ b → names t v.end ≡ false
    go true e = absurd (end_has_effect (names t) xs v ys e nothing)
    go false e = e

pub cause_is : (opening : Map) (s : State) (states : States) (slots : Slots) (number : VersionNo) (v : Version) (t : ℕ) (r : ActiveTx) (stamp : ℕ) → IsStanding opening s → AreVersionsOf s (phases_of states) (all_versions slots) → active_of t s.active ≡ Some r → version_at slots number ≡ Some v → net_write v.row.key (history_of_active t s.active) ≡ None → IsShownAt (ends_of (phases_of states)) t v.row.key (all_versions slots) v stamp → conflict s t v.row.key ≡ rule.cause_of states t v.end
cause_is opening s states slots number v t r stamp kept h f at n x =
    let m = slot_emptied slots number.0 v at in
    let n' : net_write v.row.key r.history ≡ None = ap (net_write v.row.key) (sym (found_is t s.active r f).1) ∙ n in
    let h' = subst (AreVersionsOf s (phases_of states)) (sym m.with') h in
    conflict_right opening s (phases_of states) m.before v m.after t r stamp kept h' f n' (subst (λ vs. IsShownAt (ends_of (phases_of states)) t v.row.key vs v stamp) (sym m.with') x)
    ∙ sym (cause_same states t v.end (not_named s states m.before m.after v t r h' f n'))

-- where it tells none, the version may be ended
pub may_end : (opening : Map) (s : State) (states : States) (slots : Slots) (t : ℕ) (r : ActiveTx) (k : RowKey) (number : VersionNo) → IsStanding opening s → AreVersionsOf s (phases_of states) (all_versions slots) → active_of t s.active ≡ Some r → (w : IsShown s states slots t k number) → rule.cause_of states t w.version.end ≡ None → MayEnd s (phases_of states) t (all_versions slots) w.version
may_end opening s states slots t r k number kept h f w none = go w.as'
  where
    go : IsShownAs s states t (all_versions slots) w.version → MayEnd s (phases_of states) t (all_versions slots) w.version
    go (AsOwn o) = Own o
    go (AsOthers stamp n x) =
        let m = slot_emptied slots number.0 w.version w.at in
        let n' : net_write w.version.row.key r.history ≡ None = ap (net_write w.version.row.key) (sym (found_is t s.active r f).1) ∙ n in
        Other (record {
          unwritten = n;
          stamp = stamp;
          shown = x;
          free = sym (cause_same states t w.version.end (not_named s states m.before m.after w.version t r (subst (AreVersionsOf s (phases_of states)) (sym m.with') h) f n')) ∙ none;
        })
