-- What a walk has to find: the version that is shown, its own newest, and the place of one that a scan meets.
use Rattle.std.proofs.Common.{◌≡◌, ℕ, Bool, true, false, cond, List, [], ◌∷◌, ◌++◌, Option, None, Some, refl, sym, ap, ◌∙◌, subst, ◌⊎◌, inl, inr}
use Rattle.std.specs.Prelude.{◌==◌, ◌&&◌, nat_le, is_some}
use Rattle.std.specs.List.{list_any}
use Rattle.std.specs.Option.{option_map}
use Rattle.std.specs.Ordering.{eq_by_cmp}
use Rattle.std.specs.Cmp.{eq_by_cmp_equiv}
use Rattle.std.specs.FinMap as fin
use Rattle.std.proofs.lemmas.Bool.{true≢false, and_parts, eqb-true}
use Rattle.std.proofs.lemmas.Map.Views.{tells_apart}
use Rattle.mvo_types.proofs.Maps.{exact_keys}
use Rattle.mvo_types.specs.declared.row.RowKey.{RowKey}
use Rattle.mvo_types.specs.RowData.{ContentData, content_of}
use Rattle.mvo_types.specs.Keys.{Map, key_cmp}
use Rattle.mvo_model.specs.History.{net_write}
use Rattle.mvo_theory.specs.Ranges.{shows, is_row_of}
use Rattle.mvo_types.specs.declared.entry.Entry.TheVariants.{Range}
use Rattle.mvo_theory.specs.State.{State, ActiveTx, seen_by, active_of}
use Rattle.mvo_theory.specs.Claims.{origin}
use Rattle.mvo_theory.specs.Sound.{IsNumbered}
use Rattle.mvo_shared.specs.Standing.{IsStanding}
use Rattle.mvo_word.specs.declared.held.Held.{Held}
use Rattle.mvo_chain.specs.declared.version.Version.{Version}
use Rattle.mvo_range.specs.declared.sort_place.SortPlace.{SortPlace}
use Rattle.mvo_range.specs.Place.{PlaceNumbers as Places}
use Rattle.mvo_range.proofs.Places.{places_total}
use Rattle.mvo_representation.specs.Steps.{IsOwnNewest}
use Rattle.mvo_representation.specs.Words.{Phases, Ends, ends_of, stamp_in, has_stamp, NetEffect, with_effect, effect_by, effect_of, net_effect, as_net_effect, change_below, standing, IsShownAt, is_below, is_up_to, meets, is_met, content_put}
use Rattle.mvo_visible.specs.Words.{names}
use Rattle.mvo_representation.specs.Words.NetEffect.{Untouched, Removed, Puts, Clash}
use Rattle.mvo_representation.specs.Versions.{AreVersionsOf}
use Rattle.mvo_representation.specs.Indexes.{version_place, is_at_place, HasPlaces}
use Rattle.mvo_representation.proofs.Shown.{active_begins, behind_is, stands_below}
use Rattle.mvo_representation.proofs.Version.{last_change_is_one, no_change}
use Rattle.mvo_representation.proofs.Scanned.{OneOf, one_of, any_at, none_held, some_held}
use Rattle.mvo_representation.proofs.Writing.{writer}
use Rattle.mvo_representation.proofs.Collect.{stamp_is}
use Rattle.mvo_types.specs.Write.Effect.{Put}

-- ---- a put that stands is of a version
pub record PutBy (n : Held → Bool) (k : RowKey) (h : ContentData) (vs : List Version) : Type 0 where
  pub before : List Version
  pub version : Version
  pub after : List Version
  pub is : vs ≡ before ++ version ∷ after
  pub key : version.row.key ≡ k
  pub put : n version.begin ≡ true
  pub stays : n version.end ≡ false
  pub row : content_of version.row ≡ h

puts_or : (d e : NetEffect) (h : ContentData) → content_put (with_effect d e) ≡ Some h → (content_put d ≡ Some h) ⊎ (content_put e ≡ Some h)
puts_or Untouched e h q = inr q
puts_or Removed Untouched h q = inl q
puts_or Removed Removed h q = inl q
puts_or Removed (Puts g) h q = inr q
puts_or Removed Clash h q = inr q
puts_or (Puts g) Untouched h q = inl q
puts_or (Puts g) Removed h q = inl q
puts_or (Puts g) (Puts k) h q = absurd (none_held h q)
puts_or (Puts g) Clash h q = inr q
puts_or Clash e h q = inl q

pub put_by : (n : Held → Bool) (k : RowKey) (h : ContentData) (vs : List Version) → content_put (net_effect n k vs) ≡ Some h → PutBy n k h vs
put_by n k h [] e = absurd (none_held h e)
put_by n k h (v ∷ vs) e = go (puts_or (effect_of n k v) (net_effect n k vs) h e) (λ g. put_by n k h vs g)
  where
    here : (q o c : Bool) → eq_by_cmp key_cmp k v.row.key ≡ q → n v.begin ≡ o → n v.end ≡ c → content_put (cond q (effect_by o c (content_of v.row)) Untouched) ≡ Some h → PutBy n k h (v ∷ vs)
    here true true false i j l g = record { before = []; version = v; after = vs; is = refl; key = sym (tells_apart exact_keys k v.row.key i); put = j; stays = l; row = some_held (content_of v.row) h g }
    here true true true i j l g = absurd (none_held h g)
    here true false true i j l g = absurd (none_held h g)
    here true false false i j l g = absurd (none_held h g)
    here false o c i j l g = absurd (none_held h g)

    go : (content_put (effect_of n k v) ≡ Some h) ⊎ (content_put (net_effect n k vs) ≡ Some h) → (content_put (net_effect n k vs) ≡ Some h → PutBy n k h vs) → PutBy n k h (v ∷ vs)
    go (inl g) again = here (eq_by_cmp key_cmp k v.row.key) (n v.begin) (n v.end) refl refl refl g
    go (inr g) again = let w = again g in record { before = v ∷ w.before; version = w.version; after = w.after; is = ap (λ ws. v ∷ ws) w.is; key = w.key; put = w.put; stays = w.stays; row = w.row }

-- where t wrote the key last by a put, its own newest version is there
pub own_found : (s : State) (table : Phases) (vs : List Version) (t : ℕ) (mine : ActiveTx) (k : RowKey) (h : ContentData) → IsNumbered s → AreVersionsOf s table vs → active_of t s.active ≡ Some mine → net_write k mine.history ≡ Some (Put h) → PutBy (names t) k h vs
own_found s table vs t mine k h num r f e = put_by (names t) k h vs (ap content_put ((writer s table t mine vs num r f).net_effect k ∙ ap as_net_effect e))

pub own_ends : (t : ℕ) (k : RowKey) (h : ContentData) (vs : List Version) (w : PutBy (names t) k h vs) → IsOwnNewest t w.version
own_ends t k h vs w = record { mine = w.put; kept = w.stays }

-- where others leave a row below its begin, the version that is shown is there
pub record ShownThere (ends : Ends) (t : ℕ) (k : RowKey) (h : ContentData) (vs : List Version) (o : ℕ) : Type 0 where
  pub before : List Version
  pub version : Version
  pub after : List Version
  pub is : vs ≡ before ++ version ∷ after
  pub row : content_of version.row ≡ h
  pub shown : IsShownAt ends t k vs version o

pub shown_found : (opening : Map) (s : State) (table : Phases) (vs : List Version) (t : ℕ) (mine : ActiveTx) (k : RowKey) (h : ContentData) → IsStanding opening s → AreVersionsOf s table vs → active_of t s.active ≡ Some mine → fin.get (seen_by s.base s.stamped t) k ≡ Some h → ShownThere (ends_of table) t k h vs (origin s t k)
shown_found opening s table vs t mine k h kept r f e = go (change_below (ends_of table) t k vs) refl
  where
    stands : standing (change_below (ends_of table) t k vs) ≡ Some (origin s t k, Puts h)
    stands = stands_below s table vs t k kept.sound kept.started r (active_begins s table vs t mine kept.sound r f) (behind_is s table vs t mine r f) ∙ ap (option_map (λ x. (origin s t k, Puts x))) e

    no_row : (c : Option (ℕ × NetEffect)) → change_below (ends_of table) t k vs ≡ c → standing c ≡ None → ⊥
    no_row c i n = no_change (origin s t k, Puts h) (sym (ap standing i ∙ n) ∙ stands)

    stamp : Option (ℕ × NetEffect) → ℕ
    stamp None = 0
    stamp (Some p) = p.0

    held : Option (ℕ × NetEffect) → Option ContentData
    held None = None
    held (Some p) = content_put p.1

    clash : Option (ℕ × NetEffect) → Bool
    clash None = false
    clash (Some (a, Untouched)) = false
    clash (Some (a, Removed)) = false
    clash (Some (a, Puts g)) = false
    clash (Some (a, Clash)) = true

    there : (a : ℕ) (g : ContentData) → change_below (ends_of table) t k vs ≡ Some (a, Puts g) → ShownThere (ends_of table) t k h vs (origin s t k)
    there a g i =
        let at : a ≡ origin s t k = ap stamp (sym (ap standing i)) ∙ ap stamp stands in
        let same : Some g ≡ Some h = ap held (sym (ap standing i)) ∙ ap held stands in
        let w = put_by (has_stamp (ends_of table) a) k h vs (ap content_put ((last_change_is_one (λ m. net_effect (has_stamp (ends_of table) m) k vs) t (a, Puts g) i).is) ∙ same) in
        subst (ShownThere (ends_of table) t k h vs) at (record {
          before = w.before;
          version = w.version;
          after = w.after;
          is = w.is;
          row = w.row;
          shown = record { key = w.key; put = stamp_is (stamp_in (ends_of table) w.version.begin) a w.put; stays = w.stays; last = (Puts g, i) };
        })

    go : (c : Option (ℕ × NetEffect)) → change_below (ends_of table) t k vs ≡ c → ShownThere (ends_of table) t k h vs (origin s t k)
    go None i = absurd (no_row None i refl)
    go (Some (a, Untouched)) i = absurd (no_row (Some (a, Untouched)) i refl)
    go (Some (a, Removed)) i = absurd (no_row (Some (a, Removed)) i refl)
    go (Some (a, Puts g)) i = there a g i
    go (Some (a, Clash)) i = absurd (true≢false (ap clash (sym (ap standing i)) ∙ ap clash stands))

-- ---- a scan meets each such version at its place in the ordered index
pub record IsPlacedIn (places : Places) (tab lo hi : ℕ) (q : RowKey) : Type 0 where
  pub place : SortPlace
  pub there : is_some (fin.get places place) ≡ true
  pub table : place.table ≡ tab
  pub from : nat_le lo place.sort ≡ true
  pub to : nat_le place.sort hi ≡ true
  pub key : record { table = place.table; key = place.key } ≡ q

pub met_placed : (ends : Ends) (start b tab lo hi : ℕ) (q : RowKey) (vs : List Version) (places : Places) → HasPlaces vs places → is_met ends start b (is_row_of (shows (Range tab lo hi)) q) vs ≡ true → IsPlacedIn places tab lo hi q
met_placed ends start b tab lo hi q vs places h e = go (one_of (meets ends start b (is_row_of (shows (Range tab lo hi)) q)) vs e)
  where
    go : OneOf (meets ends start b (is_row_of (shows (Range tab lo hi)) q)) vs → IsPlacedIn places tab lo hi q
    go w =
        let y = and_parts (is_below b (stamp_in ends w.version.begin) && cond (is_up_to start (stamp_in ends w.version.end)) false true) (is_row_of (shows (Range tab lo hi)) q (w.version.row.key, content_of w.version.row)) w.passes in
        let z = and_parts (eq_by_cmp key_cmp q w.version.row.key) (shows (Range tab lo hi) (w.version.row.key, content_of w.version.row)) y.1 in
        let x = and_parts (w.version.row.key.table == tab) (nat_le lo w.version.row.sort && nat_le w.version.row.sort hi) z.1 in
        let u = and_parts (nat_le lo w.version.row.sort) (nat_le w.version.row.sort hi) x.1 in
        record {
          place = version_place w.version;
          there = h.at (version_place w.version) ∙ ap (list_any (is_at_place (version_place w.version))) w.is ∙ any_at (is_at_place (version_place w.version)) w.before w.version w.after ((eq_by_cmp_equiv places_total).refl (version_place w.version));
          table = eqb-true w.version.row.key.table tab x.0;
          from = u.0;
          to = u.1;
          key = sym (tells_apart exact_keys q w.version.row.key z.0);
        }
