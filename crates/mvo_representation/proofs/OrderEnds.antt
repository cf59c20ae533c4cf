-- A draw of an end and an abort keep the versions of each key in order.
use Rattle.std.proofs.Common.{◌≡◌, ◌≢◌, ℕ, ◌+◌, ◌≤◌, Bool, true, false, ◌||◌, List, Option, None, Some, refl, sym, ap, ◌∙◌, subst, arith, ◌⊎◌, inl, inr}
use Rattle.std.specs.Prelude.{◌&&◌, is_none}
use Rattle.std.specs.List.{AllByRecursion}
use Rattle.std.specs.Option.{option_or}
use Rattle.std.proofs.lemmas.Bool.{eqb-true, eqb-false, false≢true, true≢false, cases_Bool, or_parts}
use Rattle.mvo_model.specs.Trace.Phase.{Active, Preparing}
use Rattle.mvo_theory.specs.State.{State}
use Rattle.mvo_theory.specs.Sound.{IsSound, IsActive}
use Rattle.mvo_theory.proofs.Who.{active_holds}
use Rattle.mvo_word.specs.declared.held.Held.{Held}
use Rattle.mvo_word.specs.declared.held.Held.TheVariants.{At, By, Infinity}
use Rattle.mvo_chain.specs.declared.version.Version.{Version}
use Rattle.mvo_chain.specs.Slots.{Slots, version_at}
use Rattle.mvo_hash.specs.Lists.{number, numbers_of}
use Rattle.mvo_txn.specs.declared.state.TxState.{TxState}
use Rattle.mvo_txn.specs.declared.state.TxState.TheVariants as state
use Rattle.mvo_visible.specs.Words.{States, seen_in, names}
use Rattle.mvo_visible.specs.Versions.{versions_at}
use Rattle.mvo_visible.specs.Fronts.{DifferAt}
use Rattle.mvo_representation.specs.Words.{Phases, Ends, end_in, ends_of, stamp_in, is_stamp, has_stamp}
use Rattle.mvo_representation.specs.Versions.{IsKnown, IsInside, AreVersionsOf}
use Rattle.mvo_representation.specs.Indexes.{all_versions}
use Rattle.mvo_representation.specs.Table.{phase_as, phases_of}
use Rattle.mvo_representation.specs.Order.{IsUpTo, first_change_stamp, is_written_by, MayPrecede, StandInOrder, comes_forward, HasEndedItsOwn, is_nothing}
use Rattle.mvo_representation.specs.OrderLaws.{DrawKeepsOrder, ForwardIsSame, UnstampedIsUnseen}
use Rattle.mvo_representation.proofs.Facts.{stamp_drawn}
use Rattle.mvo_representation.proofs.OrderPairs.{is_the_stamp, has_the_stamp, active_is, inside_is, none_stamp, some_stamp}
use Rattle.mvo_representation.proofs.OrderLists.{keyed, with_keyed, fronts_keyed}
use Rattle.mvo_representation.proofs.OrderSteps.{order_to, order_from, live}
use Rattle.mvo_representation.proofs.OrderFronts.{fronts_in_order, written_numbers, written_order}
use Rattle.mvo_representation.proofs.WordPlaces.{one_name}

-- ---- words where one transaction stands otherwise
pub other_stamp : (t : ℕ) (states states' : States) → DifferAt t states states' → (w : Held) → names t w ≡ false → stamp_in (ends_of (phases_of states')) w ≡ stamp_in (ends_of (phases_of states)) w
other_stamp t states states' d (At s) n = refl
other_stamp t states states' d (By u) n = ap (λ o. end_in (phase_as o)) (d u.0 (eqb-false u.0 t n))
other_stamp t states states' d Infinity n = refl

pub own_stamp : (t : ℕ) (states : States) (w : Held) → names t w ≡ true → stamp_in (ends_of (phases_of states)) w ≡ end_in (phases_of states t)
own_stamp t states (At s) n = absurd (false≢true n)
own_stamp t states (By u) n = ap (λ (i : ℕ). end_in (phase_as (states i))) (eqb-true u.0 t n)
own_stamp t states Infinity n = absurd (false≢true n)

upto_or : (s : ℕ) (a b : Option ℕ) → ((x : ℕ) → a ≡ Some x → x ≤ s) → ((x : ℕ) → b ≡ Some x → x ≤ s) → IsUpTo s (option_or a b)
upto_or s (Some x) b f g = f x refl
upto_or s None (Some x) f g = g x refl
upto_or s None None f g = tt

-- ---- what is known of each version
pub record IsLive (s : State) (table : Phases) (v : Version) : Type 0 where
  pub known : IsKnown s table v.begin × IsKnown s table v.end
  pub inside : AllByRecursion (IsInside v) s.active

pub live_at : (s : State) (table : Phases) (slots : Slots) → AreVersionsOf s table (all_versions slots) → (n : ℕ) (v : Version) → version_at slots (number n) ≡ Some v → IsLive s table v
live_at s table slots h n v e = record { known = live slots (λ x. IsKnown s table x.begin × IsKnown s table x.end) h.known n v e; inside = live slots (λ x. AllByRecursion (IsInside x) s.active) h.inside n v e }

-- ---- a draw
module _ (s : State) (states states' : States) (vs : List Version) (t e : ℕ) (sound : IsSound s) (started : s.start ≤ s.clock) (versions : AreVersionsOf s (phases_of states) vs) (was : phases_of states t ≡ Active) (now : phases_of states' t ≡ Preparing e) (drawn : e ≡ s.clock + 1) (d : DifferAt t states states') where
  before : Phases
  before = phases_of states

  after : Phases
  after = phases_of states'

  up_to_clock : (w : Held) → IsKnown s (phases_of states) w → (x : ℕ) → stamp_in (ends_of (phases_of states)) w ≡ Some x → x ≤ s.clock
  up_to_clock w k x q = (stamp_drawn s (phases_of states) vs sound versions w k x q).drawn

  new_stamp : (w : Held) → names t w ≡ true → stamp_in (ends_of (phases_of states')) w ≡ Some e
  new_stamp w n = own_stamp t states' w n ∙ ap end_in now

  old_stamp : (w : Held) → names t w ≡ true → stamp_in (ends_of (phases_of states)) w ≡ None
  old_stamp w n = own_stamp t states w n ∙ ap end_in was

  -- all stamps are at most the one that is drawn
  up_to_end : (w : Held) → IsKnown s (phases_of states) w → (x : ℕ) → stamp_in (ends_of (phases_of states')) w ≡ Some x → x ≤ e
  up_to_end w k x q = elim (cases_Bool (names t w)) [
    | inl n ↦ let same = some_stamp e x (sym (new_stamp w n) ∙ q) in omega (arith, same)
    | inr n ↦ let le = up_to_clock w k x (sym (other_stamp t states states' d w n) ∙ q) in omega (arith, le, drawn)
  ]

  -- and who has that names t
  drawn_names : (w : Held) → IsKnown s (phases_of states) w → stamp_in (ends_of (phases_of states')) w ≡ Some e → names t w ≡ true
  drawn_names w k q = elim (cases_Bool (names t w)) [
    | inl n ↦ n
    | inr n ↦ absurd (let le = up_to_clock w k e (sym (other_stamp t states states' d w n) ∙ q) in omega (arith, le, drawn))
  ]

  still_active : (u : ℕ) → phases_of states' u ≡ Active → (u ≢ t) × (phases_of states u ≡ Active)
  still_active u act = (differs, ap phase_as (sym (d u differs)) ∙ act)
    where
      preparing : (n : ℕ) → Preparing n ≡ Active → ⊥
      preparing n q = cc

      differs : u ≢ t
      differs q = preparing e (sym now ∙ ap (phases_of states') (sym q) ∙ act)

  begins_below : (u : ℕ) → phases_of states u ≡ Active → u ≤ s.clock
  begins_below u act =
      let r = active_is s u (sym (versions.phases u) ∙ act) in
      let a = active_holds (IsActive s.base s.stamped s.clock) u s.active r.0 r.1 sound.active in
      let le = a.0.drawn in let is = a.1 in omega (arith, le, is)

  unput : (v : Version) → comes_forward (ends_of (phases_of states)) t v ≡ false → names t v.begin ≡ false
  unput v f = (or_parts (names t v.begin) (names t v.end && is_none (stamp_in (ends_of (phases_of states)) v.begin)) f).0

  unended : (v : Version) → comes_forward (ends_of (phases_of states)) t v ≡ false → stamp_in (ends_of (phases_of states)) v.begin ≡ None → names t v.end ≡ false
  unended v f o = go (names t v.end) (is_none (stamp_in (ends_of (phases_of states)) v.begin)) (ap (λ (p : Option ℕ). is_none p) o) (or_parts (names t v.begin) (names t v.end && is_none (stamp_in (ends_of (phases_of states)) v.begin)) f).1
    where
      go : (a b : Bool) → b ≡ true → (a && b) ≡ false → a ≡ false
      go true true p g = absurd (true≢false g)
      go true false p g = absurd (false≢true p)
      go false b p g = refl

  -- one that comes to the front
  drawn_front : (w v : Version) → IsLive s (phases_of states) w → IsLive s (phases_of states) v → comes_forward (ends_of (phases_of states)) t w ≡ true → HasEndedItsOwn (names t) w v → MayPrecede s.start (phases_of states') w v
  drawn_front w v lw lv test own = record {
    puts = λ x q. let m = put_is x q in subst (λ (n : ℕ). IsUpTo n (first_change_stamp (ends_of (phases_of states')) v)) (sym m.1) (upto_or e (stamp_in (ends_of (phases_of states')) v.begin) (stamp_in (ends_of (phases_of states')) v.end) (up_to_end v.begin lv.known.0) (up_to_end v.end lv.known.1));
    removals = λ x y q r le. let same = (put_is x q).1 in omega (arith, same, le, started, drawn);
    stamped = λ x p q.
        let m = put_is x (is_the_stamp x (stamp_in (ends_of (phases_of states')) w.begin) p) in
        let o : stamp_in (ends_of (phases_of states')) v.begin ≡ Some e = is_the_stamp x (stamp_in (ends_of (phases_of states')) v.begin) q ∙ ap (λ (n : ℕ). Some n) m.1 in
        has_the_stamp x (stamp_in (ends_of (phases_of states')) v.end) (new_stamp v.end (own m.0 (drawn_names v.begin lv.known.0 o)) ∙ ap (λ (n : ℕ). Some n) (sym m.1));
    active = λ u act p q. absurd (nobodys u act p);
    writes = λ u act x q lt. absurd (let le = begins_below u (still_active u act).1 in let same = (put_is x q).1 in omega (arith, le, same, lt, drawn));
  }
    where
      parts : (a b : Bool) → (a && b) ≡ true → (a ≡ true) × (b ≡ true)
      parts true true g = (refl, refl)
      parts true false g = absurd (false≢true g)
      parts false b g = absurd (false≢true g)

      no_stamp : (o : Option ℕ) → is_none o ≡ true → o ≡ None
      no_stamp None g = refl
      no_stamp (Some x) g = absurd (false≢true g)

      -- it put the version, or it ended it and the put has no stamp
      test_is : (names t w.begin ≡ true) ⊎ ((names t w.end ≡ true) × (stamp_in (ends_of (phases_of states)) w.begin ≡ None))
      test_is = go (names t w.begin) refl
        where
          go : (b : Bool) → names t w.begin ≡ b → (names t w.begin ≡ true) ⊎ ((names t w.end ≡ true) × (stamp_in (ends_of (phases_of states)) w.begin ≡ None))
          go true e = inl e
          go false e = let p = parts (names t w.end) (is_none (stamp_in (ends_of (phases_of states)) w.begin)) (sym (ap (λ (c : Bool). c || (names t w.end && is_none (stamp_in (ends_of (phases_of states)) w.begin))) e) ∙ test) in
              inr (p.0, no_stamp (stamp_in (ends_of (phases_of states)) w.begin) p.1)

      put_has_none : stamp_in (ends_of (phases_of states)) w.begin ≡ None
      put_has_none = elim test_is [ inl n ↦ old_stamp w.begin n | inr q ↦ q.1 ]

      put_is : (x : ℕ) → stamp_in (ends_of (phases_of states')) w.begin ≡ Some x → (names t w.begin ≡ true) × (x ≡ e)
      put_is x q = elim (cases_Bool (names t w.begin)) [
        | inl n ↦ (n, some_stamp x e (sym q ∙ new_stamp w.begin n))
        | inr n ↦ absurd (none_stamp x (sym (other_stamp t states states' d w.begin n ∙ put_has_none) ∙ q))
      ]

      nobodys : (u : ℕ) → phases_of states' u ≡ Active → names u w.begin ≡ true → ⊥
      nobodys u act p = let a = still_active u act in elim test_is [
        | inl n ↦ a.0 (one_name u t w.begin p n)
        | inr n ↦ elim (inside_is s (phases_of states) w u versions.phases lw.inside a.1 p) [
          | inl i ↦ false≢true (sym (ap (names t) i) ∙ n.0)
          | inr i ↦ a.0 (one_name u t w.end i n.0)
        ]
      ]

  -- two that stay behind
  drawn_behind : (w v : Version) → comes_forward (ends_of (phases_of states)) t w ≡ false → comes_forward (ends_of (phases_of states)) t v ≡ false → MayPrecede s.start (phases_of states) w v → MayPrecede s.start (phases_of states') w v
  drawn_behind w v fw fv h = record {
    puts = λ x q. subst (IsUpTo x) (sym (first_same (stamp_in (ends_of (phases_of states)) v.begin) refl)) (h.puts x (sym put_same ∙ q));
    removals = λ x y q r le. elim (cases_Bool (names t v.end)) [
      | inl n ↦ absurd (let same = some_stamp e y (sym (new_stamp v.end n) ∙ r) in omega (arith, same, le, started, drawn))
      | inr n ↦ h.removals x y (sym put_same ∙ q) (sym (other_stamp t states states' d v.end n) ∙ r) le
    ];
    stamped = λ x p q. removed x (h.stamped x (ap (is_stamp x) (sym put_same) ∙ p) (ap (is_stamp x) (sym (other_stamp t states states' d v.begin (unput v fv))) ∙ q));
    active = λ u act p q. h.active u (still_active u act).1 p q;
    writes = λ u act x q lt. h.writes u (still_active u act).1 x (sym put_same ∙ q) lt;
  }
    where
      put_same : stamp_in (ends_of (phases_of states')) w.begin ≡ stamp_in (ends_of (phases_of states)) w.begin
      put_same = other_stamp t states states' d w.begin (unput w fw)

      first_same : (o : Option ℕ) → stamp_in (ends_of (phases_of states)) v.begin ≡ o → first_change_stamp (ends_of (phases_of states')) v ≡ first_change_stamp (ends_of (phases_of states)) v
      first_same (Some x) q = ap (λ o. option_or o (stamp_in (ends_of (phases_of states')) v.end)) (other_stamp t states states' d v.begin (unput v fv) ∙ q) ∙ sym (ap (λ o. option_or o (stamp_in (ends_of (phases_of states)) v.end)) q)
      first_same None q =
          ap (λ o. option_or o (stamp_in (ends_of (phases_of states')) v.end)) (other_stamp t states states' d v.begin (unput v fv))
          ∙ ap (option_or (stamp_in (ends_of (phases_of states)) v.begin)) (other_stamp t states states' d v.end (unended v fv q))

      removed : (x : ℕ) → has_stamp (ends_of (phases_of states)) x v.end ≡ true → has_stamp (ends_of (phases_of states')) x v.end ≡ true
      removed x p = elim (cases_Bool (names t v.end)) [
        | inl n ↦ absurd (none_stamp x (sym (old_stamp v.end n) ∙ is_the_stamp x (stamp_in (ends_of (phases_of states)) v.end) p))
        | inr n ↦ ap (is_stamp x) (other_stamp t states states' d v.end n) ∙ p
      ]

forward_written : (ends : Ends) (t : ℕ) (v : Version) → comes_forward ends t v ≡ true → is_written_by t v ≡ true
forward_written ends t v e = go (names t v.begin) (names t v.end) (is_none (stamp_in ends v.begin)) e
  where
    go : (a b c : Bool) → (a || (b && c)) ≡ true → (a || b) ≡ true
    go true b c f = refl
    go false true c f = refl
    go false false c f = f

pub draw_keeps_order : DrawKeepsOrder
draw_keeps_order opening s states states' slots lists places t end' ns h act d prepared drawn written order key =
    let was : phases_of states t ≡ Active = ap phase_as act in
    let now : phases_of states' t ≡ Preparing end'.0 = ap phase_as prepared in
    let test : Version → Bool = comes_forward (ends_of (phases_of states)) t in
    subst (λ ls. StandInOrder s.start (phases_of states') (versions_at slots ls key)) (sym (fronts_keyed test slots lists ns))
    (order_from s.start (phases_of states') slots (numbers_of (with_keyed lists (keyed test slots ns)) key)
    (fronts_in_order slots lists test (MayPrecede s.start (phases_of states)) (MayPrecede s.start (phases_of states')) (HasEndedItsOwn (names t)) (IsLive s (phases_of states)) (keyed test slots ns) h.numbers (live_at s (phases_of states) slots h.versions)
    (written_numbers t slots test ns (forward_written (ends_of (phases_of states)) t) written) (written_order t slots test ns written)
    (λ w v lw lv. drawn_behind s states states' (all_versions slots) t end'.0 h.kept.sound h.kept.started.drawn h.versions was now drawn d w v)
    (λ w v lw lv. drawn_front s states states' (all_versions slots) t end'.0 h.kept.sound h.kept.started.drawn h.versions was now drawn d w v lw lv)
    (λ w v lv f p q. absurd (true≢false (sym q ∙ unput s states states' (all_versions slots) t end'.0 h.kept.sound h.kept.started.drawn h.versions was now drawn d v f))) key
    (order_to s.start (phases_of states) slots (numbers_of lists key) (order key))))

-- ---- what comes forward, as code tells it
pub forward_is_same : ForwardIsSame
forward_is_same states states' t v d = elim (cases_Bool (names t v.begin)) [
  | inl n ↦ ap (λ (b : Bool). b || (names t v.end && is_none (stamp_in (ends_of (phases_of states')) v.begin))) n ∙ sym (ap (λ (b : Bool). b || (names t v.end && is_none (stamp_in (ends_of (phases_of states)) v.begin))) n)
  | inr n ↦ ap (λ (o : Option ℕ). names t v.begin || (names t v.end && is_none o)) (other_stamp t states states' d v.begin n)
]

pub unstamped_is_unseen : UnstampedIsUnseen
unstamped_is_unseen states (At s) = refl
unstamped_is_unseen states Infinity = refl
unstamped_is_unseen states (By t) = go (states t.0)
  where
    go : (o : Option TxState) → is_none (end_in (phase_as o)) ≡ is_nothing (seen_in t o)
    go None = refl
    go (Some state.Active) = refl
    go (Some (state.Preparing e)) = refl
    go (Some (state.Committed e)) = refl
    go (Some state.Aborted) = refl
