-- An abort, a begin, a commit and a leaving keep the versions of each key in order.
use Rattle.std.proofs.Common.{◌≡◌, ◌≢◌, ℕ, Bool, true, false, ◌||◌, List, [], ◌∷◌, Option, None, Some, refl, sym, ap, ◌∙◌, subst, inl, inr}
use Rattle.std.specs.Prelude.{⊤, ◌==◌}
use Rattle.std.specs.List.{AllByRecursion}
use Rattle.std.specs.Option.{option_or}
use Rattle.std.proofs.lemmas.Bool.{eqb-true, eq-eqb, false≢true, cases_Bool, cases_eq}
use Rattle.mvo_model.specs.Trace.{Phase}
use Rattle.mvo_model.specs.Trace.Phase.{Absent, Active, Preparing, Committed, Aborted}
use Rattle.mvo_theory.specs.State.{State, StampedTx, preparing_of}
use Rattle.mvo_theory.specs.Sound.{IsSound, IsRising}
use Rattle.mvo_theory.proofs.Commits.{split_at}
use Rattle.mvo_theory.proofs.Each.{each_always, each_weaker}
use Rattle.mvo_theory.proofs.OriginEnds.{alone_at}
use Rattle.mvo_word.specs.declared.held.Held.{Held}
use Rattle.mvo_word.specs.declared.held.Held.TheVariants.{At, By, Infinity}
use Rattle.mvo_chain.specs.declared.version.Version.{Version}
use Rattle.mvo_hash.specs.Lists.{numbers_of}
use Rattle.mvo_visible.specs.Words.{States, names}
use Rattle.mvo_visible.specs.Versions.{versions_at}
use Rattle.mvo_visible.specs.Fronts.{DifferAt}
use Rattle.mvo_representation.specs.Words.{Phases, end_in, ends_of, stamp_in, is_stamp}
use Rattle.mvo_representation.specs.Versions.{IsKnown, IsKnownStamp, AreVersionsOf}
use Rattle.mvo_representation.specs.Indexes.{all_versions}
use Rattle.mvo_representation.specs.Table.{phase_as, phases_of}
use Rattle.mvo_representation.specs.Order.{IsUpTo, is_written_by, MayPrecede, StandInOrder, EachPair, is_put_by, MayAbort, IsSeenAlike}
use Rattle.mvo_representation.specs.Order.HasSameWords.{Same, Unnamed}
use Rattle.mvo_representation.specs.OrderLaws.{AbortBringsOrder, BeginKeepsOrder, CommitStaysInOrder, LeavingKeepsOrder, SameStayInOrder}
use Rattle.mvo_representation.specs.WrittenLaws.{AbsentIsUnnamed}
use Rattle.mvo_representation.proofs.Facts.{preparing_is, found_holds}
use Rattle.mvo_representation.proofs.OrderPairs.{is_the_stamp, unstamped_pair, none_stamp, some_stamp}
use Rattle.mvo_representation.proofs.OrderLists.{keyed, with_keyed, fronts_keyed}
use Rattle.mvo_representation.proofs.OrderSteps.{order_to, order_from, live, alike_stay_in_order}
use Rattle.mvo_representation.proofs.OrderFronts.{StandsLater, fronts_in_order, written_numbers}
use Rattle.mvo_representation.proofs.OrderEnds.{other_stamp, own_stamp, IsLive, live_at}
use Rattle.mvo_representation.proofs.WordPlaces.{one_name}

-- ---- nobody else has the end of a Preparing one
pub known_apart : (s : State) (t e : ℕ) → (x : StampedTx) × (preparing_of t s.stamped ≡ Some x) × (x.end ≡ e) → IsKnownStamp s e → ⊥
known_apart s t e x k = let p = found_holds (λ y. y.settled ≡ false → y.end ≢ e) t s.stamped x.0 x.1 k.settled in p.0 p.2 x.2

same_owner : (s : State) (t u e : ℕ) → IsRising s.stamped → (x : StampedTx) × (preparing_of t s.stamped ≡ Some x) × (x.end ≡ e) → (y : StampedTx) × (preparing_of u s.stamped ≡ Some y) × (y.end ≡ e) → t ≡ u
same_owner s t u e r x y =
    let p = split_at t s.stamped x.0 x.1 in
    let at = found_holds (λ z. z.end ≡ x.0.end → z.id ≡ x.0.id) u s.stamped y.0 y.1 (subst (AllByRecursion (λ z. z.end ≡ x.0.end → z.id ≡ x.0.id)) (sym p.2) (alone_at p.0 p.1 x.0 (subst IsRising p.2 r) (λ z. z.id ≡ x.0.id) refl)) in
    sym p.3 ∙ sym (at.0 (y.2 ∙ sym x.2)) ∙ at.1

pub owner_alone : (s : State) (table : Phases) (vs : List Version) (t e : ℕ) → IsSound s → AreVersionsOf s table vs → table t ≡ Preparing e → (w : Held) → IsKnown s table w → stamp_in (ends_of table) w ≡ Some e → names t w ≡ true
owner_alone s table vs t e sound h was (At n) k q = absurd (known_apart s t e (preparing_is s t e (sym (h.phases t) ∙ was)) (subst (IsKnownStamp s) (some_stamp n.0 e q) k))
owner_alone s table vs t e sound h was Infinity k q = absurd (none_stamp e q)
owner_alone s table vs t e sound h was (By u) k q = go (table u.0) refl q
  where
    go : (p : Phase) → table u.0 ≡ p → end_in p ≡ Some e → (u.0 == t) ≡ true
    go Absent f g = absurd (none_stamp e g)
    go Active f g = absurd (none_stamp e g)
    go Aborted f g = absurd (none_stamp e g)
    go (Committed n) f g = absurd (known_apart s t e (preparing_is s t e (sym (h.phases t) ∙ was)) (subst (IsKnownStamp s) (some_stamp n e g) (h.committed u.0 n f)))
    go (Preparing n) f g = eq-eqb u.0 t (same_owner s u.0 t e sound.rising (preparing_is s u.0 e (sym (h.phases u.0) ∙ f ∙ ap Preparing (some_stamp n e g))) (preparing_is s t e (sym (h.phases t) ∙ was)))

-- ---- an abort
module _ (s : State) (states states' : States) (vs : List Version) (t : ℕ) (sound : IsSound s) (versions : AreVersionsOf s (phases_of states) vs) (was : MayAbort (phases_of states) t) (now : phases_of states' t ≡ Aborted) (d : DifferAt t states states') where
  silent : (w : Held) → names t w ≡ true → stamp_in (ends_of (phases_of states')) w ≡ None
  silent w n = own_stamp t states' w n ∙ ap end_in now

  still_active : (u : ℕ) → phases_of states' u ≡ Active → (u ≢ t) × (phases_of states u ≡ Active)
  still_active u act = (differs, ap phase_as (sym (d u differs)) ∙ act)
    where
      aborted : Aborted ≡ Active → ⊥
      aborted q = cc

      differs : u ≢ t
      differs q = aborted (sym now ∙ ap (phases_of states') (sym q) ∙ act)

  aborted_front : (w v : Version) → names t w.begin ≡ true → MayPrecede s.start (phases_of states') w v
  aborted_front w v n = unstamped_pair s.start (phases_of states') w v (silent w.begin n) (λ u act p q. absurd ((still_active u act).0 (one_name u t w.begin p n)))

  -- a word that names t has the stamp of no other
  not_its : (w v : Version) → IsLive s (phases_of states) w → names t w.begin ≡ false → (x : ℕ) → stamp_in (ends_of (phases_of states)) w.begin ≡ Some x → stamp_in (ends_of (phases_of states)) v.end ≡ Some x → names t v.end ≡ true → ⊥
  not_its w v lw n x q r m = elim was [
    | inl act ↦ none_stamp x (sym (own_stamp t states v.end m ∙ ap end_in act) ∙ r)
    | inr p ↦
        let same : p.0 ≡ x = some_stamp p.0 x (sym (own_stamp t states v.end m ∙ ap end_in p.1) ∙ r) in
        false≢true (sym n ∙ owner_alone s (phases_of states) vs t p.0 sound versions p.1 w.begin lw.known.0 (q ∙ ap (λ (i : ℕ). Some i) (sym same)))
  ]

  aborted_behind : (w v : Version) → IsLive s (phases_of states) w → names t w.begin ≡ false → names t v.begin ≡ false → MayPrecede s.start (phases_of states) w v → MayPrecede s.start (phases_of states') w v
  aborted_behind w v lw nw nv h = record {
    puts = λ x q. elim (cases_Bool (names t v.end)) [
      | inl n ↦ subst (IsUpTo x) (sym (ap (λ o. option_or o (stamp_in (ends_of (phases_of states')) v.end)) (other_stamp t states states' d v.begin nv) ∙ ap (option_or (stamp_in (ends_of (phases_of states)) v.begin)) (silent v.end n)))
          (first_alone x (stamp_in (ends_of (phases_of states)) v.begin) (stamp_in (ends_of (phases_of states)) v.end) (h.puts x (sym put_same ∙ q)))
      | inr n ↦ subst (IsUpTo x) (sym (ap (λ o. option_or o (stamp_in (ends_of (phases_of states')) v.end)) (other_stamp t states states' d v.begin nv) ∙ ap (option_or (stamp_in (ends_of (phases_of states)) v.begin)) (other_stamp t states states' d v.end n)))
          (h.puts x (sym put_same ∙ q))
    ];
    removals = λ x y q r le. elim (cases_Bool (names t v.end)) [
      | inl n ↦ absurd (none_stamp y (sym (silent v.end n) ∙ r))
      | inr n ↦ h.removals x y (sym put_same ∙ q) (sym (other_stamp t states states' d v.end n) ∙ r) le
    ];
    stamped = λ x p q.
        let had = h.stamped x (ap (is_stamp x) (sym put_same) ∙ p) (ap (is_stamp x) (sym (other_stamp t states states' d v.begin nv)) ∙ q) in
        elim (cases_Bool (names t v.end)) [
          | inl n ↦ absurd (not_its w v lw nw x (sym put_same ∙ is_the_stamp x (stamp_in (ends_of (phases_of states')) w.begin) p) (is_the_stamp x (stamp_in (ends_of (phases_of states)) v.end) had) n)
          | inr n ↦ ap (is_stamp x) (other_stamp t states states' d v.end n) ∙ had
        ];
    active = λ u act p q. h.active u (still_active u act).1 p q;
    writes = λ u act x q lt. h.writes u (still_active u act).1 x (sym put_same ∙ q) lt;
  }
    where
      put_same : stamp_in (ends_of (phases_of states')) w.begin ≡ stamp_in (ends_of (phases_of states)) w.begin
      put_same = other_stamp t states states' d w.begin nw

      first_alone : (x : ℕ) (a b : Option ℕ) → IsUpTo x (option_or a b) → IsUpTo x (option_or a None)
      first_alone x (Some y) b g = g
      first_alone x None b g = tt

every_pair : {X : Type 0} (R : X → X → Type 0) → ((w v : X) → R w v) → (xs : List X) → EachPair R xs
every_pair R f [] = tt
every_pair R f (x ∷ xs) = (each_always (R x) (f x) xs, every_pair R f xs)

put_written : (t : ℕ) (v : Version) → is_put_by t v ≡ true → is_written_by t v ≡ true
put_written t v e = ap (λ (b : Bool). b || names t v.end) e

pub abort_brings_order : AbortBringsOrder
abort_brings_order opening s states states' slots lists places t ns h may d aborted written order key =
    let now : phases_of states' t ≡ Aborted = ap phase_as aborted in
    subst (λ ls. StandInOrder s.start (phases_of states') (versions_at slots ls key)) (sym (fronts_keyed (is_put_by t) slots lists ns))
    (order_from s.start (phases_of states') slots (numbers_of (with_keyed lists (keyed (is_put_by t) slots ns)) key)
    (fronts_in_order slots lists (is_put_by t) (MayPrecede s.start (phases_of states)) (MayPrecede s.start (phases_of states')) (λ w v. ⊤) (IsLive s (phases_of states)) (keyed (is_put_by t) slots ns) h.numbers (live_at s (phases_of states) slots h.versions)
    (written_numbers t slots (is_put_by t) ns (put_written t) written) (every_pair (StandsLater slots (λ w v. ⊤)) (λ p q v w a b c e. tt) (keyed (is_put_by t) slots ns))
    (λ w v lw lv fw fv. aborted_behind s states states' (all_versions slots) t h.kept.sound h.versions may now d w v lw fw fv)
    (λ w v lw lv n _. aborted_front s states states' (all_versions slots) t h.kept.sound h.versions may now d w v n) (λ w v lv f. tt) key
    (order_to s.start (phases_of states) slots (numbers_of lists key) (order key))))

-- ---- steps that others don't see
-- only the phase of t differs, with the same end, and no word names it if it is Active then
unseen : (states states' : States) (t : ℕ) → DifferAt t states states' → end_in (phases_of states' t) ≡ end_in (phases_of states t) → (v : Version) → (phases_of states' t ≡ Active → (names t v.begin ≡ false) × (names t v.end ≡ false)) → IsSeenAlike states states' v v
unseen states states' t d ends v free = record {
  begin = word v.begin;
  end = word v.end;
  active = λ u act. elim (cases_eq u t) [
    | inl same ↦ let none = free (ap (phases_of states') (sym same) ∙ act) in Unnamed (ap (λ (i : ℕ). names i v.begin) same ∙ none.0) (ap (λ (i : ℕ). names i v.end) same ∙ none.1)
    | inr other ↦ Same (ap phase_as (sym (d u other)) ∙ act) refl refl
  ];
}
  where
    word : (w : Held) → stamp_in (ends_of (phases_of states')) w ≡ stamp_in (ends_of (phases_of states)) w
    word w = elim (cases_Bool (names t w)) [
      | inl n ↦ own_stamp t states' w n ∙ ends ∙ sym (own_stamp t states w n)
      | inr n ↦ other_stamp t states states' d w n
    ]

pub commit_stays_in_order : CommitStaysInOrder
commit_stays_in_order start states states' slots lists t end' d was now order =
    alike_stay_in_order start states states' slots slots lists (λ m w e. (w, e, unseen states states' t d (ap (λ o. end_in (phase_as o)) now ∙ sym (ap (λ o. end_in (phase_as o)) was)) w (λ act. absurd (committed end'.0 (sym (ap phase_as now) ∙ act))))) order
  where
    committed : (n : ℕ) → Committed n ≡ Active → ⊥
    committed n q = cc

known_unnamed : (s : State) (table : Phases) (t : ℕ) → table t ≡ Absent → (w : Held) → IsKnown s table w → names t w ≡ false
known_unnamed s table t absent (At n) k = refl
known_unnamed s table t absent Infinity k = refl
known_unnamed s table t absent (By u) k = elim (cases_Bool (u.0 == t)) [ inl e ↦ absurd (k (ap table (eqb-true u.0 t e) ∙ absent)) | inr n ↦ n ]

pub begin_keeps_order : BeginKeepsOrder
begin_keeps_order opening s states states' slots lists places t h was d now order =
    alike_stay_in_order s.start states states' slots slots lists (λ m w e.
    let k = live slots (λ x. IsKnown s (phases_of states) x.begin × IsKnown s (phases_of states) x.end) h.versions.known m.0 w e in
    (w, e, unseen states states' t d (ap (λ o. end_in (phase_as o)) now ∙ sym (ap (λ o. end_in (phase_as o)) was)) w (λ act. (known_unnamed s (phases_of states) t (ap phase_as was) w.begin k.0, known_unnamed s (phases_of states) t (ap phase_as was) w.end k.1)))) order

pub leaving_keeps_order : LeavingKeepsOrder
leaving_keeps_order start states states' slots lists t d now free order = alike_stay_in_order start states states' slots slots lists (λ m w e.
    let n = live slots (λ x. (names t x.begin ≡ false) × (names t x.end ≡ false)) free m.0 w e in (
      w,
      e,
      record {
        begin = other_stamp t states states' d w.begin n.0;
        end = other_stamp t states states' d w.end n.1;
        active = λ u act. elim (cases_eq u t) [
          | inl same ↦ Unnamed (ap (λ (i : ℕ). names i w.begin) same ∙ n.0) (ap (λ (i : ℕ). names i w.end) same ∙ n.1)
          | inr other ↦ Same (ap phase_as (sym (d u other)) ∙ act) refl refl
        ];
      },
    )) order

pub same_stay_in_order : SameStayInOrder
same_stay_in_order start states states' slots slots' lists same there order = alike_stay_in_order start states states' slots slots' lists (λ m w e. (w, sym (there m) ∙ e, record { begin = word w.begin; end = word w.end; active = λ u act. Same (ap phase_as (sym (same u)) ∙ act) refl refl })) order
  where
    word : (w : Held) → stamp_in (ends_of (phases_of states')) w ≡ stamp_in (ends_of (phases_of states)) w
    word (At s) = refl
    word (By u) = ap (λ o. end_in (phase_as o)) (same u.0)
    word Infinity = refl

pub absent_is_unnamed : AbsentIsUnnamed
absent_is_unnamed opening s states slots lists places t h was = each_weaker (λ x. IsKnown s (phases_of states) x.begin × IsKnown s (phases_of states) x.end) (λ x. (names t x.begin ≡ false) × (names t x.end ≡ false))
    (λ x k. (known_unnamed s (phases_of states) t (ap phase_as was) x.begin k.0, known_unnamed s (phases_of states) t (ap phase_as was) x.end k.1)) (all_versions slots) h.versions.known
