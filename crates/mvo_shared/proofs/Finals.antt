-- Whatever works it is given, a core keeps what it keeps: a settlement, an abort, a trim. And so the tale is legal.
use Rattle.std.proofs.Common.{take, ◌≡◌, ◌≢◌, ℕ, ◌<◌, ◌≤◌, Bool, true, false, cond, not, ◌||◌, List, [], ◌∷◌, ◌++◌, Option, None, map, refl, sym, ap, ◌∙◌, subst, arith}
use Rattle.std.specs.Prelude.{◌==◌}
use Rattle.std.specs.List.{AllByRecursion, filter}
use Rattle.std.specs.FinMap as fin
use Rattle.std.proofs.lemmas.Bool.{eqb-true, true≢false, not-false}
use Rattle.mvo_types.proofs.Maps.{keys_total, exact_keys}
use Rattle.mvo_types.specs.Keys.{Map}
use Rattle.mvo_types.specs.Write.{Effect, content_after_last}
use Rattle.mvo_model.specs.History.{History, after_history, AreSerial, Legal}
use Rattle.mvo_model.proofs.Serials.{get-after_history, rows_after_all-after_history}
use Rattle.mvo_theory.specs.Entries.{entry_of}
use Rattle.mvo_theory.specs.Ranges.{AgreeOn, footprint_of}
use Rattle.mvo_theory.specs.State.{State, Marks, StampedTx, ActiveTx, EndedTx, seen_by, after_settled}
use Rattle.mvo_theory.specs.Changes.{with_settled, after_commit, with_flag, active_with_flag, not_at, after_abort_of_active, after_abort_of_preparing, is_to, after_trim}
use Rattle.mvo_theory.specs.Sound.{IsUnchanged, LeavesAlone, IsApart, IsClear, IsRising, IsLegal, IsPlaced, IsPreparing}
use Rattle.mvo_theory.proofs.Each.{each_weaker, each_both, each_back, each_map, each_filter}
use Rattle.mvo_theory.proofs.Looks.{serial_agrees, footprint_agrees}
use Rattle.mvo_theory.proofs.Footprints.{unchanged_agree}
use Rattle.mvo_theory.proofs.Stamped.{each_part}
use Rattle.mvo_theory.proofs.Apart.{IsFreeToSettle, apart_all}
use Rattle.mvo_theory.proofs.Settle.{rising_before, rising_after, left_settled, changes_not, agree_at_end}
use Rattle.mvo_theory.proofs.Ends.{like_settled, settled_in, sound_after_abort_of_active, spared, like_flag, sound_after_abort_of_preparing}
use Rattle.mvo_theory.proofs.Trim.{is_after, parted, IsTrim, sound_after_trim}
use Rattle.mvo_theory.proofs.Between.{settled_below}
use Rattle.mvo_shared.specs.Kept.{Looked}
use Rattle.mvo_shared.specs.Shared.{TakenWork, AllTaken, looked_of, taken_history, OnlyWrites, WriteTheSame, IsTakenWork, AreSeen, AreUnchanged, AreFound, IsChecking, AreToldSerially, AreToldApart, IsShared, told_tale}
use Rattle.mvo_shared.proofs.Seen.{seen_aborted, seen_to, still_map, still_part}
use Rattle.mvo_shared.proofs.Valid.{each_of_work, valid_consistent}
use Rattle.mvo_shared.proofs.Told.{ToldAlike, told_between, apart_told_settled, serial_part, apart_part, serial_flag, apart_flag, serial_rest}
use Rattle.mvo_shared.proofs.Steps.{checking_map}

-- ---- a settlement
-- the one that settles, with what it was told in place of what the core saw it write
abbrev as_told : Map → List StampedTx → StampedTx → History → StampedTx
as_told base stamped t ts = record t { history = ts; footprint = footprint_of ts (seen_by base stamped t.id) }

abbrev pub Ends : Map → List StampedTx → ℕ → Map
Ends base stamped e = after_history (settled_below e stamped) base

-- what a valid one was told is what the serial steps answer on the rows of the settled ones below its end
pub told_serial : (base : Map) (stamped : List StampedTx) (clock : ℕ) (t : StampedTx) (w : TakenWork) → IsTakenWork t w → AreSeen base stamped t.id t.depends_on (looked_of w) → AreUnchanged stamped t.id t.end (looked_of w) → IsFreeToSettle stamped t.depends_on → IsPlaced stamped clock t → IsClear stamped → IsRising stamped → IsLegal base stamped →
    AreSerial (taken_history w) (Ends base stamped t.end)
told_serial base stamped clock t w k seen still free place clear rising legal =
    let ts = taken_history w in
    let reads = valid_consistent base stamped t.id t.depends_on w.work k.work seen in
    let all = each_of_work (IsUnchanged stamped t.id t.end) w.work k.work still in
    serial_agrees ts (seen_by base stamped t.id) (Ends base stamped t.end) (agree_at_end base stamped clock (as_told base stamped t ts) reads all free clear rising legal (record { begun = place.begun; drawn = place.drawn; others = place.others })) reads.serial

-- and who is before and isn't settled leaves alone where it looked
told_apart : (base : Map) (stamped : List StampedTx) (clock : ℕ) (t : StampedTx) (w : TakenWork) → IsTakenWork t w → AreSeen base stamped t.id t.depends_on (looked_of w) → AreUnchanged stamped t.id t.end (looked_of w) → IsFreeToSettle stamped t.depends_on → IsPlaced stamped clock t → IsClear stamped → AllByRecursion (IsPlaced stamped clock) stamped →
    AllByRecursion (λ y. y.settled ≡ false → IsPreparing base stamped y) stamped → AllByRecursion (λ x. x.settled ≡ false → x.end < t.end → IsApart x (taken_history w)) stamped
told_apart base stamped clock t w k seen still free place clear placed preparing =
    let ts = taken_history w in
    apart_all base stamped clock (as_told base stamped t ts) (valid_consistent base stamped t.id t.depends_on w.work k.work seen) (each_of_work (IsUnchanged stamped t.id t.end) w.work k.work still) free clear (record { begun = place.begun; drawn = place.drawn; others = place.others }) placed preparing

told_after : (all : AllTaken) (before after : List StampedTx) (t : StampedTx) → AreToldApart all (before ++ t ∷ after) → t.settled ≡ false → AllByRecursion (λ u. u.settled ≡ true → IsApart t (taken_history (all u.end))) after
told_after all [] after t h o = h.0 o
told_after all (x ∷ xs) after t h o = told_after all xs after t h.1 o

-- another one, that stays Preparing
checking_one : (base : Map) (stamped : List StampedTx) (w : TakenWork) (x : StampedTx) (b : Bool) → (x.settled || b) ≡ false → IsChecking base stamped x w → IsChecking base stamped (record x { settled = x.settled || b; checked = cond b 0 x.checked }) w
checking_one base stamped w x b q h = record {
  found = record { seen = h.found.seen; still = h.found.still };
  all = λ v. record { seen = (h.all v).seen; still = (h.all v).still };
}

now_open : (a b : Bool) → (a || b) ≡ false → a ≡ false
now_open true b h = absurd (true≢false h)
now_open false b h = refl

same_end : (all : AllTaken) (t : StampedTx) (before after : List StampedTx) → AllByRecursion (λ u. u.end ≡ t.end → taken_history (all u.end) ≡ taken_history (all t.end)) (before ++ t ∷ after)
same_end all t before after = every (before ++ t ∷ after)
  where
    every : (xs : List StampedTx) → AllByRecursion (λ u. u.end ≡ t.end → taken_history (all u.end) ≡ taken_history (all t.end)) xs
    every [] = tt
    every (x ∷ xs) = (λ e. ap (λ n. taken_history (all n)) e, every xs)

pub shared_settled : (start : ℕ) (base : Map) (past : List StampedTx) (marks : Marks) (clock : ℕ) (active : List ActiveTx) (before after : List StampedTx) (t : StampedTx) (ended : List EndedTx) (all : AllTaken) → t.settled ≡ false → t.valid ≡ true → t.aborted_dependency ≡ None → IsFreeToSettle (before ++ t ∷ after) t.depends_on →
    let s : State = record { start = start; base = base; past = past; marks = marks; clock = clock; active = active; stamped = before ++ t ∷ after; ended = ended } in
    IsShared s all → IsShared (after_commit s t.id t.end) all
shared_settled start base past marks clock active before after t ended all o v d free h =
    let stamped = before ++ t ∷ after in
    let f = with_settled t.end in
    let l = like_settled t.end in
    let place = (each_back (IsPlaced stamped clock) before (t ∷ after) h.sound.placed).0 in
    let taken = (each_back (λ x. IsTakenWork x (all x.end)) before (t ∷ after) h.taken).0 in
    let found = ((each_back (λ x. x.settled ≡ false → IsChecking base stamped x (all x.end)) before (t ∷ after) h.checking).0 o).all v in
    let mine = (each_back (λ x. x.settled ≡ false → IsPreparing base stamped x) before (t ∷ after) h.sound.preparing).0 o in
    let reads = mine.consistent d in
    let seen = found.seen d in
    let ends = Ends base stamped t.end in
    let agree = agree_at_end base stamped clock t reads (mine.valid v) free h.sound.clear h.sound.rising h.sound.legal place in
    let below = rising_before before after t h.sound.rising in
    let above = rising_after before after t h.sound.rising in
    let m = after_settled before base in
    let at : ends ≡ m = left_settled t.end before (t ∷ after) base below (omega arith, each_weaker (λ x. t.end < x.end) (λ x. t.end ≤ x.end) (λ x lt. omega arith) after above) in
    let prints : footprint_of t.history m ≡ t.footprint = subst (λ (n : Map). footprint_of t.history n ≡ t.footprint) at (sym (footprint_agrees t.history (seen_by base stamped t.id) ends agree) ∙ reads.prints) in
    record {
      sound = settled_in start base past marks clock active before after t ended o v d free h.sound;
      active = h.active;
      stamped = each_map f (λ x. OnlyWrites x.history) (λ x. OnlyWrites x.history) (λ x q. q) stamped h.stamped;
      taken = each_map f (λ x. IsTakenWork x (all x.end)) (λ x. IsTakenWork x (all x.end)) (λ x q. record { work = q.work; writes = q.writes }) stamped h.taken;
      serial = told_between all t base before after o
          (each_weaker (λ x. x.end < t.end) (λ x. x.end ≢ t.end) (λ x lt e. absurd (omega arith)) before below)
          (each_weaker (λ x. t.end < x.end) (λ x. x.end ≢ t.end) (λ x lt e. absurd (omega arith)) after above)
          (subst (AreSerial (taken_history (all t.end))) at (told_serial base stamped clock t (all t.end) taken seen found.still free place h.sound.clear h.sound.rising h.sound.legal))
          (each_weaker (λ u. u.settled ≡ true → IsApart t (taken_history (all u.end))) (ToldAlike all m (after_history t.history m)) (λ u g q. each_weaker (λ w. LeavesAlone t (entry_of w.0)) (λ w. AgreeOn (entry_of w.0) m (after_history t.history m)) (λ w a. unchanged_agree (entry_of w.0) t m prints (changes_not t (entry_of w.0) d a)) (taken_history (all u.end)) (g q)) after (told_after all before after t h.apart o))
          h.serial;
      apart = apart_told_settled all t.end (taken_history (all t.end)) stamped h.sound.rising (same_end all t before after) (told_apart base stamped clock t (all t.end) taken seen found.still free place h.sound.clear h.sound.placed h.sound.preparing) h.apart;
      checking = each_map f (λ x. x.settled ≡ false → IsChecking base stamped x (all x.end)) (λ x. x.settled ≡ false → IsChecking base (map f stamped) x (all x.end))
          (λ x p q. checking_map f l base stamped (f x) (all x.end) (checking_one base stamped (all x.end) x (x.end == t.end) q (p (now_open x.settled (x.end == t.end) q)))) stamped h.checking;
      uncounted = each_map f (λ x. x.settled ≡ false → x.checked ≡ 0) (λ x. x.settled ≡ false → x.checked ≡ 0) (λ x p q. counted (x.end == t.end) (p (now_open x.settled (x.end == t.end) q))) stamped h.uncounted;
    }
  where
    counted : {n : ℕ} (b : Bool) → n ≡ 0 → cond b 0 n ≡ 0
    counted true e = refl
    counted false e = e

-- ---- an abort
pub shared_aborted_active : (s : State) (all : AllTaken) (t : ℕ) → IsShared s all → IsShared (after_abort_of_active s t) all
shared_aborted_active s all t h = record {
  sound = sound_after_abort_of_active s t h.sound;
  active = each_filter (λ r. not (r.id == t)) (λ r. OnlyWrites r.history) (λ r. OnlyWrites r.history) (λ r _ q. q) s.active h.active;
  stamped = h.stamped;
  taken = h.taken;
  serial = h.serial;
  apart = h.apart;
  checking = h.checking;
  uncounted = h.uncounted;
}

found_aborted : (base : Map) (stamped : List StampedTx) (t e : ℕ) (x : StampedTx) (looked : List Looked) → AllByRecursion (λ y. y.end ≡ e → y.settled ≡ false) stamped → AreFound base stamped x looked → AreFound base (map (with_flag t e) (filter (not_at e) stamped)) (with_flag t e x) looked
found_aborted base stamped t e x looked o h = record {
  seen = λ n. let q = spared t e x.depends_on x.aborted_dependency n in seen_aborted base stamped t e x.id x.depends_on looked o q.1 (h.seen q.0);
  still = still_map (with_flag t e) (like_flag t e) (filter (not_at e) stamped) x.id x.end looked (still_part (not_at e) stamped x.id x.end looked h.still);
}

pub shared_aborted : (s : State) (all : AllTaken) (t e : ℕ) → AllByRecursion (λ x. x.end ≡ e → x.settled ≡ false) s.stamped → IsShared s all → IsShared (after_abort_of_preparing s t e) all
shared_aborted s all t e o h =
    let rest = filter (not_at e) s.stamped in
    let f = with_flag t e in
    record {
      sound = sound_after_abort_of_preparing s t e o h.sound;
      active = each_map (active_with_flag t e) (λ r. OnlyWrites r.history) (λ r. OnlyWrites r.history) (λ r q. q) s.active h.active;
      stamped = each_map f (λ x. OnlyWrites x.history) (λ x. OnlyWrites x.history) (λ x q. q) rest (each_part (not_at e) (λ x. OnlyWrites x.history) s.stamped h.stamped);
      taken = each_map f (λ x. IsTakenWork x (all x.end)) (λ x. IsTakenWork x (all x.end)) (λ x q. record { work = q.work; writes = q.writes }) rest (each_part (not_at e) (λ x. IsTakenWork x (all x.end)) s.stamped h.taken);
      serial = serial_flag all t e s.base rest (serial_part all (not_at e) s.base s.stamped (each_weaker (λ x. x.end ≡ e → x.settled ≡ false) (λ x. not_at e x ≡ false → x.settled ≡ false) (λ x g q. g (eqb-true x.end e (not-false (x.end == e) q))) s.stamped o) h.serial);
      apart = apart_flag all t e rest (apart_part all (not_at e) s.stamped h.apart);
      checking = each_map f (λ x. x.settled ≡ false → IsChecking s.base s.stamped x (all x.end)) (λ x. x.settled ≡ false → IsChecking s.base (map f rest) x (all x.end))
          (λ x p q. let c = p q in record {
            found = found_aborted s.base s.stamped t e x (take (all x.end).checked (looked_of (all x.end))) o c.found;
            all = λ v. found_aborted s.base s.stamped t e x (looked_of (all x.end)) o (c.all v);
          }) rest (each_part (not_at e) (λ x. x.settled ≡ false → IsChecking s.base s.stamped x (all x.end)) s.stamped h.checking);
      uncounted = each_map f (λ x. x.settled ≡ false → x.checked ≡ 0) (λ x. x.settled ≡ false → x.checked ≡ 0) (λ x q. q) rest (each_part (not_at e) (λ x. x.settled ≡ false → x.checked ≡ 0) s.stamped h.uncounted);
    }

-- ---- a trim
pub shared_trimmed : (s : State) (all : AllTaken) (m : ℕ) → IsTrim m s → IsShared s all → IsShared (after_trim s m) all
shared_trimmed s all m t h =
    let back = filter (is_after m) s.stamped in
    let front = filter (is_to m) s.stamped in
    let base = after_settled front s.base in
    record {
      sound = sound_after_trim s m t h.sound;
      active = h.active;
      stamped = each_part (is_after m) (λ x. OnlyWrites x.history) s.stamped h.stamped;
      taken = each_part (is_after m) (λ x. IsTakenWork x (all x.end)) s.stamped h.taken;
      serial = serial_rest all s.base front back (subst (λ (l : List StampedTx). AreToldSerially all s.base l) (sym (parted m s.stamped h.sound.rising)) h.serial);
      apart = apart_part all (is_after m) s.stamped h.apart;
      checking = each_part (is_after m) (λ x. x.settled ≡ false → IsChecking base back x (all x.end)) s.stamped
          (each_both (λ x. x.settled ≡ false → m ≤ x.id) (λ x. IsPlaced s.stamped s.clock x × (x.settled ≡ false → IsChecking s.base s.stamped x (all x.end))) (λ x. x.settled ≡ false → IsChecking base back x (all x.end))
          (λ x le q o. let c = q.1 o in record {
            found = found_to x (take (all x.end).checked (looked_of (all x.end))) (le o) q.0 c.found;
            all = λ v. found_to x (looked_of (all x.end)) (le o) q.0 (c.all v);
          }) s.stamped t.preparing
          (each_both (IsPlaced s.stamped s.clock) (λ x. x.settled ≡ false → IsChecking s.base s.stamped x (all x.end)) (λ x. IsPlaced s.stamped s.clock x × (x.settled ≡ false → IsChecking s.base s.stamped x (all x.end))) (λ x p q. (p, q)) s.stamped h.sound.placed h.checking));
      uncounted = each_part (is_after m) (λ x. x.settled ≡ false → x.checked ≡ 0) s.stamped h.uncounted;
    }
  where
    found_to : (x : StampedTx) (looked : List Looked) → m ≤ x.id → IsPlaced s.stamped s.clock x → AreFound s.base s.stamped x looked → AreFound (after_settled (filter (is_to m) s.stamped) s.base) (filter (is_after m) s.stamped) x looked
    found_to x looked le p q = record {
      seen = λ n. seen_to m s.base s.stamped x.id x.depends_on looked h.sound.rising t.settled le p.others (q.seen n);
      still = still_part (is_after m) s.stamped x.id x.end looked q.still;
    }

-- ---- the tale: what the settled ones were told, one after another, is what the serial steps answer
pub same_rows : (ts us : History) (m : Map) → WriteTheSame ts us → after_history ts m ≡ after_history us m
same_rows ts us m h = fin.same_map keys_total exact_keys (after_history ts m) (after_history us m) (λ q. get-after_history q ts m ∙ ap (λ (w : Option Effect). content_after_last w (fin.get m q)) (h q) ∙ sym (get-after_history q us m))

pub tale_is_legal : (all : AllTaken) (m : Map) (xs : List StampedTx) → AllByRecursion (λ x. IsTakenWork x (all x.end)) xs → AreToldSerially all m xs → Legal m (told_tale all xs)
tale_is_legal all m [] k h = tt
tale_is_legal all m (x ∷ xs) k h = go x.settled h.0 (tale_is_legal all (after_history (cond x.settled x.history []) m) xs k.1 h.1)
  where
    go : (b : Bool) → (b ≡ true → AreSerial (taken_history (all x.end)) m) → Legal (after_history (cond b x.history []) m) (told_tale all xs) → Legal m (cond b (taken_history (all x.end) ∷ told_tale all xs) (told_tale all xs))
    go true s r = (
      s refl,
      subst (λ (n : Map). Legal n (told_tale all xs)) (same_rows x.history (taken_history (all x.end)) m k.0.writes ∙ sym (rows_after_all-after_history (taken_history (all x.end)) m (s refl))) r,
    )
    go false s r = r

pub shared_tale : (s : State) (all : AllTaken) → IsShared s all → Legal s.base (told_tale all s.stamped)
shared_tale s all h = tale_is_legal all s.base s.stamped h.taken h.serial
