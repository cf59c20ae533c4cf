-- What an image gives: its mark is a timestamp of the clock, and what opening a disk answers is fixed by it. A disk that is synced, a store over what is found on it, and a new one.
use Rattle.std.proofs.Common.{◌≡◌, ℕ, ◌+◌, ◌≤◌, ⊎_elim, length, List, [], ◌∷◌, Ok, sym, subst, arith, inl, inr, Err, ap, ◌∙◌, ◌<◌, false, None, zero, suc, Bool, ◌++◌, refl}
use Rattle.mvo_types.specs.declared.limits.TheConstants.{MAX_STAMP, MAX_SEGMENT_LEN}
use Rattle.mvo_types.specs.Keys.{Map}
use Rattle.mvo_group.specs.Data.{GroupData}
use Rattle.mvo_group.specs.Body.{body_of}
use Rattle.mvo_format.specs.declared.format.TheConstants.{LAST_FORMAT}
use Rattle.mvo_format.specs.declared.header.TheConstants.{HEADER_LEN}
use Rattle.mvo_frame.specs.Frames.{Frames, sized, mark_after}
use Rattle.mvo_pair.specs.declared.pair.Pair.{Pair}
use Rattle.mvo_manifest.specs.Rules.{PairsRise, IsManifest, IsFile}
use Rattle.mvo_recovery.proofs.Later.{last_known}
use Rattle.mvo_recovery.specs.image.Opens.{OpeningOutcome}
use Rattle.mvo_recovery.specs.image.Gives.{HaveGroups}
use Rattle.mvo_recovery.specs.image.Files.{SegmentSays}
use Rattle.mvo_store.specs.Placing.{HavePlacesSoFar}
use Rattle.mvo_store.specs.Reading.{HaveReadings}
use Rattle.mvo_places.specs.Places.{PlaceMap}
use Rattle.mvo_store.specs.Standing.{Gives, IsUp, HasSlots, MayBeLeft, KeepsRows}
use Rattle.mvo_types.specs.declared.refusal.Refusal.{Refusal}
use Rattle.mvo_types.specs.declared.refusal.Refusal.TheVariants.{ClockSpent, AlreadyFormatted}
use Rattle.mvo_disk.specs.declared.disk.Disk.{Ghosts}
use Rattle.mvo_recovery.proofs.image.Opening.{exact}
use Rattle.mvo_recovery.proofs.Opened.{newest_stands}
use Rattle.mvo_store.specs.Opening.{IsAnswer, IsNotOpened, IsNotOfFiles, HasSynced}
use Rattle.std.proofs.lemmas.Bool.{lt-leb}
use Rattle.std.proofs.lemmas.List.Elements.{All-contains}
use Rattle.std.specs.FinMap as map
use Rattle.mvo_disk.specs.Disk.{Only, AllOf, Image, OthersStay, IsHonest}
use Rattle.mvo_format.specs.Found.{header}
use Rattle.mvo_frame.specs.declared.magic.TheConstants.{MAGIC}
use Rattle.mvo_manifest.specs.Data.{ManifestData, named}
use Rattle.mvo_manifest.specs.Slots.{IsShut, IsOpen}
use Rattle.mvo_places.specs.Rows.{rows_of, after_groups}
use Rattle.mvo_places.specs.Places.{PlaceTable}
use Rattle.mvo_load.specs.Loaded.{SealedSays, IsLoaded}
use Rattle.mvo_load.specs.Parts.{HavePlaces}
use Rattle.mvo_recovery.specs.Parts.{Parts, HaveSealed, IsLastFile}
use Rattle.mvo_recovery.specs.Settled.{IsUsed, IsInstalled, IsSettled}
use Rattle.mvo_recovery.proofs.Framed.{installed_framed, settled_gives}
use Rattle.mvo_recovery.specs.Beginning.{first_manifest, no_parts}
use Rattle.mvo_recovery.proofs.Appended.{only_stays}
use Rattle.mvo_recovery.proofs.Rotated.{fresh_frames}
use Rattle.mvo_recovery.proofs.Begun.{first_settled}
use Rattle.mvo_types.specs.Causes.{when, or_next}
use Rattle.mvo_store.specs.declared.limits.TheConstants.{MAX_FAULTS}
use Rattle.mvo_store.specs.Jobs.{no_jobs}
use Rattle.mvo_store.specs.StoreData.{StoreData}
use Rattle.mvo_store.specs.Safe.{IsSafe}
use Rattle.mvo_store.specs.Formatting.{has_open_slot, why_not_format, IsFormatted}
use Rattle.mvo_load.specs.Old.{is_old}
use Rattle.mvo_store.specs.Old.{KnowsOld}
use Rattle.mvo_store.proofs.Marks.{known_stays}
use Rattle.mvo_store.proofs.Keeping.{slots_as, up_keeps, settled_slots}

pub after_frames : (place mark : ℕ) (gs : List GroupData) (bytes : List ℕ) → mark ≤ MAX_STAMP → Frames place mark gs bytes → mark_after mark gs ≤ MAX_STAMP
after_frames place mark [] bytes le f = le
after_frames place mark (g ∷ gs) bytes le f = after_frames (place + 1 + length (sized (body_of g))) g.mark gs f.1 f.3.is.rules.mark f.4

after_segments : (upto : ℕ) (image : Image) (ns : List ℕ) (mark : ℕ) (gs : List GroupData) (next : ℕ) → mark ≤ MAX_STAMP → HaveGroups (SegmentSays upto) image ns mark gs next → next ≤ MAX_STAMP
after_segments upto image [] mark gs next le h = subst (λ (m : ℕ). m ≤ MAX_STAMP) (sym h.1) le
after_segments upto image (n ∷ ns) mark gs next le h =
    after_segments upto image ns (mark_after mark h.0) h.1 next (after_frames HEADER_LEN mark h.0 h.3.has.rest le h.3.has.frames) h.4

pub after_pairs : (lo : ℕ) (ps : List Pair) (hi : ℕ) → lo ≤ MAX_STAMP → PairsRise lo ps hi → hi ≤ MAX_STAMP
after_pairs lo [] hi le h = subst (λ (m : ℕ). m ≤ MAX_STAMP) h le
after_pairs lo (p ∷ ps) hi le h = after_pairs p.hi.0 ps hi h.0.top h.1

-- what an image gives is the one answer of opening it
same_outcome : (content : Image) (out : OpeningOutcome) → IsAnswer content out → (rows : Map) (mark : ℕ) → Gives rows mark content → ◌≡◌ {A = OpeningOutcome} (Ok (rows, mark)) out
same_outcome content out answer rows mark gives = answer.1 (Ok (rows, mark)) ((exact content rows mark).1 gives)

-- so it is the rows and the mark that were answered
pub same_answer : (content : Image) (rows : Map) (mark : ℕ) → IsAnswer content (Ok (rows, mark)) → (given : Map) (at : ℕ) → Gives given at content → ◌≡◌ {A = Map × ℕ} (given, at) (rows, mark)
same_answer content rows mark answer given at gives =
    let same = same_outcome content (Ok (rows, mark)) answer given at gives in cc same

pub same_rows : (content : Image) (rows : Map) (mark : ℕ) → IsAnswer content (Ok (rows, mark)) → (given : Map) → Gives given mark content → given ≡ rows
same_rows content rows mark answer given gives =
    ap (λ (x : Map × ℕ). x.0) (same_answer content rows mark answer given mark gives)

module _ {D : Type 0} (d : Ghosts D) where
  -- what gives rows isn't refused for its bytes
  pub not_of_files : (old new : D) (e : Refusal) → IsNotOpened d old e new → IsHonest (d.moment new) → (rows : Map) (mark : ℕ) → Gives rows mark (d.content old) → IsNotOfFiles e
  not_of_files old new e (inl spent) honest rows mark gives = inl spent.refusal
  not_of_files old new e (inr refused) honest rows mark gives = ⊎_elim (λ stop. inr stop) (λ answer. let same = same_outcome (d.content old) (Err e) answer rows mark gives in absurd (cc same)) (refused.why honest)

-- ---- what is opened

have_sealed : (upto : ℕ) (image : Image) (ns : List ℕ) (mark : ℕ) (gs : List GroupData) (next : ℕ) → HaveGroups (SealedSays upto) image ns mark gs next → HaveSealed upto image ns mark gs next
have_sealed upto image [] mark gs next have = have
have_sealed upto image (n ∷ ns) mark gs next have = (have.0, have.1, have.2, have.3, have_sealed upto image ns (mark_after mark have.0) have.1 next have.4)

-- each file that is used is one of the disk
used_below : (m : ManifestData) → IsManifest m → (n : ℕ) → IsUsed m n → n < 1024
used_below m is n (inl lt) = omega (arith, lt)
used_below m is n (inr has) = let file : IsFile n = All-contains IsFile (named m) n is.rules.files has in omega (arith, file.1)

module _ (image : Image) (m : ManifestData) (rows : Map) (mark gate : ℕ) (loaded : IsLoaded image m rows mark gate) where
  abbrev pub parts_loaded : Parts
  parts_loaded = record { lives = loaded.lives; sealed = loaded.log.last.earlier; middle = loaded.log.last.middle; last = loaded.log.last.own }

  pub installed_loaded : IsInstalled image m parts_loaded
  installed_loaded =
      let i = loaded.installed in
      let last = loaded.log.last in
      let s = newest_stands image m (record { even = i.first; odd = i.second; even_has = i.first_has; odd_has = i.second_has; greatest = i.is }) in
      record {
        own = s.own;
        other = s.other;
        parts = record {
          sealed_files = last.sealed;
          last_file = last.last;
          segments = last.files;
          live = loaded.live;
          distinct = loaded.distinct;
          sealed = have_sealed m.version image last.sealed m.checkpoint_mark last.earlier last.middle last.before;
          last = record { format = last.format; known = last.known; has = last.stands.has; allowed = last.allowed; some = tt };
        };
      }

-- the store over what was read is safe
pub opened_safe : {D : Type 0} (d : Ghosts D) (old new : D) (m : ManifestData) (places : PlaceTable) (marks : List Bool) (mark gate file : ℕ) → IsFile file → gate < MAX_SEGMENT_LEN → HasSynced d (IsUsed m) 1024 old new → d.fault_count old < MAX_FAULTS
    → IsSafe d (record { disk = new; manifest = m; places = places; old_marks = marks; segment = record { file = file; gate = gate; next = gate }; mark = mark; pending = None; written = false; jobs = no_jobs; down = false })
opened_safe d old new m places marks mark gate file is few synced faults = record { file = is; few = few; written = λ e. absurd (cc e); jobs = tt; apart = tt; reading = record { pairs = tt; segment = tt }; room_for = tt; room = omega (arith, synced.count, faults) }

-- nothing is read
no_readings : (content : Image) (m : ManifestData) (at : PlaceMap) → HaveReadings content m at no_jobs
no_readings content m at = record { pairs = tt; segment = tt }

module _ {D : Type 0} (d : Ghosts D) (old new : D) (m : ManifestData) (rows : Map) (mark gate file : ℕ) (loaded : IsLoaded (d.content old) m rows mark gate) (places : PlaceTable) (have : HavePlaces m.version (d.content old) m.pairs places.at) (marks : List Bool) (knows : KnowsOld (d.content old) m 1024 marks) (synced : HasSynced d (IsUsed m) 1024 old new) (is : IsLastFile m file) (few : d.fault_count old < MAX_FAULTS) where
  abbrev pub opened_store : StoreData D
  opened_store = record {
    disk = new;
    manifest = m;
    places = places;
    old_marks = marks;
    segment = record { file = file; gate = gate; next = gate };
    mark = mark;
    pending = None;
    written = false;
    jobs = no_jobs;
    down = false;
  }

  settled_opened : IsSettled (d.content new) (d.may_leave new) m (parts_loaded (d.content old) m rows mark gate loaded)
  settled_opened =
      let was = installed_loaded (d.content old) m rows mark gate loaded in
      record {
        installed = installed_framed (d.content old) (d.content new) m (parts_loaded (d.content old) m rows mark gate loaded) (λ n _. synced.content n) was;
        durable = λ n used. synced.durable n (used_below m was.own.is n used) used;
      }

  pub opened_up : IsUp d opened_store rows
  opened_up =
      let log = loaded.log.last in
      let rows_are = loaded.log.rows_are ∙ ap (after_groups (rows_of loaded.lives)) log.all in
      let are : HavePlacesSoFar m.pairs loaded.lives no_jobs places.at = record { at = places.at; are = have.are loaded.lives loaded.live; so_far = refl } in
      let known = known_stays (d.content old) (d.content new) m 1024 marks (λ n _. ap is_old (synced.content n)) knows in
      record {
        up = refl;
        parts = parts_loaded (d.content old) m rows mark gate loaded;
        settled = settled_opened;
        rows_are = rows_are;
        mark_is = log.mark_is;
        marks = known;
        last = is;
        gate = log.stands.place;
        few = log.few;
        pending = tt;
        written = λ e. absurd (cc e);
        jobs = tt;
        apart = tt;
        reading = no_readings (d.content new) m places.at;
        places = are;
        room_for = tt;
        room = omega (arith, synced.count, few);
      }

  pub opened_keeps : HasSlots (d.content old) → KeepsRows d opened_store rows
  opened_keeps slots = up_keeps d opened_store rows opened_up (slots_as (d.content old) (d.content new) (synced.content 0) (synced.content 1) slots)

-- slot 1 is shut, then file 2 fresh, then slot 0 open
module _ (shut fresh new : Image) (may_shut may_fresh may_new : ℕ → List ℕ → Type 0) (second : OthersStay 2 shut fresh may_shut may_fresh) (third : OthersStay 0 fresh new may_fresh may_new) where
  pub written_settled : IsShut (shut 1) → Only (shut 1) (may_shut 1) → fresh 2 ≡ header MAGIC LAST_FORMAT.version ++ 0 ∷ [] → Only (fresh 2) (may_fresh 2) → IsOpen 0 (first_manifest LAST_FORMAT.version 0 2) (new 0) → Only (new 0) (may_new 0)
      → IsSettled new may_new (first_manifest LAST_FORMAT.version 0 2) no_parts
  written_settled is_shut shut_only bytes fresh_only is_open open_only =
      first_settled LAST_FORMAT last_known new may_new 0 2 is_open (subst IsShut (sym same_second) is_shut)
      (record { frames = λ mark. fresh_frames LAST_FORMAT.version mark (new 2) (third.content 2 (λ e. omega (arith, e)) ∙ bytes); durable = only_stays fresh new may_fresh may_new 0 third 2 (λ e. omega (arith, e)) fresh_only })
      slots
    where
      same_second : new 1 ≡ shut 1
      same_second = third.content 1 (λ e. omega (arith, e)) ∙ second.content 1 (λ e. omega (arith, e))

      slots : (slot : ℕ) → slot < 2 → Only (new slot) (may_new slot)
      slots zero lt = open_only
      slots (suc zero) lt = only_stays fresh new may_fresh may_new 0 third 1 (λ e. omega (arith, e)) (only_stays shut fresh may_shut may_fresh 2 second 1 (λ e. omega (arith, e)) shut_only)
      slots (suc (suc n)) lt = absurd (omega (arith, lt))

pub none_stands : (faults : ℕ) (content : Image) → faults < MAX_FAULTS → has_open_slot content ≡ false → why_not_format faults content ≡ None
none_stands faults content few shut =
    ap (λ (b : Bool). or_next (when b ClockSpent) (or_next (when (has_open_slot content) AlreadyFormatted) None)) (lt-leb MAX_FAULTS faults few) ∙ ap (λ (b : Bool). or_next (when b AlreadyFormatted) None) shut

module _ {D : Type 0} (d : Ghosts D) (old new : D) where
  pub is_formatted : why_not_format (d.fault_count old) (d.content old) ≡ None → ((n : ℕ) → d.may_leave new n (d.content new n)) → IsSettled (d.content new) (d.may_leave new) (first_manifest LAST_FORMAT.version 0 2) no_parts → HasSlots (d.content new)
      → IsFormatted d old new
  is_formatted free stays settled slots =
      let gives : (image : Image) → AllOf (d.may_leave new) image → Gives map.empty 0 image = settled_gives (d.content new) (d.may_leave new) (first_manifest LAST_FORMAT.version 0 2) no_parts settled in
      let images : (image : Image) → AllOf (d.may_leave new) image → MayBeLeft map.empty 0 None image = λ image all. record { slots = settled_slots d new (first_manifest LAST_FORMAT.version 0 2) no_parts settled slots image all; gives = gives image all } in
      let now = gives (d.content new) stays in
      search
