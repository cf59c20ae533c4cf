-- A run before its first step is sound.
use Rattle.std.proofs.Common.{◌≡◌, ℕ, ◌≤◌, Bool, true, false, List, [], ◌∷◌, ◌++◌, map, Option, Ok, refl, sym, ap, ◌∙◌, subst, arith, append-nil}
use Rattle.std.specs.Prelude.{◌==◌, if◌then◌else◌}
use Rattle.std.specs.Option.{option_to_list}
use Rattle.std.proofs.Math.Path.{fun_ext}
use Rattle.std.proofs.lemmas.Bool.{eqb-false, eqb-true}
use Rattle.std.proofs.lemmas.List.Elements.{All-nil}
use Rattle.mvo_types.specs.declared.limits.TheConstants.{MAX_STAMP}
use Rattle.mvo_types.specs.Keys.{Map}
use Rattle.mvo_disk.specs.declared.disk.Disk.{Ghosts}
use Rattle.mvo_disk.specs.Disk.{Image, IsHonest}
use Rattle.mvo_group.specs.Data.{GroupData, group_of}
use Rattle.mvo_theory.specs.State.{Marks, opened}
use Rattle.mvo_readonly.specs.Whole.{opened_whole}
use Rattle.mvo_readonly.proofs.WholeRuns.{whole_opened}
use Rattle.mvo_core.specs.Data.{CoreData}
use Rattle.mvo_core.specs.Groups.{HaveRecordsOf}
use Rattle.mvo_store.specs.Rows.{after_groups}
use Rattle.mvo_store.specs.Seen.{disk_of, mark_of}
use Rattle.mvo_store.specs.StoreData.{StoreData}
use Rattle.mvo_store.specs.Standing.{Gives, HasSlots, KeepsRows, FollowsMark}
use Rattle.mvo_store.specs.Opening.{IsAnswer, KeepsContent}
use Rattle.mvo_store.proofs.Marked.{same_answer}
use Rattle.mvo_world.specs.WorldData.{WorldData, waiting}
use Rattle.mvo_world.specs.Promise.{IsOpenedOver}
use Rattle.mvo_engine.specs.run.Opening.{Opening, opening_of}
use Rattle.mvo_engine.specs.run.Watching.{Watched}
use Rattle.mvo_engine.specs.Booked.{IsBooked}
use Rattle.mvo_engine.specs.Opening.{GivesJust}
use Rattle.mvo_engine.specs.Sound.{IsSoundCore, IsSoundStore, last_mark}
use Rattle.mvo_engine.specs.Opened.{HasOpened, opening_groups}

-- ---- the opening group
opened_mark : (mark : ℕ) (b : Bool) → (mark == 0) ≡ b → last_mark (if b then [] else group_of 0 mark [] ∷ []) ≡ mark
opened_mark mark true e = sym (eqb-true mark 0 e)
opened_mark mark false e = refl

opened_rows : (mark : ℕ) (rows : Map) (b : Bool) → after_groups rows (if b then [] else group_of 0 mark [] ∷ []) ≡ rows
opened_rows mark rows true = refl
opened_rows mark rows false = refl

opened_of : (rows : Map) (mark : ℕ) → mark ≤ MAX_STAMP → (b : Bool) → (mark == 0) ≡ b → HaveRecordsOf (opened rows mark) 0 (if b then [] else group_of 0 mark [] ∷ [])
opened_of rows mark le true e = tt
opened_of rows mark le false e =
    let ne = eqb-false mark 0 e in (
      refl,
      record {
        closed = record { drawn = omega arith; above = tt };
        records = tt;
        rules = record { above = omega (arith, ne); mark = le; few = omega arith; rise = λ k lt. absurd (omega (arith, lt)); within = All-nil _; each = All-nil _; size = omega arith };
      },
      tt,
    )

-- ---- a world as its opening gave it
none_sent : (gs hs : List GroupData) → map (λ g. g.mark) (gs ++ hs) ≡ [] → gs ≡ []
none_sent [] hs e = refl
none_sent (g ∷ gs) hs e = absurd cc

just_given : (content : Image) (answered : Map) (mark : ℕ) → IsAnswer content (Ok (answered, mark)) → (rows : Map) → Gives rows mark content → GivesJust rows mark content
just_given content answered mark answer rows gives = record {
  gives = gives;
  no_other = λ r m other.
      let same : ◌≡◌ {A = Map × ℕ} (r, m) (rows, mark) = same_answer content answered mark answer r m other ∙ sym (same_answer content answered mark answer rows mark gives) in
      (ap (λ (x : Map × ℕ). x.0) same, ap (λ (x : Map × ℕ). x.1) same);
}

pub opened_world : {D : Type 0} (d : Ghosts D) (old : D) (w : WorldData D) → KeepsContent d old (disk_of w.store) → (IsHonest (d.moment (disk_of w.store)) → (r : Map) × IsAnswer (d.content old) (Ok (r, mark_of w.store))) → (rows : Map) → IsOpenedOver d old rows w → HasOpened d (opening_of d (disk_of w.store)) w.core w.store
opened_world {D} d old w content answer rows is = record {
  rows = rows;
  gives = λ now. let a = answer now in subst (GivesJust rows (mark_of w.store)) (sym same) (just_given (d.content old) a.0 (mark_of w.store) a.1 rows (is.gives now));
  stamp = is.stamp;
  core = is.begins.core;
  pending = is.begins.store.pending;
  was = λ now. now;
  keeps = λ now slots.
      let h = is.after (λ _. subst HasSlots same slots) in
      subst (λ (gs : List GroupData). KeepsRows d w.store (after_groups rows gs)) (none_sent h.sent (waiting w) h.marks) (h.store now);
}
  where
    same : d.content (disk_of w.store) ≡ d.content old
    same = fun_ext content

-- by another name of its opening
pub renamed : {D : Type 0} (d : Ghosts D) {old new : Opening} {c : CoreData} {s : StoreData D} → HasOpened d old c s → old ≡ new → HasOpened d new c s
renamed d {c = c} {s = s} h same = subst (λ (x : Opening). HasOpened d x c s) same h

module _ {D : Type 0} (d : Ghosts D) {o : Opening} {c : CoreData} {s : StoreData D} (h : HasOpened d o c s) where
  pub sound_core : (sent : List GroupData) → sent ≡ opening_groups (mark_of s) → IsSoundCore o c sent
  sound_core sent is = record {
    rows = h.rows;
    mark = mark_of s;
    gives = h.gives;
    steps = [];
    own = [];
    whole = opened_whole h.rows (mark_of s);
    stands = record { core = h.core; kept = whole_opened h.rows (mark_of s) };
    closed = record { drawn = omega arith; above = tt };
    groups = subst (HaveRecordsOf (opened h.rows (mark_of s)) 0) (sym is) (opened_of h.rows (mark_of s) h.stamp (mark_of s == 0) refl);
    last = ap last_mark is ∙ opened_mark (mark_of s) (mark_of s == 0) refl ∙ ap (λ (m : Marks). m.closed) h.core.marks;
  }

  -- nothing is stored, so the book counts nothing
  pub booked : (w : Watched) (total : ℕ) → total ≡ 0 → IsBooked w c total
  booked w total none = record {
    rows = h.rows;
    steps = [];
    own = [];
    whole = opened_whole h.rows (mark_of s);
    stands = record { core = h.core; kept = whole_opened h.rows (mark_of s) };
    counted = λ low. none;
  }

  pub sound_store : (received : List GroupData) → received ≡ opening_groups (mark_of s) → IsSoundStore d o s received
  sound_store received is = record {
    rows = h.rows;
    mark = mark_of s;
    gives = h.gives;
    durable = opening_groups (mark_of s);
    received_is = is ∙ sym (append-nil (opening_groups (mark_of s))) ∙ ap (λ (o : Option GroupData). opening_groups (mark_of s) ++ option_to_list o) (sym h.pending);
    mark_is = sym (opened_mark (mark_of s) (mark_of s == 0) refl);
    follows = subst (FollowsMark (mark_of s)) (sym h.pending) tt;
    was = h.was;
    keeps = λ now slots. subst (KeepsRows d s) (sym (opened_rows (mark_of s) h.rows (mark_of s == 0))) (h.keeps now slots);
  }
