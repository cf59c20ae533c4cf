-- Each call of the core: what it leaves of the versions and the table.
use Rattle.std.proofs.Common.{◌≡◌, ℕ, ◌+◌, Bool, true, false, cond, not, List, [], ◌∷◌, ◌++◌, Option, None, Some, refl, sym, ap, ◌∙◌, subst, arith}
use Rattle.std.specs.Prelude.{◌&&◌, is_some}
use Rattle.mvo_types.specs.Write.{content_after_last}
use Rattle.std.specs.FinMap as fin
use Rattle.std.proofs.lemmas.Bool.{true≢false}
use Rattle.mvo_types.specs.declared.row.RowKey.{RowKey}
use Rattle.mvo_types.specs.declared.op.Op.TheVariants.{Read, Scan, Insert, Update, Delete}
use Rattle.mvo_types.specs.RowData.{RowData, ContentData, content_of}
use Rattle.mvo_types.specs.Keys.{Map}
use Rattle.mvo_types.specs.AnswerData.AnswerData.{Inserted, Exists, Updated, Deleted, Absent as NotThere}
use Rattle.mvo_model.specs.History.{net_write, after_history}
use Rattle.mvo_model.proofs.Serials.{get-after_history}
use Rattle.mvo_theory.specs.State.{history_of_active, State, StampedTx, ActiveTx, snapshot, seen_by, active_of, preparing_of}
use Rattle.mvo_theory.specs.Changes.{after_begin, after_operation, after_answer, after_check}
use Rattle.mvo_theory.specs.Causes.{conflict, claimed_by, awaited, why_not_precommit, why_not_settle}
use Rattle.mvo_theory.specs.Steps.{after_precommit_of, after_precommit, after_validate_of, after_validate, after_commit_of, after_settle_unless, after_settle, after_abort_of, after_abort}
use Rattle.mvo_theory.specs.Phases.{phase_in}
use Rattle.mvo_theory.specs.Calls.{answer_in}
use Rattle.mvo_shared.specs.Standing.{IsStanding}
use Rattle.mvo_theory.proofs.Cases.{found_is}
use Rattle.mvo_theory.proofs.Phases.{IsUnended}
use Rattle.mvo_theory.proofs.Kept.{sees}
use Rattle.mvo_theory.proofs.Who.{active_holds, id_of, active_after_prepare, preparing_settled}
use Rattle.mvo_chain.specs.declared.version.Version.{Version}
use Rattle.mvo_representation.specs.Words.{Phases, ends_of, cause_at_end, IsShownAt}
use Rattle.mvo_representation.specs.Versions.{AreVersionsOf}
use Rattle.mvo_representation.proofs.Shown.{active_begins, behind_is}
use Rattle.mvo_representation.proofs.Version.{IsShownRow, version_shown}
use Rattle.mvo_representation.proofs.Conflict.{cause_right}
use Rattle.mvo_representation.proofs.Quiet.{kept_after_begin, kept_after_check, kept_after_commit, kept_after_abort_of_active}
use Rattle.mvo_representation.proofs.Ending.{kept_after_prepare, kept_after_abort_of_preparing}
use Rattle.mvo_representation.proofs.Answers.{kept_unwritten}
use Rattle.mvo_representation.proofs.Reworded.{kept_after_answer}
use Rattle.mvo_representation.specs.Steps.{IsOwnNewest, fresh, ended_by}
use Rattle.mvo_representation.proofs.Writing.{EndsOther, ends_other, ends_own, claim_of, kept_insert, kept_update, kept_delete}

abbrev pub IsTable : Phases → State → Type 0
IsTable table s = (u : ℕ) → table u ≡ phase_in s u

-- ---- begin, precommit, validate, settle, rollback
pub kept_by_begin : (opening : Map) (s : State) (table table' : Phases) (vs : List Version) → IsStanding opening s → AreVersionsOf s table vs → IsTable table' (after_begin s (s.clock + 1)) → AreVersionsOf (after_begin s (s.clock + 1)) table' vs
kept_by_begin opening s table table' vs k h ph = kept_after_begin s table table' vs (s.clock + 1) (omega arith) k.sound k.single k.started h ph

pub kept_by_precommit : (opening : Map) (s : State) (table table' : Phases) (vs : List Version) (t : ℕ) → IsStanding opening s → AreVersionsOf s table vs → why_not_precommit s t ≡ None → IsTable table' (after_precommit s t) → AreVersionsOf (after_precommit s t) table' vs
kept_by_precommit opening s table table' vs t k h n ph =
    let w = active_after_prepare s t n in
    subst (λ (o : Option ActiveTx). IsTable table' (after_precommit_of s o) → AreVersionsOf (after_precommit_of s o) table' vs) (sym w.1)
    (λ ph. kept_after_prepare s table table' vs w.0 (s.clock + 1) (omega arith) k.sound k.single k.started h (subst (λ (u : ℕ). active_of u s.active ≡ Some w.0) (sym (id_of t s.active w.0 w.1)) w.1) ph) ph

pub kept_by_validate : (s : State) (table : Phases) (vs : List Version) (t : ℕ) → AreVersionsOf s table vs → IsTable table (after_validate s t) → AreVersionsOf (after_validate s t) table vs
kept_by_validate s table vs t h = go (preparing_of t s.stamped)
  where
    by : (x : StampedTx) (v b : Bool) → IsTable table (cond b s (after_check s x.end v)) → AreVersionsOf (cond b s (after_check s x.end v)) table vs
    by x v true ph = h
    by x v false ph = kept_after_check s table vs x.end v h ph

    go : (w : Option StampedTx) → IsTable table (after_validate_of s w) → AreVersionsOf (after_validate_of s w) table vs
    go None ph = h
    go (Some x) ph = by x _ x.valid ph

pub kept_by_settle : (opening : Map) (s : State) (table table' : Phases) (vs : List Version) (t : ℕ) → IsStanding opening s → AreVersionsOf s table vs → why_not_settle s t ≡ None → awaited s t ≡ None → IsTable table' (after_settle s t) → AreVersionsOf (after_settle s t) table' vs
kept_by_settle opening s table table' vs t k h n a ph =
    let w = preparing_settled s t n in
    subst (λ (o : Option StampedTx). IsTable table' (after_settle_unless s t o) → AreVersionsOf (after_settle_unless s t o) table' vs) (sym a)
    (subst (λ (o : Option StampedTx). IsTable table' (after_commit_of s t o) → AreVersionsOf (after_commit_of s t o) table' vs) (sym w.1)
    (λ ph. kept_after_commit s table table' vs t w.0 k.sound k.single h w.1 ph)) ph

pub kept_by_abort : (opening : Map) (s : State) (table table' : Phases) (vs : List Version) (t : ℕ) → IsStanding opening s → AreVersionsOf s table vs → IsUnended s t → IsTable table' (after_abort s t) → AreVersionsOf (after_abort s t) table' vs
kept_by_abort opening s table table' vs t k h un = go (preparing_of t s.stamped) refl
  where
    go : (w : Option StampedTx) → preparing_of t s.stamped ≡ w → IsTable table' (after_abort_of s t w) → AreVersionsOf (after_abort_of s t w) table' vs
    go None e ph = let r = un e in kept_after_abort_of_active s table table' vs t r.0 k.single h r.1 ph
    go (Some x) e ph = kept_after_abort_of_preparing s table table' vs t x k.sound k.single k.started h e ph

-- ---- operations
seen_in : (opening : Map) (s : State) (t : ℕ) (mine : ActiveTx) → IsStanding opening s → active_of t s.active ≡ Some mine → snapshot s t ≡ after_history mine.history (seen_by s.base s.stamped mine.id)
seen_in opening s t mine k f = let w = active_holds (λ r. r.id ≡ t → snapshot s t ≡ after_history r.history (seen_by s.base s.stamped r.id)) t s.active mine f (sees s t k.numbered) in w.0 w.1

none_of : (o : Option ContentData) → is_some o ≡ false → o ≡ None
none_of None e = refl
none_of (Some h) e = absurd (true≢false e)

-- an insert where none is shown
pub kept_by_insert : (opening : Map) (s : State) (table : Phases) (vs : List Version) (t : ℕ) (mine : ActiveTx) (r : RowData) → IsStanding opening s → AreVersionsOf s table vs → active_of t s.active ≡ Some mine → fin.contains_key (snapshot s t) r.key ≡ false → AreVersionsOf (after_answer s t (Insert r) (answer_in s t (Insert r))) table (vs ++ fresh t r ∷ [])
kept_by_insert opening s table vs t mine r k h f e =
    kept_after_answer s table (vs ++ fresh t r ∷ []) t (Insert r) (answer_in s t (Insert r)) (
    subst (λ (b : Bool). AreVersionsOf (after_operation s t (Insert r) (cond b Exists Inserted)) table (vs ++ fresh t r ∷ [])) (sym e)
    (kept_insert s table t (Insert r) Inserted mine vs r k.numbered h f
    (none_of (fin.get (after_history mine.history (seen_by s.base s.stamped mine.id)) r.key) (ap (λ m. is_some (fin.get m r.key)) (sym (seen_in opening s t mine k f)) ∙ e)) refl refl))

-- where one is shown, and where an update or a delete finds none
pub kept_by_insert_exists : (opening : Map) (s : State) (table : Phases) (vs : List Version) (t : ℕ) (mine : ActiveTx) (r : RowData) → IsStanding opening s → AreVersionsOf s table vs → active_of t s.active ≡ Some mine → fin.contains_key (snapshot s t) r.key ≡ true → AreVersionsOf (after_answer s t (Insert r) (answer_in s t (Insert r))) table vs
kept_by_insert_exists opening s table vs t mine r k h f e =
    kept_after_answer s table vs t (Insert r) (answer_in s t (Insert r)) (
    subst (λ (b : Bool). AreVersionsOf (after_operation s t (Insert r) (cond b Exists Inserted)) table vs) (sym e) (kept_unwritten s table t (Insert r) Exists mine vs k.numbered h f refl refl))

pub kept_by_update_absent : (opening : Map) (s : State) (table : Phases) (vs : List Version) (t : ℕ) (mine : ActiveTx) (r : RowData) → IsStanding opening s → AreVersionsOf s table vs → active_of t s.active ≡ Some mine → fin.contains_key (snapshot s t) r.key ≡ false → AreVersionsOf (after_answer s t (Update r) (answer_in s t (Update r))) table vs
kept_by_update_absent opening s table vs t mine r k h f e =
    kept_after_answer s table vs t (Update r) (answer_in s t (Update r)) (
    subst (λ (b : Bool). AreVersionsOf (after_operation s t (Update r) (cond b Updated NotThere)) table vs) (sym e) (kept_unwritten s table t (Update r) NotThere mine vs k.numbered h f refl refl))

pub kept_by_delete_absent : (opening : Map) (s : State) (table : Phases) (vs : List Version) (t : ℕ) (mine : ActiveTx) (q : RowKey) → IsStanding opening s → AreVersionsOf s table vs → active_of t s.active ≡ Some mine → fin.contains_key (snapshot s t) q ≡ false → AreVersionsOf (after_answer s t (Delete q) (answer_in s t (Delete q))) table vs
kept_by_delete_absent opening s table vs t mine q k h f e =
    kept_after_answer s table vs t (Delete q) (answer_in s t (Delete q)) (
    subst (λ (b : Bool). AreVersionsOf (after_operation s t (Delete q) (cond b Deleted NotThere)) table vs) (sym e) (kept_unwritten s table t (Delete q) NotThere mine vs k.numbered h f refl refl))

pub kept_by_read : (opening : Map) (s : State) (table : Phases) (vs : List Version) (t : ℕ) (mine : ActiveTx) (q : RowKey) → IsStanding opening s → AreVersionsOf s table vs → active_of t s.active ≡ Some mine → AreVersionsOf (after_answer s t (Read q) (answer_in s t (Read q))) table vs
kept_by_read opening s table vs t mine q k h f =
    kept_after_answer s table vs t (Read q) (answer_in s t (Read q)) (
    kept_unwritten s table t (Read q) (answer_in s t (Read q)) mine vs k.numbered h f refl refl)

pub kept_by_scan : (opening : Map) (s : State) (table : Phases) (vs : List Version) (t : ℕ) (mine : ActiveTx) (tab lo hi : ℕ) → IsStanding opening s → AreVersionsOf s table vs → active_of t s.active ≡ Some mine → AreVersionsOf (after_answer s t (Scan tab lo hi) (answer_in s t (Scan tab lo hi))) table vs
kept_by_scan opening s table vs t mine tab lo hi k h f =
    kept_after_answer s table vs t (Scan tab lo hi) (answer_in s t (Scan tab lo hi)) (
    kept_unwritten s table t (Scan tab lo hi) (answer_in s t (Scan tab lo hi)) mine vs k.numbered h f refl refl)

-- an update and a delete of another's version, and of its own newest: the version is in the snapshot
found : (opening : Map) (s : State) (t : ℕ) (mine : ActiveTx) (v : Version) → IsStanding opening s → active_of t s.active ≡ Some mine → fin.get (after_history mine.history (seen_by s.base s.stamped mine.id)) v.row.key ≡ Some (content_of v.row) → fin.contains_key (snapshot s t) v.row.key ≡ true
found opening s t mine v k f e = ap (λ m. is_some (fin.get m v.row.key)) (seen_in opening s t mine k f) ∙ ap is_some e

pub kept_by_update_other : (opening : Map) (s : State) (table : Phases) (xs : List Version) (v : Version) (ys : List Version) (t : ℕ) (mine : ActiveTx) (r : RowData) (o : ℕ) → IsStanding opening s → AreVersionsOf s table (xs ++ v ∷ ys) → active_of t s.active ≡ Some mine → EndsOther s table t mine (xs ++ v ∷ ys) v o → r.key ≡ v.row.key → AreVersionsOf (after_answer s t (Update r) (answer_in s t (Update r))) table ((xs ++ ended_by t v ∷ ys) ++ fresh t r ∷ [])
kept_by_update_other opening s table xs v ys t mine r o k h f x e =
    kept_after_answer s table ((xs ++ ended_by t v ∷ ys) ++ fresh t r ∷ []) t (Update r) (answer_in s t (Update r)) (
    let d = ends_other s table t (Update r) Updated mine xs v ys o k.sound k.started k.numbered h f x (ap (λ q. Some q) e) in
    subst (λ (b : Bool). AreVersionsOf (after_operation s t (Update r) (cond b Updated NotThere)) table ((xs ++ ended_by t v ∷ ys) ++ fresh t r ∷ [])) (sym (ap (fin.contains_key (snapshot s t)) e ∙ found opening s t mine v k f d.row))
    (kept_update s table t (Update r) Updated mine (claim_of s mine v ∷ []) xs v ys r k.numbered h f d e refl))

pub kept_by_update_own : (opening : Map) (s : State) (table : Phases) (xs : List Version) (v : Version) (ys : List Version) (t : ℕ) (mine : ActiveTx) (r : RowData) → IsStanding opening s → AreVersionsOf s table (xs ++ v ∷ ys) → active_of t s.active ≡ Some mine → IsOwnNewest t v → r.key ≡ v.row.key → AreVersionsOf (after_answer s t (Update r) (answer_in s t (Update r))) table ((xs ++ ended_by t v ∷ ys) ++ fresh t r ∷ [])
kept_by_update_own opening s table xs v ys t mine r k h f x e =
    kept_after_answer s table ((xs ++ ended_by t v ∷ ys) ++ fresh t r ∷ []) t (Update r) (answer_in s t (Update r)) (
    let d = ends_own s table t (Update r) Updated mine xs v ys k.numbered h f x (ap (λ q. Some q) e) in
    subst (λ (b : Bool). AreVersionsOf (after_operation s t (Update r) (cond b Updated NotThere)) table ((xs ++ ended_by t v ∷ ys) ++ fresh t r ∷ [])) (sym (ap (fin.contains_key (snapshot s t)) e ∙ found opening s t mine v k f d.row))
    (kept_update s table t (Update r) Updated mine [] xs v ys r k.numbered h f d e refl))

pub kept_by_delete_other : (opening : Map) (s : State) (table : Phases) (xs : List Version) (v : Version) (ys : List Version) (t : ℕ) (mine : ActiveTx) (o : ℕ) → IsStanding opening s → AreVersionsOf s table (xs ++ v ∷ ys) → active_of t s.active ≡ Some mine → EndsOther s table t mine (xs ++ v ∷ ys) v o → AreVersionsOf (after_answer s t (Delete v.row.key) (answer_in s t (Delete v.row.key))) table (xs ++ ended_by t v ∷ ys)
kept_by_delete_other opening s table xs v ys t mine o k h f x =
    kept_after_answer s table (xs ++ ended_by t v ∷ ys) t (Delete v.row.key) (answer_in s t (Delete v.row.key)) (
    let d = ends_other s table t (Delete v.row.key) Deleted mine xs v ys o k.sound k.started k.numbered h f x refl in
    subst (λ (b : Bool). AreVersionsOf (after_operation s t (Delete v.row.key) (cond b Deleted NotThere)) table (xs ++ ended_by t v ∷ ys)) (sym (found opening s t mine v k f d.row))
    (kept_delete s table t (Delete v.row.key) Deleted mine (claim_of s mine v ∷ []) xs v ys h d refl))

pub kept_by_delete_own : (opening : Map) (s : State) (table : Phases) (xs : List Version) (v : Version) (ys : List Version) (t : ℕ) (mine : ActiveTx) → IsStanding opening s → AreVersionsOf s table (xs ++ v ∷ ys) → active_of t s.active ≡ Some mine → IsOwnNewest t v → AreVersionsOf (after_answer s t (Delete v.row.key) (answer_in s t (Delete v.row.key))) table (xs ++ ended_by t v ∷ ys)
kept_by_delete_own opening s table xs v ys t mine k h f x =
    kept_after_answer s table (xs ++ ended_by t v ∷ ys) t (Delete v.row.key) (answer_in s t (Delete v.row.key)) (
    let d = ends_own s table t (Delete v.row.key) Deleted mine xs v ys k.numbered h f x refl in
    subst (λ (b : Bool). AreVersionsOf (after_operation s t (Delete v.row.key) (cond b Deleted NotThere)) table (xs ++ ended_by t v ∷ ys)) (sym (found opening s t mine v k f d.row))
    (kept_delete s table t (Delete v.row.key) Deleted mine [] xs v ys h d refl))

-- the cause that the state names is the one that the End tells
pub conflict_right : (opening : Map) (s : State) (table : Phases) (xs : List Version) (v : Version) (ys : List Version) (t : ℕ) (mine : ActiveTx) (o : ℕ) → IsStanding opening s → AreVersionsOf s table (xs ++ v ∷ ys) → active_of t s.active ≡ Some mine → net_write v.row.key mine.history ≡ None → IsShownAt (ends_of table) t v.row.key (xs ++ v ∷ ys) v o → conflict s t v.row.key ≡ cause_at_end table v.end
conflict_right opening s table xs v ys t mine o k h f n x =
    ap (λ m. cond (fin.contains_key m v.row.key && not (is_some (net_write v.row.key (history_of_active t s.active)))) (claimed_by s t v.row.key) None) (seen_in opening s t mine k f)
    ∙ ap (λ ts. cond (fin.contains_key (after_history mine.history (seen_by s.base s.stamped mine.id)) v.row.key && not (is_some (net_write v.row.key ts))) (claimed_by s t v.row.key) None) (found_is t s.active mine f).1
    ∙ ap (λ b. cond (b && not (is_some (net_write v.row.key mine.history))) (claimed_by s t v.row.key) None) there
    ∙ ap (λ w. cond (not (is_some w)) (claimed_by s t v.row.key) None) n
    ∙ cause_right s table xs v ys t mine o k.sound k.started h f n x
  where
    is : mine.id ≡ t
    is = id_of t s.active mine f

    row : IsShownRow s t v.row.key v o
    row = version_shown s table xs v ys t v.row.key o k.sound k.started h (active_begins s table (xs ++ v ∷ ys) t mine k.sound h f) (behind_is s table (xs ++ v ∷ ys) t mine h f) x

    there : fin.contains_key (after_history mine.history (seen_by s.base s.stamped mine.id)) v.row.key ≡ true
    there = ap is_some (get-after_history v.row.key mine.history (seen_by s.base s.stamped mine.id) ∙ ap (λ w. content_after_last w (fin.get (seen_by s.base s.stamped mine.id) v.row.key)) n ∙ ap (λ i. fin.get (seen_by s.base s.stamped i) v.row.key) is ∙ row.row)
