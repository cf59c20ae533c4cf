-- Reads at many keys: one more of them, and one that is refused.
use Rattle.std.proofs.Common.{◌≡◌, ℕ, ◌+◌, ◌<◌, ◌≤◌, length, true, List, [], ◌∷◌, ◌++◌, Option, None, Some, Ok, Err, map, take, drop, get_or, refl, sym, ap, ap₂, ◌∙◌, subst}
use Rattle.std.specs.Prelude.{IfSome}
use Rattle.std.specs.Option.{option_map}
use Rattle.std.proofs.lemmas.List.{append_assoc, map-append, take-append-drop, take_more}
use Rattle.mvo_types.specs.declared.answer.Answer.{Answer}
use Rattle.mvo_types.specs.declared.op.Op.{Op}
use Rattle.mvo_types.specs.declared.op.Op.TheVariants.{Read}
use Rattle.mvo_types.specs.declared.answer.Answer.TheVariants.{Found}
use Rattle.mvo_types.specs.declared.ids.TxId.{TxId}
use Rattle.mvo_types.specs.declared.refusal.Refusal.{Refusal}
use Rattle.mvo_types.specs.declared.refusal.Refusal.TheVariants.{OutOfMemory, TooManyReads}
use Rattle.mvo_types.specs.declared.row.RowKey.{RowKey}
use Rattle.mvo_types.specs.RowData.{RowData}
use Rattle.mvo_model.specs.History.{History}
use Rattle.mvo_theory.specs.Calls.Call.{Do}
use Rattle.mvo_theory.specs.Told.{history_told}
use Rattle.mvo_theory.proofs.Each.{each_append}
use Rattle.mvo_core.specs.WholeAnswers.{IsAnsweredWhole}
use Rattle.mvo_engine.specs.run.Opening.{Opening}
use Rattle.mvo_engine.specs.Sound.{IsSoundCore}
use Rattle.mvo_engine.specs.States.{CoreState, SessionState}
use Rattle.mvo_engine.specs.Calls.{IsCoreStep, session_after}
use Rattle.mvo_engine.specs.Asked.{WasAnswered, HasGone, HasLeftTx}
use Rattle.mvo_engine.specs.Asking.{IsFinding}
use Rattle.mvo_engine.specs.Refusing.{refuses_operation}
use Rattle.mvo_engine.specs.Reads.{AreCoreAnswers, AreFinding, AreReadsOf, IsRefusedRead, MayReadAll, HasReadAll, HasNotReadAll, row_found}
use Rattle.mvo_engine.specs.Reads.HasNotReadAll.{TooMany, Gone, Refused}
use Rattle.mvo_engine.specs.declared.session.reading_all.TheConstants.{READ_AT_ONCE}
use Rattle.mvo_engine.proofs.Asking.{answered_so}

-- a read behind the others
pub ops_more : (reads : List (Op × Answer)) (before after : List RowKey) (key : RowKey) (a : Answer) → AreReadsOf before reads → after ≡ before ++ key ∷ [] → AreReadsOf after (reads ++ (Read key, a) ∷ [])
ops_more reads before after key a were more =
    map-append (λ r. r.0) reads ((Read key, a) ∷ [])
    ∙ ap (λ ops. ops ++ Read key ∷ []) were
    ∙ sym (map-append Read before (key ∷ []))
    ∙ ap (map Read) (sym more)

-- all of a list, around one of it
around : {X : Type 0} (xs : List X) (i : ℕ) (x : X) → take (i + 1) xs ≡ take i xs ++ x ∷ [] → (take i xs ++ x ∷ []) ++ drop (i + 1) xs ≡ xs
around xs i x more = ap (λ ys. ys ++ drop (i + 1) xs) (sym more) ∙ take-append-drop (i + 1) xs

-- a key behind those that were read, and the rest
pub ops_cut : (reads : List (Op × Answer)) (keys : List RowKey) (i : ℕ) (key : RowKey) → AreReadsOf (take i keys) reads → take (i + 1) keys ≡ take i keys ++ key ∷ [] → map (λ r. r.0) reads ++ Read key ∷ map Read (drop (i + 1) keys) ≡ map Read keys
ops_cut reads keys i key were more =
    ap (λ ops. ops ++ Read key ∷ map Read (drop (i + 1) keys)) were
    ∙ sym (map-append Read (take i keys) (key ∷ drop (i + 1) keys))
    ∙ ap (map Read) (sym (append_assoc (take i keys) (key ∷ []) (drop (i + 1) keys)) ∙ around keys i key more)

-- one more read is answered
pub one_more : (o : Opening) (t : ℕ) (keys : List RowKey) (i : ℕ) (d : RowKey) (reads all : List (Op × Answer)) (a : Answer) (old new : CoreState) → i < length keys → AreCoreAnswers o t reads × AreFinding reads × AreReadsOf (take i keys) reads → IsSoundCore o old.core old.sends.sent → IsCoreStep old (Do t (Read (get_or keys i d))) (Ok a) new → IsAnsweredWhole old.core t (Read (get_or keys i d)) a → all ≡ reads ++ (Read (get_or keys i d), a) ∷ [] → AreCoreAnswers o t all × AreFinding all × AreReadsOf (take (i + 1) keys) all
one_more o t keys i d reads all a old new lt before sound step answer is =
    let key = get_or keys i d in
    let was : WasAnswered o t (Read key) a = record { old = old; new = new; sound = sound; step = step; answer = answer } in
    let answered : AreCoreAnswers o t (reads ++ (Read key, a) ∷ []) = each_append (λ r. WasAnswered o t r.0 r.1) reads ((Read key, a) ∷ []) before.0 (was, tt) in
    let finding : AreFinding (reads ++ (Read key, a) ∷ []) = each_append (λ r. IsFinding r.1) reads ((Read key, a) ∷ []) before.1 (answered_so t (Read key) a was, tt) in
    let ops : AreReadsOf (take (i + 1) keys) (reads ++ (Read key, a) ∷ []) = ops_more reads (take i keys) (take (i + 1) keys) key a before.2 (take_more keys i d lt) in
    subst (λ (rs : List (Op × Answer)). AreCoreAnswers o t rs × AreFinding rs × AreReadsOf (take (i + 1) keys) rs) (sym is) (answered, finding, ops)

-- one is refused
pub refused_at : (o : Opening) (t : ℕ) (keys : List RowKey) (i : ℕ) (d : RowKey) (reads : List (Op × Answer)) (e : Refusal) (old new : CoreState) → i < length keys → AreReadsOf (take i keys) reads → IsSoundCore o old.core old.sends.sent → IsCoreStep {A = Answer} old (Do t (Read (get_or keys i d))) (Err e) new → refuses_operation (Read (get_or keys i d)) e ≡ true → IsRefusedRead o t keys reads e
refused_at o t keys i d reads e old new lt ops sound step listed = record {
  key = get_or keys i d;
  rest = drop (i + 1) keys;
  ops = ops_cut reads keys i (get_or keys i d) ops (take_more keys i d lt);
  refused = record { old = old; new = new; sound = sound; step = step };
  listed = listed;
}

-- each of them found its row
pub all_found : (reads : List (Op × Answer)) (rows : List (Option RowData)) → AreFinding reads → rows ≡ map (λ r. row_found r.1) reads → map Found rows ≡ map (λ r. r.1) reads
all_found reads rows finding is = ap (map Found) is ∙ each_found reads finding
  where
    found_so : (a : Answer) → IsFinding a → Found (row_found a) ≡ a
    found_so a f = ap (λ (b : Answer). Found (row_found b)) f.1 ∙ sym f.1

    each_found : (rs : List (Op × Answer)) → AreFinding rs → map Found (map (λ r. row_found r.1) rs) ≡ map (λ r. r.1) rs
    each_found [] f = refl
    each_found (r ∷ rs) f = ap₂ (λ (a : Answer) (bs : List Answer). a ∷ bs) (found_so r.1 f.0) (each_found rs f.1)

-- ---- what the session's call comes to
-- the transaction is there
there : (x : Option TxId) (tx : TxId) → x ≡ Some tx → option_map (λ (t : TxId). t.0) x ≡ Some tx.0
there x tx is = ap (option_map (λ (t : TxId). t.0)) is

-- and there are few keys
abbrev may_so : (keys : List RowKey) (old : SessionState) (tx : TxId) (x : Option TxId) → x ≡ Some tx → old.tx ≡ option_map (λ (t : TxId). t.0) x → length keys ≤ READ_AT_ONCE → MayReadAll old keys
may_so keys old tx x is same few = record { tx = tx.0; there = same ∙ there x tx is; few = few }

-- it was rolled back, since memory was refused
pub gone_so : {o : Opening} (keys : List RowKey) (old new : SessionState) (tx : TxId) (x : Option TxId) (told : History) → x ≡ Some tx → old.tx ≡ option_map (λ (t : TxId). t.0) x → length keys ≤ READ_AT_ONCE → IfSome old.tx (HasGone o) → new ≡ record old { tx = None; told = told } → HasNotReadAll o old keys OutOfMemory new
gone_so {o} keys old new tx x told is same few gone session =
    let may : MayReadAll old keys = may_so keys old tx x is same few in
    let left : new ≡ record old { tx = None; told = new.told } = session ∙ ap (λ (h : History). record old { tx = None; told = h }) (sym (ap (λ (s : SessionState). s.told) session)) in
    Gone may refl (subst (λ (y : Option ℕ). IfSome y (HasGone o)) may.there gone) left

-- there are too many keys
pub many_so : {o : Opening} (keys : List RowKey) (old : SessionState) (tx : TxId) (x : Option TxId) → x ≡ Some tx → old.tx ≡ option_map (λ (t : TxId). t.0) x → READ_AT_ONCE < length keys → HasNotReadAll o old keys TooManyReads old
many_so keys old tx x is same many = TooMany tx.0 (same ∙ there x tx is) many refl refl

-- all were read
pub read_so : {o : Opening} (keys : List RowKey) (old new : SessionState) (tx : TxId) (x : Option TxId) (reads : List (Op × Answer)) (rows : List (Option RowData)) (told : History) → x ≡ Some tx → old.tx ≡ option_map (λ (t : TxId). t.0) x → length keys ≤ READ_AT_ONCE → AreCoreAnswers o tx.0 reads → AreFinding reads → AreReadsOf keys reads → rows ≡ map (λ r. row_found r.1) reads → told ≡ old.told ++ history_told reads → new ≡ record old { told = told } → HasReadAll o old keys rows new
read_so keys old new tx x reads rows told is same few answered finding ops found more session = record {
  may = may_so keys old tx x is same few;
  reads = reads;
  answered = answered;
  ops = ops;
  answers = all_found reads rows finding found;
  session = session ∙ ap (λ (h : History). record old { told = h }) more;
}

-- one was refused
pub cut_so : {o : Opening} (keys : List RowKey) (old new : SessionState) (tx : TxId) (x : Option TxId) (reads : List (Op × Answer)) (e : Refusal) (told : History) → x ≡ Some tx → old.tx ≡ option_map (λ (t : TxId). t.0) x → length keys ≤ READ_AT_ONCE → AreCoreAnswers o tx.0 reads → IsRefusedRead o tx.0 keys reads e → told ≡ old.told ++ history_told reads → new ≡ session_after e (record old { told = told }) → HasLeftTx o old.tx e new.tx → HasNotReadAll o old keys e new
cut_so keys old new tx x reads e told is same few answered refused more session left = Refused (record {
  may = may_so keys old tx x is same few;
  reads = reads;
  answered = answered;
  refused = refused;
  session = session ∙ ap (λ (h : History). session_after e (record old { told = h })) more;
  left = left;
})
