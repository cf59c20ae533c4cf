-- The shadow of a state answers as the state does: what is seen, who is depended on, what has changed; and steps go alike on both.
use Rattle.std.proofs.Common.{◌≡◌, ℕ, Bool, true, false, cond, not, ◌||◌, List, [], ◌∷◌, ◌++◌, Option, None, Some, map, refl, sym, ap, ◌∙◌, append-nil}
use Rattle.std.specs.Prelude.{◌==◌, ◌&&◌, nat_lt, is_some}
use Rattle.std.specs.List.{filter}
use Rattle.std.specs.Option.{option_map}
use Rattle.std.specs.FinMap as fin
use Rattle.mvo_types.specs.declared.row.RowKey.{RowKey}
use Rattle.mvo_types.specs.declared.op.Op.{Op}
use Rattle.mvo_types.specs.declared.op.Op.TheVariants.{Read, Scan, Insert, Update, Delete}
use Rattle.mvo_types.specs.Keys.{Map}
use Rattle.mvo_types.specs.AnswerData.{AnswerData}
use Rattle.mvo_types.specs.AnswerData.AnswerData.{Inserted, Updated, Deleted}
use Rattle.mvo_types.specs.Write.{Effect, Write}
use Rattle.mvo_model.specs.History.{History, write_of, write_at, later, net_write, after_write, after_history}
use Rattle.mvo_model.proofs.Serials.{after_history-append, net_write-append, later-none}
use Rattle.mvo_types.specs.declared.entry.Entry.{Entry}
use Rattle.mvo_theory.specs.Entries.{entry_of}
use Rattle.mvo_types.specs.declared.entry.Entry.TheVariants.{Key, Range}
use Rattle.mvo_theory.specs.Ranges.{Row, shows, puts, put_by, changed_by}
use Rattle.mvo_theory.specs.State.{State, ActiveTx, StampedTx, Claim, history_below, seen_by, after_settled}
use Rattle.mvo_theory.specs.Dependencies.{is_writer, or_later, last_writer, depend_on, depend_on_all, keys_for, unwritten, dependencies}
use Rattle.mvo_theory.specs.Causes.{is_changer, or_first, last_end, change_of}
use Rattle.mvo_theory.specs.Claims.{end_or, origin, ended_key, claims_with}
use Rattle.mvo_theory.specs.State.Word.{Own}
use Rattle.mvo_theory.specs.Words.{end_on, words_by, words_behind, words_of}
use Rattle.mvo_theory.specs.Changes.{is_to, after_trim, with_check, new_active, after_begin, seen_now, with_answer, after_operation, without_id, to_stamped, after_prepare, with_settled, with_flag, active_with_flag, not_at}
use Rattle.mvo_theory.specs.Sound.{changes}
use Rattle.mvo_theory.proofs.Counts.{puts-append}
use Rattle.mvo_theory.proofs.ClaimSteps.{ended_written}
use Rattle.mvo_shared.specs.Shared.{with_dependencies, after_registering, with_valid}
use Rattle.mvo_shared.specs.Shadow.{is_writing_answer, writing_operations, active_shadow, stamped_shadow, shadow}
use Rattle.std.proofs.lemmas.Bool.{true≢false}

none_write : (v : Write) → ◌≡◌ {A = Option Write} None (Some v) → ⊥
none_write v e = cc

-- ---- a history and its writes
none_of : (w : Option Write) → is_some w ≡ false → w ≡ None
none_of None e = refl
none_of (Some v) e = absurd (true≢false e)

pub net_writes : (k : RowKey) (ts : History) → net_write k (writing_operations ts) ≡ net_write k ts
net_writes k [] = refl
net_writes k (t ∷ ts) = go (is_writing_answer t) refl (net_writes k ts)
  where
    go : (b : Bool) → is_writing_answer t ≡ b → net_write k (writing_operations ts) ≡ net_write k ts → net_write k (cond b (t ∷ writing_operations ts) (writing_operations ts)) ≡ later (net_write k ts) (write_at k (write_of t.0 t.1))
    go true e h = ap (λ w. later w (write_at k (write_of t.0 t.1))) h
    go false e h = h ∙ sym (ap (λ (w : Option Write). later (net_write k ts) (write_at k w)) (none_of (write_of t.0 t.1) e) ∙ later-none (net_write k ts))

pub after_writes : (ts : History) (m : Map) → after_history (writing_operations ts) m ≡ after_history ts m
after_writes [] m = refl
after_writes (t ∷ ts) m = go (is_writing_answer t) refl (after_writes ts)
  where
    go : (b : Bool) → is_writing_answer t ≡ b → ((n : Map) → after_history (writing_operations ts) n ≡ after_history ts n) → after_history (cond b (t ∷ writing_operations ts) (writing_operations ts)) m ≡ after_history ts (after_write (write_of t.0 t.1) m)
    go true e h = h (after_write (write_of t.0 t.1) m)
    go false e h = h m ∙ ap (λ (w : Option Write). after_history ts (after_write w m)) (sym (none_of (write_of t.0 t.1) e))

pub puts_in : (ts : History) → puts (writing_operations ts) ≡ puts ts
puts_in [] = refl
puts_in (t ∷ ts) = go (is_writing_answer t) refl (puts_in ts)
  where
    go : (b : Bool) → is_writing_answer t ≡ b → puts (writing_operations ts) ≡ puts ts → puts (cond b (t ∷ writing_operations ts) (writing_operations ts)) ≡ put_by (write_of t.0 t.1) ++ puts ts
    go true e h = ap (λ rs. put_by (write_of t.0 t.1) ++ rs) h
    go false e h = h ∙ ap (λ (w : Option Write). put_by w ++ puts ts) (sym (none_of (write_of t.0 t.1) e))

-- ---- what is seen
below_puts : (b : ℕ) (xs : List StampedTx) → puts (history_below b (map stamped_shadow xs)) ≡ puts (history_below b xs)
below_puts b [] = refl
below_puts b (x ∷ xs) =
    puts-append (cond (nat_lt x.end b) (writing_operations x.history) []) (history_below b (map stamped_shadow xs))
    ∙ ap (λ rs. rs ++ puts (history_below b (map stamped_shadow xs))) (one (nat_lt x.end b))
    ∙ ap (λ rs. puts (cond (nat_lt x.end b) x.history []) ++ rs) (below_puts b xs)
    ∙ sym (puts-append (cond (nat_lt x.end b) x.history []) (history_below b xs))
  where
    one : (c : Bool) → puts (cond c (writing_operations x.history) []) ≡ puts (cond c x.history [])
    one true = puts_in x.history
    one false = refl

pub seen_shadow : (base : Map) (b : ℕ) (xs : List StampedTx) → seen_by base (map stamped_shadow xs) b ≡ seen_by base xs b
seen_shadow base b [] = refl
seen_shadow base b (x ∷ xs) =
    after_history-append (cond (nat_lt x.end b) (writing_operations x.history) []) (history_below b (map stamped_shadow xs)) base
    ∙ ap (after_history (history_below b (map stamped_shadow xs))) (one (nat_lt x.end b))
    ∙ seen_shadow (after_history (cond (nat_lt x.end b) x.history []) base) b xs
    ∙ sym (after_history-append (cond (nat_lt x.end b) x.history []) (history_below b xs) base)
  where
    one : (c : Bool) → after_history (cond c (writing_operations x.history) []) base ≡ after_history (cond c x.history []) base
    one true = after_writes x.history base
    one false = refl

-- ---- who is depended on
writer_shadow : (k : RowKey) (b : ℕ) (x : StampedTx) → is_writer k b (stamped_shadow x) ≡ is_writer k b x
writer_shadow k b x = ap (λ (w : Option Effect). nat_lt x.end b && is_some w) (net_writes k x.history)

later_shadow : (v w : Option StampedTx) → or_later (option_map stamped_shadow v) (option_map stamped_shadow w) ≡ option_map stamped_shadow (or_later v w)
later_shadow v None = refl
later_shadow v (Some y) = refl

last_shadow : (k : RowKey) (b : ℕ) (xs : List StampedTx) → last_writer k b (map stamped_shadow xs) ≡ option_map stamped_shadow (last_writer k b xs)
last_shadow k b [] = refl
last_shadow k b (x ∷ xs) =
    ap (λ (c : Bool). or_later (cond c (Some (stamped_shadow x)) None) (last_writer k b (map stamped_shadow xs))) (writer_shadow k b x)
    ∙ ap (or_later (cond (is_writer k b x) (Some (stamped_shadow x)) None)) (last_shadow k b xs)
    ∙ ap (λ v. or_later v (option_map stamped_shadow (last_writer k b xs))) (one (is_writer k b x))
    ∙ later_shadow (cond (is_writer k b x) (Some x) None) (last_writer k b xs)
  where
    one : (c : Bool) → cond c (Some (stamped_shadow x)) None ≡ option_map stamped_shadow (cond c (Some x) None)
    one true = refl
    one false = refl

depend_shadow : (ds : List ℕ) (w : Option StampedTx) → depend_on ds (option_map stamped_shadow w) ≡ depend_on ds w
depend_shadow ds None = refl
depend_shadow ds (Some x) = refl

depend_all_shadow : (ds : List ℕ) (ks : List RowKey) (b : ℕ) (xs : List StampedTx) → depend_on_all ds ks b (map stamped_shadow xs) ≡ depend_on_all ds ks b xs
depend_all_shadow ds [] b xs = refl
depend_all_shadow ds (k ∷ ks) b xs =
    ap (λ es. depend_on_all es ks b (map stamped_shadow xs)) (ap (depend_on ds) (last_shadow k b xs) ∙ depend_shadow ds (last_writer k b xs))
    ∙ depend_all_shadow (depend_on ds (last_writer k b xs)) ks b xs

keys_shadow : (e : Entry) (b : ℕ) (base : Map) (xs : List StampedTx) → keys_for e b base (map stamped_shadow xs) ≡ keys_for e b base xs
keys_shadow (Key k) b base xs = refl
keys_shadow (Range t lo hi) b base xs = ap (λ rs. map (λ (r : Row). r.0) (filter (shows (Range t lo hi)) (fin.entries base ++ rs))) (below_puts b xs)

unwritten_shadow : (ts : History) (ks : List RowKey) → unwritten (writing_operations ts) ks ≡ unwritten ts ks
unwritten_shadow ts [] = refl
unwritten_shadow ts (k ∷ ks) =
    ap (λ (w : Option Effect). cond (not (is_some w)) (k ∷ unwritten (writing_operations ts) ks) (unwritten (writing_operations ts) ks)) (net_writes k ts)
    ∙ ap (λ ls. cond (not (is_some (net_write k ts))) (k ∷ ls) ls) (unwritten_shadow ts ks)

pub dependencies_shadow : (s : State) (op : Op) (r : ActiveTx) → dependencies (shadow s) op (active_shadow r) ≡ dependencies s op r
dependencies_shadow s op r =
    depend_all_shadow r.depends_on (unwritten (writing_operations r.history) (keys_for (entry_of op) r.id s.base (map stamped_shadow s.stamped))) r.id s.stamped
    ∙ ap (λ ks. depend_on_all r.depends_on ks r.id s.stamped) (unwritten_shadow r.history (keys_for (entry_of op) r.id s.base (map stamped_shadow s.stamped)) ∙ ap (unwritten r.history) (keys_shadow (entry_of op) r.id s.base s.stamped))

-- ---- what has changed
changes_shadow : (e : Entry) (x : StampedTx) → changes e (stamped_shadow x) ≡ changes e x
changes_shadow (Key k) x = ap is_some (net_writes k x.history)
changes_shadow (Range t lo hi) x = refl

pub change_shadow : (b e : ℕ) (entry : Entry) (xs : List StampedTx) → change_of (map stamped_shadow xs) b e entry ≡ change_of xs b e entry
change_shadow b e entry [] = refl
change_shadow b e entry (x ∷ xs) =
    ap (λ (c : Bool). or_first (cond ((nat_lt b x.end && nat_lt x.end e) && c) (Some x.end) None) (last_end (is_changer b e entry) (map stamped_shadow xs))) (changes_shadow entry x)
    ∙ ap (or_first (cond ((nat_lt b x.end && nat_lt x.end e) && changes entry x) (Some x.end) None)) (change_shadow b e entry xs)

-- ---- steps
map_append : {X Y : Type 0} (f : X → Y) (xs ys : List X) → map f (xs ++ ys) ≡ map f xs ++ map f ys
map_append f [] ys = refl
map_append f (x ∷ xs) ys = ap (λ zs. f x ∷ zs) (map_append f xs ys)

map_filter : {X : Type 0} (f : X → X) (p : X → Bool) → ((x : X) → p (f x) ≡ p x) → (xs : List X) → map f (filter p xs) ≡ filter p (map f xs)
map_filter f p h [] = refl
map_filter f p h (x ∷ xs) = go (p x) (map_filter f p h xs) ∙ ap (λ (b : Bool). cond b (f x ∷ filter p (map f xs)) (filter p (map f xs))) (sym (h x))
  where
    go : (b : Bool) → map f (filter p xs) ≡ filter p (map f xs) → map f (cond b (x ∷ filter p xs) (filter p xs)) ≡ cond b (f x ∷ filter p (map f xs)) (filter p (map f xs))
    go true e = ap (λ zs. f x ∷ zs) e
    go false e = e

map_map : {X : Type 0} (f g h k : X → X) → ((x : X) → f (g x) ≡ h (k x)) → (xs : List X) → map f (map g xs) ≡ map h (map k xs)
map_map f g h k e [] = refl
map_map f g h k e (x ∷ xs) = ap (λ y. y ∷ map f (map g xs)) (e x) ∙ ap (λ ys. h (k x) ∷ ys) (map_map f g h k e xs)

pub begin_shadow : (s : State) (t : ℕ) → shadow (after_begin s t) ≡ after_begin (shadow s) t
begin_shadow s t = ap (λ rs. record (shadow s) { clock = t; active = rs }) (map_append active_shadow s.active (new_active t ∷ []))

pub prepare_shadow : (s : State) (r : ActiveTx) (e : ℕ) → shadow (after_prepare s r e) ≡ after_prepare (shadow s) (active_shadow r) e
prepare_shadow s r e =
    ap (λ rs. record (shadow s) { clock = e; active = rs; stamped = map stamped_shadow (s.stamped ++ to_stamped e r ∷ []) }) (map_filter active_shadow (λ q. not (q.id == r.id)) (λ q. refl) s.active)
    ∙ ap (λ xs. record (shadow s) { clock = e; active = without_id r.id (map active_shadow s.active); stamped = xs }) (map_append stamped_shadow s.stamped (to_stamped e r ∷ []))

-- settling, flags and checks go alike
pub settled_shadow : (e : ℕ) (xs : List StampedTx) → map stamped_shadow (map (with_settled e) xs) ≡ map (with_settled e) (map stamped_shadow xs)
settled_shadow e xs = map_map stamped_shadow (with_settled e) (with_settled e) stamped_shadow (λ x. one x (x.end == e)) xs
  where
    one : (x : StampedTx) (b : Bool) → ◌≡◌ {A = StampedTx} (record x { history = writing_operations x.history; settled = x.settled || b; checked = 0 }) (record x { history = writing_operations x.history; settled = x.settled || b; checked = cond b 0 0 })
    one x true = refl
    one x false = refl

pub aborted_shadow : (t e : ℕ) (xs : List StampedTx) → map stamped_shadow (map (with_flag t e) (filter (not_at e) xs)) ≡ map (with_flag t e) (filter (not_at e) (map stamped_shadow xs))
aborted_shadow t e xs = map_map stamped_shadow (with_flag t e) (with_flag t e) stamped_shadow (λ x. refl) (filter (not_at e) xs) ∙ ap (map (with_flag t e)) (map_filter stamped_shadow (not_at e) (λ x. refl) xs)

pub flagged_shadow : (t e : ℕ) (rs : List ActiveTx) → map active_shadow (map (active_with_flag t e) rs) ≡ map (active_with_flag t e) (map active_shadow rs)
flagged_shadow t e rs = map_map active_shadow (active_with_flag t e) (active_with_flag t e) active_shadow (λ r. refl) rs

-- ---- an operation
writes_push : (ts : History) (o : Op × AnswerData) → writing_operations (ts ++ o ∷ []) ≡ writing_operations ts ++ cond (is_writing_answer o) (o ∷ []) []
writes_push [] o = go (is_writing_answer o)
  where
    go : (b : Bool) → cond b (o ∷ []) [] ≡ cond b (o ∷ []) []
    go b = refl
writes_push (t ∷ ts) o = go (is_writing_answer t) (writes_push ts o)
  where
    go : (b : Bool) → writing_operations (ts ++ o ∷ []) ≡ writing_operations ts ++ cond (is_writing_answer o) (o ∷ []) [] → cond b (t ∷ writing_operations (ts ++ o ∷ [])) (writing_operations (ts ++ o ∷ [])) ≡ cond b (t ∷ writing_operations ts) (writing_operations ts) ++ cond (is_writing_answer o) (o ∷ []) []
    go true e = ap (λ us. t ∷ us) e
    go false e = e

none_key : (k : RowKey) → ◌≡◌ {A = Option RowKey} None (Some k) → ⊥
none_key k e = cc

silent_ends_none : (op : Op) (a : AnswerData) → write_of op a ≡ None → ended_key op a ≡ None
silent_ends_none op a n = go (ended_key op a) refl
  where
    go : (w : Option RowKey) → ended_key op a ≡ w → w ≡ None
    go None e = refl
    go (Some k) e = absurd (true≢false (sym (ended_written op a k e) ∙ ap (λ (v : Option Write). is_some (write_at k v)) n))

-- one that is told nothing that it wrote: the core hears of its dependencies at most
look_one : (s : State) (t : ℕ) (op : Op) (a : AnswerData) (r : ActiveTx) → write_of op a ≡ None → active_shadow (with_answer s t op a r) ≡ with_dependencies (shadow s) t op (active_shadow r)
look_one s t op a r n = go (r.id == t)
  where
    go : (b : Bool) → ◌≡◌ {A = ActiveTx} (record {
      id = r.id;
      history = writing_operations (cond b (r.history ++ (op, a) ∷ []) r.history);
      footprint = cond b (r.footprint ++ changed_by (write_of op a) (seen_now s r)) r.footprint;
      claims = cond b (claims_with s r (ended_key op a)) r.claims;
      depends_on = cond b (dependencies s op r) r.depends_on;
      aborted_dependency = r.aborted_dependency;
    }) (record (active_shadow r) { depends_on = cond b (dependencies (shadow s) op (active_shadow r)) r.depends_on })
    go false = refl
    go true =
        ap (λ ts. record r { history = ts; footprint = r.footprint ++ changed_by (write_of op a) (seen_now s r); claims = claims_with s r (ended_key op a); depends_on = dependencies s op r }) (writes_push r.history (op, a) ∙ ap (λ (w : Option Write). writing_operations r.history ++ cond (is_some w) ((op, a) ∷ []) []) n ∙ append-nil (writing_operations r.history))
        ∙ ap (λ (w : Option Write). record r { history = writing_operations r.history; footprint = r.footprint ++ changed_by w (seen_now s r); claims = claims_with s r (ended_key op a); depends_on = dependencies s op r }) n
        ∙ ap (λ rs. record r { history = writing_operations r.history; footprint = rs; claims = claims_with s r (ended_key op a); depends_on = dependencies s op r }) (append-nil r.footprint)
        ∙ ap (λ (k : Option RowKey). record r { history = writing_operations r.history; claims = claims_with s r k; depends_on = dependencies s op r }) (silent_ends_none op a n)
        ∙ ap (λ (ds : List ℕ). record r { history = writing_operations r.history; depends_on = ds }) (sym (dependencies_shadow s op r))

pub look_shadow : (s : State) (t : ℕ) (op : Op) (a : AnswerData) → write_of op a ≡ None → shadow (after_operation s t op a) ≡ after_registering (shadow s) t op
look_shadow s t op a n = ap (λ rs. record (shadow s) { active = rs }) (map_map active_shadow (with_answer s t op a) (with_dependencies (shadow s) t op) active_shadow (λ r. look_one s t op a r n) s.active)

-- ---- a write
end_shadow : (n : ℕ) (w : Option StampedTx) → end_or n (option_map stamped_shadow w) ≡ end_or n w
end_shadow n None = refl
end_shadow n (Some x) = refl

pub origin_shadow : (s : State) (b : ℕ) (k : RowKey) → origin (shadow s) b k ≡ origin s b k
origin_shadow s b k =
    ap (λ xs. end_or s.marks.opening (last_writer k b xs)) (sym (map_append stamped_shadow s.past s.stamped))
    ∙ ap (end_or s.marks.opening) (last_shadow k b (s.past ++ s.stamped))
    ∙ end_shadow s.marks.opening (last_writer k b (s.past ++ s.stamped))

claims_shadow : (s : State) (r : ActiveTx) (w : Option RowKey) → claims_with (shadow s) (active_shadow r) w ≡ claims_with s r w
claims_shadow s r None = refl
claims_shadow s r (Some k) =
    ap (λ (e : Option Effect). cond (is_some e) r.claims (r.claims ++ (record { key = k; origin = origin (shadow s) r.id k }) ∷ [])) (net_writes k r.history)
    ∙ ap (λ (n : ℕ). cond (is_some (net_write k r.history)) r.claims (r.claims ++ (record { key = k; origin = n }) ∷ [])) (origin_shadow s r.id k)

sees_shadow : (s : State) (r : ActiveTx) → seen_now (shadow s) (active_shadow r) ≡ seen_now s r
sees_shadow s r = after_writes r.history (seen_by s.base (map stamped_shadow s.stamped) r.id) ∙ ap (after_history r.history) (seen_shadow s.base r.id s.stamped)

write_one : (s : State) (t : ℕ) (op : Op) (a : AnswerData) (r : ActiveTx) → is_writing_answer (op, a) ≡ true → active_shadow (with_answer s t op a r) ≡ with_answer (shadow s) t op a (active_shadow r)
write_one s t op a r w = go (r.id == t)
  where
    go : (b : Bool) → ◌≡◌ {A = ActiveTx} (record {
      id = r.id;
      history = writing_operations (cond b (r.history ++ (op, a) ∷ []) r.history);
      footprint = cond b (r.footprint ++ changed_by (write_of op a) (seen_now s r)) r.footprint;
      claims = cond b (claims_with s r (ended_key op a)) r.claims;
      depends_on = cond b (dependencies s op r) r.depends_on;
      aborted_dependency = r.aborted_dependency;
    }) (record {
      id = r.id;
      history = cond b (writing_operations r.history ++ (op, a) ∷ []) (writing_operations r.history);
      footprint = cond b (r.footprint ++ changed_by (write_of op a) (seen_now (shadow s) (active_shadow r))) r.footprint;
      claims = cond b (claims_with (shadow s) (active_shadow r) (ended_key op a)) r.claims;
      depends_on = cond b (dependencies (shadow s) op (active_shadow r)) r.depends_on;
      aborted_dependency = r.aborted_dependency;
    })
    go false = refl
    go true =
        ap (λ ts. record r { history = ts; footprint = r.footprint ++ changed_by (write_of op a) (seen_now s r); claims = claims_with s r (ended_key op a); depends_on = dependencies s op r }) (writes_push r.history (op, a) ∙ ap (λ (c : Bool). writing_operations r.history ++ cond c ((op, a) ∷ []) []) w)
        ∙ ap (λ (m : Map). record r { history = writing_operations r.history ++ (op, a) ∷ []; footprint = r.footprint ++ changed_by (write_of op a) m; claims = claims_with s r (ended_key op a); depends_on = dependencies s op r }) (sym (sees_shadow s r))
        ∙ ap (λ (cs : List Claim). record r { history = writing_operations r.history ++ (op, a) ∷ []; footprint = r.footprint ++ changed_by (write_of op a) (seen_now (shadow s) (active_shadow r)); claims = cs; depends_on = dependencies s op r }) (sym (claims_shadow s r (ended_key op a)))
        ∙ ap (λ (ds : List ℕ). record r { history = writing_operations r.history ++ (op, a) ∷ []; footprint = r.footprint ++ changed_by (write_of op a) (seen_now (shadow s) (active_shadow r)); claims = claims_with (shadow s) (active_shadow r) (ended_key op a); depends_on = ds }) (sym (dependencies_shadow s op r))

pub write_shadow : (s : State) (t : ℕ) (op : Op) (a : AnswerData) → is_writing_answer (op, a) ≡ true → shadow (after_operation s t op a) ≡ after_operation (shadow s) t op a
write_shadow s t op a w = ap (λ rs. record (shadow s) { active = rs }) (map_map active_shadow (with_answer s t op a) (with_answer (shadow s) t op a) active_shadow (λ r. write_one s t op a r w) s.active)

-- ---- checks: the last one alone is seen
pub checked_shadow : (e : ℕ) (xs : List StampedTx) → map stamped_shadow (map (with_check e true) xs) ≡ map (with_valid e) (map stamped_shadow xs)
checked_shadow e xs = map_map stamped_shadow (with_check e true) (with_valid e) stamped_shadow (λ x. one x (x.end == e) x.valid) xs
  where
    one : (x : StampedTx) (b v : Bool) → ◌≡◌ {A = StampedTx} (record x { history = writing_operations x.history; checked = 0; valid = cond b true v }) (record x { history = writing_operations x.history; checked = 0; valid = v || b })
    one x true true = refl
    one x true false = refl
    one x false true = refl
    one x false false = refl

-- ---- a trim
after_settled_shadow : (xs : List StampedTx) (m : Map) → after_settled (map stamped_shadow xs) m ≡ after_settled xs m
after_settled_shadow [] m = refl
after_settled_shadow (x ∷ xs) m = ap (after_settled (map stamped_shadow xs)) (one x.settled) ∙ after_settled_shadow xs (after_history (cond x.settled x.history []) m)
  where
    one : (c : Bool) → after_history (cond c (writing_operations x.history) []) m ≡ after_history (cond c x.history []) m
    one true = after_writes x.history m
    one false = refl

pub trim_shadow : (s : State) (m : ℕ) → shadow (after_trim s m) ≡ after_trim (shadow s) m
trim_shadow s m =
    let front = filter (is_to m) s.stamped in
    let front' = filter (is_to m) (map stamped_shadow s.stamped) in
    let same : map stamped_shadow front ≡ front' = map_filter stamped_shadow (is_to m) (λ x. refl) s.stamped in
    ap (λ (b : Map). record (shadow s) { start = m; base = b; past = map stamped_shadow (s.past ++ front); stamped = map stamped_shadow (filter (λ x. not (is_to m x)) s.stamped) }) (sym (after_settled_shadow front s.base) ∙ ap (λ xs. after_settled xs s.base) same)
    ∙ ap (λ xs. record (shadow s) { start = m; base = after_settled front' s.base; past = xs; stamped = map stamped_shadow (filter (λ x. not (is_to m x)) s.stamped) }) (map_append stamped_shadow s.past front ∙ ap (λ xs. map stamped_shadow s.past ++ xs) same)
    ∙ ap (λ xs. record (shadow s) { start = m; base = after_settled front' s.base; past = map stamped_shadow s.past ++ front'; stamped = xs }) (map_filter stamped_shadow (λ x. not (is_to m x)) (λ x. refl) s.stamped)

-- ---- the words that a transaction wrote
silent_words : (before : History) (cs : List Claim) (op : Op) (a : AnswerData) → write_of op a ≡ None → words_by before cs op a ≡ []
silent_words before cs (Read k) a n = refl
silent_words before cs (Scan t lo hi) a n = refl
silent_words before cs (Insert r) Inserted n = absurd (none_write _ (sym n))
silent_words before cs (Insert r) a n = refl
silent_words before cs (Update r) Updated n = absurd (none_write _ (sym n))
silent_words before cs (Update r) a n = refl
silent_words before cs (Delete k) Deleted n = absurd (none_write _ (sym n))
silent_words before cs (Delete k) a n = refl

words_alike : (before after : History) (cs : List Claim) (op : Op) (a : AnswerData) → ((k : RowKey) → net_write k before ≡ net_write k after) → words_by before cs op a ≡ words_by after cs op a
words_alike before after cs (Read k) a h = refl
words_alike before after cs (Scan t lo hi) a h = refl
words_alike before after cs (Insert r) Inserted h = refl
words_alike before after cs (Insert r) a h = refl
words_alike before after cs (Update r) Updated h = ap (λ (e : Option Effect). cond (is_some e) Own (end_on r.key cs) ∷ Own ∷ []) (h r.key)
words_alike before after cs (Update r) a h = refl
words_alike before after cs (Delete k) Deleted h = ap (λ (e : Option Effect). cond (is_some e) Own (end_on k cs) ∷ []) (h k)
words_alike before after cs (Delete k) a h = refl

same_push : (before after ts : History) → ((k : RowKey) → net_write k before ≡ net_write k after) → (k : RowKey) → net_write k (before ++ ts) ≡ net_write k (after ++ ts)
same_push before after ts h k = net_write-append k before ts ∙ ap (later (net_write k ts)) (h k) ∙ sym (net_write-append k after ts)

silent_push : (before after : History) (t : Op × AnswerData) → write_of t.0 t.1 ≡ None → ((k : RowKey) → net_write k before ≡ net_write k after) → (k : RowKey) → net_write k before ≡ net_write k (after ++ t ∷ [])
silent_push before after t n h k = h k ∙ sym (net_write-append k after (t ∷ []) ∙ ap (λ (w : Option Write). later (later None (write_at k w)) (net_write k after)) n)

words_behind_shadow : (before after ts : History) (cs : List Claim) → ((k : RowKey) → net_write k before ≡ net_write k after) → words_behind before cs (writing_operations ts) ≡ words_behind after cs ts
words_behind_shadow before after [] cs h = refl
words_behind_shadow before after (t ∷ ts) cs h = go (is_writing_answer t) refl (λ b a. words_behind_shadow b a ts cs)
  where
    go : (b : Bool) → is_writing_answer t ≡ b → ((b' a' : History) → ((k : RowKey) → net_write k b' ≡ net_write k a') → words_behind b' cs (writing_operations ts) ≡ words_behind a' cs ts) → words_behind before cs (cond b (t ∷ writing_operations ts) (writing_operations ts)) ≡ words_by after cs t.0 t.1 ++ words_behind (after ++ t ∷ []) cs ts
    go true e r = ap (λ ws. ws ++ words_behind (before ++ t ∷ []) cs (writing_operations ts)) (words_alike before after cs t.0 t.1 h) ∙ ap (λ ws. words_by after cs t.0 t.1 ++ ws) (r (before ++ t ∷ []) (after ++ t ∷ []) (same_push before after (t ∷ []) h))
    go false e r = let n = none_of (write_of t.0 t.1) e in r before (after ++ t ∷ []) (silent_push before after t n h) ∙ sym (ap (λ ws. ws ++ words_behind (after ++ t ∷ []) cs ts) (silent_words after cs t.0 t.1 n))

pub words_shadow : (ts : History) (cs : List Claim) → words_of (writing_operations ts) cs ≡ words_of ts cs
words_shadow ts cs = words_behind_shadow [] [] ts cs (λ k. refl)
