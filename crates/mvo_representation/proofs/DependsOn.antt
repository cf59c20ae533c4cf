-- On whom a transaction depends by the rules is on whom it depends in the state.
use Rattle.std.proofs.Common.{◌≡◌, ℕ, Bool, true, false, cond, ◌||◌, List, [], ◌∷◌, map, Option, None, Some, refl, sym, ap, ◌∙◌, subst}
use Rattle.std.specs.Prelude.{◌==◌, is_some, slice_index_or, suc, zero}
use Rattle.std.specs.List.{AllByRecursion, list_any}
use Rattle.std.specs.Option.{option_map, option_or}
use Rattle.std.proofs.lemmas.Bool.{eqb-true, true≢false, false≢true}
use Rattle.mvo_types.specs.declared.row.RowKey.{RowKey}
use Rattle.mvo_types.specs.declared.op.Op.{Op}
use Rattle.mvo_types.specs.declared.ids.TxId.{TxId}
use Rattle.mvo_types.specs.Keys.{Map}
use Rattle.mvo_types.specs.Write.{Effect}
use Rattle.mvo_types.specs.Write.Effect.{Put, Delete as Gone}
use Rattle.mvo_model.specs.History.{net_write}
use Rattle.mvo_theory.specs.Entries.{entry_of}
use Rattle.mvo_types.specs.declared.entry.Entry.TheVariants.{Key}
use Rattle.mvo_theory.specs.State.{State, StampedTx, ActiveTx, active_of}
use Rattle.mvo_theory.specs.Dependencies.{last_writer, depend_on, dependencies}
use Rattle.mvo_shared.specs.Standing.{IsStanding}
use Rattle.mvo_theory.proofs.Who.{active_holds}
use Rattle.mvo_word.specs.declared.held.Held.{Held}
use Rattle.mvo_chain.specs.declared.version.Version.{Version}
use Rattle.mvo_chain.specs.declared.version.VersionNo.{VersionNo}
use Rattle.mvo_chain.specs.Slots.{Slots, version_at}
use Rattle.mvo_hash.specs.Lists.{Lists, number, numbers_of}
use Rattle.mvo_visible.specs.declared.seen.Seen.{Seen}
use Rattle.mvo_visible.specs.declared.seen.Seen.TheVariants.{Nothing, Settled, Speculative}
use Rattle.mvo_visible.specs.Words.{States, seen_of, names}
use Rattle.mvo_visible.specs.Versions.{NumberedVersion, and_version, versions_by, versions_at, is_own, own_newest}
use Rattle.mvo_visible.specs.Changes.{is_at, put_of, removal_of, changes_by, changes_of, first_with, owner_with, greatest_below, done_with, deciding}
use Rattle.mvo_visible.specs.Shown.{shown_by, own_or, shown_to}
use Rattle.mvo_visible.proofs.Decides.{first_with-append, option_or-none}
use Rattle.mvo_representation.specs.Words.{as_net_effect, last_change, ends_of, stamp_in, is_stamp, has_stamp, NetEffect, net_effect, with_open}
use Rattle.mvo_representation.specs.Versions.{Say, IsKnown, AreVersionsOf}
use Rattle.mvo_representation.specs.Indexes.{all_versions, HasNumbers}
use Rattle.mvo_representation.specs.Table.{phases_of, end_awaited}
use Rattle.mvo_representation.proofs.LastChanges.{first_of, change_by}
use Rattle.mvo_representation.proofs.Shown.{active_begins, deciding as last_is}
use Rattle.mvo_representation.proofs.Open.{is_open, open_word}
use Rattle.mvo_representation.proofs.Read.{written_depends, key_depends, read_depends}
use Rattle.mvo_representation.proofs.Seen.{seen_at, owner_in, seen_owner}
use Rattle.mvo_representation.proofs.Decided.{changes_at, unnumbered, is_change, change_any, greatest_change, last_of_versions, last_holds}
use Rattle.mvo_representation.proofs.ShownTo.{of_key, keyed, below_keyed}
use Rattle.mvo_representation.proofs.Slots.{none_version, some_version}

-- ---- the owner of a change
-- what the first of the words with the stamp tells of the owner is this, and nothing is told without one
record Tells (states : States) (e : Option ℕ) (there : Bool) (o : Option TxId) : Type 0 where
  pub with' : there ≡ true → end_awaited states o ≡ e
  pub without : there ≡ false → o ≡ None

tells_or : (states : States) (e : Option ℕ) (a b : Bool) (o r : Option TxId) → Tells states e a o → Tells states e b r → Tells states e (a || b) (option_or o r)
tells_or states e false b o r x y = subst (λ w. Tells states e b (option_or w r)) (sym (x.without refl)) y
tells_or states e true b (Some t) r x y = record { with' = λ _. x.with' refl; without = λ q. absurd (true≢false q) }
tells_or states e true true None r x y = record { with' = λ _. y.with' refl; without = λ q. absurd (true≢false q) }
tells_or states e true false None r x y = record { with' = λ _. ap (end_awaited states) (y.without refl) ∙ x.with' refl; without = λ q. absurd (true≢false q) }

abbrev owner_at : ℕ → Seen → Option TxId
owner_at s w = cond (is_at s w) (owner_in w) None

nobody : (b : Bool) (w : Option TxId) → w ≡ None → option_or (cond b w None) None ≡ None
nobody true w q = ap (λ v. option_or v None) q
nobody false w q = refl

owner_put : (s : ℕ) (n : VersionNo) (w x : Seen) → first_with (λ c. c.owner) s (put_of n w x) ≡ owner_at s w
owner_put s n Nothing x = refl
owner_put s n (Settled e) x = option_or-none (cond (e.0 == s) None None)
owner_put s n (Speculative e t) x = option_or-none (cond (e.0 == s) (Some t) None)

owner_removed : (s : ℕ) (x : Seen) → first_with (λ c. c.owner) s (removal_of x) ≡ owner_at s x
owner_removed s Nothing = refl
owner_removed s (Settled e) = option_or-none (cond (e.0 == s) None None)
owner_removed s (Speculative e t) = option_or-none (cond (e.0 == s) (Some t) None)

-- ---- a word with the stamp
none_stamp : (e : ℕ) → ◌≡◌ {A = Option ℕ} None (Some e) → ⊥
none_stamp e q = cc

some_change : (p : ℕ × NetEffect) → ◌≡◌ {A = Option (ℕ × NetEffect)} (Some p) None → ⊥
some_change p q = cc

pub stamp_some : (s : ℕ) (o : Option ℕ) → is_stamp s o ≡ true → o ≡ Some s
stamp_some s None e = absurd (false≢true e)
stamp_some s (Some n) e = ap Some (eqb-true n s e)

module _ (s : State) (states : States) (vs : List Version) (h : AreVersionsOf s (phases_of states) vs) where
  abbrev AreKnownWords : List NumberedVersion → Type 0
  AreKnownWords es = AllByRecursion (λ e. IsKnown s (phases_of states) e.1.begin × IsKnown s (phases_of states) e.1.end) es

  -- whom the words with the stamp n name
  abbrev whom : ℕ → Option ℕ
  whom n = cond (is_open n s.stamped) (Some n) None

  tells_word : (n : ℕ) (w : Held) → IsKnown s (phases_of states) w → Tells states (whom n) (has_stamp (ends_of (phases_of states)) n w) (owner_at n (seen_of states w))
  tells_word n w known = go (is_at n (seen_of states w)) refl
    where
      go : (b : Bool) → is_at n (seen_of states w) ≡ b → Tells states (whom n) (has_stamp (ends_of (phases_of states)) n w) (owner_at n (seen_of states w))
      go true q = record {
        with' = λ e. ap (λ b. end_awaited states (cond b (owner_in (seen_of states w)) None)) q ∙ seen_owner states w ∙ open_word s (phases_of states) vs h w known n (stamp_some n (stamp_in (ends_of (phases_of states)) w) e);
        without = λ e. absurd (true≢false (sym q ∙ seen_at states n w ∙ e));
      }
      go false q = record {
        with' = λ e. absurd (true≢false (sym e ∙ sym (seen_at states n w) ∙ q));
        without = λ _. ap (λ b. cond b (owner_in (seen_of states w)) None) q;
      }

  tells_all : (n : ℕ) (es : List NumberedVersion) → AreKnownWords es → Tells states (whom n) (list_any (changes_at states n) es) (owner_with n (changes_of states es))
  tells_all n [] k = record { with' = λ e. absurd (false≢true e); without = λ _. refl }
  tells_all n (e ∷ es) k =
      subst (Tells states (whom n) (changes_at states n e || list_any (changes_at states n) es)) (sym (first_with-append (λ c. c.owner) n (changes_by states e) (changes_of states es)))
      (tells_or states (whom n) (changes_at states n e) (list_any (changes_at states n) es) (first_with (λ c. c.owner) n (changes_by states e)) (owner_with n (changes_of states es))
      (subst (Tells states (whom n) (changes_at states n e))
      (sym (first_with-append (λ c. c.owner) n (put_of e.0 (seen_of states e.1.begin) (seen_of states e.1.end)) (removal_of (seen_of states e.1.end))
      ∙ ap (λ o. option_or o (first_with (λ c. c.owner) n (removal_of (seen_of states e.1.end)))) (owner_put n e.0 (seen_of states e.1.begin) (seen_of states e.1.end))
      ∙ ap (option_or (owner_at n (seen_of states e.1.begin))) (owner_removed n (seen_of states e.1.end))))
      (tells_or states (whom n) (has_stamp (ends_of (phases_of states)) n e.1.begin) (has_stamp (ends_of (phases_of states)) n e.1.end) (owner_at n (seen_of states e.1.begin)) (owner_at n (seen_of states e.1.end)) (tells_word n e.1.begin k.0.0) (tells_word n e.1.end k.0.1)))
      (tells_all n es k.1))

  -- some word has it
  record WordAt (n : ℕ) : Type 0 where
    pub word : Held
    pub known : IsKnown s (phases_of states) word
    pub stamp : stamp_in (ends_of (phases_of states)) word ≡ Some n

  word_at : (n : ℕ) (es : List NumberedVersion) → AreKnownWords es → list_any (changes_at states n) es ≡ true → WordAt n
  word_at n [] k e = absurd (false≢true e)
  word_at n (v ∷ es) k e = go (has_stamp (ends_of (phases_of states)) n v.1.begin) refl (has_stamp (ends_of (phases_of states)) n v.1.end) refl e (λ r. word_at n es k.1 r)
    where
      go : (b : Bool) → has_stamp (ends_of (phases_of states)) n v.1.begin ≡ b → (c : Bool) → has_stamp (ends_of (phases_of states)) n v.1.end ≡ c → ((b || c) || list_any (changes_at states n) es) ≡ true → (list_any (changes_at states n) es ≡ true → WordAt n) → WordAt n
      go true p c q r again = record { word = v.1.begin; known = k.0.0; stamp = stamp_some n (stamp_in (ends_of (phases_of states)) v.1.begin) p }
      go false p true q r again = record { word = v.1.end; known = k.0.1; stamp = stamp_some n (stamp_in (ends_of (phases_of states)) v.1.end) q }
      go false p false q r again = again r

-- ---- the words of the versions of a key are known
at_slot : (P : Version → Type 0) (slots : Slots) (n : ℕ) (v : Version) → slice_index_or slots n None ≡ Some v → AllByRecursion P (all_versions slots) → P v
at_slot P [] zero v e h = absurd (none_version v e)
at_slot P [] (suc n) v e h = absurd (none_version v e)
at_slot P (None ∷ ss) zero v e h = absurd (none_version v e)
at_slot P (Some w ∷ ss) zero v e h = subst P (some_version w v e) h.0
at_slot P (None ∷ ss) (suc n) v e h = at_slot P ss n v e h
at_slot P (Some w ∷ ss) (suc n) v e h = at_slot P ss n v e h.1

pub each_numbered : (P : Version → Type 0) (slots : Slots) (ns : List VersionNo) → AllByRecursion P (all_versions slots) → AllByRecursion (λ e. P e.1) (versions_by slots ns)
each_numbered P slots [] h = tt
each_numbered P slots (n ∷ ns) h = go (version_at slots n) refl (each_numbered P slots ns h)
  where
    go : (o : Option Version) → version_at slots n ≡ o → AllByRecursion (λ e. P e.1) (versions_by slots ns) → AllByRecursion (λ e. P e.1) (and_version n o (versions_by slots ns))
    go None e r = r
    go (Some v) e r = (at_slot P slots n.0 v e h, r)

-- ---- the rule
none_writer : (k : RowKey) (w : Option StampedTx) (r : Option (ℕ × NetEffect)) → first_of (option_map (change_by k) w) r ≡ None → w ≡ None
none_writer k None r e = refl
none_writer k (Some x) r e = absurd (some_change (change_by k x) e)

pub depends_is : (opening : Map) (s : State) (states : States) (slots : Slots) (lists : Lists) (op : Op) (r : ActiveTx) (k : RowKey) → IsStanding opening s → AreVersionsOf s (phases_of states) (all_versions slots) → HasNumbers slots lists → active_of r.id s.active ≡ Some r → entry_of op ≡ Key k → dependencies s op r ≡ with_open r.depends_on (end_awaited states (shown_to states r.id r.id (versions_at slots lists k)).depends_on)
depends_is opening s states slots lists op r k kept h ns f en = by (list_any (is_own r.id) (versions_at slots lists k)) refl
  where
    wrote : list_any (is_own r.id) (versions_at slots lists k) ≡ is_change (as_net_effect (net_write k r.history))
    wrote =
        sym (change_any (names r.id) k (versions_at slots lists k) (of_key slots lists k ns))
        ∙ ap is_change (sym (keyed slots lists k ns (names r.id)) ∙ (active_holds (λ q. Say (names q.id) q.history q.footprint (all_versions slots)) r.id s.active r f h.active).0.writes k)

    some_write : (w : Option Effect) → is_change (as_net_effect w) ≡ is_some w
    some_write None = refl
    some_write (Some Gone) = refl
    some_write (Some (Put g)) = refl

    no_write : (w : Option Effect) → is_some w ≡ false → w ≡ None
    no_write None e = refl
    no_write (Some x) e = absurd (true≢false e)

    others : net_write k r.history ≡ None → (w : Option ℕ) → greatest_below r.id (changes_of states (versions_at slots lists k)) ≡ w → dependencies s op r ≡ with_open r.depends_on (end_awaited states (shown_by (option_map (done_with (changes_of states (versions_at slots lists k))) w)).depends_on)
    others n None e =
        key_depends s op r k en n
        ∙ ap (depend_on r.depends_on) (none_writer k (last_writer k r.id s.stamped) (last_change (λ m. net_effect (has_stamp (ends_of (phases_of states)) m) k (all_versions slots)) (suc s.start))
        (sym (last_is s (phases_of states) (all_versions slots) r.id k kept.sound kept.started h (active_begins s (phases_of states) (all_versions slots) r.id r kept.sound h f))
        ∙ below_keyed states slots lists k r.id ns
        ∙ last_of_versions states r.id k (versions_at slots lists k) (of_key slots lists k ns)
        ∙ ap (option_map (λ m. (m, net_effect (has_stamp (ends_of (phases_of states)) m) k (unnumbered (versions_at slots lists k))))) e))
    others n (Some m) e =
        let known = each_numbered (λ v. IsKnown s (phases_of states) v.begin × IsKnown s (phases_of states) v.end) slots (map number (numbers_of lists k)) h.known in
        let there : list_any (changes_at states m) (versions_at slots lists k) ≡ true = last_holds (λ i. list_any (changes_at states i) (versions_at slots lists k)) r.id m (sym (greatest_change states r.id (versions_at slots lists k)) ∙ e) in
        let w = word_at s states (all_versions slots) h m (versions_at slots lists k) known there in
        read_depends opening s (phases_of states) (all_versions slots) op r k w.word (m, net_effect (has_stamp (ends_of (phases_of states)) m) k (unnumbered (versions_at slots lists k))) kept h f en n w.known
        (below_keyed states slots lists k r.id ns ∙ last_of_versions states r.id k (versions_at slots lists k) (of_key slots lists k ns) ∙ ap (option_map (λ i. (i, net_effect (has_stamp (ends_of (phases_of states)) i) k (unnumbered (versions_at slots lists k))))) e)
        w.stamp
        ∙ ap (with_open r.depends_on) (open_word s (phases_of states) (all_versions slots) h w.word w.known m w.stamp
        ∙ sym ((tells_all s states (all_versions slots) h m (versions_at slots lists k) known).with' there))

    by : (b : Bool) → list_any (is_own r.id) (versions_at slots lists k) ≡ b → dependencies s op r ≡ with_open r.depends_on (end_awaited states (shown_to states r.id r.id (versions_at slots lists k)).depends_on)
    by true e =
        written_depends s op r k en (sym (some_write (net_write k r.history)) ∙ sym wrote ∙ e)
        ∙ sym (ap (λ b. with_open r.depends_on (end_awaited states (own_or b (own_newest r.id (versions_at slots lists k)) (deciding r.id (changes_of states (versions_at slots lists k)))).depends_on)) e)
    by false e =
        others (no_write (net_write k r.history) (sym (some_write (net_write k r.history)) ∙ sym wrote ∙ e)) (greatest_below r.id (changes_of states (versions_at slots lists k))) refl
        ∙ sym (ap (λ b. with_open r.depends_on (end_awaited states (own_or b (own_newest r.id (versions_at slots lists k)) (deciding r.id (changes_of states (versions_at slots lists k)))).depends_on)) e)
