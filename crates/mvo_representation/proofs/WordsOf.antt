-- The words of a transaction after one answer more.
use Rattle.std.proofs.Common.{◌≡◌, ◌≢◌, ℕ, Bool, true, false, cond, List, [], ◌∷◌, ◌++◌, Option, None, Some, refl, sym, ap, ◌∙◌, subst, append-nil, append_assoc, ◌⊎◌, inl, inr}
use Rattle.std.specs.Prelude.{is_some}
use Rattle.std.specs.List.{AllByRecursion}
use Rattle.std.specs.Ordering.{eq_by_cmp}
use Rattle.std.specs.Cmp.{eq_by_cmp_equiv}
use Rattle.std.proofs.lemmas.Bool.{eq-eqb, ne_eqb}
use Rattle.mvo_types.proofs.Maps.{keys_total}
use Rattle.mvo_types.specs.declared.row.RowKey.{RowKey}
use Rattle.mvo_types.specs.declared.op.Op.{Op}
use Rattle.mvo_types.specs.declared.op.Op.TheVariants.{Insert, Update, Delete}
use Rattle.mvo_types.specs.Write.{Write, Effect}
use Rattle.mvo_types.specs.RowData.{content_of}
use Rattle.mvo_types.specs.Write.Effect.{Put, Delete as Gone}
use Rattle.mvo_types.specs.Keys.{key_cmp}
use Rattle.mvo_types.specs.AnswerData.{AnswerData}
use Rattle.mvo_types.specs.AnswerData.AnswerData.{Inserted, Updated, Deleted}
use Rattle.mvo_model.specs.History.{History, write_of, write_at, later, net_write}
use Rattle.mvo_theory.specs.State.{State, ActiveTx, Claim, Word}
use Rattle.mvo_theory.specs.State.Word.{Own, Ended}
use Rattle.mvo_theory.specs.Claims.{ended_key, claims_with}
use Rattle.mvo_theory.specs.Changes.{with_answer}
use Rattle.mvo_theory.specs.Words.{end_on, end_word, words_by, words_behind, words_of}
use Rattle.mvo_theory.proofs.Footprints.{key_same}

-- ---- one answer more
words_behind-push : (before : History) (claims : List Claim) (ts : History) (op : Op) (a : AnswerData) → words_behind before claims (ts ++ (op, a) ∷ []) ≡ words_behind before claims ts ++ words_by (before ++ ts) claims op a
words_behind-push before claims [] op a = append-nil (words_by before claims op a) ∙ ap (λ (ts : History). words_by ts claims op a) (sym (append-nil before))
words_behind-push before claims (t ∷ ts) op a =
    ap (λ ws. words_by before claims t.0 t.1 ++ ws) (words_behind-push (before ++ t ∷ []) claims ts op a ∙ ap (λ (h : History). words_behind (before ++ t ∷ []) claims ts ++ words_by h claims op a) (append_assoc before (t ∷ []) ts))
    ∙ sym (append_assoc (words_by before claims t.0 t.1) (words_behind (before ++ t ∷ []) claims ts) (words_by (before ++ t ∷ ts) claims op a))

pub words_pushed : (ts : History) (claims : List Claim) (op : Op) (a : AnswerData) → words_of (ts ++ (op, a) ∷ []) claims ≡ words_of ts claims ++ words_by ts claims op a
words_pushed ts claims op a = words_behind-push [] claims ts op a

-- ---- one claim more, of a key that wasn't written
end_on_other : (k : RowKey) (cs : List Claim) (c : Claim) → eq_by_cmp key_cmp k c.key ≡ false → end_on k (cs ++ c ∷ []) ≡ end_on k cs
end_on_other k [] c n = ap (λ (b : Bool). cond b (Ended c) Own) n
end_on_other k (d ∷ ds) c n = ap (λ (w : Word). cond (eq_by_cmp key_cmp k d.key) (Ended d) w) (end_on_other k ds c n)

pub end_on_new : (k : RowKey) (cs : List Claim) (c : Claim) → c.key ≡ k → AllByRecursion (λ d. eq_by_cmp key_cmp k d.key ≡ false) cs → end_on k (cs ++ c ∷ []) ≡ Ended c
end_on_new k [] c e h = ap (λ (b : Bool). cond b (Ended c) Own) (subst (λ (j : RowKey). eq_by_cmp key_cmp k j ≡ true) (sym e) ((eq_by_cmp_equiv keys_total).refl k))
end_on_new k (d ∷ ds) c e h = ap (λ (b : Bool). cond b (Ended d) (end_on k (ds ++ c ∷ []))) h.0 ∙ end_on_new k ds c e h.1

none_write : (e : Effect) → ◌≡◌ {A = Option Effect} (Some e) None → ⊥
none_write e q = cc

-- what is left out of a history in which the key isn't written
none_first : (a b : Option Effect) → later a b ≡ None → (a ≡ None) × (b ≡ None)
none_first None b e = (refl, e)
none_first (Some x) b e = absurd (none_write x e)

not_key : (k q : RowKey) (e : Effect) → cond (eq_by_cmp key_cmp k q) (Some e) None ≡ None → eq_by_cmp key_cmp q k ≡ false
not_key k q e h = go (eq_by_cmp key_cmp q k) refl
  where
    go : (b : Bool) → eq_by_cmp key_cmp q k ≡ b → eq_by_cmp key_cmp q k ≡ false
    go true g = absurd (none_write e (sym (ap (λ (b : Bool). cond b (Some e) None) (subst (λ (j : RowKey). eq_by_cmp key_cmp k j ≡ true) (key_same q k g) ((eq_by_cmp_equiv keys_total).refl k))) ∙ h))
    go false g = g

end_word_other : (before : History) (cs : List Claim) (c : Claim) (k : RowKey) → eq_by_cmp key_cmp k c.key ≡ false → end_word before (cs ++ c ∷ []) k ≡ end_word before cs k
end_word_other before cs c k n = ap (λ (w : Word). cond (is_some (net_write k before)) Own w) (end_on_other k cs c n)

words_by_other : (before : History) (cs : List Claim) (c : Claim) (op : Op) (a : AnswerData) → write_at c.key (write_of op a) ≡ None → words_by before (cs ++ c ∷ []) op a ≡ words_by before cs op a
words_by_other before cs c (Insert r) Inserted e = refl
words_by_other before cs c (Update r) Updated e = ap (λ w. w ∷ Own ∷ []) (end_word_other before cs c r.key (not_key c.key r.key (Put (content_of r)) e))
words_by_other before cs c (Delete k) Deleted e = ap (λ w. w ∷ []) (end_word_other before cs c k (not_key c.key k Gone e))
words_by_other before cs c op a e = refl

words_behind_other : (before : History) (cs : List Claim) (c : Claim) (ts : History) → net_write c.key ts ≡ None → words_behind before (cs ++ c ∷ []) ts ≡ words_behind before cs ts
words_behind_other before cs c [] e = refl
words_behind_other before cs c (t ∷ ts) e =
    let p = none_first (net_write c.key ts) (write_at c.key (write_of t.0 t.1)) e in
    ap (λ ws. ws ++ words_behind (before ++ t ∷ []) (cs ++ c ∷ []) ts) (words_by_other before cs c t.0 t.1 p.1)
    ∙ ap (λ ws. words_by before cs t.0 t.1 ++ ws) (words_behind_other (before ++ t ∷ []) cs c ts p.0)

pub words_claimed : (ts : History) (cs : List Claim) (c : Claim) → net_write c.key ts ≡ None → words_of ts (cs ++ c ∷ []) ≡ words_of ts cs
words_claimed ts cs c e = words_behind_other [] cs c ts e

-- ---- of each Active one
abbrev pub words_told : State → ℕ → Op → AnswerData → ActiveTx → List Word
words_told s t op a q = words_of (with_answer s t op a q).history (with_answer s t op a q).claims

pub told_other : (s : State) (t : ℕ) (op : Op) (a : AnswerData) (q : ActiveTx) → q.id ≢ t → words_told s t op a q ≡ words_of q.history q.claims
told_other s t op a q n = ap (λ (b : Bool). words_of (cond b (q.history ++ (op, a) ∷ []) q.history) (cond b (claims_with s q (ended_key op a)) q.claims)) (ne_eqb q.id t n)

pub told_own : (s : State) (t : ℕ) (op : Op) (a : AnswerData) (q : ActiveTx) → q.id ≡ t → words_told s t op a q ≡ words_of q.history (claims_with s q (ended_key op a)) ++ words_by q.history (claims_with s q (ended_key op a)) op a
told_own s t op a q e = ap (λ (b : Bool). words_of (cond b (q.history ++ (op, a) ∷ []) q.history) (cond b (claims_with s q (ended_key op a)) q.claims)) (eq-eqb q.id t e) ∙ words_pushed q.history (claims_with s q (ended_key op a)) op a

-- ---- an answer that writes nothing
some_none : (w : Write) → ◌≡◌ {A = Option Write} (Some w) None → ⊥
some_none w q = cc

pub no_end : (op : Op) (a : AnswerData) → write_of op a ≡ None → ended_key op a ≡ None
no_end (Update r) Updated e = absurd (some_none (r.key, Put (content_of r)) e)
no_end (Delete k) Deleted e = absurd (some_none (k, Gone) e)
no_end op a e = refl

no_words : (before : History) (cs : List Claim) (op : Op) (a : AnswerData) → write_of op a ≡ None → words_by before cs op a ≡ []
no_words before cs (Insert r) Inserted e = absurd (some_none (r.key, Put (content_of r)) e)
no_words before cs (Update r) Updated e = absurd (some_none (r.key, Put (content_of r)) e)
no_words before cs (Delete k) Deleted e = absurd (some_none (k, Gone) e)
no_words before cs op a e = refl

pub told_nothing : (s : State) (t : ℕ) (op : Op) (a : AnswerData) (q : ActiveTx) → write_of op a ≡ None → (q.id ≡ t) ⊎ (q.id ≡ t → ⊥) → words_told s t op a q ≡ words_of q.history q.claims
told_nothing s t op a q e (inl i) =
    told_own s t op a q i
    ∙ ap (λ (o : Option RowKey). words_of q.history (claims_with s q o) ++ words_by q.history (claims_with s q o) op a) (no_end op a e)
    ∙ ap (λ ws. words_of q.history q.claims ++ ws) (no_words q.history q.claims op a e) ∙ append-nil (words_of q.history q.claims)
told_nothing s t op a q e (inr n) = told_other s t op a q n
