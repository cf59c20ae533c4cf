-- Whether commits fit into a group of the log goes by what they wrote.
use Rattle.std.proofs.Common.{◌≡◌, ℕ, ◌+◌, Bool, true, false, cond, List, [], ◌∷◌, Option, None, Some, map, length, refl, sym, ap, ◌∙◌}
use Rattle.std.specs.Prelude.{◌&&◌, nat_le, is_some, sum_by}
use Rattle.std.specs.List.{fold}
use Rattle.std.specs.Option.{option_map}
use Rattle.std.proofs.lemmas.Bool.{true≢false}
use Rattle.std.proofs.lemmas.List.{length-map}
use Rattle.mvo_types.specs.declared.limits.TheConstants.{MAX_BODY_LEN, MAX_RECORDS}
use Rattle.mvo_types.specs.declared.row.RowKey.{RowKey}
use Rattle.mvo_types.specs.Write.{Write, Effect}
use Rattle.mvo_model.specs.History.{History, write_of, net_write}
use Rattle.mvo_theory.specs.Entries.{noted_key, written_from, written_keys}
use Rattle.mvo_theory.specs.Marks.{Commit}
use Rattle.mvo_shared.specs.Shadow.{is_writing_answer, writing_operations}
use Rattle.mvo_shared.proofs.Shadow as alike
use Rattle.mvo_shadow.specs.Shadowed.{commit_shadow}
use Rattle.mvo_group.specs.declared.lengths.TheConstants.{BODY_HEADER_LEN, RECORD_HEADER_LEN}
use Rattle.mvo_group.specs.Rules.{write_len}
use Rattle.mvo_tale.specs.Records.{and_write, net_writes, commit_len, commits_len, fits}

none_of : (w : Option Write) → is_some w ≡ false → w ≡ None
none_of None e = refl
none_of (Some v) e = absurd (true≢false e)

keys_alike : (ks : List RowKey) (ts : History) → written_from ks (writing_operations ts) ≡ written_from ks ts
keys_alike ks [] = refl
keys_alike ks (t ∷ ts) = go (is_writing_answer t) refl (λ js. keys_alike js ts)
  where
    go : (b : Bool) → is_writing_answer t ≡ b → ((js : List RowKey) → written_from js (writing_operations ts) ≡ written_from js ts) → written_from ks (cond b (t ∷ writing_operations ts) (writing_operations ts)) ≡ written_from (noted_key ks (option_map (λ w. w.0) (write_of t.0 t.1))) ts
    go true e h = h (noted_key ks (option_map (λ w. w.0) (write_of t.0 t.1)))
    go false e h = h ks ∙ ap (λ (w : Option Write). written_from (noted_key ks (option_map (λ v. v.0) w)) ts) (sym (none_of (write_of t.0 t.1) e))

writes_alike : (ts : History) (ks : List RowKey) → net_writes (writing_operations ts) ks ≡ net_writes ts ks
writes_alike ts [] = refl
writes_alike ts (k ∷ ks) =
    ap (λ (e : Option Effect). and_write k e (net_writes (writing_operations ts) ks)) (alike.net_writes k ts)
    ∙ ap (and_write k (net_write k ts)) (writes_alike ts ks)

len_alike : (c : Commit) → commit_len (commit_shadow c) ≡ commit_len c
len_alike c =
    ap (λ (ks : List RowKey). RECORD_HEADER_LEN + sum_by write_len (net_writes (writing_operations c.1) ks)) (keys_alike [] c.1)
    ∙ ap (λ (ws : List Write). RECORD_HEADER_LEN + sum_by write_len ws) (writes_alike c.1 (written_keys c.1))

lens_from : (a : ℕ) (cs : List Commit) → fold (λ (n : ℕ) (c : Commit). n + commit_len c) a (map {A = Commit} commit_shadow cs) ≡ fold (λ (n : ℕ) (c : Commit). n + commit_len c) a cs
lens_from a [] = refl
lens_from a (c ∷ cs) =
    ap (λ (n : ℕ). fold (λ (m : ℕ) (d : Commit). m + commit_len d) (a + n) (map {A = Commit} commit_shadow cs)) (len_alike c)
    ∙ lens_from (a + commit_len c) cs

lens_alike : (cs : List Commit) → sum_by commit_len (map {A = Commit} commit_shadow cs) ≡ sum_by commit_len cs
lens_alike cs = lens_from 0 cs

pub fits_alike : (cs : List Commit) → fits (map {A = Commit} commit_shadow cs) ≡ fits cs
fits_alike cs =
    ap (λ (n : ℕ). nat_le n MAX_RECORDS && nat_le (commits_len (map {A = Commit} commit_shadow cs)) MAX_BODY_LEN) (length-map cs commit_shadow)
    ∙ ap (λ (n : ℕ). nat_le (length cs) MAX_RECORDS && nat_le (BODY_HEADER_LEN + n) MAX_BODY_LEN) (lens_alike cs)
