-- The next group of the shadow is the shadow of the next group.
use Rattle.std.proofs.Common.{◌≡◌, ℕ, Bool, true, false, cond, not, List, [], ◌∷◌, ◌++◌, Option, None, Some, map, length, refl, sym, ap, ◌∙◌, subst}
use Rattle.std.specs.Prelude.{◌==◌, ◌&&◌, nat_lt, nat_le, drop, is_some}
use Rattle.std.specs.List.{filter}
use Rattle.std.specs.Option.{option_map}
use Rattle.std.proofs.lemmas.Bool.{true≢false}
use Rattle.std.proofs.lemmas.List.{length-map, map-append, drop-map}
use Rattle.mvo_types.specs.declared.row.RowKey.{RowKey}
use Rattle.mvo_types.specs.Write.{Write}
use Rattle.mvo_model.specs.History.{History, write_of}
use Rattle.mvo_theory.specs.Entries.{noted_key, written_from}
use Rattle.mvo_theory.specs.State.{State, StampedTx, timeline}
use Rattle.mvo_theory.specs.Marks.{Commit, settled_to, low_water}
use Rattle.mvo_theory.specs.Groups.{Limits, Group, is_due, due, IsFull, IsLongest, last_of, mark_by, IsNextGroup}
use Rattle.mvo_shared.specs.Shadow.{is_writing_answer, writing_operations, stamped_shadow, shadow}
use Rattle.mvo_shadow.specs.Shadowed.{commit_shadow, group_shadow, GoByWrites}
use Rattle.mvo_shadow.proofs.Finds.{low_water_alike, map_filter}

-- ---- the keys that are written
none_of : (w : Option Write) → is_some w ≡ false → w ≡ None
none_of None e = refl
none_of (Some v) e = absurd (true≢false e)

written_there : (ks : List RowKey) (ts : History) → written_from ks (writing_operations ts) ≡ written_from ks ts
written_there ks [] = refl
written_there ks (t ∷ ts) = go (is_writing_answer t) refl (λ js. written_there js ts)
  where
    go : (b : Bool) → is_writing_answer t ≡ b → ((js : List RowKey) → written_from js (writing_operations ts) ≡ written_from js ts) → written_from ks (cond b (t ∷ writing_operations ts) (writing_operations ts)) ≡ written_from (noted_key ks (option_map (λ w. w.0) (write_of t.0 t.1))) ts
    go true e h = h (noted_key ks (option_map (λ w. w.0) (write_of t.0 t.1)))
    go false e h = h ks ∙ ap (λ (w : Option Write). written_from (noted_key ks (option_map (λ v. v.0) w)) ts) (sym (none_of (write_of t.0 t.1) e))

due_alike : (n : ℕ) (c : Commit) → is_due n (commit_shadow c) ≡ is_due n c
due_alike n c = ap (λ (ks : List RowKey). nat_lt n c.0 && not (length ks == 0)) (written_there [] c.1)

-- ---- the commits
settled_there : (m : ℕ) (xs : List StampedTx) → settled_to m (map stamped_shadow xs) ≡ map {A = Commit} commit_shadow (settled_to m xs)
settled_there m [] = refl
settled_there m (x ∷ xs) = go (x.settled && nat_le x.end m) (settled_there m xs)
  where
    go : (b : Bool) → settled_to m (map stamped_shadow xs) ≡ map {A = Commit} commit_shadow (settled_to m xs)
        → cond b ((x.end, writing_operations x.history) ∷ settled_to m (map stamped_shadow xs)) (settled_to m (map stamped_shadow xs)) ≡ map {A = Commit} commit_shadow (cond b ((x.end, x.history) ∷ settled_to m xs) (settled_to m xs))
    go true e = ap (λ cs. (x.end, writing_operations x.history) ∷ cs) e
    go false e = e

pub due_there : (s : State) → due (shadow s) ≡ map {A = Commit} commit_shadow (due s)
due_there s =
    ap (λ (n : ℕ). filter (is_due s.marks.closed) (settled_to n (map stamped_shadow s.past ++ map stamped_shadow s.stamped))) (low_water_alike s)
    ∙ ap (λ xs. filter (is_due s.marks.closed) (settled_to (low_water s) xs)) (sym (map-append stamped_shadow s.past s.stamped))
    ∙ ap (filter (is_due s.marks.closed)) (settled_there (low_water s) (timeline s))
    ∙ sym (map_filter commit_shadow (is_due s.marks.closed) (due_alike s.marks.closed) (settled_to (low_water s) (timeline s)))

-- ---- the longest beginning
pub left_there : (taken commits : List Commit) → drop (length (map {A = Commit} commit_shadow taken)) (map {A = Commit} commit_shadow commits) ≡ map {A = Commit} commit_shadow (drop (length taken) commits)
left_there taken commits = ap (λ (n : ℕ). drop n (map {A = Commit} commit_shadow commits)) (length-map taken commit_shadow) ∙ drop-map commit_shadow (length taken) commits

full_there : (fits : Limits) → GoByWrites fits → (taken left : List Commit) → IsFull fits taken left → IsFull fits (map {A = Commit} commit_shadow taken) (map {A = Commit} commit_shadow left)
full_there fits same taken [] h = tt
full_there fits same taken (c ∷ cs) h = ap fits (sym (map-append commit_shadow taken (c ∷ []))) ∙ same (taken ++ c ∷ []) ∙ h

longest_there : (fits : Limits) → GoByWrites fits → (commits taken : List Commit) → IsLongest fits commits taken → IsLongest fits (map {A = Commit} commit_shadow commits) (map {A = Commit} commit_shadow taken)
longest_there fits same commits taken h = record {
  beginning = ap (λ cs. map {A = Commit} commit_shadow taken ++ cs) (left_there taken commits) ∙ sym (map-append commit_shadow taken (drop (length taken) commits)) ∙ ap (map {A = Commit} commit_shadow) h.beginning;
  within = same taken ∙ h.within;
  full = subst (IsFull fits (map {A = Commit} commit_shadow taken)) (sym (left_there taken commits)) (full_there fits same taken (drop (length taken) commits) h.full);
}

-- ---- its mark
last_there : (e : ℕ) (cs : List Commit) → last_of e (map {A = Commit} commit_shadow cs) ≡ last_of e cs
last_there e [] = refl
last_there e (c ∷ cs) = last_there c.0 cs

pub mark_there : (low prev : ℕ) (taken left : List Commit) → mark_by low prev (map {A = Commit} commit_shadow taken) (map {A = Commit} commit_shadow left) ≡ mark_by low prev taken left
mark_there low prev taken [] = refl
mark_there low prev taken (c ∷ cs) = last_there prev taken

pub next_there : (fits : Limits) (s : State) (g : Group) → GoByWrites fits → IsNextGroup fits s g → IsNextGroup fits (shadow s) (group_shadow g)
next_there fits s g same h = record {
  prev = h.prev;
  longest = subst (λ cs. IsLongest fits cs (map {A = Commit} commit_shadow g.commits)) (sym (due_there s)) (longest_there fits same (due s) g.commits h.longest);
  mark = h.mark ∙ sym (
      ap (λ (n : ℕ). mark_by n s.marks.closed (map {A = Commit} commit_shadow g.commits) (drop (length (map {A = Commit} commit_shadow g.commits)) (due (shadow s)))) (low_water_alike s)
      ∙ ap (λ cs. mark_by (low_water s) s.marks.closed (map {A = Commit} commit_shadow g.commits) (drop (length (map {A = Commit} commit_shadow g.commits)) cs)) (due_there s)
      ∙ ap (mark_by (low_water s) s.marks.closed (map {A = Commit} commit_shadow g.commits)) (left_there g.commits (due s))
      ∙ mark_there (low_water s) s.marks.closed g.commits (drop (length g.commits) (due s)));
}
