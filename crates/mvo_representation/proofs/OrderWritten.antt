-- The list of the versions that a transaction has put or ended is kept.
use Rattle.std.proofs.Common.{◌≡◌, ◌≢◌, ℕ, Bool, true, false, cond, eqb, ◌||◌, List, [], ◌∷◌, ◌++◌, Option, None, Some, refl, sym, ap, ◌∙◌, ◌⊎◌, inl, inr}
use Rattle.std.specs.List.{AllByRecursion}
use Rattle.std.specs.FinMap as fin
use Rattle.std.proofs.lemmas.Bool.{cases_eq, eq-eqb, false≢true}
use Rattle.std.proofs.lemmas.List.Folds.{list_any-append}
use Rattle.mvo_types.specs.declared.row.RowKey.{RowKey}
use Rattle.mvo_types.specs.RowData.{RowData, content_of}
use Rattle.mvo_model.specs.History.{net_write, after_history}
use Rattle.mvo_model.proofs.Serials.{get-after_history}
use Rattle.mvo_theory.specs.State.{seen_by}
use Rattle.mvo_theory.proofs.Cases.{found_is}
use Rattle.mvo_theory.proofs.Each.{each_weaker, each_append}
use Rattle.mvo_theory.proofs.Footprints.{or_left, or_right}
use Rattle.mvo_word.specs.declared.held.Held.{Held}
use Rattle.mvo_chain.specs.declared.version.Version.{Version}
use Rattle.mvo_chain.specs.Slots.{Slots, version_at}
use Rattle.mvo_hash.specs.Lists.{number, is_among}
use Rattle.mvo_visible.specs.Words.{names}
use Rattle.mvo_representation.specs.Words.{net_effect}
use Rattle.mvo_representation.specs.Indexes.{all_versions}
use Rattle.mvo_representation.specs.Steps.{fresh, ended_by}
use Rattle.mvo_representation.specs.Table.{phases_of}
use Rattle.mvo_representation.specs.Order.{EachPair, is_written_by, IsEndedBefore, AreWrittenBy, own_words}
use Rattle.mvo_representation.specs.OrderLaws.{HaveNow}
use Rattle.mvo_representation.specs.WrittenLaws.{NothingIsWritten, InsertIsWritten, DeleteIsWritten, UpdateIsWritten, OthersKeepWritten}
use Rattle.mvo_representation.proofs.Collect.{leaves_row, leaves_put}
use Rattle.mvo_representation.proofs.Own.{own_id}
use Rattle.mvo_representation.proofs.OrderLists.{no_version, pairs_weaker}
use Rattle.mvo_representation.proofs.OrderSteps.{stays_put, more_at, live, is_false}
use Rattle.mvo_representation.proofs.OrderOperations.{own_words as says, unput, was_before, other_ended}
use Rattle.mvo_representation.proofs.Slots.{some_version}

pub nothing_is_written : NothingIsWritten
nothing_is_written t slots h = record {
  all = λ n v e w. let p = live slots (λ x. (names t x.begin ≡ false) × (names t x.end ≡ false)) h n v e in absurd (false≢true (sym (ap (λ (b : Bool). b || names t v.end) p.0 ∙ p.1) ∙ w));
  only = tt;
  order = tt;
}

-- ---- one more
among_old : (m n : ℕ) (ns : List ℕ) → is_among m ns ≡ true → is_among m (ns ++ n ∷ []) ≡ true
among_old m n ns e = list_any-append (eqb m) ns (n ∷ []) ∙ or_left (is_among m ns) (is_among m (n ∷ [])) e

among_last : (m n : ℕ) (ns : List ℕ) → m ≡ n → is_among m (ns ++ n ∷ []) ≡ true
among_last m n ns e = list_any-append (eqb m) ns (n ∷ []) ∙ or_right (is_among m ns) (is_among m (n ∷ [])) (or_left (eqb m n) false (eq-eqb m n e))

pairs_push : {X : Type 0} (R : X → X → Type 0) (xs : List X) (y : X) → EachPair R xs → AllByRecursion (λ x. R x y) xs → EachPair R (xs ++ y ∷ [])
pairs_push R [] y h a = (tt, tt)
pairs_push R (x ∷ xs) y h a = (each_append (R x) xs (y ∷ []) h.0 (a.0, tt), pairs_push R xs y h.1 a.1)

abbrev IsThere : ℕ → Slots → ℕ → Type 0
IsThere t slots n = (v : Version) × (version_at slots (number n) ≡ Some v) × (is_written_by t v ≡ true)

-- a put, where all that t put of the key is ended
put_is_written : (t : ℕ) (row : RowData) (slots slots' : Slots) (n : ℕ) (ns : List ℕ) → version_at slots (number n) ≡ None → HaveNow slots slots' n (fresh t row) → ((m : ℕ) (v : Version) → version_at slots (number m) ≡ Some v → v.row.key ≡ row.key → names t v.begin ≡ true → names t v.end ≡ true) → AreWrittenBy t slots ns → AreWrittenBy t slots' (ns ++ n ∷ [])
put_is_written t row slots slots' n ns hole now own h = record {
  all = λ m v e w. elim (cases_eq m n) [
    | inl same ↦ among_last m n ns same
    | inr other ↦ among_old m n ns (h.all m v (sym (now.others (number m) other) ∙ e) w)
  ];
  only = each_append (IsThere t slots') ns (n ∷ []) (each_weaker (IsThere t slots) (IsThere t slots') (λ m p. (p.0, now.others (number m) (apart m p) ∙ p.1, p.2)) ns h.only) ((fresh t row, now.here, ap (λ (b : Bool). b || names t (fresh t row).end) (own_id t)), tt);
  order = pairs_push (IsEndedBefore t slots') ns n
      (pairs_weaker (IsThere t slots) (IsEndedBefore t slots) (IsEndedBefore t slots') (λ a b x y f v w p q key d. f v w (sym (now.others (number a) (apart a x)) ∙ p) (sym (now.others (number b) (apart b y)) ∙ q) key d) ns h.only h.order)
      (each_weaker (IsThere t slots) (λ a. IsEndedBefore t slots' a n) (λ a x v w p q key d b c. own a v (sym (now.others (number a) (apart a x)) ∙ p) (key ∙ sym (ap (λ (z : Version). z.row.key) (some_version (fresh t row) w (sym now.here ∙ q)))) c) ns h.only);
}
  where
    apart : (m : ℕ) → IsThere t slots m → m ≢ n
    apart m p e = no_version p.0 (sym hole ∙ ap (λ (i : ℕ). version_at slots (number i)) (sym e) ∙ p.1)

-- what t put of a key where no row of it is left
ended_at : (n : Held → Bool) (k : RowKey) (slots : Slots) → leaves_row (net_effect n k (all_versions slots)) ≡ false → (m : ℕ) (v : Version) → version_at slots (number m) ≡ Some v → v.row.key ≡ k → n v.begin ≡ true → n v.end ≡ true
ended_at n k slots none m v e key b = is_false (n v.end) (λ c.
    let w = more_at slots m v e in
    false≢true (sym none ∙ ap (λ vs. leaves_row (net_effect n k vs)) (sym w.with') ∙ ap leaves_row (stays_put n k w.before v w.after key b c) ∙ leaves_put (content_of v.row) (net_effect n k (w.before ++ w.after))))

pub insert_is_written : InsertIsWritten
insert_is_written opening s states slots slots' lists places r row n ns h f gone hole now written =
    put_is_written r.id row slots slots' n ns hole now (ended_at (names r.id) row.key slots
    (ap leaves_row (says s (phases_of states) (all_versions slots) r row.key h.versions f)
    ∙ unput (net_write row.key r.history) (fin.get (seen_by s.base s.stamped r.id) row.key) (sym (get-after_history row.key r.history (seen_by s.base s.stamped r.id)) ∙ ap (λ ts. fin.get (after_history ts (seen_by s.base s.stamped r.id)) row.key) (sym (found_is r.id s.active r f).1) ∙ gone))) written

-- ---- an end
-- words in front and behind, once t has ended one of these
abbrev IsSameOrEnded : ℕ → ℕ → Version → ℕ → Version → Version → Type 0
IsSameOrEnded t n v m x y = ((m ≢ n) × (x ≡ y)) ⊎ ((m ≡ n) × (x ≡ ended_by t v))

pub delete_is_written : DeleteIsWritten
delete_is_written opening s states slots slots' lists places r v n ns h f at may now written = record {
  all = λ m x e w. elim (cases_eq m n) [
    | inl same ↦ among_last m n ns same
    | inr other ↦ among_old m n ns (written.all m x (sym (now.others (number m) other) ∙ e) w)
  ];
  only = each_append (IsThere r.id slots') ns (n ∷ []) (each_weaker (IsThere r.id slots) (IsThere r.id slots') (λ m p. elim (cases_eq m n) [
    | inl same ↦ (ended_by r.id v, ap (λ (i : ℕ). version_at slots' (number i)) same ∙ now.here, or_right (names r.id v.begin) (names r.id (ended_by r.id v).end) (own_id r.id))
    | inr other ↦ (p.0, now.others (number m) other ∙ p.1, p.2)
  ]) ns written.only) ((ended_by r.id v, now.here, or_right (names r.id v.begin) (names r.id (ended_by r.id v).end) (own_id r.id)), tt);
  order = pairs_push (IsEndedBefore r.id slots') ns n
      (pairs_weaker (λ m. Unit {0}) (IsEndedBefore r.id slots) (IsEndedBefore r.id slots') (λ a b _ _ g. old a b g) ns (always ns) written.order) (each_weaker (λ m. Unit {0}) (λ a. IsEndedBefore r.id slots' a n) (λ a _. new a) ns (always ns));
}
  where
    always : (ms : List ℕ) → AllByRecursion (λ m. Unit {0}) ms
    always [] = tt
    always (m ∷ ms) = (tt, always ms)

    -- the row and the Begin are what they were
    put_was : (m : ℕ) (x y : Version) → version_at slots (number m) ≡ Some y → IsSameOrEnded r.id n v m x y → (x.row.key ≡ y.row.key) × (x.begin ≡ y.begin)
    put_was m x y p (inl e) = (ap (λ (z : Version). z.row.key) e.1, ap (λ (z : Version). z.begin) e.1)
    put_was m x y p (inr e) =
        let same : v ≡ y = some_version v y (sym at ∙ ap (λ (i : ℕ). version_at slots (number i)) (sym e.0) ∙ p) in
        (ap (λ (z : Version). z.row.key) e.1 ∙ ap (λ (z : Version). z.row.key) same, ap (λ (z : Version). z.begin) e.1 ∙ ap (λ (z : Version). z.begin) same)

    end_is : (m : ℕ) (x y : Version) → IsSameOrEnded r.id n v m x y → (names r.id y.end ≡ true) → names r.id x.end ≡ true
    end_is m x y (inl e) g = ap (λ (z : Version). names r.id z.end) e.1 ∙ g
    end_is m x y (inr e) g = ap (λ (z : Version). names r.id z.end) e.1 ∙ own_id r.id

    old : (a b : ℕ) → IsEndedBefore r.id slots a b → IsEndedBefore r.id slots' a b
    old a b g x y p q key d i j =
        let u = was_before slots slots' n v r.id at now a x p in
        let w = was_before slots slots' n v r.id at now b y q in
        let ua = put_was a x u.version u.at u.is in
        let wb = put_was b y w.version w.at w.is in
        end_is a x u.version u.is (g u.version w.version u.at w.at (sym ua.0 ∙ key ∙ wb.0) d (ap (names r.id) (sym wb.1) ∙ i) (ap (names r.id) (sym ua.1) ∙ j))

    new : (a : ℕ) → IsEndedBefore r.id slots' a n
    new a x y p q key d i j =
        let same : y ≡ ended_by r.id v = some_version y (ended_by r.id v) (sym q ∙ now.here) in
        other_ended s states slots r v x n a h.versions f may at d (sym (now.others (number a) d) ∙ p) (key ∙ ap (λ (z : Version). z.row.key) same) j

pub update_is_written : UpdateIsWritten
update_is_written opening s states slots between slots' lists places r v row n m ns h f at key may ended hole now written =
    put_is_written r.id row between slots' m (ns ++ n ∷ []) hole now own (delete_is_written opening s states slots between lists places r v n ns h f at may ended written)
  where
    by : (i : ℕ) (x y : Version) → version_at slots (number i) ≡ Some y → x.row.key ≡ row.key → IsSameOrEnded r.id n v i x y → names r.id x.begin ≡ true → names r.id x.end ≡ true
    by i x y p k (inr e) b = ap (λ (z : Version). names r.id z.end) e.1 ∙ own_id r.id
    by i x y p k (inl e) b = ap (λ (z : Version). names r.id z.end) e.1 ∙ other_ended s states slots r v y n i h.versions f may at e.0 p (sym (ap (λ (z : Version). z.row.key) e.1) ∙ k ∙ key) (sym (ap (λ (z : Version). names r.id z.begin) e.1) ∙ b)

    own : (i : ℕ) (x : Version) → version_at between (number i) ≡ Some x → x.row.key ≡ row.key → names r.id x.begin ≡ true → names r.id x.end ≡ true
    own i x e k b = let w = was_before slots between n v r.id at ended i x e in by i x w.version w.at k w.is b

-- ---- other steps
-- the words of t in a version
some_words : (t : ℕ) (v : Version) → is_written_by t v ≡ true → own_words t (Some v) ≡ Some (v.row.key, names t v.begin, names t v.end)
some_words t v e = ap (λ (b : Bool). cond {A = Option (RowKey × Bool × Bool)} b (Some (v.row.key, names t v.begin, names t v.end)) None) e

record HasWords (t : ℕ) (v w : Version) : Type 0 where
  pub written : is_written_by t w ≡ true
  pub key : w.row.key ≡ v.row.key
  pub begin : names t w.begin ≡ names t v.begin
  pub end : names t w.end ≡ names t v.end

same_words : (t : ℕ) (v : Version) (o : Option Version) → is_written_by t v ≡ true → own_words t o ≡ own_words t (Some v) → (w : Version) × (o ≡ Some w) × HasWords t v w
same_words t v None e q = absurd (none (v.row.key, names t v.begin, names t v.end) (q ∙ some_words t v e))
  where
    none : (p : RowKey × Bool × Bool) → ◌≡◌ {A = Option (RowKey × Bool × Bool)} None (Some p) → ⊥
    none p r = cc
same_words t v (Some w) e q = (w, refl, go (is_written_by t w) refl (q ∙ some_words t v e))
  where
    none : (p : RowKey × Bool × Bool) → ◌≡◌ {A = Option (RowKey × Bool × Bool)} None (Some p) → ⊥
    none p r = cc

    some : (p r : RowKey × Bool × Bool) → ◌≡◌ {A = Option (RowKey × Bool × Bool)} (Some p) (Some r) → p ≡ r
    some p r i = cc

    go : (b : Bool) → is_written_by t w ≡ b → cond {A = Option (RowKey × Bool × Bool)} b (Some (w.row.key, names t w.begin, names t w.end)) None ≡ Some (v.row.key, names t v.begin, names t v.end) → HasWords t v w
    go true f g = let p = some (w.row.key, names t w.begin, names t w.end) (v.row.key, names t v.begin, names t v.end) g in record {
      written = f;
      key = ap (λ (r : RowKey × Bool × Bool). r.0) p;
      begin = ap (λ (r : RowKey × Bool × Bool). r.1) p;
      end = ap (λ (r : RowKey × Bool × Bool). r.2) p;
    }
    go false f g = absurd (none (v.row.key, names t v.begin, names t v.end) g)

put_counts : (t : ℕ) (v : Version) → names t v.begin ≡ true → is_written_by t v ≡ true
put_counts t v e = or_left (names t v.begin) (names t v.end) e

pub others_keep_written : OthersKeepWritten
others_keep_written t slots slots' ns same h = record {
  all = λ n v e w. let x = same_words t v (version_at slots (number n)) w (sym (same n) ∙ ap (own_words t) e) in h.all n x.0 x.1 x.2.written;
  only = each_weaker (IsThere t slots) (IsThere t slots') (λ n p. let x = same_words t p.0 (version_at slots' (number n)) p.2 (same n ∙ ap (own_words t) p.1) in (x.0, x.1, x.2.written)) ns h.only;
  order = pairs_weaker (λ m. Unit {0}) (IsEndedBefore t slots) (IsEndedBefore t slots') (λ a b _ _ f v w p q key d i j.
      let x = same_words t v (version_at slots (number a)) (put_counts t v j) (sym (same a) ∙ ap (own_words t) p) in
      let y = same_words t w (version_at slots (number b)) (put_counts t w i) (sym (same b) ∙ ap (own_words t) q) in
      sym x.2.end ∙ f x.0 y.0 x.1 y.1 (x.2.key ∙ key ∙ sym y.2.key) d (y.2.begin ∙ i) (x.2.begin ∙ j)) ns (always ns) h.order;
}
  where
    always : (ms : List ℕ) → AllByRecursion (λ m. Unit {0}) ms
    always [] = tt
    always (m ∷ ms) = (tt, always ms)
