-- The numbers that a delta file gains.
use Rattle.std.proofs.Common.{◌≡◌, ℕ, ◌+◌, ◌<◌, Bool, true, false, List, ◌++◌, length, refl, sym, ap, ◌∙◌, arith}
use Rattle.std.specs.Prelude.{filter, not, nat_eq, ◌==◌, ◌||◌}
use Rattle.std.specs.List.{enumerate_from}
use Rattle.std.proofs.lemmas.Bool.{not-true, false_from_ne_true, eqb-true, eq-eqb}
use Rattle.std.proofs.lemmas.List.Elements.{All-append, All-from_recursion}
use Rattle.std.proofs.lemmas.List.Folds.{list_any-append}
use Rattle.mvo_group.specs.Data.{GroupData}
use Rattle.mvo_pair.specs.Data.{Numbered, live_of, key_of}
use Rattle.mvo_ckpt.specs.Writes.{writes_of, is_written}
use Rattle.mvo_ckpt.specs.Ended.{ended}
use Rattle.mvo_ckpt.specs.Laws.{NamesOthers, LeavesOthers}
use Rattle.mvo_places.proofs.Members.{Among, among_map, among_mapped, among_filter, among_filtered, among_any, any_among, all_among, all_from, Rises}
use Rattle.mvo_places.proofs.Held.{numbers_in, one_numbered}
use Rattle.mvo_places.proofs.Distinct.{distinct_append, distinct_rising}
use Rattle.mvo_places.proofs.Rising.{names, counted_below, rise_filter, live_rises, two_filters, same_filter}

-- ---- the numbers of those whose keys are written

abbrev written : List GroupData → Numbered → Bool
written gs l = is_written (writes_of gs) (key_of l)

ended_live : (gs : List GroupData) (live : List Numbered) (n : ℕ) → Among (ended gs live) n → (l : Numbered) × Among live l × (written gs l ≡ true) × (l.0 ≡ n)
ended_live gs live n a =
    let m = among_mapped (λ (l : Numbered). l.0) (filter (written gs) live) n a in
    let f = among_filtered (written gs) live m.0 m.1 in
    (m.0, f.0, f.1, m.2)

pub names_others : NamesOthers
names_others gs below ns es counted are = record {
  each = All-append (λ n. n < below) ns (ended gs (live_of ns es)) are.each (All-from_recursion (λ n. n < below) (ended gs (live_of ns es)) (all_from (λ n. n < below) (ended gs (live_of ns es)) (λ n a.
      let l = ended_live gs (live_of ns es) n a in
      let f = among_filtered (λ e. not (names ns e.0)) (enumerate_from 0 es) l.0 l.1 in
      let few : l.0.0 < 0 + length es = all_among (λ x. x < 0 + length es) (numbers_in (enumerate_from 0 es)) l.0.0 (counted_below 0 es) (among_map (λ (x : Numbered). x.0) (enumerate_from 0 es) l.0 f.0) in
      omega (arith, few, l.3, counted))));
  distinct = distinct_append nat_eq ns (ended gs (live_of ns es)) are.distinct
      (distinct_rising (ended gs (live_of ns es)) (rise_filter (written gs) (live_of ns es) (live_rises ns es)))
      (λ x y a b. false_from_ne_true (nat_eq x y) (λ same.
      let l = ended_live gs (live_of ns es) y b in
      let f = among_filtered (λ e. not (names ns e.0)) (enumerate_from 0 es) l.0 l.1 in
      let none : names ns l.0.0 ≡ false = not-true (names ns l.0.0) f.1 in
      let some : names ns l.0.0 ≡ true = among_any (λ z. z == l.0.0) ns x a (eq-eqb x l.0.0 (eqb-true x y same ∙ sym l.3)) in
      let both : true ≡ false = sym some ∙ none in
      absurd cc));
}

-- ---- what they leave

named_written : (gs : List GroupData) (live : List Numbered) (l : Numbered) → Rises (numbers_in live) → Among live l → (b : Bool) → written gs l ≡ b → names (ended gs live) l.0 ≡ b
named_written gs live l up a true is = among_any (λ x. x == l.0) (ended gs live) l.0 (among_map (λ (x : Numbered). x.0) (filter (written gs) live) l (among_filter (written gs) live l a is)) (eq-eqb l.0 l.0 refl)
named_written gs live l up a false is = false_from_ne_true (names (ended gs live) l.0) (λ some.
    let n = any_among (λ x. x == l.0) (ended gs live) some in
    let m = ended_live gs live n.0 n.1 in
    let number : m.0.0 ≡ l.0 = m.3 ∙ eqb-true n.0 l.0 n.2 in
    let same : m.0 ≡ l = one_numbered live m.0 l up m.1 a number in
    let both : true ≡ false = sym m.2 ∙ ap (written gs) same ∙ is in
    absurd cc)

pub leaves_others : LeavesOthers
leaves_others gs ns es =
    let live = live_of ns es in
    same_filter (λ e. not (names (ns ++ ended gs live) e.0)) (λ e. not (names ns e.0 || names (ended gs live) e.0)) (enumerate_from 0 es) (λ e a. ap not (list_any-append (λ x. x == e.0) ns (ended gs live)))
    ∙ two_filters (λ (e : Numbered). names ns e.0) (λ (e : Numbered). names (ended gs live) e.0) (enumerate_from 0 es)
    ∙ same_filter (λ e. not (names (ended gs live) e.0)) (λ e. not (written gs e)) live (λ l a. ap not (named_written gs live l (live_rises ns es) a (written gs l) refl))
