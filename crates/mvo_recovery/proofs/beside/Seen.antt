-- What a merge saw stays beside a checkpoint.
use Rattle.std.proofs.Common.{◌≡◌, ◌≢◌, inl, inr, ℕ, ◌+◌, List, [], ◌∷◌, ◌++◌, length, Ok, refl, sym, ap, subst, ◌∙◌, arith, append_assoc}
use Rattle.std.specs.Prelude.{map}
use Rattle.std.specs.List.{Contains}
use Rattle.std.proofs.lemmas.Bool.{cases_eq}
use Rattle.std.proofs.lemmas.List.{map-append, length-map}
use Rattle.mvo_format.specs.declared.format.Format.{Format}
use Rattle.mvo_format.specs.Formats.{IsFormatUpTo}
use Rattle.mvo_pair.specs.declared.pair.Pair.{Pair}
use Rattle.mvo_pair.specs.Data.{Numbered}
use Rattle.mvo_pair.specs.Files.{HasDeadNumbers}
use Rattle.mvo_pair.specs.Loading.{LoadsAs}
use Rattle.mvo_manifest.specs.Data.{ManifestData, named}
use Rattle.mvo_manifest.specs.Rules.{IsManifest}
use Rattle.mvo_recovery.specs.image.Opens.{Image}
use Rattle.mvo_recovery.specs.image.Gives.{HaveLive}
use Rattle.mvo_recovery.specs.Checkpoint.{NewNumbers, raise}
use Rattle.mvo_recovery.proofs.Pairs.{pairs_apart, same_data, same_delta, data_no_delta, data_among, delta_among, delta_named, data_named, few_records}
use Rattle.mvo_recovery.proofs.Later.{loads_later}
use Rattle.mvo_recovery.proofs.Checkpointed.{named_cases}
use Rattle.mvo_recovery.specs.beside.Seen.{SeenData, grown, Loads, WasSeen}
use Rattle.mvo_recovery.specs.beside.Laws.{SeenAtRead, SeenStays, SeenBesideNumbers, SeenWhereCountsStay, SeenBesideInstall, StaysUnnamed}
use Rattle.mvo_recovery.proofs.beside.Late.{seen_again}
use Rattle.mvo_recovery.proofs.beside.Numbers.{counted_stay}
use Rattle.mvo_recovery.proofs.beside.Two.{HaveTwo, have_two, has_first, has_second}

-- ---- a merge that begins

grown_none : (p : Pair) → p ≡ grown 0 p
grown_none p = let same : p.entries ≡ p.entries + 0 = omega arith in ap (λ k. record p { entries = k }) same

pub seen_at_read : (content : Image) → SeenAtRead content
seen_at_read content m before behind p q left right pairs loads_left loads_right apart = record {
  before = before;
  behind = behind;
  more_left = 0;
  more_right = 0;
  pairs = pairs ∙ ap (λ (r : Pair). before ++ r ∷ q ∷ behind) (grown_none p) ∙ ap (λ (r : Pair). before ++ grown 0 p ∷ r ∷ behind) (grown_none q);
  at = refl;
  left = loads_left;
  right = loads_right;
  apart = apart;
}

-- ---- other bytes

pub loads_framed : (upto : ℕ) (old new : Image) (p : Pair) (l : List Numbered) → new p.data_file ≡ old p.data_file → new p.delta_file ≡ old p.delta_file → Loads upto old p l → Loads upto new p l
loads_framed upto old new p l first second has =
    subst (λ (b : List ℕ). LoadsAs upto p (new p.data_file) b (Ok l)) (sym second) (subst (λ (b : List ℕ). LoadsAs upto p b (old p.delta_file) (Ok l)) (sym first) has)

abbrev pub with_loads : (old new : Image) (m : ManifestData) (s : SeenData) → WasSeen old m s → Loads m.version new s.left s.live_left → Loads m.version new s.right s.live_right → WasSeen new m s
with_loads old new m s seen left right = record {
  before = seen.before;
  behind = seen.behind;
  more_left = seen.more_left;
  more_right = seen.more_right;
  pairs = seen.pairs;
  at = seen.at;
  left = left;
  right = right;
  apart = seen.apart;
}

module _ (content : Image) (m : ManifestData) (s : SeenData) (seen : WasSeen content m s) where
  abbrev pub left_now : Pair
  left_now = grown seen.more_left s.left

  abbrev pub right_now : Pair
  right_now = grown seen.more_right s.right

  pub in_left : Contains m.pairs left_now
  in_left = subst (λ (ps : List Pair). Contains ps left_now) (sym seen.pairs) (has_first seen.before seen.behind left_now right_now)

  pub in_right : Contains m.pairs right_now
  in_right = subst (λ (ps : List Pair). Contains ps right_now) (sym seen.pairs) (has_second seen.before seen.behind left_now right_now)

  pub two_now : (lives : List (List Numbered)) → HaveLive m.version content m.pairs lives → HaveTwo m.version content seen.before left_now right_now lives
  two_now lives have = have_two m.version content seen.before left_now right_now seen.behind lives (subst (λ (ps : List Pair). HaveLive m.version content ps lives) seen.pairs have)

pub seen_stays : (old new : Image) → SeenStays old new
seen_stays old new m s same seen =
    let l = in_left old m s seen in
    let r = in_right old m s seen in
    with_loads old new m s seen
    (loads_framed m.version old new s.left s.live_left (same s.left.data_file (data_among m.pairs (left_now old m s seen) l)) (same s.left.delta_file (delta_among m.pairs (left_now old m s seen) l)) seen.left)
    (loads_framed m.version old new s.right s.live_right (same s.right.data_file (data_among m.pairs (right_now old m s seen) r)) (same s.right.delta_file (delta_among m.pairs (right_now old m s seen) r)) seen.right)

-- ---- numbers behind the counted ones

module _ (old new : Image) (m : ManifestData) (is : IsManifest m) (r : Pair) (has : Contains m.pairs r) (others : (n : ℕ) → Contains (named m) n → n ≢ r.delta_file → new n ≡ old n)
    (stays : (own : Format) → IsFormatUpTo m.version own → (ns : List ℕ) → HasDeadNumbers own.version r.records r.entries ns (old r.delta_file) → HasDeadNumbers own.version r.records r.entries ns (new r.delta_file)) where
  one_stays : (p : Pair) (more : ℕ) (live now : List Numbered) → Contains m.pairs (grown more p) → Loads m.version old p live → Loads m.version old (grown more p) now → Loads m.version new p live
  one_stays p more live now c was load =
      let q = grown more p in
      let data_is : new p.data_file ≡ old p.data_file = others p.data_file (data_named m is q c) (data_no_delta m.pairs (pairs_apart m is) r q has c) in
      elim (cases_eq p.data_file r.data_file) [
        | inl e ↦ (
            let it : r ≡ q = sym (same_data m.pairs (pairs_apart m is) r q has c e) in
            seen_again m.version old p more live now (few_records m is q c) was load new data_is
            (subst (λ (k : Pair). (own : Format) → IsFormatUpTo m.version own → (ns : List ℕ) → HasDeadNumbers own.version k.records k.entries ns (old k.delta_file) → HasDeadNumbers own.version k.records k.entries ns (new k.delta_file)) it stays))
        | inr ne ↦ (
            let apart : p.delta_file ≢ r.delta_file = λ e. ne (ap (λ (k : Pair). k.data_file) (same_delta m.pairs (pairs_apart m is) r q has c e)) in
            loads_framed m.version old new p live data_is (others p.delta_file (delta_named m is q c) apart) was)
      ]

pub seen_beside_numbers : (old new : Image) → SeenBesideNumbers old new
seen_beside_numbers old new m s r more lives is have has others gains follow seen =
    let two = two_now old m s seen lives have in
    let stays : (own : Format) → IsFormatUpTo m.version own → (ns : List ℕ) → HasDeadNumbers own.version r.records r.entries ns (old r.delta_file) → HasDeadNumbers own.version r.records r.entries ns (new r.delta_file) =
    λ own known. counted_stay own.version r.records r.entries more (old r.delta_file) (new r.delta_file) gains (follow own known) in
    with_loads old new m s seen
    (one_stays old new m is r has others stays s.left seen.more_left s.live_left two.left (in_left old m s seen) seen.left two.left_has)
    (one_stays old new m is r has others stays s.right seen.more_right s.live_right two.right (in_right old m s seen) seen.right two.right_has)

pub seen_where_counts_stay : (old new : Image) → SeenWhereCountsStay old new
seen_where_counts_stay old new m s lives is have stay seen =
    let two = two_now old m s seen lives have in
    with_loads old new m s seen
    (again s.left seen.more_left s.live_left two.left (in_left old m s seen) seen.left two.left_has)
    (again s.right seen.more_right s.live_right two.right (in_right old m s seen) seen.right two.right_has)
  where
    again : (p : Pair) (more : ℕ) (live now : List Numbered) → Contains m.pairs (grown more p) → Loads m.version old p live → Loads m.version old (grown more p) now → Loads m.version new p live
    again p more live now c was load = let q = stay (grown more p) c in seen_again m.version old p more live now (few_records m is (grown more p) c) was load new q.0 q.1

-- ---- a checkpoint that is installed

grown_more : (numbers : NewNumbers) (n : ℕ) (p : Pair) → raise numbers (grown n p) ≡ grown (n + length (numbers (grown n p))) p
grown_more numbers n p = let same : p.entries + n + length (numbers (grown n p)) ≡ p.entries + (n + length (numbers (grown n p))) = omega arith in ap (λ k. record p { entries = k }) same

pub seen_beside_install : (content : Image) → SeenBesideInstall content
seen_beside_install content m next s numbers p no_earlier are seen =
    let l = left_now content m s seen in
    let r = right_now content m s seen in
    let front = map (raise numbers) seen.before in
    let back = map (raise numbers) seen.behind in
    let l_more = seen.more_left + length (numbers l) in
    let r_more = seen.more_right + length (numbers r) in
    record {
      before = front;
      behind = back ++ p ∷ [];
      more_left = l_more;
      more_right = r_more;
      pairs = are
          ∙ ap (λ (ps : List Pair). map (raise numbers) ps ++ p ∷ []) seen.pairs
          ∙ ap (λ (ps : List Pair). ps ++ p ∷ []) (map-append (raise numbers) seen.before (l ∷ r ∷ seen.behind))
          ∙ append_assoc front (raise numbers l ∷ raise numbers r ∷ back) (p ∷ [])
          ∙ ap (λ (q : Pair). front ++ q ∷ raise numbers r ∷ (back ++ p ∷ [])) (grown_more numbers seen.more_left s.left)
          ∙ ap (λ (q : Pair). front ++ grown l_more s.left ∷ q ∷ (back ++ p ∷ [])) (grown_more numbers seen.more_right s.right);
      at = length-map seen.before (raise numbers) ∙ seen.at;
      left = loads_later m.version next.version no_earlier content s.left s.live_left seen.left;
      right = loads_later m.version next.version no_earlier content s.right s.live_right seen.right;
      apart = seen.apart;
    }

pub stays_unnamed : StaysUnnamed
stays_unnamed m c n first unnamed no_data no_delta has =
    named_cases m c n first has (λ k. k ≡ n → ⊥) (λ was e. unnamed was) (λ e. no_data (sym e)) (λ e. no_delta (sym e)) refl
