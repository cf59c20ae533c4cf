-- What others show to a begin stays, as others draw ends, settle, are aborted, and as the tale is trimmed.
use Rattle.std.proofs.Common.{◌≡◌, ◌≢◌, ℕ, ◌≤◌, ◌<◌, Bool, true, false, List, [], ◌∷◌, ◌++◌, map, sym, ap, ◌∙◌, subst}
use Rattle.std.specs.List.{AllByRecursion, filter}
use Rattle.std.specs.Option.{option_to_list, option_map}
use Rattle.mvo_types.specs.RowData.{row_with}
use Rattle.mvo_types.specs.Keys.{Map}
use Rattle.mvo_model.specs.History.{after_history}
use Rattle.mvo_types.specs.declared.entry.Entry.{Entry}
use Rattle.mvo_types.specs.declared.entry.Entry.TheVariants.{Key, Range}
use Rattle.mvo_theory.specs.Ranges.{AgreeOn}
use Rattle.mvo_theory.specs.State.{StampedTx, seen_by, after_settled}
use Rattle.mvo_theory.specs.Dependencies.{has_end}
use Rattle.mvo_theory.specs.Changes.{is_to, with_flag, not_at}
use Rattle.mvo_theory.specs.Sound.{changes, IsDecidedOn, IsUnchanged, IsRising}
use Rattle.mvo_theory.proofs.Each.{each_weaker, each_both}
use Rattle.mvo_theory.proofs.Looks.{same_at}
use Rattle.mvo_theory.proofs.Scans.{scan_same}
use Rattle.mvo_theory.proofs.Stamped.{history_below-last, decided_last, IsLike, history_below-map, decided_map, unchanged_map, IsOut, decided_filter, each_part}
use Rattle.mvo_theory.proofs.Counts.{counts_filter, counts_map, counts_last}
use Rattle.mvo_theory.proofs.Depends.{entry_filter, decided_on_more}
use Rattle.mvo_theory.proofs.Ends.{out_here, like_flag}
use Rattle.mvo_theory.proofs.Sound.{unchanged_last}
use Rattle.mvo_theory.proofs.Trim.{is_after, parted, seen_trimmed, counts_trimmed, decided_back, front_settled, front_below}
use Rattle.mvo_shared.specs.Kept.{Looked, rows_shown, IsLookShown, AreShown}
use Rattle.mvo_shared.specs.Shared.{AreSeen, AreUnchanged}

-- ---- maps that agree on an entry show the same there
pub shown_same : (e : Entry) (m n : Map) → AgreeOn e m n → rows_shown e m ≡ rows_shown e n
shown_same (Key k) m n h = ap (λ o. option_to_list (option_map (row_with k) o)) (same_at k m n h)
shown_same (Range t lo hi) m n h = scan_same t lo hi m n h

pub shown_alike : (looked : List Looked) (m n : Map) → AllByRecursion (λ l. AgreeOn l.entry m n) looked → AreShown m looked → AreShown n looked
shown_alike looked m n a h = each_both (λ l. AgreeOn l.entry m n) (IsLookShown m) (IsLookShown n) (λ l g q. q ∙ shown_same l.entry m n g) looked a h

-- ---- one more with an end
pub seen_last : (base : Map) (stamped : List StampedTx) (y : StampedTx) (id : ℕ) (ds : List ℕ) (looked : List Looked) → id ≤ y.end → AreSeen base stamped id ds looked → AreSeen base (stamped ++ y ∷ []) id ds looked
seen_last base stamped y id ds looked le h = record {
  shown = subst (λ x. AreShown (after_history x base) looked) (sym (history_below-last id stamped y le)) h.shown;
  decided = each_weaker (λ l. IsDecidedOn l.entry id ds base stamped) (λ l. IsDecidedOn l.entry id ds base (stamped ++ y ∷ []))
      (λ l d q c. decided_last q id ds stamped y le (d q (counts_last l.entry q id base stamped y le c))) looked h.decided;
}

-- ---- a change of each that keeps what others see
pub seen_map : (f : StampedTx → StampedTx) → IsLike f → (base : Map) (stamped : List StampedTx) (id : ℕ) (ds : List ℕ) (looked : List Looked) → AreSeen base stamped id ds looked → AreSeen base (map f stamped) id ds looked
seen_map f l base stamped id ds looked h = record {
  shown = subst (λ x. AreShown (after_history x base) looked) (sym (history_below-map f l id stamped)) h.shown;
  decided = each_weaker (λ v. IsDecidedOn v.entry id ds base stamped) (λ v. IsDecidedOn v.entry id ds base (map f stamped))
      (λ v d q c. decided_map f l q id ds stamped (d q (counts_map f l v.entry q id base stamped c))) looked h.decided;
}

-- ---- some are taken out on which it doesn't depend
pub seen_part : (keep : StampedTx → Bool) (base : Map) (stamped : List StampedTx) (id : ℕ) (ds : List ℕ) (looked : List Looked) → AllByRecursion (IsOut keep ds) stamped → AreSeen base stamped id ds looked → AreSeen base (filter keep stamped) id ds looked
seen_part keep base stamped id ds looked o h = record {
  shown = shown_alike looked (seen_by base stamped id) (seen_by base (filter keep stamped) id)
      (each_weaker (λ l. IsDecidedOn l.entry id ds base stamped) (λ l. AgreeOn l.entry (seen_by base stamped id) (seen_by base (filter keep stamped) id)) (λ l. entry_filter keep l.entry id ds base stamped o) looked h.decided) h.shown;
  decided = each_weaker (λ l. IsDecidedOn l.entry id ds base stamped) (λ l. IsDecidedOn l.entry id ds base (filter keep stamped))
      (λ l d q c. decided_filter keep q id ds stamped o (d q (counts_filter keep l.entry q id base stamped c))) looked h.decided;
}

-- an abort of a Preparing one: who isn't flagged by it sees the same
pub seen_aborted : (base : Map) (stamped : List StampedTx) (t e id : ℕ) (ds : List ℕ) (looked : List Looked) → AllByRecursion (λ x. x.end ≡ e → x.settled ≡ false) stamped → has_end ds e ≡ false → AreSeen base stamped id ds looked → AreSeen base (map (with_flag t e) (filter (not_at e) stamped)) id ds looked
seen_aborted base stamped t e id ds looked o n h =
    seen_map (with_flag t e) (like_flag t e) base (filter (not_at e) stamped) id ds looked
    (seen_part (not_at e) base stamped id ds looked (each_weaker (λ x. x.end ≡ e → x.settled ≡ false) (IsOut (not_at e) ds) (out_here e ds n) stamped o) h)

-- ---- a trim
pub seen_to : (m : ℕ) (base : Map) (xs : List StampedTx) (id : ℕ) (ds : List ℕ) (looked : List Looked) → IsRising xs → AllByRecursion (λ x. x.settled ≡ false → m < x.end) xs → m ≤ id → AllByRecursion (λ x. x.end ≢ id) xs → AreSeen base xs id ds looked →
    AreSeen (after_settled (filter (is_to m) xs) base) (filter (is_after m) xs) id ds looked
seen_to m base xs id ds looked r s le o h =
    let front = filter (is_to m) xs in
    let back = filter (is_after m) xs in
    let old : AreSeen base (front ++ back) id ds looked = subst (λ (l : List StampedTx). AreSeen base l id ds looked) (sym (parted m xs r)) h in
    let set = front_settled m xs s in
    let under = front_below m id xs le o in
    record {
      shown = subst (λ (n : Map). AreShown n looked) (seen_trimmed base front back id set under) old.shown;
      decided = each_weaker (λ l. IsDecidedOn l.entry id ds base (front ++ back)) (λ l. IsDecidedOn l.entry id ds (after_settled front base) back)
          (λ l d q c. decided_back q id ds front back (d q (counts_trimmed l.entry q id base front back set under c))) looked old.decided;
    }

-- ---- more dependencies
pub seen_more : (base : Map) (stamped : List StampedTx) (id : ℕ) (ds es : List ℕ) (looked : List Looked) → ((d : ℕ) → has_end ds d ≡ true → has_end es d ≡ true) → AreSeen base stamped id ds looked → AreSeen base stamped id es looked
seen_more base stamped id ds es looked f h = record {
  shown = h.shown;
  decided = each_weaker (λ l. IsDecidedOn l.entry id ds base stamped) (λ l. IsDecidedOn l.entry id es base stamped) (λ l. decided_on_more l.entry id ds es base stamped f) looked h.decided;
}

-- ---- what is unchanged stays so
pub still_last : (stamped : List StampedTx) (y : StampedTx) (b c : ℕ) (looked : List Looked) → c ≤ y.end → AreUnchanged stamped b c looked → AreUnchanged (stamped ++ y ∷ []) b c looked
still_last stamped y b c looked le h = each_weaker (λ l. IsUnchanged stamped b c l.entry) (λ l. IsUnchanged (stamped ++ y ∷ []) b c l.entry) (λ l. unchanged_last stamped y b c l.entry le) looked h

pub still_map : (f : StampedTx → StampedTx) → IsLike f → (stamped : List StampedTx) (b c : ℕ) (looked : List Looked) → AreUnchanged stamped b c looked → AreUnchanged (map f stamped) b c looked
still_map f l stamped b c looked h = each_weaker (λ v. IsUnchanged stamped b c v.entry) (λ v. IsUnchanged (map f stamped) b c v.entry) (λ v. unchanged_map f l b c v.entry stamped) looked h

pub still_part : (keep : StampedTx → Bool) (stamped : List StampedTx) (b c : ℕ) (looked : List Looked) → AreUnchanged stamped b c looked → AreUnchanged (filter keep stamped) b c looked
still_part keep stamped b c looked h = each_weaker (λ v. IsUnchanged stamped b c v.entry) (λ v. IsUnchanged (filter keep stamped) b c v.entry) (λ v. each_part keep (λ u. b < u.end → u.end < c → changes v.entry u ≡ false) stamped) looked h
