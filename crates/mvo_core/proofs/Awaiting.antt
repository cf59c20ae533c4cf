-- What a transaction has ended waits, one version after another.
use Rattle.std.proofs.Common.{◌≡◌, ℕ, ◌+◌, ◌≤◌, List, [], ◌∷◌, ◌++◌, append-nil, append_assoc, take, length, None, Some, refl, sym, ap, ◌∙◌, add-one, arith}
use Rattle.std.specs.Prelude.{slice_get}
use Rattle.std.proofs.lemmas.List.{map-append}
use Rattle.mvo_types.specs.declared.ids.Stamp.{Stamp}
use Rattle.mvo_chain.specs.declared.version.VersionNo.{VersionNo}
use Rattle.mvo_work.specs.declared.word_place.WordPlace.{WordPlace}
use Rattle.mvo_work.specs.declared.word_place.WordPlace.TheVariants.{Begin, End}
use Rattle.mvo_collect.specs.declared.ended.Ended.{Ended}
use Rattle.mvo_collect.specs.Waiting.{WaitingData}
use Rattle.mvo_collect.specs.Laws.{waiting_drawn, end_numbers}
use Rattle.mvo_core.proofs.Fronting.{taken_suc, taken_same, taken_all}

-- the first of these words are through, and there is room for the rest
pub record IsAwaitedTo (old new : WaitingData) (e : Stamp) (words : List WordPlace) (place : ℕ) : Type 0 where
  pub is : new ≡ record old { ended = old.ended ++ waiting_drawn e (end_numbers (take place words)); ended_room = new.ended_room }
  pub room : length words ≤ new.ended_room + place

ends-append : (ws : List WordPlace) (w : WordPlace) → end_numbers (ws ++ w ∷ []) ≡ end_numbers ws ++ end_numbers (w ∷ [])
ends-append [] w = refl
ends-append (Begin n ∷ ws) w = ends-append ws w
ends-append (End n ∷ ws) w = ap (λ (ns : List VersionNo). n ∷ ns) (ends-append ws w)

pub awaited_first : (old : WaitingData) (e : Stamp) (words : List WordPlace) → length words ≤ old.ended_room → IsAwaitedTo old old e words 0
awaited_first old e words le = record {
  is = λ i. record old { ended = sym (append-nil old.ended) i };
  room = omega (arith, le);
}

awaited_all : (e : Stamp) (xs : List Ended) (ws : List WordPlace) (w : WordPlace) → (xs ++ waiting_drawn e (end_numbers ws)) ++ waiting_drawn e (end_numbers (w ∷ [])) ≡ xs ++ waiting_drawn e (end_numbers (ws ++ w ∷ []))
awaited_all e xs ws w =
    append_assoc xs (waiting_drawn e (end_numbers ws)) (waiting_drawn e (end_numbers (w ∷ [])))
    ∙ ap (λ (ys : List Ended). xs ++ ys)
    (sym (map-append {A = VersionNo} {B = Ended} (λ n. record { end = e; number = n }) (end_numbers ws) (end_numbers (w ∷ [])))
    ∙ ap (waiting_drawn e) (sym (ends-append ws w)))

pub awaited_more : (old mid new : WaitingData) (e : Stamp) (words : List WordPlace) (k : ℕ) (w : WordPlace) → IsAwaitedTo old mid e words k → slice_get words k ≡ Some w
    → new ≡ record mid { ended = mid.ended ++ waiting_drawn e (end_numbers (w ∷ [])); ended_room = new.ended_room } → mid.ended_room ≤ new.ended_room + 1 → IsAwaitedTo old new e words (k + 1)
awaited_more old mid new e words k w h at is le =
    let room = h.room in
    let taken : take (k + 1) words ≡ take k words ++ w ∷ [] = ap (λ (n : ℕ). take n words) (add-one k) ∙ taken_suc words k w at in
    record {
      is =
          is
          ∙ ap (λ (x : WaitingData). record x { ended = x.ended ++ waiting_drawn e (end_numbers (w ∷ [])); ended_room = new.ended_room }) h.is
          ∙ ap (λ (xs : List Ended). record old { ended = xs; ended_room = new.ended_room }) (awaited_all e old.ended (take k words) w)
          ∙ ap (λ (ws : List WordPlace). record old { ended = old.ended ++ waiting_drawn e (end_numbers ws); ended_room = new.ended_room }) (sym taken);
      room = omega (arith, room, le);
    }

pub awaited_same : (old mid : WaitingData) (e : Stamp) (words : List WordPlace) (k : ℕ) → IsAwaitedTo old mid e words k → slice_get words k ≡ None → IsAwaitedTo old mid e words (k + 1)
awaited_same old mid e words k h at =
    let room = h.room in
    let taken : take (k + 1) words ≡ take k words = ap (λ (n : ℕ). take n words) (add-one k) ∙ taken_same words k at in
    record {
      is = h.is ∙ ap (λ (ws : List WordPlace). record old { ended = old.ended ++ waiting_drawn e (end_numbers ws); ended_room = mid.ended_room }) (sym taken);
      room = omega (arith, room);
    }

pub awaited_last : (old new : WaitingData) (e : Stamp) (words : List WordPlace) (k : ℕ) → k ≡ length words → IsAwaitedTo old new e words k
    → new ≡ record old { ended = old.ended ++ waiting_drawn e (end_numbers words); ended_room = new.ended_room }
awaited_last old new e words k is h =
    h.is
    ∙ ap (λ (ws : List WordPlace). record old { ended = old.ended ++ waiting_drawn e (end_numbers ws); ended_room = new.ended_room }) (ap (λ (n : ℕ). take n words) is ∙ taken_all words)
