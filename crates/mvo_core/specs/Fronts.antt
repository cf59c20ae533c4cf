-- What a transaction has written comes to the front of the versions of its keys.
use Rattle.std.specs.Prelude.{ℕ, ◌≡◌, Bool, false, List, map, Option, None, Some}
use Rattle.mvo_chain.specs.declared.version.Version.{Version}
use Rattle.mvo_chain.specs.declared.version.VersionNo.{VersionNo}
use Rattle.mvo_chain.specs.Slots.{version_at}
use Rattle.mvo_visible.specs.Words.{States}
use Rattle.mvo_work.specs.declared.word_place.WordPlace.{WordPlace}
use Rattle.mvo_representation.specs.Words.{ends_of}
use Rattle.mvo_representation.specs.Table.{phases_of}
use Rattle.mvo_representation.specs.Order.{comes_forward, with_front_if, with_fronts}
use Rattle.mvo_representation.specs.WordLists.{number_at_word}
use Rattle.mvo_versions.specs.Data.{VersionsData}
use Rattle.mvo_versions.specs.Changes.{HaveSamePlaces}

-- whether the version passes, if there is one
abbrev pub version_passes : (Version → Bool) → Option Version → Bool
version_passes test None = false
version_passes test (Some v) = test v

-- what comes to the front as the transaction draws its end
abbrev pub comes_at_draw : States → ℕ → Version → Bool
comes_at_draw states t v = comes_forward (ends_of (phases_of states)) t v

-- the numbers of the versions that have these words
abbrev pub numbers_in : List WordPlace → List ℕ
numbers_in words = map (λ w. (number_at_word w).0) words

-- the version has come to the front of its key, if it passes
pub record IsInFrontIf (test : Version → Bool) (old new : VersionsData)
    (number : VersionNo) : Type 0 where
  pub slots : new.slots ≡ old.slots
  pub lists :
      new.lists ≡ with_front_if test old.lists number.0 (version_at old.slots number)
  pub places : HaveSamePlaces old.places new.places

-- those of the versions with these words that pass have, one after another
pub record AreInFront (test : Version → Bool) (old new : VersionsData)
    (words : List WordPlace) : Type 0 where
  pub slots : new.slots ≡ old.slots
  pub lists : new.lists ≡ with_fronts test old.slots old.lists (numbers_in words)
  pub places : HaveSamePlaces old.places new.places
