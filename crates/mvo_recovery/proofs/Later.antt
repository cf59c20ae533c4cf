-- What stands by versions up to one stands by those up to a later one.
use Rattle.std.proofs.Common.{◌≡◌, inl, inr, ℕ, ◌≤◌, List, [], ◌∷◌, Some, refl, arith}
use Rattle.mvo_group.specs.Data.{GroupData}
use Rattle.mvo_format.specs.declared.format.TheConstants.{LAST_FORMAT}
use Rattle.mvo_format.specs.Formats.{IsFormatUpTo, IsVersion, format_of}
use Rattle.mvo_format.proofs.Versions.{known_later}
use Rattle.mvo_frame.specs.declared.kind.Kind.{Kind}
use Rattle.mvo_frame.specs.Frames.{IsSegment, mark_after}
use Rattle.mvo_pair.specs.declared.pair.Pair.{Pair}
use Rattle.mvo_pair.specs.Data.{Numbered}
use Rattle.mvo_manifest.specs.Data.{ManifestData}
use Rattle.mvo_manifest.specs.Rules.{IsManifest}
use Rattle.mvo_recovery.specs.image.Opens.{Image}
use Rattle.mvo_recovery.specs.image.Gives.{HaveLive}
use Rattle.mvo_recovery.specs.Parts.{HaveSealed}
use Rattle.mvo_recovery.specs.beside.Seen.{Loads}
use Rattle.mvo_recovery.proofs.Counted.{loaded, loads}

module _ (v w : ℕ) (le : v ≤ w) where
  pub loads_later : (content : Image) (p : Pair) (l : List Numbered) → Loads v content p l → Loads w content p l
  loads_later content p l has =
      let h = loaded v p (content p.data_file) (content p.delta_file) l has in
      loads w p (content p.data_file) (content p.delta_file) l (record { own = h.own; known = known_later v w h.own le h.known; es = h.es; ns = h.ns; entries = h.entries; numbers = h.numbers; is = h.is })

  pub live_later : (content : Image) (ps : List Pair) (ls : List (List Numbered)) → HaveLive v content ps ls → HaveLive w content ps ls
  live_later content [] [] have = tt
  live_later content [] (l ∷ ls) have = absurd have
  live_later content (p ∷ ps) [] have = absurd have
  live_later content (p ∷ ps) (l ∷ ls) have = (loads_later content p l have.0, live_later content ps ls have.1)

  pub segment_later : (mark : ℕ) (kind : Kind) (gs : List GroupData) (bytes : List ℕ) → IsSegment v mark kind gs bytes → IsSegment w mark kind gs bytes
  segment_later mark kind gs bytes is = record { format = is.format; known = known_later v w is.format le is.known; has = is.has; allowed = is.allowed; some = is.some }

  pub sealed_later : (content : Image) (ns : List ℕ) (mark : ℕ) (gs : List GroupData) (next : ℕ) → HaveSealed v content ns mark gs next → HaveSealed w content ns mark gs next
  sealed_later content [] mark gs next have = have
  sealed_later content (n ∷ ns) mark gs next have = (have.0, have.1, have.2, segment_later mark Rattle.mvo_frame.specs.declared.kind.Kind.TheVariants.Sealed have.0 (content n) have.3, sealed_later content ns (mark_after mark have.0) have.1 next have.4)

-- no manifest is of a version that isn't known
pub up_to_last : (m : ManifestData) → IsManifest m → m.version ≤ LAST_FORMAT.version
up_to_last m is = within is.rules.version
  where
    within : IsVersion m.version → m.version ≤ LAST_FORMAT.version
    within (inl e) = omega (arith, e)
    within (inr e) = omega (arith, e)

last_is : format_of LAST_FORMAT.version ≡ Some LAST_FORMAT
unfolding format_of
last_is = refl

-- the last version is known
pub last_known : IsFormatUpTo LAST_FORMAT.version LAST_FORMAT
last_known = record { is = last_is; within = omega arith }
