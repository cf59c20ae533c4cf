-- What is refused of a file that was read breaks a rule of it.
use Rattle.std.proofs.Common.{◌≡◌, ℕ, List, Result, Ok, Err, inl, inr, sym, subst}
use Rattle.mvo_types.specs.declared.refusal.Refusal.{Refusal}
use Rattle.mvo_frame.specs.declared.kind.Kind.{Kind}
use Rattle.mvo_pair.specs.declared.pair.Pair.{Pair}
use Rattle.mvo_pair.specs.declared.unread.Unread.{Unread}
use Rattle.mvo_pair.specs.declared.unread.Unread.TheVariants.{Memory, Broken, OtherVersion}
use Rattle.mvo_pair.specs.Answers.{FoundOrUnread, IsFound, Goes, After, file_refusal}
use Rattle.mvo_pair.specs.Data.{Numbered, live_of}
use Rattle.mvo_pair.specs.Files.{IsDataFile, HasDeadNumbers, HasOtherVersion, HasUnknownVersion, data_magic, delta_magic}
use Rattle.mvo_pair.specs.Loading.{LoadsAs}
use Rattle.mvo_recovery.specs.image.Files.{SegmentIs}
use Rattle.mvo_load.specs.Read.{IsMisread}

unread : {X : Type 0} (file : ℕ) (Other : Type 0) (Holds : X → Type 0) (u : Unread) → IsFound Other Holds (Err u) → IsMisread (file_refusal file u)
unread file Other Holds Broken says = tt
unread file Other Holds OtherVersion says = tt
unread file Other Holds Memory says = absurd says

after : {X Y : Type 0} (file : ℕ) (Other : Type 0) (Holds : X → Type 0) (next : X → Result Y Refusal → Type 0) → ((x : X) (e : Refusal) → next x (Err e) → IsMisread e) → (e : Refusal) → After file (IsFound Other Holds) next (Err e) → IsMisread e
after {X} {Y} file Other Holds next so e h = go h.0 h.1 h.2
  where
    go : (found : FoundOrUnread X) → IsFound Other Holds found → Goes {Y = Y} file next found (Err e) → IsMisread e
    go (Ok x) says goes = so x e goes
    go (Err u) says goes = let same : file_refusal file u ≡ e = cc goes in subst IsMisread same (unread file Other Holds u says)

-- the live records of a pair
pub pair_misread : (upto : ℕ) (p : Pair) (a b : List ℕ) (e : Refusal) → LoadsAs upto p a b (Err e) → IsMisread e
pair_misread upto p a b e = after {Y = List Numbered} p.data_file (HasUnknownVersion data_magic upto a) (λ d. IsDataFile upto p.lo.0 p.hi.0 p.records d a) _
    (λ d k. after {Y = List Numbered} p.delta_file (HasOtherVersion delta_magic d.0.version b) (λ ns. HasDeadNumbers d.0.version p.records p.entries ns b) (λ ns out. out ≡ Ok (live_of ns d.1)) (λ ns r same. absurd (cc same)) k) e

-- the groups of a segment
pub segment_misread : (upto : ℕ) (file mark : ℕ) (kind : Kind) (bytes : List ℕ) (e : Refusal) → SegmentIs upto file mark kind bytes (Err e) → IsMisread e
segment_misread upto file mark kind bytes e (inl other) = subst IsMisread (sym other.0) tt
segment_misread upto file mark kind bytes e (inr broken) = subst IsMisread (sym broken.0) tt
