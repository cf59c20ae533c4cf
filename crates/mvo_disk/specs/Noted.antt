-- A disk in a folder as its callers see it: the files that what it noted makes, and that it notes
-- nothing more once it is broken.
use Rattle.std.specs.Prelude.{◌≡◌, ℕ, Bool, true, false, List, length, Result, IsErr, ⊤}
use Rattle.mvo_disk.specs.Disk.{Image, AllOf, AllStay, OthersStay, Settles, Elapses, Moment}
use Rattle.mvo_disk.specs.History.{Event, file_content_after, MayLeave, LeftSince, is_honest}

-- as many calls as it noted, and whether each answer is what its files hold
abbrev pub noted_moment : Image → List Event → Moment
noted_moment start noted = record { calls = length noted; honest = is_honest start noted }

-- no file has another content or other images
abbrev pub FolderStays : Image → List Event → List Event → Type 0
FolderStays start old new =
    AllStay (file_content_after start old) (file_content_after start new)
    (MayLeave start old) (MayLeave start new)

-- no file but this one has another content or other images
abbrev pub FolderStaysBut : Image → ℕ → List Event → List Event → Type 0
FolderStaysBut start file old new =
    OthersStay file (file_content_after start old) (file_content_after start new)
    (MayLeave start old) (MayLeave start new)

-- no file has another content, and none but this one loses an image
abbrev pub FolderSettles : Image → ℕ → List Event → List Event → Type 0
FolderSettles start file old new =
    Settles file (file_content_after start old) (file_content_after start new)
    (MayLeave start old) (MayLeave start new)

-- time goes on by what was noted since
abbrev pub FolderGoesOn : Image → List Event → List Event → Type 0
FolderGoesOn start old new =
    Elapses (noted_moment start old) (noted_moment start new)
    (λ t. LeftSince start old t.calls) (λ t. LeftSince start new t.calls)
    (AllOf (MayLeave start new))

-- A disk that was broken fails the call, notes nothing of it, and is broken still.
abbrev pub StaysBroken : {T E : Type 0} → Bool → List Event → Bool → List Event → Result T E
    → Type 0
StaysBroken false old broken new result = ⊤
StaysBroken true old broken new result = IsErr result × (new ≡ old) × (broken ≡ true)
