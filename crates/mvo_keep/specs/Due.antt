-- What is due in a store that looks after itself: the first of a list of chores whose condition
-- stands.
use Rattle.std.specs.Prelude.{ℕ, ◌+◌, ◌<◌, ◌≤◌, ◌&&◌, ◌||◌, nat_lt, nat_le, Bool, List, [], ◌∷◌, length, get_or, Option, Some, None, if◌then◌else◌, ⊤}
use Rattle.mvo_types.specs.declared.limits.TheConstants.{MAX_PAIRS, MAX_SEGMENTS}
use Rattle.mvo_store.specs.declared.call.StoreCall.{StoreCall}
use Rattle.mvo_store.specs.declared.call.StoreCall.TheVariants as store
use Rattle.mvo_keep.specs.declared.policy.Policy.{Policy}
use Rattle.mvo_keep.specs.declared.standing.Standing.{Standing}
use Rattle.mvo_keep.specs.declared.chore.Chore.{Chore}
use Rattle.mvo_keep.specs.declared.chore.Chore.TheVariants.{Flush, Step, Reclaim, Merge, Checkpoint, Rotate, Trim, Collect}
use Rattle.mvo_keep.specs.declared.served.Served.{Served}
use Rattle.mvo_keep.specs.declared.served.Served.TheVariants.{Files, Memory}
use Rattle.mvo_keep.specs.declared.choice.Choice.{Choice}
use Rattle.mvo_keep.specs.declared.choice.Choice.TheVariants.{LeastLive, LastSmall, MostDead}
use Rattle.mvo_pair.specs.declared.pair.Pair.{Pair}
use Rattle.mvo_keep.specs.Choosing.{chosen_place, live_in}

abbrev pub standard_policy : Policy
standard_policy = record {
  many_pairs = 48;
  full_segment = 16777216;
  most_live = 4194304;
  many_dead = 65536;
  collected = 1024;
  in_a_row = 16;
}

-- ---- the conditions

-- a group isn't durable yet, or commits have been in none for a turn
abbrev pub has_to_flush : Standing → Bool
has_to_flush s = s.has_group || s.has_commits

-- a segment is sealed: one stands before the last
abbrev pub has_sealed : Standing → Bool
has_sealed s = nat_lt 1 s.segments

-- there are many pairs, or as many as there may be while a segment waits for a checkpoint
abbrev pub has_to_merge : Policy → Standing → Bool
has_to_merge p s = nat_le p.many_pairs (length s.pairs.items)
    || (nat_le MAX_PAIRS (length s.pairs.items) && has_sealed s)

abbrev pub may_checkpoint : Standing → Bool
may_checkpoint s = has_sealed s && nat_lt (length s.pairs.items) MAX_PAIRS

abbrev pub has_to_rotate : Policy → Standing → Bool
has_to_rotate p s = nat_le p.full_segment s.last_segment && nat_lt s.segments MAX_SEGMENTS

-- commits are stored up to the mark of a turn before, and none that is open began up to it
abbrev pub may_trim : Standing → Bool
may_trim s = nat_lt 0 s.tale_length
    && (nat_lt s.tale_start.0 s.earlier_mark.0 && nat_lt s.earlier_mark.0 s.oldest_begin.0)

-- ---- the list

abbrev pub chore_when : Bool → Chore → Option Chore
chore_when test chore = if test then Some chore else None

abbrev pub step_chore : Option StoreCall → Option Chore
step_chore None = None
step_chore (Some call) = Some (Step call)

abbrev pub merge_chore : Option ℕ → Option Chore
merge_chore None = None
merge_chore (Some place) = Some (Merge place)

-- of the neighbours that the choice allows
abbrev pub merge_chosen_by : Policy → Choice → Standing → Option Chore
merge_chosen_by p choice s = merge_chore (chosen_place p choice s.pairs.items)

abbrev pub or_next_chore : Option Chore → Option Chore → Option Chore
or_next_chore None next = next
or_next_chore (Some chore) next = Some chore

abbrev pub first_chore : List (Option Chore) → Option Chore
first_chore [] = None
first_chore (c ∷ cs) = or_next_chore c (first_chore cs)

abbrev pub merge_if : Bool → Option Chore → Option Chore
merge_if test chore = if test then chore else None

-- of the pairs, so that their number stays a logarithm of the rows, and dead records go
abbrev pub tidying : Policy → Standing → Option Chore
tidying p s = first_chore (merge_chosen_by p LastSmall s ∷ merge_chosen_by p MostDead s ∷ [])

-- of the files
abbrev pub of_files : Policy → Standing → Option Chore
of_files p s = first_chore (
    step_chore s.step
    ∷ chore_when s.may_reclaim Reclaim
    ∷ merge_if (has_to_merge p s) (merge_chosen_by p LeastLive s)
    ∷ chore_when (may_checkpoint s) Checkpoint
    ∷ chore_when (has_to_rotate p s) Rotate
    ∷ tidying p s
    ∷ [])

-- of the stored commits
abbrev pub trimming : Standing → Option Chore
trimming s = chore_when (may_trim s) (Trim s.earlier_mark)

-- of the versions
abbrev pub collecting : Policy → Standing → Option Chore
collecting p s = chore_when s.may_collect (Collect p.collected)

-- Files, stored commits and versions are served by turns, so that none waits where another always
-- has something to do. A collection may be repeated a few times before the files come.
abbrev pub trim_first : Policy → Standing → Option Chore
trim_first p s = first_chore (trimming s ∷ collecting p s ∷ of_files p s ∷ [])

abbrev pub collection_first : Policy → Standing → Option Chore
collection_first p s = first_chore (collecting p s ∷ of_files p s ∷ trimming s ∷ [])

abbrev pub files_first : Policy → Standing → Option Chore
files_first p s = first_chore (of_files p s ∷ trimming s ∷ collecting p s ∷ [])

abbrev pub next_served : Policy → Standing → Served → Option Chore
next_served p s Files = trim_first p s
next_served p s (Memory times) =
    if nat_lt times p.in_a_row then collection_first p s else files_first p s

abbrev pub due_chore : Policy → Standing → Option Chore
due_chore p s = first_chore (
    chore_when (has_to_flush s) Flush ∷ next_served p s s.served ∷ [])

-- ---- of the store

-- the call of a store that it is, or with which it begins
abbrev pub call_of : Chore → Option StoreCall
call_of Flush = None
call_of (Step call) = Some call
call_of Reclaim = Some store.Reclaim
call_of (Merge place) = Some (store.MergeRead place)
call_of Checkpoint = Some store.CheckpointRead
call_of Rotate = Some store.RotateWrite
call_of (Trim upto) = None
call_of (Collect most) = None

-- ---- what is due may be done

-- the neighbours at the place are there, and together they aren't too large
abbrev pub MayMergeAt : Policy → List Pair → ℕ → Type 0
MayMergeAt p pairs place = (place + 1 < length pairs)
    × ((none : Pair) → live_in (get_or pairs place none) + live_in (get_or pairs (place + 1) none)
    ≤ p.most_live)

abbrev pub MayBeDone : Policy → Standing → Chore → Type 0
MayBeDone p s (Merge place) = MayMergeAt p s.pairs.items place
MayBeDone p s Checkpoint = (1 < s.segments) × (length s.pairs.items < MAX_PAIRS)
MayBeDone p s Rotate = s.segments < MAX_SEGMENTS
MayBeDone p s (Trim upto) = (s.tale_start.0 < upto.0) × (upto.0 < s.oldest_begin.0)
MayBeDone p s chore = ⊤
