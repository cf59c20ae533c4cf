-- What the words of versions say was done at a key.
use Rattle.std.specs.Prelude.{ℕ, ◌≡◌, if◌then◌else◌, ◌==◌, ◌||◌, ◌&&◌, nat_lt, suc, zero, Bool, true, false, cond, List, [], ◌∷◌, Option, None, Some}
use Rattle.std.specs.List.{list_any}
use Rattle.std.specs.Ordering.{eq_by_cmp}
use Rattle.mvo_types.specs.declared.row.RowKey.{RowKey}
use Rattle.mvo_types.specs.declared.cause.Cause.{Cause}
use Rattle.mvo_types.specs.declared.cause.Cause.TheVariants as cause
use Rattle.mvo_types.specs.RowData.{ContentData, content_of}
use Rattle.mvo_types.specs.Keys.{key_cmp}
use Rattle.mvo_model.specs.Trace.{Phase}
use Rattle.mvo_model.specs.Trace.Phase.{Absent, Active, Preparing, Committed, Aborted}
use Rattle.mvo_theory.specs.Ranges.{Row}
use Rattle.mvo_theory.specs.Dependencies.{with_end}
use Rattle.mvo_word.specs.declared.held.Held.{Held}
use Rattle.mvo_word.specs.declared.held.Held.TheVariants.{At, By, Infinity}
use Rattle.mvo_chain.specs.declared.version.Version.{Version}
use Rattle.mvo_visible.specs.Words.{names}
use Rattle.mvo_types.specs.Write.{Effect}
use Rattle.mvo_types.specs.Write.Effect.{Put, Delete}

-- ---- what a word stands for
-- the transaction table: where each stands. One that isn't in it is Absent
abbrev pub Phases : Type 0
Phases = ℕ → Phase

-- the end timestamp of each that is Preparing or Committed
abbrev pub Ends : Type 0
Ends = ℕ → Option ℕ

abbrev pub end_in : Phase → Option ℕ
end_in Absent = None
end_in Active = None
end_in (Preparing e) = Some e
end_in (Committed e) = Some e
end_in Aborted = None

abbrev pub ends_of : Phases → Ends
ends_of table t = end_in (table t)

-- the stamp of a word, for others
abbrev pub stamp_in : Ends → Held → Option ℕ
stamp_in ends (At s) = Some s.0
stamp_in ends (By t) = ends t.0
stamp_in ends Infinity = None

abbrev pub is_stamp : ℕ → Option ℕ → Bool
is_stamp s None = false
is_stamp s (Some e) = e == s

-- whether the word has this stamp
abbrev pub has_stamp : Ends → ℕ → Held → Bool
has_stamp ends s w = is_stamp s (stamp_in ends w)

-- the end of the Preparing transaction that the word names, if it names one
abbrev pub open_end_in : Phase → Option ℕ
open_end_in Absent = None
open_end_in Active = None
open_end_in (Preparing e) = Some e
open_end_in (Committed e) = None
open_end_in Aborted = None

abbrev pub open_in : Phases → Held → Option ℕ
open_in table (At s) = None
open_in table (By t) = open_end_in (table t.0)
open_in table Infinity = None

-- whom an End word tells as the cause of a conflict: nobody, where another may end the version
abbrev pub cause_of_phase : ℕ → Phase → Option Cause
cause_of_phase t Absent = None
cause_of_phase t Active = Some (cause.Active (record { 0 = t }))
cause_of_phase t (Preparing e) = Some (cause.Stamped (record { 0 = e }))
cause_of_phase t (Committed e) = Some (cause.Stamped (record { 0 = e }))
cause_of_phase t Aborted = None

abbrev pub cause_at_end : Phases → Held → Option Cause
cause_at_end table (At s) = Some (cause.Stamped s)
cause_at_end table (By t) = cause_of_phase t.0 (table t.0)
cause_at_end table Infinity = None

-- ---- what words say of one owner: those that pass a test, as "has the stamp s" or "names t"
-- what was done at a key. Two puts that both stand are a clash
pub data NetEffect : Type 0 where
  Untouched : NetEffect
  Removed : NetEffect
  Puts : ContentData → NetEffect
  Clash : NetEffect

-- both: the order is of no matter
abbrev pub with_effect : NetEffect → NetEffect → NetEffect
with_effect Untouched d = d
with_effect Removed Untouched = Removed
with_effect Removed Removed = Removed
with_effect Removed (Puts h) = Puts h
with_effect Removed Clash = Clash
with_effect (Puts h) Untouched = Puts h
with_effect (Puts h) Removed = Puts h
with_effect (Puts h) (Puts g) = Clash
with_effect (Puts h) Clash = Clash
with_effect Clash d = Clash

-- what one does by a version that it puts, or ends, or both
abbrev pub effect_by : Bool → Bool → ContentData → NetEffect
effect_by true true h = Removed
effect_by true false h = Puts h
effect_by false true h = Removed
effect_by false false h = Untouched

-- what one version says at the key
abbrev pub effect_of : (Held → Bool) → RowKey → Version → NetEffect
effect_of n k v =
    cond (eq_by_cmp key_cmp k v.row.key)
    (effect_by (n v.begin) (n v.end) (content_of v.row)) Untouched

-- what the versions say at the key
abbrev pub net_effect : (Held → Bool) → RowKey → List Version → NetEffect
net_effect n k [] = Untouched
net_effect n k (v ∷ vs) = with_effect (effect_of n k v) (net_effect n k vs)

-- which part of what was done: the puts alone, or also the ends
pub data Touch : Type 0 where
  OnlyPut : Touch
  PutOrEnded : Touch

abbrev pub is_touch : Touch → Bool → Bool → Bool
is_touch OnlyPut b c = b
is_touch PutOrEnded b c = b || c

-- the version's row is put, or ended too, and passes
abbrev pub touches : Touch → (Held → Bool) → (Row → Bool) → Version → Bool
touches g n p v = is_touch g (n v.begin) (n v.end) && p (v.row.key, content_of v.row)

-- such a row is put, or ended too, also one that was both
abbrev pub is_touched : Touch → (Held → Bool) → (Row → Bool) → List Version → Bool
is_touched g n p vs = list_any (touches g n p) vs

-- a net write as what was done
abbrev pub as_net_effect : Option Effect → NetEffect
as_net_effect None = Untouched
as_net_effect (Some Delete) = Removed
as_net_effect (Some (Put h)) = Puts h

-- the content that is put
abbrev pub content_put : NetEffect → Option ContentData
content_put Untouched = None
content_put Removed = None
content_put (Puts h) = Some h
content_put Clash = None

abbrev pub is_clash : NetEffect → Bool
is_clash Untouched = false
is_clash Removed = false
is_clash (Puts h) = false
is_clash Clash = true

-- ---- the deciding change
-- the change at s before those below, if something was done at s
abbrev pub or_change_at : ℕ → NetEffect
    → Option (ℕ × NetEffect) → Option (ℕ × NetEffect)
or_change_at s Untouched r = r
or_change_at s Removed r = Some (s, Removed)
or_change_at s (Puts h) r = Some (s, Puts h)
or_change_at s Clash r = Some (s, Clash)

-- the change with the greatest stamp below b: its stamp, and what was done
abbrev pub last_change : (ℕ → NetEffect) → ℕ → Option (ℕ × NetEffect)
last_change f zero = None
last_change f (suc b) = or_change_at b (f b) (last_change f b)

-- what others have done at the key last, below b
abbrev pub change_below : Ends → ℕ → RowKey → List Version → Option (ℕ × NetEffect)
change_below ends b k vs = last_change (λ s. net_effect (has_stamp ends s) k vs) b

-- the put that stands after the change
abbrev pub standing_after : ℕ → NetEffect → Option (ℕ × NetEffect)
standing_after s Untouched = None
standing_after s Removed = None
standing_after s (Puts h) = Some (s, Puts h)
standing_after s Clash = Some (s, Clash)

abbrev pub standing : Option (ℕ × NetEffect) → Option (ℕ × NetEffect)
standing None = None
standing (Some p) = standing_after p.0 p.1

abbrev pub row_in : Option (ℕ × NetEffect) → Option ContentData
row_in None = None
row_in (Some (s, Untouched)) = None
row_in (Some (s, Removed)) = None
row_in (Some (s, Puts h)) = Some h
row_in (Some (s, Clash)) = None

-- the row that t is shown: that of its own last write, or that which stands by others below its
-- begin
abbrev pub shown_over : NetEffect → Option (ℕ × NetEffect) → Option ContentData
shown_over Untouched c = row_in c
shown_over Removed c = None
shown_over (Puts h) c = Some h
shown_over Clash c = None

abbrev pub shown_row : Ends → ℕ → RowKey → List Version → Option ContentData
shown_row ends t k vs = shown_over (net_effect (names t) k vs) (change_below ends t k vs)

-- the version is shown for others' words: it is put with the stamp a of the deciding change below
-- b, and not removed with it
pub record IsShownAt (ends : Ends) (b : ℕ) (k : RowKey) (vs : List Version) (v : Version)
    (a : ℕ) : Type 0 where
  pub key : v.row.key ≡ k
  pub put : stamp_in ends v.begin ≡ Some a
  pub stays : is_stamp a (stamp_in ends v.end) ≡ false
  pub last : (d : NetEffect) × (change_below ends b k vs ≡ Some (a, d))

-- the stamp of the deciding change, if it is above b
abbrev pub if_above : ℕ → Option (ℕ × NetEffect) → Option ℕ
if_above b None = None
if_above b (Some p) = if nat_lt b p.0 then Some p.0 else None

-- also the one that the word names, if it is Preparing
abbrev pub with_open : List ℕ → Option ℕ → List ℕ
with_open ds None = ds
with_open ds (Some e) = with_end ds e

-- ---- the versions that stand at the start
abbrev pub is_up_to : ℕ → Option ℕ → Bool
is_up_to b None = false
is_up_to b (Some s) = nat_lt s (suc b)

-- whether the version is put up to the start, and not ended up to it
abbrev pub is_standing : Ends → ℕ → Version → Bool
is_standing ends start v =
    is_up_to start (stamp_in ends v.begin)
    && cond (is_up_to start (stamp_in ends v.end)) false true

abbrev pub standing_effect_of : Ends → ℕ → RowKey → Version → NetEffect
standing_effect_of ends start k v =
    cond (eq_by_cmp key_cmp k v.row.key && is_standing ends start v)
    (Puts (content_of v.row)) Untouched

abbrev pub standing_effect : Ends → ℕ → RowKey → List Version → NetEffect
standing_effect ends start k [] = Untouched
standing_effect ends start k (v ∷ vs) =
    with_effect (standing_effect_of ends start k v) (standing_effect ends start k vs)

-- ---- ranges
-- the greatest number below b that passes
abbrev pub last_passing : (ℕ → Bool) → ℕ → Option ℕ
last_passing f zero = None
last_passing f (suc b) = cond (f b) (Some b) (last_passing f b)

-- the greatest stamp below e with which a row that passes was put or ended
abbrev pub touch_below : Ends → ℕ → (Row → Bool) → List Version → Option ℕ
touch_below ends e p vs = last_passing (λ m. is_touched PutOrEnded (has_stamp ends m) p vs) e

abbrev pub stamp_above : ℕ → Option ℕ → Option ℕ
stamp_above b None = None
stamp_above b (Some m) = if nat_lt b m then Some m else None

abbrev pub is_below : ℕ → Option ℕ → Bool
is_below b None = false
is_below b (Some m) = nat_lt m b

-- a scan meets the version: another put it below the begin, it isn't ended up to the start, and its
-- row passes
abbrev pub meets : Ends → ℕ → ℕ → (Row → Bool) → Version → Bool
meets ends start b p v =
    (is_below b (stamp_in ends v.begin) && cond (is_up_to start (stamp_in ends v.end)) false true)
    && p (v.row.key, content_of v.row)

abbrev pub is_met : Ends → ℕ → ℕ → (Row → Bool) → List Version → Bool
is_met ends start b p vs = list_any (meets ends start b p) vs
