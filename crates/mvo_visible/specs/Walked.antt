-- What a walk over versions has found.
use Rattle.std.specs.Prelude.{◌≡◌, ℕ, ◌||◌, ◌&&◌, nat_lt, nat_le, Bool, true, false, not, cond, List, Option, None, Some}
use Rattle.std.specs.Option.{option_or}
use Rattle.std.specs.List.{AllByRecursion, list_any}
use Rattle.mvo_word.specs.declared.held.Held.{Held}
use Rattle.mvo_word.specs.declared.held.Held.TheVariants.{At, By, Infinity}
use Rattle.mvo_types.specs.declared.ids.Stamp.{Stamp}
use Rattle.mvo_chain.specs.declared.version.Version.{Version}
use Rattle.mvo_chain.specs.declared.version.VersionNo.{VersionNo}
use Rattle.mvo_visible.specs.declared.seen.Seen.{Seen}
use Rattle.mvo_visible.specs.declared.seen.Seen.TheVariants.{Nothing, Settled, Speculative}
use Rattle.mvo_visible.specs.declared.walked.Walked.{Walked}
use Rattle.mvo_visible.specs.Words.{States, seen_of}
use Rattle.mvo_visible.specs.Versions.{NumberedVersion, is_own, is_own_newest, own_newest}
use Rattle.mvo_visible.specs.Changes.{is_at, changes_by, changes_of, deciding, later_change}

-- what is found over these versions
abbrev pub walked_over : States → ℕ → ℕ → List NumberedVersion → Walked
walked_over states b reader vs = record {
  own = list_any (is_own reader) vs;
  newest = own_newest reader vs;
  change = deciding b (changes_of states vs);
}

-- and over one more
abbrev pub walked_on : States → ℕ → ℕ → Walked → NumberedVersion → Walked
walked_on states b reader w e = record {
  own = w.own || is_own reader e;
  newest = option_or w.newest (cond (is_own_newest reader e) (Some e.0) None);
  change = later_change w.change (deciding b (changes_by states e));
}

-- whether nothing behind a version matters below b: its put is settled, and it isn't removed with
-- the same stamp
abbrev pub is_last_at : ℕ → Seen → Seen → Bool
is_last_at b Nothing end' = false
is_last_at b (Settled s) end' = nat_lt s.0 b && not (is_at s.0 end')
is_last_at b (Speculative s t) end' = false

abbrev pub is_last : States → ℕ → Version → Bool
is_last states b v = is_last_at b (seen_of states v.begin) (seen_of states v.end)

-- whether the word is a timestamp of at least b, or infinity
abbrev pub is_from : ℕ → Held → Bool
is_from b (At s) = nat_le b s.0
is_from b (By t) = false
is_from b Infinity = true

-- the stamp of a put by its word, where that is a timestamp below b and the other word is one of
-- at least b, or infinity
abbrev pub settled_at : ℕ → Held → Held → Option Stamp
settled_at b (At s) end' = cond (nat_lt s.0 b && is_from b end') (Some s) None
settled_at b (By t) end' = None
settled_at b Infinity end' = None

abbrev pub settled_put : ℕ → Version → Option Stamp
settled_put b v = settled_at b v.begin v.end

abbrev pub settled_put_of : ℕ → Option Version → Option Stamp
settled_put_of b None = None
settled_put_of b (Some v) = settled_put b v

-- what is found over one version more, with a put of this stamp
abbrev pub with_put : Walked → VersionNo → Stamp → Walked
with_put w n s = record {
  own = w.own;
  newest = w.newest;
  change = later_change w.change (Some (record { stamp = s; version = Some n; owner = None }));
}

-- whether the version tells nothing below b, by both its words
abbrev pub is_later : ℕ → Version → Bool
is_later b v = is_from b v.begin && is_from b v.end

-- each does so
abbrev pub AreLater : ℕ → List NumberedVersion → Type 0
AreLater b vs = AllByRecursion (λ e. is_later b e.1 ≡ true) vs
