-- A version whose words alone say that its put is settled, and that nobody has ended it.
use Rattle.std.proofs.Common.{◌≡◌, ℕ, ◌<◌, ◌≤◌, true, false, not, ◌&&◌, ◌||◌, cond, ltb, [], ◌∷◌, Option, None, Some, refl, sym, ap, ◌∙◌, inl, inr, arith}
use Rattle.std.proofs.lemmas.Bool.{cases_Bool, cond-true, cond-false, eq-eqb, ne_eqb, ltb-true, leb-true, and_parts}
use Rattle.std.specs.Option.{option_map, option_or}
use Rattle.mvo_types.specs.declared.ids.Stamp.{Stamp}
use Rattle.mvo_word.specs.declared.held.Held.{Held}
use Rattle.mvo_word.specs.declared.held.Held.TheVariants.{At, By, Infinity}
use Rattle.mvo_chain.specs.declared.version.Version.{Version}
use Rattle.mvo_chain.specs.declared.version.VersionNo.{VersionNo}
use Rattle.mvo_visible.specs.declared.walked.Walked.{Walked}
use Rattle.mvo_visible.specs.declared.seen.Seen.{Seen}
use Rattle.mvo_visible.specs.declared.seen.Seen.TheVariants.{Settled}
use Rattle.mvo_visible.specs.Words.{States, seen_of, names}
use Rattle.mvo_visible.specs.Changes.{is_at, changes_by, done_with, deciding, later_change, put_of, removal_of}
use Rattle.mvo_visible.specs.Walked.{walked_on, with_put, is_from, is_last_at, is_last, settled_at, settled_put}
use Rattle.mvo_visible.proofs.Decides.{option_or-none, deciding-append}
use Rattle.mvo_visible.proofs.Walks.{or_false, not_by, below_none}

-- what the words say then
record IsSettled (b : ℕ) (v : Version) (s : Stamp) : Type 0 where
  pub put : v.begin ≡ At s
  pub below : ltb s.0 b ≡ true
  pub lasts : is_from b v.end ≡ true

settled_is : (b : ℕ) (v : Version) (s : Stamp) → settled_put b v ≡ Some s → IsSettled b v s
settled_is b v s e = go v.begin refl e
  where
    go : (h : Held) → v.begin ≡ h → settled_at b h v.end ≡ Some s → IsSettled b v s
    go (At t) is q =
        elim (cases_Bool (ltb t.0 b && is_from b v.end)) [
          | inl y ↦
              let parts = and_parts (ltb t.0 b) (is_from b v.end) y in
              let same : ◌≡◌ {A = Option Stamp} (Some t) (Some s) = sym (cond-true (ltb t.0 b && is_from b v.end) (Some t) None y) ∙ q in
              let at : t ≡ s = cc in
              record { put = is ∙ ap At at; below = sym (ap (λ (u : Stamp). ltb u.0 b) at) ∙ parts.0; lasts = parts.1 }
          | inr f ↦
              let none : ◌≡◌ {A = Option Stamp} None (Some s) = sym (cond-false (ltb t.0 b && is_from b v.end) (Some t) None f) ∙ q in
              cc
        ]
    go (By t) is q = cc
    go Infinity is q = cc

-- its end is no change with the stamp of its put
stays : (states : States) (b : ℕ) (s : Stamp) (end' : Held) → s.0 < b → is_from b end' ≡ true → is_at s.0 (seen_of states end') ≡ false
stays states b s (At e) below lasts = let from : b ≤ e.0 = leb-true b e.0 lasts in ne_eqb e.0 s.0 (λ q. omega (arith, below, from, q))
stays states b s (By t) below lasts = cc
stays states b s Infinity below lasts = refl

-- a walk ends at it
pub last_settled : (states : States) (b : ℕ) (v : Version) (s : Stamp) → settled_put b v ≡ Some s → is_last states b v ≡ true
last_settled states b v s e =
    let i = settled_is b v s e in
    ap (λ h. is_last_at b (seen_of states h) (seen_of states v.end)) i.put
    ∙ ap (λ x. x && not (is_at s.0 (seen_of states v.end))) i.below
    ∙ ap not (stays states b s v.end (ltb-true s.0 b i.below) i.lasts)

-- the put decides below b
put_decides : (b : ℕ) (n : VersionNo) (s : Stamp) (end' : Seen) → ltb s.0 b ≡ true → is_at s.0 end' ≡ false → deciding b (put_of n (Settled s) end') ≡ Some (record { stamp = s; version = Some n; owner = None })
put_decides b n s end' below stays =
    ap (λ v. deciding b (record { stamp = s; version = v; owner = None } ∷ [])) (cond-false (is_at s.0 end') None (Some n) stays)
    ∙ ap (λ x. option_map (done_with (record { stamp = s; version = Some n; owner = None } ∷ [])) (cond x (Some s.0) None)) below
    ∙ ap (λ x. Some (record { stamp = s; version = option_or (cond x (Some n) None) None; owner = option_or (cond x None None) None })) (eq-eqb s.0 s.0 refl)

-- and so it is all that the version adds
pub walked_settled : (states : States) (b r : ℕ) (w : Walked) (n : VersionNo) (v : Version) (s : Stamp) → settled_put b v ≡ Some s → walked_on states b r w (n, v) ≡ with_put w n s
walked_settled states b r w n v s e =
    let i = settled_is b v s e in
    let end' = seen_of states v.end in
    let change : deciding b (changes_by states (n, v)) ≡ Some (record { stamp = s; version = Some n; owner = None }) =
    deciding-append b (put_of n (seen_of states v.begin) end') (removal_of end')
    ∙ ap (later_change (deciding b (put_of n (seen_of states v.begin) end'))) (below_none states b v.end i.lasts)
    ∙ ap (λ h. later_change (deciding b (put_of n (seen_of states h) end')) None) i.put
    ∙ ap (λ c. later_change c None) (put_decides b n s end' i.below (stays states b s v.end (ltb-true s.0 b i.below) i.lasts)) in
    ap (λ h. record { own = w.own || (names r h || names r v.end); newest = option_or w.newest (cond (names r h && not (names r v.end)) (Some n) None); change = later_change w.change (deciding b (changes_by states (n, v))) }) i.put
    ∙ ap (λ o. record { own = w.own || o; newest = option_or w.newest None; change = later_change w.change (deciding b (changes_by states (n, v))) }) (not_by r b v.end i.lasts)
    ∙ ap (λ o. record { own = o; newest = option_or w.newest None; change = later_change w.change (deciding b (changes_by states (n, v))) }) (or_false w.own)
    ∙ ap (λ m. record { own = w.own; newest = m; change = later_change w.change (deciding b (changes_by states (n, v))) }) (option_or-none w.newest)
    ∙ ap (λ d. record { own = w.own; newest = w.newest; change = later_change w.change d }) change
