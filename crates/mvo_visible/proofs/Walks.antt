-- What a walk finds over more versions, and where it may stop.
use Rattle.std.proofs.Common.{◌≡◌, ◌≢◌, ℕ, max, ◌<◌, ◌≤◌, Bool, true, false, not, ◌&&◌, ◌||◌, cond, eqb, ltb, List, [], ◌∷◌, ◌++◌, Option, None, Some, refl, sym, ap, ◌∙◌, inl, inr, append_assoc, append-nil, arith}
use Rattle.std.proofs.lemmas.Bool.{cases_Bool, cond-true, cond-false, eqb-true, eq-eqb, eqb-false, ltb-true, lt-ltb, le-ltb, leb-true, not-true, and_parts, or_parts}
use Rattle.std.proofs.lemmas.Grind.{flat_map-append}
use Rattle.std.specs.List.{AllByRecursion, list_any}
use Rattle.std.specs.Option.{option_map, option_or}
use Rattle.mvo_types.specs.declared.ids.Stamp.{Stamp}
use Rattle.mvo_word.specs.declared.held.Held.{Held}
use Rattle.mvo_word.specs.declared.held.Held.TheVariants.{At, By, Infinity}
use Rattle.mvo_visible.specs.declared.walked.Walked.{Walked}
use Rattle.mvo_chain.specs.declared.version.Version.{Version}
use Rattle.mvo_chain.specs.declared.version.VersionNo.{VersionNo}
use Rattle.mvo_chain.specs.Slots.{Slots, version_at}
use Rattle.mvo_visible.specs.declared.seen.Seen.{Seen}
use Rattle.mvo_visible.specs.declared.seen.Seen.TheVariants.{Nothing, Settled, Speculative}
use Rattle.mvo_visible.specs.declared.change.Change.{Change}
use Rattle.mvo_visible.specs.Words.{States, seen_of, names}
use Rattle.mvo_visible.specs.Versions.{NumberedVersion, and_version, versions_by, is_own, is_own_newest, own_newest}
use Rattle.mvo_visible.specs.Changes.{greater, is_at, changes_by, changes_of, greatest_below, first_with, owner_with, done_with, deciding, both, later_change, put_of, removal_of}
use Rattle.mvo_visible.specs.Shown.{IsSettledBehind, HasFallingStamps, HasOwnInFront}
use Rattle.mvo_visible.specs.Walked.{walked_over, walked_on, is_from, is_last_at, is_last, is_later}
use Rattle.mvo_visible.proofs.Decides.{option_or-none, option_or_assoc, deciding-append}

-- ---- one version more
pub or_false : (b : Bool) → (b || false) ≡ b
or_false true = refl
or_false false = refl

or_assoc : (a b c : Bool) → ((a || b) || c) ≡ (a || (b || c))
or_assoc true b c = refl
or_assoc false b c = refl

pub any-append : (p : NumberedVersion → Bool) (xs ys : List NumberedVersion) → list_any p (xs ++ ys) ≡ (list_any p xs || list_any p ys)
any-append p [] ys = refl
any-append p (x ∷ xs) ys = ap (λ b. p x || b) (any-append p xs ys) ∙ sym (or_assoc (p x) (list_any p xs) (list_any p ys))

pub own_newest-append : (t : ℕ) (xs ys : List NumberedVersion) → own_newest t (xs ++ ys) ≡ option_or (own_newest t xs) (own_newest t ys)
own_newest-append t [] ys = refl
own_newest-append t (x ∷ xs) ys =
    ap (option_or (cond (is_own_newest t x) (Some x.0) None)) (own_newest-append t xs ys)
    ∙ sym (option_or_assoc (cond (is_own_newest t x) (Some x.0) None) (own_newest t xs) (own_newest t ys))

and_version-append : (m : VersionNo) (v : Option Version) (xs ys : List NumberedVersion) → and_version m v (xs ++ ys) ≡ and_version m v xs ++ ys
and_version-append m None xs ys = refl
and_version-append m (Some v) xs ys = refl

pub versions_by-append : (slots : Slots) (ms ns : List VersionNo) → versions_by slots (ms ++ ns) ≡ versions_by slots ms ++ versions_by slots ns
versions_by-append slots [] ns = refl
versions_by-append slots (m ∷ ms) ns = ap (and_version m (version_at slots m)) (versions_by-append slots ms ns) ∙ and_version-append m (version_at slots m) (versions_by slots ms) (versions_by slots ns)

-- ---- the versions with more numbers
pub versions_more : (slots : Slots) (ns : List VersionNo) (n : VersionNo) (v : Version) → Some v ≡ version_at slots n → versions_by slots (ns ++ n ∷ []) ≡ versions_by slots ns ++ (n, v) ∷ []
versions_more slots ns n v e = versions_by-append slots ns (n ∷ []) ∙ ap (λ o. versions_by slots ns ++ and_version n o []) (sym e)

pub versions_same : (slots : Slots) (ns : List VersionNo) (n : VersionNo) → None ≡ version_at slots n → versions_by slots (ns ++ n ∷ []) ≡ versions_by slots ns
versions_same slots ns n e =
    versions_by-append slots ns (n ∷ []) ∙ ap (λ o. versions_by slots ns ++ and_version n o []) (sym e) ∙ append-nil (versions_by slots ns)

pub versions_at_stop : (slots : Slots) (all ns : List VersionNo) (n : VersionNo) (v : Version) (rest : List VersionNo) → all ≡ ns ++ n ∷ rest → Some v ≡ version_at slots n → versions_by slots all ≡ versions_by slots ns ++ (n, v) ∷ versions_by slots rest
versions_at_stop slots all ns n v rest e there =
    ap (versions_by slots) e ∙ versions_by-append slots ns (n ∷ rest) ∙ ap (λ o. versions_by slots ns ++ and_version n o (versions_by slots rest)) (sym there)

pub changes_one : (states : States) (e : NumberedVersion) → changes_of states (e ∷ []) ≡ changes_by states e
changes_one states e = append-nil (changes_by states e)

pub changes-append : (states : States) (xs ys : List NumberedVersion) → changes_of states (xs ++ ys) ≡ changes_of states xs ++ changes_of states ys
changes-append states xs ys = flat_map-append (changes_by states) xs ys

pub walked_is : (states : States) (b r : ℕ) (xs ys : List NumberedVersion) → walked_over states b r (xs ++ ys) ≡ record {
  own = list_any (is_own r) xs || list_any (is_own r) ys;
  newest = option_or (own_newest r xs) (own_newest r ys);
  change = later_change (deciding b (changes_of states xs)) (deciding b (changes_of states ys));
}
walked_is states b r xs ys =
    ap (λ o. record { own = o; newest = own_newest r (xs ++ ys); change = deciding b (changes_of states (xs ++ ys)) }) (any-append (is_own r) xs ys)
    ∙ ap (λ n. record { own = list_any (is_own r) xs || list_any (is_own r) ys; newest = n; change = deciding b (changes_of states (xs ++ ys)) }) (own_newest-append r xs ys)
    ∙ ap (λ c. record { own = list_any (is_own r) xs || list_any (is_own r) ys; newest = option_or (own_newest r xs) (own_newest r ys); change = c })
    (ap (deciding b) (changes-append states xs ys) ∙ deciding-append b (changes_of states xs) (changes_of states ys))

pub walked_more : (states : States) (b r : ℕ) (vs : List NumberedVersion) (e : NumberedVersion) → walked_over states b r (vs ++ e ∷ []) ≡ walked_on states b r (walked_over states b r vs) e
walked_more states b r vs e =
    walked_is states b r vs (e ∷ [])
    ∙ ap (λ o. record { own = list_any (is_own r) vs || o; newest = option_or (own_newest r vs) (option_or (cond (is_own_newest r e) (Some e.0) None) None); change = later_change (deciding b (changes_of states vs)) (deciding b (changes_of states (e ∷ []))) }) (or_false (is_own r e))
    ∙ ap (λ n. record { own = list_any (is_own r) vs || is_own r e; newest = option_or (own_newest r vs) n; change = later_change (deciding b (changes_of states vs)) (deciding b (changes_of states (e ∷ []))) }) (option_or-none (cond (is_own_newest r e) (Some e.0) None))
    ∙ ap (λ cs. record { own = list_any (is_own r) vs || is_own r e; newest = option_or (own_newest r vs) (cond (is_own_newest r e) (Some e.0) None); change = later_change (deciding b (changes_of states vs)) (deciding b cs) }) (changes_one states e)

-- a word from b on names nobody, and tells no removal below b
pub not_by : (r b : ℕ) (h : Held) → is_from b h ≡ true → names r h ≡ false
not_by r b (At s) e = refl
not_by r b (By t) e = cc
not_by r b Infinity e = refl

pub below_none : (states : States) (b : ℕ) (h : Held) → is_from b h ≡ true → deciding b (removal_of (seen_of states h)) ≡ None
below_none states b (At s) e = ap (λ t. option_map (done_with (record { stamp = s; version = None; owner = None } ∷ [])) (cond t (Some s.0) None)) (le-ltb s.0 b (leb-true b s.0 e))
below_none states b (By t) e = cc
below_none states b Infinity e = refl

-- a version whose words are from b on changes nothing
pub walked_later : (states : States) (b r : ℕ) (w : Walked) (n : VersionNo) (v : Version) → is_later b v ≡ true → walked_on states b r w (n, v) ≡ w
walked_later states b r w n v later_is =
    let parts = and_parts (is_from b v.begin) (is_from b v.end) later_is in
    let begins = parts.0 in
    let ends = parts.1 in
    ap (λ o. record { own = w.own || o; newest = option_or w.newest (cond (names r v.begin && not (names r v.end)) (Some n) None); change = later_change w.change (deciding b (changes_by states (n, v))) })
    (ap (λ x. x || names r v.end) (not_by r b v.begin begins) ∙ not_by r b v.end ends)
    ∙ ap (λ o. record { own = o; newest = option_or w.newest (cond (names r v.begin && not (names r v.end)) (Some n) None); change = later_change w.change (deciding b (changes_by states (n, v))) }) (or_false w.own)
    ∙ ap (λ x. record { own = w.own; newest = option_or w.newest (cond (x && not (names r v.end)) (Some n) None); change = later_change w.change (deciding b (changes_by states (n, v))) }) (not_by r b v.begin begins)
    ∙ ap (λ m. record { own = w.own; newest = m; change = later_change w.change (deciding b (changes_by states (n, v))) }) (option_or-none w.newest)
    ∙ ap (λ d. record { own = w.own; newest = w.newest; change = later_change w.change d }) (none begins ends)
    ∙ ap (λ d. record { own = w.own; newest = w.newest; change = d }) (later_none w.change)
  where
    later_none : (c : Option Change) → later_change c None ≡ c
    later_none None = refl
    later_none (Some c) = refl

    put_none : (h : Held) (q : Seen) → is_from b h ≡ true → deciding b (put_of n (seen_of states h) q) ≡ None
    put_none (At s) q e = ap (λ t. option_map (done_with (put_of n (Settled s) q)) (cond t (Some s.0) None)) (le-ltb s.0 b (leb-true b s.0 e))
    put_none (By t) q e = cc
    put_none Infinity q e = refl

    none : is_from b v.begin ≡ true → is_from b v.end ≡ true → deciding b (changes_by states (n, v)) ≡ None
    none begins ends =
        deciding-append b (put_of n (seen_of states v.begin) (seen_of states v.end)) (removal_of (seen_of states v.end))
        ∙ ap (λ c. later_change c (deciding b (removal_of (seen_of states v.end)))) (put_none v.begin (seen_of states v.end) begins)
        ∙ below_none states b v.end ends

-- ---- where a walk may stop
-- the version's put is settled below b, and stays
record IsStop (states : States) (b : ℕ) (e : NumberedVersion) : Type 0 where
  pub stamp : Stamp
  pub put : seen_of states e.1.begin ≡ Settled stamp
  pub below : stamp.0 < b
  pub stays : is_at stamp.0 (seen_of states e.1.end) ≡ false

stop_is : (states : States) (b : ℕ) (e : NumberedVersion) → is_last states b e.1 ≡ true → IsStop states b e
stop_is states b e h = go (seen_of states e.1.begin) refl h
  where
    go : (put : Seen) → seen_of states e.1.begin ≡ put → is_last_at b put (seen_of states e.1.end) ≡ true → IsStop states b e
    go Nothing is q = cc
    go (Settled s) is q =
        let parts = and_parts (ltb s.0 b) (not (is_at s.0 (seen_of states e.1.end))) q in
        record { stamp = s; put = is; below = ltb-true s.0 b parts.0; stays = not-true (is_at s.0 (seen_of states e.1.end)) parts.1 }
    go (Speculative s t) is q = cc

none_own : (r : ℕ) (vs : List NumberedVersion) → list_any (is_own r) vs ≡ false → own_newest r vs ≡ None
none_own r [] h = refl
none_own r (v ∷ vs) h =
    let parts = or_parts (is_own r v) (list_any (is_own r) vs) h in
    ap (λ c. option_or (cond c (Some v.0) None) (own_newest r vs)) (not_newest (names r v.1.begin) (names r v.1.end) parts.0) ∙ none_own r vs parts.1
  where
    not_newest : (x y : Bool) → (x || y) ≡ false → (x && not y) ≡ false
    not_newest true y h = cc
    not_newest false y h = refl

some_is : (m n : ℕ) → ◌≡◌ {A = Option ℕ} (Some m) (Some n) → m ≡ n
some_is m n e = cc

-- stamps that are at most s have a greatest that is
greatest_most : (b s : ℕ) (cs : List Change) (t : ℕ) → AllByRecursion (λ c. c.stamp.0 ≤ s) cs → greatest_below b cs ≡ Some t → t ≤ s
greatest_most b s [] t all e = cc
greatest_most b s (c ∷ cs) t all e =
    elim (cases_Bool (ltb c.stamp.0 b)) [
      | inl l ↦
          by (greatest_below b cs) (λ r q. greatest_most b s cs r all.1 q)
          (sym (cond-true (ltb c.stamp.0 b) (Some (greater c.stamp.0 (greatest_below b cs))) (greatest_below b cs) l) ∙ e)
      | inr f ↦ greatest_most b s cs t all.1 (sym (cond-false (ltb c.stamp.0 b) (Some (greater c.stamp.0 (greatest_below b cs))) (greatest_below b cs) f) ∙ e)
    ]
  where
    by : (x : Option ℕ) → ((r : ℕ) → x ≡ Some r → r ≤ s) → Some (greater c.stamp.0 x) ≡ Some t → t ≤ s
    by None q p = let h : c.stamp.0 ≡ t = some_is c.stamp.0 t p in let g : c.stamp.0 ≤ s = all.0 in omega (arith, h, g)
    by (Some r) q p =
        let h : max c.stamp.0 r ≡ t = some_is (max c.stamp.0 r) t p in
        let g : c.stamp.0 ≤ s = all.0 in
        let k : r ≤ s = q r refl in
        omega (arith, h, g, k)

-- behind a put with the stamp s that stays, nothing below b matters where nothing has a greater stamp
keeps : (b s : ℕ) (n : VersionNo) (es ds : List Change) (c : Change) → c.stamp.0 ≡ s → c.version ≡ Some n → s < b → AllByRecursion (λ d. d.stamp.0 ≤ s) ds → owner_with s ds ≡ None → later_change (deciding b (c ∷ es)) (deciding b ds) ≡ deciding b (c ∷ es)
keeps b s n es ds c at shows below all settled = by_first (greatest_below b es) refl
  where
    is_below : ltb c.stamp.0 b ≡ true
    is_below = ap (λ m. ltb m b) at ∙ lt-ltb s b below

    at_first : (m : ℕ) → greatest_below b (c ∷ es) ≡ Some m → s ≤ m → (y : Option ℕ) → greatest_below b ds ≡ y → later_change (Some (done_with (c ∷ es) m)) (option_map (done_with ds) y) ≡ Some (done_with (c ∷ es) m)
    at_first m is most None q = refl
    at_first m is most (Some t) q =
        let under : t ≤ s = greatest_most b s ds t all q in
        elim (cases_Bool (eqb m t)) [
          | inl e ↦
              let same : m ≡ t = eqb-true m t e in
              let here : m ≡ s = omega (arith, same, under, most) in
              let there : t ≡ s = omega (arith, same, under, most) in
              ap Some (cond-true (eqb m t) (both (done_with (c ∷ es) m) (done_with ds t)) (cond (ltb m t) (done_with ds t) (done_with (c ∷ es) m)) e
              ∙ ap (λ v. record { stamp = record { 0 = m }; version = v; owner = option_or (first_with (λ c. c.owner) m (c ∷ es)) (first_with (λ c. c.owner) t ds) }) (shown m here (first_with (λ c. c.version) t ds))
              ∙ ap (λ o. record { stamp = record { 0 = m }; version = first_with (λ c. c.version) m (c ∷ es); owner = option_or (first_with (λ c. c.owner) m (c ∷ es)) o }) (ap (λ k. owner_with k ds) there ∙ settled)
              ∙ ap (λ o. record { stamp = record { 0 = m }; version = first_with (λ c. c.version) m (c ∷ es); owner = o }) (option_or-none (first_with (λ c. c.owner) m (c ∷ es))))
          | inr f ↦
              let differ : m ≢ t = eqb-false m t f in
              let less : t ≤ m = omega (arith, under, most) in
              ap Some (cond-false (eqb m t) (both (done_with (c ∷ es) m) (done_with ds t)) (cond (ltb m t) (done_with ds t) (done_with (c ∷ es) m)) f
              ∙ cond-false (ltb m t) (done_with ds t) (done_with (c ∷ es) m) (le-ltb m t less))
        ]
      where
        shown : (m : ℕ) → m ≡ s → (w : Option VersionNo) → option_or (first_with (λ c. c.version) m (c ∷ es)) w ≡ first_with (λ c. c.version) m (c ∷ es)
        shown m here w =
            let first : first_with (λ c. c.version) m (c ∷ es) ≡ Some n =
            ap (λ g. option_or (cond g c.version None) (first_with (λ c. c.version) m es)) (eq-eqb c.stamp.0 m (at ∙ sym here)) ∙ ap (λ v. option_or v (first_with (λ c. c.version) m es)) shows in
            ap (λ v. option_or v w) first ∙ sym first

    by_first : (x : Option ℕ) → greatest_below b es ≡ x → later_change (deciding b (c ∷ es)) (deciding b ds) ≡ deciding b (c ∷ es)
    by_first x q =
        let is : greatest_below b (c ∷ es) ≡ Some (greater c.stamp.0 x) =
        cond-true (ltb c.stamp.0 b) (Some (greater c.stamp.0 (greatest_below b es))) (greatest_below b es) is_below ∙ ap (λ y. Some (greater c.stamp.0 y)) q in
        ap (λ y. later_change (option_map (done_with (c ∷ es)) y) (deciding b ds)) is
        ∙ at_first (greater c.stamp.0 x) is (above x) (greatest_below b ds) refl
        ∙ ap (option_map (done_with (c ∷ es))) (sym is)
      where
        above : (x : Option ℕ) → s ≤ greater c.stamp.0 x
        above None = omega (arith, at)
        above (Some r) = omega (arith, at)

-- what is asked of all versions, at one of them
abbrev pub IsFallingAt : States → NumberedVersion → List NumberedVersion → Type 0
IsFallingAt states e rest = (s : Stamp) → seen_of states e.1.begin ≡ Settled s → IsSettledBehind states s.0 rest

abbrev IsOwnFirst : States → ℕ → ℕ → NumberedVersion → List NumberedVersion → Type 0
IsOwnFirst states b r e rest = (s : Stamp) → seen_of states e.1.begin ≡ Settled s → s.0 < b → list_any (is_own r) rest ≡ false

pub falling_at : (states : States) (xs : List NumberedVersion) (e : NumberedVersion) (rest : List NumberedVersion) → HasFallingStamps states (xs ++ e ∷ rest) → IsFallingAt states e rest
falling_at states [] e rest s = s.0
falling_at states (x ∷ xs) e rest s = falling_at states xs e rest s.1

pub own_first : (states : States) (b r : ℕ) (xs : List NumberedVersion) (e : NumberedVersion) (rest : List NumberedVersion) → HasOwnInFront states b r (xs ++ e ∷ rest) → IsOwnFirst states b r e rest
own_first states b r [] e rest s = s.0
own_first states b r (x ∷ xs) e rest s = own_first states b r xs e rest s.1

stop_keeps : (states : States) (b : ℕ) (e : NumberedVersion) (rest : List NumberedVersion) → IsStop states b e → IsFallingAt states e rest → later_change (deciding b (changes_by states e)) (deciding b (changes_of states rest)) ≡ deciding b (changes_by states e)
stop_keeps states b e rest stop falling =
    let behind = falling stop.stamp stop.put in
    let s = stop.stamp in
    let end' = seen_of states e.1.end in
    let first : changes_by states e ≡ record { stamp = s; version = Some e.0; owner = None } ∷ removal_of end' =
    ap (λ p. put_of e.0 p end' ++ removal_of end') stop.put
    ∙ ap (λ v. record { stamp = s; version = v; owner = None } ∷ removal_of end') (cond-false (is_at s.0 end') None (Some e.0) stop.stays) in
    ap (λ cs. later_change (deciding b cs) (deciding b (changes_of states rest))) first
    ∙ keeps b s.0 e.0 (removal_of end') (changes_of states rest) (record { stamp = s; version = Some e.0; owner = None }) refl refl stop.below behind.below behind.settled
    ∙ ap (deciding b) (sym first)

pub walked_stop : (states : States) (b r : ℕ) (xs : List NumberedVersion) (e : NumberedVersion) (rest : List NumberedVersion) → is_last states b e.1 ≡ true → IsFallingAt states e rest → IsOwnFirst states b r e rest → walked_over states b r (xs ++ e ∷ []) ≡ walked_over states b r (xs ++ e ∷ rest)
walked_stop states b r xs e rest last falling own =
    let stop = stop_is states b e last in
    let no_own : list_any (is_own r) rest ≡ false = own stop.stamp stop.put stop.below in
    sym (ap (walked_over states b r) (sym (append_assoc xs (e ∷ []) rest))
    ∙ walked_is states b r (xs ++ e ∷ []) rest
    ∙ ap (λ o. record { own = list_any (is_own r) (xs ++ e ∷ []) || o; newest = option_or (own_newest r (xs ++ e ∷ [])) (own_newest r rest); change = later_change (deciding b (changes_of states (xs ++ e ∷ []))) (deciding b (changes_of states rest)) }) no_own
    ∙ ap (λ o. record { own = o; newest = option_or (own_newest r (xs ++ e ∷ [])) (own_newest r rest); change = later_change (deciding b (changes_of states (xs ++ e ∷ []))) (deciding b (changes_of states rest)) }) (or_false (list_any (is_own r) (xs ++ e ∷ [])))
    ∙ ap (λ n. record { own = list_any (is_own r) (xs ++ e ∷ []); newest = option_or (own_newest r (xs ++ e ∷ [])) n; change = later_change (deciding b (changes_of states (xs ++ e ∷ []))) (deciding b (changes_of states rest)) }) (none_own r rest no_own)
    ∙ ap (λ n. record { own = list_any (is_own r) (xs ++ e ∷ []); newest = n; change = later_change (deciding b (changes_of states (xs ++ e ∷ []))) (deciding b (changes_of states rest)) }) (option_or-none (own_newest r (xs ++ e ∷ [])))
    ∙ ap (λ c. record { own = list_any (is_own r) (xs ++ e ∷ []); newest = own_newest r (xs ++ e ∷ []); change = c }) change)
  where
    change : later_change (deciding b (changes_of states (xs ++ e ∷ []))) (deciding b (changes_of states rest)) ≡ deciding b (changes_of states (xs ++ e ∷ []))
    change =
        let cs = changes_of states xs in
        let es = changes_by states e in
        let ds = changes_of states rest in
        let parts : changes_of states (xs ++ e ∷ []) ≡ cs ++ es = changes-append states xs (e ∷ []) ∙ ap (λ ds. changes_of states xs ++ ds) (changes_one states e) in
        ap (λ fs. later_change (deciding b fs) (deciding b ds)) parts
        ∙ sym (deciding-append b (cs ++ es) ds)
        ∙ ap (deciding b) (append_assoc cs es ds)
        ∙ deciding-append b cs (es ++ ds)
        ∙ ap (later_change (deciding b cs)) (deciding-append b es ds ∙ stop_keeps states b e rest (stop_is states b e last) falling)
        ∙ sym (deciding-append b cs es)
        ∙ ap (deciding b) (sym parts)
