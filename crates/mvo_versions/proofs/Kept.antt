-- Skips stay skips where a version is put, changes its words, comes to the front, or goes.
use Rattle.std.proofs.Common.{◌≡◌, ◌≢◌, ℕ, Bool, true, false, cond, not, eqb, ◌&&◌, ◌||◌, List, [], ◌∷◌, Option, None, Some, IsSome, refl, sym, ap, ◌∙◌, subst, inl, inr}
use Rattle.std.specs.Prelude.{slice_index_or}
use Rattle.std.specs.Option.{option_map}
use Rattle.std.specs.Ordering.{eq_by_cmp}
use Rattle.std.proofs.lemmas.Bool.{cases_Bool, cases_eq, cond-true, cond-false, eq-eqb, eqb-true, ne_eqb, and_parts, or_cases, or_left, or_right, or_parts, true≢false}
use Rattle.std.proofs.lemmas.List.{get_or-set_other}
use Rattle.std.proofs.lemmas.Map.Views.{tells_apart}
use Rattle.mvo_types.proofs.Maps.{exact_keys}
use Rattle.mvo_types.specs.RowData.{RowData}
use Rattle.mvo_types.specs.declared.row.RowKey.{RowKey}
use Rattle.mvo_types.specs.Keys.{key_cmp}
use Rattle.mvo_chain.specs.declared.version.Version.{Version}
use Rattle.mvo_chain.specs.declared.version.VersionNo.{VersionNo}
use Rattle.mvo_chain.specs.Slots.{Slots, version_at, with_room}
use Rattle.mvo_hash.specs.Lists.{Lists, number, numbers_of, with_numbers, without_number, is_among}
use Rattle.mvo_visible.specs.Fronts.{with_new, with_front, with_less}
use Rattle.mvo_representation.specs.Indexes.{is_of_key, HasNumbers}
use Rattle.mvo_representation.specs.Steps.{fresh}
use Rattle.mvo_representation.proofs.Numbers.{numbers_with}
use Rattle.mvo_versions.specs.declared.skips.Post.{Post}
use Rattle.mvo_versions.specs.declared.skip.Skip.{Skip}
use Rattle.mvo_versions.specs.Data.{VersionsData, AreIndexed}
use Rattle.mvo_versions.specs.Changes.{IsPut, IsRoomed, IsReworded, IsInFront, IsTakenOut}
use Rattle.mvo_versions.specs.Skips.{begin_of_ended, is_ended_from, from_on, leads, skip_at, HasNoMore, IsForgotten, IsNoted, IsSkip, AreSkips, HasSkips, IsUnlessEnded}
use Rattle.mvo_versions.proofs.Indexing.{number_among, none_of, room_same}
use Rattle.mvo_versions.proofs.Going.{found}
use Rattle.mvo_versions.proofs.Posts.{none_known}
use Rattle.mvo_versions.proofs.Words.{not_ended}

-- the versions differ at this number alone
pub record DifferAtOne (old new : Slots) (n : ℕ) : Type 0 where
  pub others : (m : ℕ) → m ≢ n → slice_index_or new m None ≡ slice_index_or old m None

ended_same : (old new : Slots) (n b m : ℕ) → DifferAtOne old new n → m ≢ n → is_ended_from new b m ≡ is_ended_from old b m
ended_same old new n b m d e = ap (λ (o : Option Version). Rattle.mvo_versions.specs.Skips.is_at_least b (begin_of_ended o)) (d.others m e)

two : (x y : Bool) → x ≡ true → y ≡ true → (x && y) ≡ true
two x y p q = ap (λ b. b && y) p ∙ q

-- ---- a skip up to a version, where another one changes
-- as it goes
pub leads_without : (old new : Slots) (n b to : ℕ) → DifferAtOne old new n → to ≢ n → (ms : List ℕ) → leads old b to ms ≡ true → leads new b to (without_number n ms) ≡ true
leads_without old new n b to d t [] h = absurd (true≢false (sym h))
leads_without old new n b to d t (m ∷ ms) h =
    let parts = and_parts (is_ended_from old b m) (eqb m to || leads old b to ms) h in
    elim (cases_eq n m) [
      | inl q ↦
          let passed : leads old b to ms ≡ true = sym (ap (λ x. x || leads old b to ms) (ne_eqb m to (λ e. t (sym e ∙ sym q)))) ∙ parts.1 in
          ap (λ x. leads new b to (cond (not x) (m ∷ without_number n ms) (without_number n ms))) (eq-eqb n m q) ∙ leads_without old new n b to d t ms passed
      | inr c ↦
          ap (λ x. leads new b to (cond (not x) (m ∷ without_number n ms) (without_number n ms))) (ne_eqb n m c)
          ∙ two (is_ended_from new b m) (eqb m to || leads new b to (without_number n ms)) (ended_same old new n b m d (λ e. c (sym e)) ∙ parts.0)
          (elim (or_cases (eqb m to) (leads old b to ms) parts.1) [
            | inl e ↦ or_left (eqb m to) (leads new b to (without_number n ms)) e
            | inr e ↦ or_right (eqb m to) (leads new b to (without_number n ms)) (leads_without old new n b to d t ms e)
          ])
    ]

-- where it isn't among them
pub leads_beside : (old new : Slots) (n b to : ℕ) → DifferAtOne old new n → (ms : List ℕ) → is_among n ms ≡ false → leads old b to ms ≡ true → leads new b to ms ≡ true
leads_beside old new n b to d [] a h = h
leads_beside old new n b to d (m ∷ ms) a h =
    let parts = and_parts (is_ended_from old b m) (eqb m to || leads old b to ms) h in
    let apart = or_parts (eqb n m) (is_among n ms) a in
    two (is_ended_from new b m) (eqb m to || leads new b to ms) (ended_same old new n b m d (λ e. true≢false (sym (eq-eqb n m (sym e)) ∙ apart.0)) ∙ parts.0)
    (elim (or_cases (eqb m to) (leads old b to ms) parts.1) [
      | inl e ↦ or_left (eqb m to) (leads new b to ms) e
      | inr e ↦ or_right (eqb m to) (leads new b to ms) (leads_beside old new n b to d ms apart.1 e)
    ])

-- where it hadn't ended
pub leads_past : (old new : Slots) (n b to : ℕ) → DifferAtOne old new n → is_ended_from old b n ≡ false → (ms : List ℕ) → leads old b to ms ≡ true → leads new b to ms ≡ true
leads_past old new n b to d f [] h = h
leads_past old new n b to d f (m ∷ ms) h =
    let parts = and_parts (is_ended_from old b m) (eqb m to || leads old b to ms) h in
    two (is_ended_from new b m) (eqb m to || leads new b to ms) (ended_same old new n b m d (λ e. true≢false (sym parts.0 ∙ ap (is_ended_from old b) e ∙ f)) ∙ parts.0)
    (elim (or_cases (eqb m to) (leads old b to ms) parts.1) [
      | inl e ↦ or_left (eqb m to) (leads new b to ms) e
      | inr e ↦ or_right (eqb m to) (leads new b to ms) (leads_past old new n b to d f ms e)
    ])

-- where no version changes
leads_alike : (old new : Slots) (b to : ℕ) → ((m : ℕ) → slice_index_or new m None ≡ slice_index_or old m None) → (ms : List ℕ) → leads new b to ms ≡ leads old b to ms
leads_alike old new b to s [] = refl
leads_alike old new b to s (m ∷ ms) =
    ap (λ (o : Option Version). Rattle.mvo_versions.specs.Skips.is_at_least b (begin_of_ended o) && (eqb m to || leads new b to ms)) (s m)
    ∙ ap (λ x. is_ended_from old b m && (eqb m to || x)) (leads_alike old new b to s ms)

-- its last version has ended
pub leads_end : (slots : Slots) (b to : ℕ) (ms : List ℕ) → leads slots b to ms ≡ true → is_ended_from slots b to ≡ true
leads_end slots b to [] h = absurd (true≢false (sym h))
leads_end slots b to (m ∷ ms) h =
    let parts = and_parts (is_ended_from slots b m) (eqb m to || leads slots b to ms) h in
    elim (or_cases (eqb m to) (leads slots b to ms) parts.1) [
      | inl e ↦ ap (is_ended_from slots b) (sym (eqb-true m to e)) ∙ parts.0
      | inr e ↦ leads_end slots b to ms e
    ]

-- and so has its first
pub leads_head : (slots : Slots) (b to p : ℕ) (ms : List ℕ) → leads slots b to (from_on p ms) ≡ true → is_ended_from slots b p ≡ true
leads_head slots b to p [] h = absurd (true≢false (sym h))
leads_head slots b to p (m ∷ ms) h =
    elim (cases_Bool (eqb p m)) [
      | inl t ↦
          ap (is_ended_from slots b) (eqb-true p m t)
          ∙ (and_parts (is_ended_from slots b m) (eqb m to || leads slots b to ms) (sym (ap (leads slots b to) (cond-true (eqb p m) (m ∷ ms) (from_on p ms) t)) ∙ h)).0
      | inr f ↦ leads_head slots b to p ms (sym (ap (leads slots b to) (cond-false (eqb p m) (m ∷ ms) (from_on p ms) f)) ∙ h)
    ]

-- ---- the numbers from one on
from_without : (p n : ℕ) → p ≢ n → (ms : List ℕ) → from_on p (without_number n ms) ≡ without_number n (from_on p ms)
from_without p n d [] = refl
from_without p n d (m ∷ ms) =
    elim (cases_eq n m) [
      | inl q ↦
          ap (λ x. from_on p (cond (not x) (m ∷ without_number n ms) (without_number n ms))) (eq-eqb n m q)
          ∙ from_without p n d ms
          ∙ ap (without_number n) (sym (cond-false (eqb p m) (m ∷ ms) (from_on p ms) (ne_eqb p m (λ e. d (e ∙ sym q)))))
      | inr c ↦
          ap (λ x. from_on p (cond (not x) (m ∷ without_number n ms) (without_number n ms))) (ne_eqb n m c)
          ∙ elim (cases_Bool (eqb p m)) [
            | inl t ↦
                cond-true (eqb p m) (m ∷ without_number n ms) (from_on p (without_number n ms)) t
                ∙ sym (ap (λ x. cond (not x) (m ∷ without_number n ms) (without_number n ms)) (ne_eqb n m c))
                ∙ ap (without_number n) (sym (cond-true (eqb p m) (m ∷ ms) (from_on p ms) t))
            | inr f ↦
                cond-false (eqb p m) (m ∷ without_number n ms) (from_on p (without_number n ms)) f
                ∙ from_without p n d ms
                ∙ ap (without_number n) (sym (cond-false (eqb p m) (m ∷ ms) (from_on p ms) f))
          ]
    ]

from_new : (p n : ℕ) → p ≢ n → (ms : List ℕ) → from_on p (n ∷ ms) ≡ from_on p ms
from_new p n d ms = cond-false (eqb p n) (n ∷ ms) (from_on p ms) (ne_eqb p n d)

from_among : (p n : ℕ) (ms : List ℕ) → is_among n ms ≡ false → is_among n (from_on p ms) ≡ false
from_among p n [] a = a
from_among p n (m ∷ ms) a =
    elim (cases_Bool (eqb p m)) [
      | inl t ↦ ap (is_among n) (cond-true (eqb p m) (m ∷ ms) (from_on p ms) t) ∙ a
      | inr f ↦ ap (is_among n) (cond-false (eqb p m) (m ∷ ms) (from_on p ms) f) ∙ from_among p n ms (or_parts (eqb n m) (is_among n ms) a).1
    ]

among_old : (p n : ℕ) → p ≢ n → (ms : List ℕ) → is_among p (n ∷ ms) ≡ true → is_among p ms ≡ true
among_old p n d ms a = sym (ap (λ x. x || is_among p ms) (ne_eqb p n d)) ∙ a

among_with : (p n : ℕ) (ms : List ℕ) → is_among p (without_number n ms) ≡ true → is_among p ms ≡ true
among_with p n [] a = a
among_with p n (m ∷ ms) a =
    elim (cases_Bool (eqb n m)) [
      | inl t ↦ or_right (eqb p m) (is_among p ms) (among_with p n ms (sym (ap (λ x. is_among p (cond (not x) (m ∷ without_number n ms) (without_number n ms))) t) ∙ a))
      | inr f ↦
          elim (or_cases (eqb p m) (is_among p (without_number n ms)) (sym (ap (λ x. is_among p (cond (not x) (m ∷ without_number n ms) (without_number n ms))) f) ∙ a)) [
            | inl e ↦ or_left (eqb p m) (is_among p ms) e
            | inr e ↦ or_right (eqb p m) (is_among p ms) (among_with p n ms e)
          ]
    ]

-- ---- the numbers of a key, where those of one key change
numbers_at : {X : Type 0} (lists : Lists) (k : RowKey) (ns : List ℕ) (q : RowKey) → (q ≡ k → numbers_of (with_numbers lists k ns) q ≡ ns → X) → (eq_by_cmp key_cmp q k ≡ false → numbers_of (with_numbers lists k ns) q ≡ numbers_of lists q → X) → X
numbers_at lists k ns q same other =
    elim (cases_Bool (eq_by_cmp key_cmp q k)) [
      | inl t ↦ same (tells_apart exact_keys q k t) (numbers_with lists k ns q ∙ cond-true (eq_by_cmp key_cmp q k) ns (numbers_of lists q) t)
      | inr f ↦ other f (numbers_with lists k ns q ∙ cond-false (eq_by_cmp key_cmp q k) ns (numbers_of lists q) f)
    ]

-- ---- the calls
-- no version is put
pub roomed_skips : (v w : VersionsData) (ps : List Post) → IsRoomed v w → AreSkips v.slots v.lists ps → AreSkips w.slots w.lists ps
roomed_skips v w ps i h = record { each = λ p r q. record { at = λ key a. leads_alike v.slots w.slots r.least.0 r.to.0 same (from_on p (numbers_of w.lists key)) ∙ ap (λ l. leads v.slots r.least.0 r.to.0 (from_on p (numbers_of l key))) i.lists ∙ (h.each p r q).at key (ap (λ l. is_among p (numbers_of l key)) (sym i.lists) ∙ a) } }
  where
    same : (m : ℕ) → slice_index_or w.slots m None ≡ slice_index_or v.slots m None
    same m =
        elim i.slots [
          | inl e ↦ ap (λ ss. slice_index_or ss m None) e
          | inr e ↦ ap (λ ss. slice_index_or ss m None) e ∙ room_same v.slots m
        ]

-- a version is put
pub put_skips : (v w : VersionsData) (row : RowData) (t : ℕ) (n : VersionNo) (old new : List Post) → IsPut v w row t n → IsForgotten old new n.0 → AreSkips v.slots v.lists old → AreSkips w.slots w.lists new
put_skips v w row t n old new i f h = record { each = λ p r q. record { at = λ key a. at p r q key (numbers_of w.lists key) (ap (λ l. numbers_of l key) i.lists) a } }
  where
    others : DifferAtOne v.slots w.slots n.0
    others = record { others = λ m d. ap (λ ss. slice_index_or ss m None) i.slots ∙ get_or-set_other (with_room v.slots) n.0 m (Some (fresh t row)) None d ∙ room_same v.slots m }

    at : (p : ℕ) (r : Skip) → skip_at new p ≡ Some r → (key : RowKey) (ms : List ℕ) → ms ≡ numbers_of (with_new v.lists row.key n.0) key → is_among p ms ≡ true → leads w.slots r.least.0 r.to.0 (from_on p ms) ≡ true
    at p r q key ms e a =
        let d : p ≢ n.0 = λ s. f.begins r (subst (λ m. skip_at new m ≡ Some r) s q) in
        let skip = (h.each p r (f.was p r q)).at in
        numbers_at v.lists row.key (n.0 ∷ numbers_of v.lists row.key) key
        (λ s is. (let ns = numbers_of v.lists row.key in
        ap (λ xs. leads w.slots r.least.0 r.to.0 (from_on p xs)) (e ∙ is)
        ∙ ap (leads w.slots r.least.0 r.to.0) (from_new p n.0 d ns)
        ∙ leads_beside v.slots w.slots n.0 r.least.0 r.to.0 others (from_on p ns) (from_among p n.0 ns (i.unused.at row.key))
        (skip row.key (among_old p n.0 d ns (sym (ap (is_among p) (e ∙ is)) ∙ a)))))
        (λ s is. (let ns = numbers_of v.lists key in
        ap (λ xs. leads w.slots r.least.0 r.to.0 (from_on p xs)) (e ∙ is)
        ∙ leads_beside v.slots w.slots n.0 r.least.0 r.to.0 others (from_on p ns) (from_among p n.0 ns (i.unused.at key))
        (skip key (sym (ap (is_among p) (e ∙ is)) ∙ a))))

-- a version goes
pub gone_skips : (v w : VersionsData) (n : VersionNo) (x : Version) (old new : List Post) → version_at v.slots n ≡ Some x → HasNumbers v.slots v.lists → IsTakenOut v w n → IsForgotten old new n.0 → AreSkips v.slots v.lists old → AreSkips w.slots w.lists new
gone_skips v w n x old new there numbered i f h = record { each = λ p r q. record { at = λ key a. at p r q key (numbers_of w.lists key) (ap (λ l. numbers_of l key) (i.lists x there)) a } }
  where
    others : DifferAtOne v.slots w.slots n.0
    others = record { others = λ m d. ap (λ ss. slice_index_or ss m None) i.slots ∙ get_or-set_other v.slots n.0 m None None d }

    -- it isn't another key's
    elsewhere : (key : RowKey) → eq_by_cmp key_cmp key x.row.key ≡ false → is_among n.0 (numbers_of v.lists key) ≡ false
    elsewhere key e = none_of n.0 (numbers_of v.lists key) (numbered.at key n.0 ∙ ap (λ o. cond (is_of_key key o) 1 0) there ∙ ap (λ c. cond c 1 0) e)

    at : (p : ℕ) (r : Skip) → skip_at new p ≡ Some r → (key : RowKey) (ms : List ℕ) → ms ≡ numbers_of (with_less v.lists x.row.key n.0) key → is_among p ms ≡ true → leads w.slots r.least.0 r.to.0 (from_on p ms) ≡ true
    at p r q key ms e a =
        let d : p ≢ n.0 = λ s. f.begins r (subst (λ m. skip_at new m ≡ Some r) s q) in
        let t : r.to.0 ≢ n.0 = f.ends p r q in
        let skip = (h.each p r (f.was p r q)).at in
        numbers_at v.lists x.row.key (without_number n.0 (numbers_of v.lists x.row.key)) key
        (λ s is. (let ns = numbers_of v.lists x.row.key in
        ap (λ xs. leads w.slots r.least.0 r.to.0 (from_on p xs)) (e ∙ is)
        ∙ ap (leads w.slots r.least.0 r.to.0) (from_without p n.0 d ns)
        ∙ leads_without v.slots w.slots n.0 r.least.0 r.to.0 others t (from_on p ns)
        (skip x.row.key (among_with p n.0 ns (sym (ap (is_among p) (e ∙ is)) ∙ a)))))
        (λ s is. (let ns = numbers_of v.lists key in
        ap (λ xs. leads w.slots r.least.0 r.to.0 (from_on p xs)) (e ∙ is)
        ∙ leads_beside v.slots w.slots n.0 r.least.0 r.to.0 others (from_on p ns) (from_among p n.0 ns (elsewhere key s))
        (skip key (sym (ap (is_among p) (e ∙ is)) ∙ a))))

-- none is left
pub no_skips : (slots : Slots) (lists : Lists) (ps : List Post) → ps ≡ [] → AreSkips slots lists ps
no_skips slots lists ps e = record { each = λ p r q. none_known p r (sym (ap (λ xs. skip_at xs p) e) ∙ q) }

-- a skip is noted
pub noted_skips : (slots : Slots) (lists : Lists) (old new : List Post) (n : ℕ) (skip : Skip) → IsNoted old new n skip → IsSkip slots lists n skip → AreSkips slots lists old → AreSkips slots lists new
noted_skips slots lists old new n skip i is h = record {
  each = λ p r q. elim (i.was p r q) [
    | inl e ↦ h.each p r e
    | inr e ↦ subst (λ m. IsSkip slots lists m r) (sym e.0) (subst (IsSkip slots lists n) (sym e.1) is)
  ];
}

-- a version's words change
pub reworded_skips : (v w : VersionsData) (n : VersionNo) (change : Version → Version) (old new : List Post) → IsReworded v w n change → IsUnlessEnded v.slots old new n.0 → AreSkips v.slots v.lists old → AreSkips w.slots w.lists new
reworded_skips v w n change old new i u h =
    elim u [
      | inl e ↦ no_skips w.slots w.lists new e
      | inr e ↦ record {
        each = λ p r q. record {
          at = λ key a. leads_past v.slots w.slots n.0 r.least.0 r.to.0 others (not_ended v.slots r.least.0 n.0 e.1) (from_on p (numbers_of w.lists key))
              (ap (λ l. leads v.slots r.least.0 r.to.0 (from_on p (numbers_of l key))) i.lists ∙ (h.each p r (sym (ap (λ xs. skip_at xs p) e.0) ∙ q)).at key (ap (λ l. is_among p (numbers_of l key)) (sym i.lists) ∙ a));
        };
      }
    ]
  where
    others : DifferAtOne v.slots w.slots n.0
    others = record { others = λ m d. ap (λ ss. slice_index_or ss m None) i.slots ∙ get_or-set_other v.slots n.0 m (option_map change (version_at v.slots n)) None d }

-- a version comes to the front
pub front_skips : (v w : VersionsData) (n : VersionNo) (x : Version) (old new : List Post) → version_at v.slots n ≡ Some x → HasNumbers v.slots v.lists → IsInFront v w n → IsUnlessEnded v.slots old new n.0 → AreSkips v.slots v.lists old → AreSkips w.slots w.lists new
front_skips v w n x old new there numbered i u h =
    elim u [
      | inl e ↦ no_skips w.slots w.lists new e
      | inr e ↦ record { each = λ p r q. record { at = λ key a. at e.1 p r (sym (ap (λ xs. skip_at xs p) e.0) ∙ q) key (numbers_of w.lists key) (ap (λ l. numbers_of l key) (i.lists x there)) a } }
    ]
  where
    same : DifferAtOne v.slots w.slots n.0
    same = record { others = λ m d. ap (λ ss. slice_index_or ss m None) i.slots }

    at : begin_of_ended (version_at v.slots (number n.0)) ≡ None → (p : ℕ) (r : Skip) → skip_at old p ≡ Some r → (key : RowKey) (ms : List ℕ) → ms ≡ numbers_of (with_front v.lists x.row.key n.0) key → is_among p ms ≡ true → leads w.slots r.least.0 r.to.0 (from_on p ms) ≡ true
    at none p r q key ms e a =
        let f = not_ended v.slots r.least.0 n.0 none in
        let skip = (h.each p r q).at in
        numbers_at v.lists x.row.key (n.0 ∷ without_number n.0 (numbers_of v.lists x.row.key)) key
        (λ s is. (let ns = numbers_of v.lists x.row.key in
        elim (cases_eq p n.0) [
          | inl c ↦ absurd (true≢false (sym (leads_head v.slots r.least.0 r.to.0 p ns (skip x.row.key (ap (λ m. is_among m ns) c ∙ number_among v.slots v.lists n.0 x numbered there))) ∙ ap (is_ended_from v.slots r.least.0) c ∙ f))
          | inr d ↦
              let led = skip x.row.key (among_with p n.0 ns (among_old p n.0 d (without_number n.0 ns) (sym (ap (is_among p) (e ∙ is)) ∙ a))) in
              let t : r.to.0 ≢ n.0 = λ c. true≢false (sym (leads_end v.slots r.least.0 r.to.0 (from_on p ns) led) ∙ ap (is_ended_from v.slots r.least.0) c ∙ f) in
              ap (λ xs. leads w.slots r.least.0 r.to.0 (from_on p xs)) (e ∙ is)
              ∙ ap (leads w.slots r.least.0 r.to.0) (from_new p n.0 d (without_number n.0 ns) ∙ from_without p n.0 d ns)
              ∙ leads_without v.slots w.slots n.0 r.least.0 r.to.0 same t (from_on p ns) led
        ]))
        (λ s is. (let ns = numbers_of v.lists key in
        ap (λ xs. leads w.slots r.least.0 r.to.0 (from_on p xs)) (e ∙ is)
        ∙ leads_past v.slots w.slots n.0 r.least.0 r.to.0 same f (from_on p ns) (skip key (sym (ap (is_among p) (e ∙ is)) ∙ a))))

-- ---- versions with their skips
-- no skip comes
pub less_has : (v : VersionsData) (old new : List Post) → HasNoMore old new → HasSkips v old → HasSkips v new
less_has v old new i h = record { numbers = h.numbers; skips = record { each = λ p r q. h.skips.each p r (i.was p r q) } }

pub roomed_has : (v w : VersionsData) (ps : List Post) → IsRoomed v w → AreIndexed w → HasSkips v ps → HasSkips w ps
roomed_has v w ps i x h = record { numbers = x.numbers; skips = roomed_skips v w ps i h.skips }

pub put_has : (v w : VersionsData) (row : RowData) (t : ℕ) (n : VersionNo) (old new : List Post) → IsPut v w row t n → AreIndexed w → IsForgotten old new n.0 → HasSkips v old → HasSkips w new
put_has v w row t n old new i x f h = record { numbers = x.numbers; skips = put_skips v w row t n old new i f h.skips }

pub gone_has : (v w : VersionsData) (n : VersionNo) (old new : List Post) → IsSome (version_at v.slots n) → IsTakenOut v w n → AreIndexed w → IsForgotten old new n.0 → HasSkips v old → HasSkips w new
gone_has v w n old new there i x f h =
    let it = found v n there in
    record { numbers = x.numbers; skips = gone_skips v w n it.0 old new it.1 h.numbers i f h.skips }

pub reworded_has : (v w : VersionsData) (n : VersionNo) (change : Version → Version) (old new : List Post) → IsReworded v w n change → AreIndexed w → IsUnlessEnded v.slots old new n.0 → HasSkips v old → HasSkips w new
reworded_has v w n change old new i x u h = record { numbers = x.numbers; skips = reworded_skips v w n change old new i u h.skips }

pub front_has : (v w : VersionsData) (n : VersionNo) (old new : List Post) → IsSome (version_at v.slots n) → IsInFront v w n → AreIndexed w → IsUnlessEnded v.slots old new n.0 → HasSkips v old → HasSkips w new
front_has v w n old new there i x u h =
    let it = found v n there in
    record { numbers = x.numbers; skips = front_skips v w n it.0 old new it.1 h.numbers i u h.skips }

-- a skip is noted, by what is shown of the versions
pub led_has : (v : VersionsData) (slots : Slots) (lists : Lists) (old new : List Post) → slots ≡ v.slots → lists ≡ v.lists → (AreSkips slots lists old → AreSkips slots lists new) → HasSkips v old → HasSkips v new
led_has v slots lists old new e f led h = record {
  numbers = h.numbers;
  skips = subst (λ ss. AreSkips ss v.lists new) e
      (subst (λ ls. AreSkips slots ls new) f
      (led (subst (λ ls. AreSkips slots ls old) (sym f) (subst (λ ss. AreSkips ss v.lists old) (sym e) h.skips))));
}
