-- The skips that posts know, where posts come, change or go.
use Rattle.std.proofs.Common.{◌≡◌, ◌≢◌, ℕ, suc, zero, ◌<◌, ◌*◌, ◌/◌, ◌%◌, true, false, eqb, List, [], ◌∷◌, ◌++◌, length, Option, None, Some, refl, sym, ap, ◌∙◌, subst, arith, ◌⊎◌, inl, inr}
use Rattle.std.specs.Prelude.{slice_get, slice_set}
use Rattle.std.proofs.lemmas.Bool.{cases_Bool, cases_eq, cond-true, cond-false, eq-eqb, eqb-true, true≢false}
use Rattle.std.proofs.lemmas.Option.{slice_get_within}
use Rattle.mvo_chain.specs.declared.version.VersionNo.{VersionNo}
use Rattle.mvo_versions.specs.declared.skips.Post.{Post}
use Rattle.mvo_versions.specs.declared.skip.Skip.{Skip}
use Rattle.mvo_versions.specs.Skips.{is_post, post_at, skip_up_to, skip_from, skip_at, IsEmpty, HasNoMore, IsForgotten, IsNoted}

-- ---- a skip that is known
pub some_is : {A : Type 0} (x y : A) → ◌≡◌ {A = Option A} (Some x) (Some y) → x ≡ y
some_is x y e = cc

none_some : {A : Type 0} (x : A) → ◌≡◌ {A = Option A} None (Some x) → ⊥
none_some x e = cc

-- its two posts
pub record Known (ps : List Post) (n : ℕ) (r : Skip) : Type 0 where
  pub first : Post
  pub last : Post
  pub begins : post_at ps n ≡ Some first
  pub ends : post_at ps first.to.0 ≡ Some last
  pub agreed : last.from.0 ≡ n
  pub is : r ≡ record { to = first.to; least = first.least }

pub known : (ps : List Post) (n : ℕ) (r : Skip) → skip_at ps n ≡ Some r → Known ps n r
known ps n r e = begin (post_at ps n) refl e
  where
    end : (p : Post) → post_at ps n ≡ Some p → (o : Option Post) → post_at ps p.to.0 ≡ o → skip_up_to n p o ≡ Some r → Known ps n r
    end p b None x q = absurd (none_some r q)
    end p b (Some l) x q =
        elim (cases_Bool (eqb l.from.0 n)) [
          | inl t ↦ record {
            first = p;
            last = l;
            begins = b;
            ends = x;
            agreed = eqb-true l.from.0 n t;
            is = some_is r (record { to = p.to; least = p.least }) (sym q ∙ cond-true (eqb l.from.0 n) (Some (record { to = p.to; least = p.least })) None t);
          }
          | inr f ↦ absurd (none_some r (sym (cond-false (eqb l.from.0 n) (Some (record { to = p.to; least = p.least })) None f) ∙ q))
        ]

    begin : (o : Option Post) → post_at ps n ≡ o → skip_from ps n o ≡ Some r → Known ps n r
    begin None b q = absurd (none_some r q)
    begin (Some p) b q = end p b (post_at ps p.to.0) refl q

pub knows : (ps : List Post) (n : ℕ) (p l : Post) → post_at ps n ≡ Some p → post_at ps p.to.0 ≡ Some l → l.from.0 ≡ n → skip_at ps n ≡ Some (record { to = p.to; least = p.least })
knows ps n p l b x a = ap (skip_from ps n) b ∙ ap (skip_up_to n p) x ∙ cond-true (eqb l.from.0 n) (Some (record { to = p.to; least = p.least })) None (eq-eqb l.from.0 n a)

-- ---- posts
-- a post stands at its place
pub at_post : (ps : List Post) (n : ℕ) (p : Post) → post_at ps n ≡ Some p → (is_post n ≡ true) × (slice_get ps (n / 128) ≡ Some p)
at_post ps n p e =
    elim (cases_Bool (is_post n)) [
      | inl t ↦ (t, sym (cond-true (is_post n) (slice_get ps (n / 128)) None t) ∙ e)
      | inr f ↦ absurd (none_some p (sym (cond-false (is_post n) (slice_get ps (n / 128)) None f) ∙ e))
    ]

pub post_there : (ps : List Post) (n : ℕ) (p : Post) → is_post n ≡ true → slice_get ps (n / 128) ≡ Some p → post_at ps n ≡ Some p
post_there ps n p t e = cond-true (is_post n) (slice_get ps (n / 128)) None t ∙ e

no_post : is_post 0xFFFF_FFFF ≡ false
no_post = refl

-- what stands for no version is no post
not_there : {X : Type 0} (m : ℕ) → is_post m ≡ true → m ≡ 0xFFFF_FFFF → X
not_there m t q = absurd (true≢false (sym t ∙ ap is_post q ∙ no_post))

-- there is one post at a place
one_there : (m n : ℕ) → is_post m ≡ true → is_post n ≡ true → m / 128 ≡ n / 128 → m ≡ n
one_there m n a b e =
    let x : m % 128 ≡ ((m / 128) * 3) % 128 = eqb-true (m % 128) (((m / 128) * 3) % 128) a in
    let y : n % 128 ≡ ((n / 128) * 3) % 128 = eqb-true (n % 128) (((n / 128) * 3) % 128) b in
    let z : m % 128 ≡ n % 128 = x ∙ ap (λ i. (i * 3) % 128) e ∙ sym y in
    omega (arith, z, e)

-- ---- lists
pub set_same : (ps : List Post) (i : ℕ) (p : Post) → i < length ps → slice_get (slice_set ps i p) i ≡ Some p
set_same [] i p h = absurd (omega (arith, h))
set_same (q ∷ ps) zero p h = refl
set_same (q ∷ ps) (suc i) p h = set_same ps i p (omega (arith, h))

pub set_other : (ps : List Post) (i j : ℕ) (p : Post) → j ≢ i → slice_get (slice_set ps i p) j ≡ slice_get ps j
set_other [] i j p d = refl
set_other (q ∷ ps) zero zero p d = absurd (d refl)
set_other (q ∷ ps) zero (suc j) p d = refl
set_other (q ∷ ps) (suc i) zero p d = refl
set_other (q ∷ ps) (suc i) (suc j) p d = set_other ps i j p (λ e. d (ap suc e))

appended : (ps : List Post) (e : Post) (j : ℕ) (q : Post) → slice_get (ps ++ e ∷ []) j ≡ Some q → (slice_get ps j ≡ Some q) ⊎ (q ≡ e)
appended [] e zero q h = inr (sym (some_is e q h))
appended [] e (suc j) q h = absurd (none_some q h)
appended (p ∷ ps) e zero q h = inl h
appended (p ∷ ps) e (suc j) q h = appended ps e j q h

-- ---- no skip comes
pub no_more : (ps : List Post) → HasNoMore ps ps
no_more ps = record { was = λ n r q. q }

pub still_no_more : (ps qs rs : List Post) → HasNoMore ps qs → HasNoMore qs rs → HasNoMore ps rs
still_no_more ps qs rs h k = record { was = λ n r q. h.was n r (k.was n r q) }

-- one post more, at which no skip begins or ends
pub grown : (ps : List Post) (e : Post) → IsEmpty e → HasNoMore ps (ps ++ e ∷ [])
grown ps e none = record { was = λ n r q. go n r (known (ps ++ e ∷ []) n r q) }
  where
    go : (n : ℕ) (r : Skip) → Known (ps ++ e ∷ []) n r → skip_at ps n ≡ Some r
    go n r k =
        let b = at_post (ps ++ e ∷ []) n k.first k.begins in
        let x = at_post (ps ++ e ∷ []) k.first.to.0 k.last k.ends in
        elim (appended ps e (n / 128) k.first b.1) [
          | inl p ↦
              elim (appended ps e (k.first.to.0 / 128) k.last x.1) [
                | inl l ↦ knows ps n k.first k.last (post_there ps n k.first b.0 p) (post_there ps k.first.to.0 k.last x.0 l) k.agreed ∙ ap Some (sym k.is)
                | inr l ↦ not_there n b.0 (sym k.agreed ∙ ap (λ (t : Post). t.from.0) l ∙ none.from)
              ]
          | inr p ↦ not_there k.first.to.0 x.0 (ap (λ (t : Post). t.to.0) p ∙ none.to)
        ]

-- ---- a post is emptied
pub emptied : (ps : List Post) (n : ℕ) (e : Post) → IsEmpty e → n / 128 < length ps → IsForgotten ps (slice_set ps (n / 128) e) n
emptied ps n e none within = record {
  was = λ m r q. was m r (known new m r q);
  begins = λ r q. (let k = known new n r q in begins k.first (at_post new n k.first k.begins).1 k.last k.ends);
  ends = λ m r q t. (let k = known new m r q in ends m k (ap (λ (s : Skip). s.to.0) (sym k.is) ∙ t));
}
  where
    new : List Post
    new = slice_set ps (n / 128) e

    is_empty : (j : ℕ) (p : Post) → j ≡ n / 128 → slice_get new j ≡ Some p → p ≡ e
    is_empty j p q h = sym (some_is e p (sym (set_same ps (n / 128) e within) ∙ ap (slice_get new) (sym q) ∙ h))

    begins : (p : Post) → slice_get new (n / 128) ≡ Some p → (l : Post) → post_at new p.to.0 ≡ Some l → ⊥
    begins p h l x = not_there p.to.0 (at_post new p.to.0 l x).0 (ap (λ (t : Post). t.to.0) (is_empty (n / 128) p refl h) ∙ none.to)

    ends : (m : ℕ) {r : Skip} (k : Known new m r) → k.first.to.0 ≡ n → ⊥
    ends m k t =
        let x = at_post new k.first.to.0 k.last k.ends in
        not_there m (at_post new m k.first k.begins).0 (sym k.agreed ∙ ap (λ (p : Post). p.from.0) (is_empty (k.first.to.0 / 128) k.last (ap (λ i. i / 128) t) x.1) ∙ none.from)

    was : (m : ℕ) (r : Skip) → Known new m r → skip_at ps m ≡ Some r
    was m r k =
        let b = at_post new m k.first k.begins in
        let x = at_post new k.first.to.0 k.last k.ends in
        elim (cases_eq (m / 128) (n / 128)) [
          | inl q ↦ not_there k.first.to.0 x.0 (ap (λ (t : Post). t.to.0) (is_empty (m / 128) k.first q b.1) ∙ none.to)
          | inr d ↦
              elim (cases_eq (k.first.to.0 / 128) (n / 128)) [
                | inl q ↦ not_there m b.0 (sym k.agreed ∙ ap (λ (p : Post). p.from.0) (is_empty (k.first.to.0 / 128) k.last q x.1) ∙ none.from)
                | inr c ↦
                    knows ps m k.first k.last (post_there ps m k.first b.0 (sym (set_other ps (n / 128) (m / 128) e d) ∙ b.1))
                    (post_there ps k.first.to.0 k.last x.0 (sym (set_other ps (n / 128) (k.first.to.0 / 128) e c) ∙ x.1)) k.agreed
                    ∙ ap Some (sym k.is)
              ]
        ]

-- there is none to be emptied
pub none_to_empty : (ps : List Post) (n : ℕ) → post_at ps n ≡ None → IsForgotten ps ps n
none_to_empty ps n e = record {
  was = λ m r q. q;
  begins = λ r q. (let k = known ps n r q in none_some k.first (sym e ∙ k.begins));
  ends = λ m r q t. (let k = known ps m r q in none_some k.last (sym e ∙ ap (post_at ps) (sym (ap (λ (s : Skip). s.to.0) (sym k.is) ∙ t)) ∙ k.ends));
}

pub no_post_at : (ps : List Post) (n : ℕ) → is_post n ≡ false → post_at ps n ≡ None
no_post_at ps n f = cond-false (is_post n) (slice_get ps (n / 128)) None f

-- ---- a skip is noted
-- its first post says so
pub said : (ps : List Post) (n : ℕ) (p : Post) (skip : Skip) → post_at ps n ≡ Some p → n / 128 < length ps → IsNoted ps (slice_set ps (n / 128) (record { least = skip.least; to = skip.to; from = p.from })) n skip
said ps n p skip there within = record { was = λ m r q. go m r (known new m r q) }
  where
    said_so : Post
    said_so = record { least = skip.least; to = skip.to; from = p.from }

    new : List Post
    new = slice_set ps (n / 128) said_so

    is_said : (j : ℕ) (q : Post) → j ≡ n / 128 → slice_get new j ≡ Some q → q ≡ said_so
    is_said j q e h = sym (some_is said_so q (sym (set_same ps (n / 128) said_so within) ∙ ap (slice_get new) (sym e) ∙ h))

    go : (m : ℕ) (r : Skip) → Known new m r → (skip_at ps m ≡ Some r) ⊎ ((m ≡ n) × (r ≡ skip))
    go m r k =
        let b = at_post new m k.first k.begins in
        let x = at_post new k.first.to.0 k.last k.ends in
        let h = at_post ps n p there in
        elim (cases_eq (m / 128) (n / 128)) [
          | inl q ↦ inr (one_there m n b.0 h.0 q, k.is ∙ ap (λ (t : Post). record { to = t.to; least = t.least }) (is_said (m / 128) k.first q b.1))
          | inr d ↦
              let first = post_there ps m k.first b.0 (sym (set_other ps (n / 128) (m / 128) said_so d) ∙ b.1) in
              elim (cases_eq (k.first.to.0 / 128) (n / 128)) [
                | inl q ↦
                    inl (knows ps m k.first p first (post_there ps k.first.to.0 p x.0 (ap (slice_get ps) q ∙ h.1))
                    (sym (ap (λ (t : Post). t.from.0) (is_said (k.first.to.0 / 128) k.last q x.1)) ∙ k.agreed)
                    ∙ ap Some (sym k.is))
                | inr c ↦
                    inl (knows ps m k.first k.last first (post_there ps k.first.to.0 k.last x.0 (sym (set_other ps (n / 128) (k.first.to.0 / 128) said_so c) ∙ x.1)) k.agreed
                    ∙ ap Some (sym k.is))
              ]
        ]

-- and no other one says what it says
pub said_there : (ps : List Post) (n : ℕ) (p : Post) (skip : Skip) → n / 128 < length ps → (q : Post) → post_at (slice_set ps (n / 128) (record { least = skip.least; to = skip.to; from = p.from })) n ≡ Some q → record { to = q.to; least = q.least } ≡ skip
said_there ps n p skip within q e =
    let said_so : Post = record { least = skip.least; to = skip.to; from = p.from } in
    let is : said_so ≡ q = some_is said_so q (sym (set_same ps (n / 128) said_so within) ∙ (at_post (slice_set ps (n / 128) said_so) n q e).1) in
    sym (ap (λ (t : Post). record { to = t.to; least = t.least }) is)

-- the place of a post
pub post_within : (ps : List Post) (n : ℕ) (p : Post) → post_at ps n ≡ Some p → n / 128 < length ps
post_within ps n p e = slice_get_within ps (n / 128) p (at_post ps n p e).1

-- and its last one agrees, where none but this skip began at the first
pub agreed_to : (ps : List Post) (n : ℕ) (l : Post) (skip : Skip) (from : VersionNo) → post_at ps skip.to.0 ≡ Some l → skip.to.0 / 128 < length ps → from.0 ≡ n → ((p : Post) → post_at ps n ≡ Some p → record { to = p.to; least = p.least } ≡ skip) → (old : List Post) → IsNoted old ps n skip → IsNoted old (slice_set ps (skip.to.0 / 128) (record { least = l.least; to = l.to; from = from })) n skip
agreed_to ps n l skip from there within is_from only old led = record { was = λ m r q. go m r (known new m r q) }
  where
    agrees : Post
    agrees = record { least = l.least; to = l.to; from = from }

    new : List Post
    new = slice_set ps (skip.to.0 / 128) agrees

    is_last : (j : ℕ) (q : Post) → j ≡ skip.to.0 / 128 → slice_get new j ≡ Some q → q ≡ agrees
    is_last j q e h = sym (some_is agrees q (sym (set_same ps (skip.to.0 / 128) agrees within) ∙ ap (slice_get new) (sym e) ∙ h))

    -- the post that was there with what it says of its skip
    before : (m : ℕ) (p : Post) → is_post m ≡ true → slice_get new (m / 128) ≡ Some p → (q : Post) × (post_at ps m ≡ Some q) × (q.to ≡ p.to) × (q.least ≡ p.least)
    before m p t h =
        elim (cases_eq (m / 128) (skip.to.0 / 128)) [
          | inl e ↦
              let same = is_last (m / 128) p e h in
              (l, post_there ps m l t (ap (slice_get ps) e ∙ (at_post ps skip.to.0 l there).1), ap (λ (q : Post). q.to) (sym same), ap (λ (q : Post). q.least) (sym same))
          | inr d ↦ (p, post_there ps m p t (sym (set_other ps (skip.to.0 / 128) (m / 128) agrees d) ∙ h), refl, refl)
        ]

    go : (m : ℕ) (r : Skip) → Known new m r → (skip_at old m ≡ Some r) ⊎ ((m ≡ n) × (r ≡ skip))
    go m r k =
        let b = at_post new m k.first k.begins in
        let x = at_post new k.first.to.0 k.last k.ends in
        let w = before m k.first b.0 b.1 in
        let run_is : ◌≡◌ {A = Skip} (record { to = w.0.to; least = w.0.least }) r = ap (λ t. record { to = t; least = w.0.least }) w.2 ∙ ap (λ s. record { to = k.first.to; least = s }) w.3 ∙ sym k.is in
        elim (cases_eq (k.first.to.0 / 128) (skip.to.0 / 128)) [
          | inl e ↦
              let here : m ≡ n = sym k.agreed ∙ ap (λ (q : Post). q.from.0) (is_last (k.first.to.0 / 128) k.last e x.1) ∙ is_from in
              inr (here, sym run_is ∙ only w.0 (subst (λ i. post_at ps i ≡ Some w.0) here w.1))
          | inr d ↦
              led.was m r (knows ps m w.0 k.last w.1
              (post_there ps w.0.to.0 k.last (ap (λ (t : VersionNo). is_post t.0) w.2 ∙ x.0) (ap (λ (t : VersionNo). slice_get ps (t.0 / 128)) w.2 ∙ sym (set_other ps (skip.to.0 / 128) (k.first.to.0 / 128) agrees d) ∙ x.1))
              k.agreed
              ∙ ap Some run_is)
        ]

-- ---- none at all
pub none_known : {X : Type 0} (n : ℕ) (r : Skip) → skip_at [] n ≡ Some r → X
none_known n r q = let k = known [] n r q in absurd (none_some k.first (at_post [] n k.first k.begins).1)
