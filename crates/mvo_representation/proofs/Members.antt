-- Of what a transaction depends on, counters and dependents see just who among the Preparing ones is there.
use Rattle.std.proofs.Common.{◌≡◌, ℕ, ◌+◌, Bool, true, false, cond, not, ◌||◌, List, [], ◌∷◌, map, refl, sym, ap, ◌∙◌}
use Rattle.std.specs.Prelude.{◌==◌, ◌&&◌}
use Rattle.std.specs.List.{AllByRecursion}
use Rattle.mvo_types.specs.declared.op.Op.{Op}
use Rattle.mvo_types.specs.AnswerData.{AnswerData}
use Rattle.mvo_theory.specs.State.{State, ActiveTx, StampedTx}
use Rattle.mvo_theory.specs.Changes.{with_answer, after_operation}
use Rattle.mvo_theory.specs.Dependencies.{has_end, with_end}
use Rattle.mvo_theory.proofs.Each.{each_both, each_map, each_always}
use Rattle.mvo_representation.specs.Nodes.{Nodes, is_open_in, open_count, IsNode, AreDependents, HasNodes, HasDrawnDependents, active_with_dependency, after_dependency}
use Rattle.mvo_representation.proofs.NodesAnswered.{unmapped}
use Rattle.mvo_representation.proofs.Waited.{has_with}
use Rattle.mvo_deps.proofs.Lists.{one}

-- ---- several dependencies more
-- with each of these ends, of which the first came last
abbrev pub with_ends : List ℕ → List ℕ → List ℕ
with_ends ds [] = ds
with_ends ds (e ∷ es) = with_end (with_ends ds es) e

abbrev pub active_with_ends : ℕ → List ℕ → ActiveTx → ActiveTx
active_with_ends t es r = record r { depends_on = cond (r.id == t) (with_ends r.depends_on es) r.depends_on }

abbrev pub after_ends : State → ℕ → List ℕ → State
after_ends s t es = record s { active = map (active_with_ends t es) s.active }

or_grouped : (a b c : Bool) → (a || (b || c)) ≡ ((a || b) || c)
or_grouped true b c = refl
or_grouped false b c = refl

pub has_with_ends : (ds es : List ℕ) (d : ℕ) → has_end (with_ends ds es) d ≡ (has_end es d || has_end ds d)
has_with_ends ds [] d = refl
has_with_ends ds (e ∷ es) d = has_with (with_ends ds es) e d ∙ ap (λ b. (e == d) || b) (has_with_ends ds es d) ∙ or_grouped (e == d) (has_end es d) (has_end ds d)

none_more : (t : ℕ) (r : ActiveTx) (b : Bool) → ◌≡◌ {A = ActiveTx} (record r { depends_on = cond b r.depends_on r.depends_on }) r
none_more t r true = refl
none_more t r false = refl

none_active : (t : ℕ) (rs : List ActiveTx) → map (active_with_ends t []) rs ≡ rs
none_active t [] = refl
none_active t (r ∷ rs) = λ i. none_more t r (r.id == t) i ∷ none_active t rs i

pub after_no_ends : (s : State) (t : ℕ) → after_ends s t [] ≡ s
after_no_ends s t = ap (λ rs. record s { active = rs }) (none_active t s.active)

one_more : (e : ℕ) (es : List ℕ) (r : ActiveTx) (b : Bool) → ◌≡◌ {A = ActiveTx} (record r { depends_on = cond b (with_end (cond b (with_ends r.depends_on es) r.depends_on) e) (cond b (with_ends r.depends_on es) r.depends_on) }) (record r { depends_on = cond b (with_end (with_ends r.depends_on es) e) r.depends_on })
one_more e es r true = refl
one_more e es r false = refl

more_active : (t e : ℕ) (es : List ℕ) (rs : List ActiveTx) → map (active_with_dependency t e) (map (active_with_ends t es) rs) ≡ map (active_with_ends t (e ∷ es)) rs
more_active t e es [] = refl
more_active t e es (r ∷ rs) = λ i. one_more e es r (r.id == t) i ∷ more_active t e es rs i

pub after_one_more : (s : State) (t e : ℕ) (es : List ℕ) → after_dependency (after_ends s t es) t e ≡ after_ends s t (e ∷ es)
after_one_more s t e es = ap (λ rs. record s { active = rs }) (more_active t e es s.active)

-- ---- the same among the Preparing ones
abbrev pub AreSameOpen : List StampedTx → List ℕ → List ℕ → Type 0
AreSameOpen xs ds es = AllByRecursion (λ y. y.settled ≡ false → has_end ds y.end ≡ has_end es y.end) xs

count_alike : (ds es : List ℕ) (xs : List StampedTx) → AreSameOpen xs ds es → open_count ds xs ≡ open_count es xs
count_alike ds es [] h = refl
count_alike ds es (x ∷ xs) h = ap (λ b. one b + open_count ds xs) (same x.settled refl) ∙ ap (λ n. one (is_open_in es x) + n) (count_alike ds es xs h.1)
  where
    same : (b : Bool) → x.settled ≡ b → is_open_in ds x ≡ is_open_in es x
    same true o = ap (λ c. not c && has_end ds x.end) o ∙ sym (ap (λ c. not c && has_end es x.end) o)
    same false o = ap (λ c. not x.settled && c) (h.0 o)

swapped : {X Y : Type 0} (R : X → Y → Type 0) (xs : List X) (ys : List Y) → AllByRecursion (λ x. AllByRecursion (λ y. R x y) ys) xs → AllByRecursion (λ y. AllByRecursion (λ x. R x y) xs) ys
swapped R [] ys h = each_always (λ y. AllByRecursion (λ x. R x y) []) (λ y. tt) ys
swapped R (x ∷ xs) ys h = each_both (λ y. R x y) (λ y. AllByRecursion (λ z. R z y) xs) (λ y. R x y × AllByRecursion (λ z. R z y) xs) (λ y a b. (a, b)) ys h.0 (swapped R xs ys h.1)

module _ (s : State) (nodes : Nodes) (t : ℕ) (es : List ℕ) (op : Op) (a : AnswerData) where
  abbrev IsSame : ActiveTx → StampedTx → Type 0
  IsSame q y = y.settled ≡ false → has_end (active_with_ends t es q).depends_on y.end ≡ has_end (with_answer s t op a q).depends_on y.end

  node_alike : (q : ActiveTx) → AllByRecursion (λ y. IsSame q y) s.stamped → IsNode s.stamped (active_with_ends t es q).depends_on q.aborted_dependency (nodes q.id) → IsNode s.stamped (with_answer s t op a q).depends_on q.aborted_dependency (nodes q.id)
  node_alike q same n = record {
    flag = n.flag;
    waits = λ o. n.waits o ∙ count_alike (active_with_ends t es q).depends_on (with_answer s t op a q).depends_on s.stamped same;
  }

  pub nodes_by_members : AllByRecursion (λ q. AllByRecursion (λ y. IsSame q y) s.stamped) s.active → HasNodes (after_ends s t es) nodes → HasNodes (after_operation s t op a) nodes
  nodes_by_members same h = record {
    active = each_map (with_answer s t op a) (λ q. IsNode s.stamped (with_answer s t op a q).depends_on q.aborted_dependency (nodes q.id)) (λ q. IsNode s.stamped q.depends_on q.aborted_dependency (nodes q.id)) (λ q n. n) s.active
        (each_both (λ q. AllByRecursion (λ y. IsSame q y) s.stamped) (λ q. IsNode s.stamped (active_with_ends t es q).depends_on q.aborted_dependency (nodes q.id)) (λ q. IsNode s.stamped (with_answer s t op a q).depends_on q.aborted_dependency (nodes q.id)) node_alike s.active same
        (unmapped (active_with_ends t es) (λ q. IsNode s.stamped q.depends_on q.aborted_dependency (nodes q.id)) s.active h.active));
    preparing = h.preparing;
    dependents = each_both (λ y. AllByRecursion (λ q. IsSame q y) s.active) (λ y. y.settled ≡ false → AreDependents (after_ends s t es) (nodes y.id).dependents y.end) (λ y. y.settled ≡ false → AreDependents (after_operation s t op a) (nodes y.id).dependents y.end)
        (λ y alike d o. record {
          active = each_map (with_answer s t op a) (λ q. has_end (nodes y.id).dependents q.id ≡ has_end (with_answer s t op a q).depends_on y.end) (λ q. has_end (nodes y.id).dependents q.id ≡ has_end q.depends_on y.end) (λ q n. n) s.active
              (each_both (λ q. IsSame q y) (λ q. has_end (nodes y.id).dependents q.id ≡ has_end (active_with_ends t es q).depends_on y.end) (λ q. has_end (nodes y.id).dependents q.id ≡ has_end (with_answer s t op a q).depends_on y.end) (λ q i e. e ∙ i o) s.active alike
              (unmapped (active_with_ends t es) (λ q. has_end (nodes y.id).dependents q.id ≡ has_end q.depends_on y.end) s.active (d o).active));
          preparing = (d o).preparing;
        }) s.stamped (swapped IsSame s.active s.stamped same) h.dependents;
  }

  pub drawn_by_members : HasDrawnDependents (after_ends s t es) nodes → HasDrawnDependents (after_operation s t op a) nodes
  drawn_by_members g = record {
    drawn = g.drawn;
    none = each_map (with_answer s t op a) (λ q. (nodes q.id).dependents ≡ []) (λ q. (nodes q.id).dependents ≡ []) (λ q n. n) s.active (unmapped (active_with_ends t es) (λ q. (nodes q.id).dependents ≡ []) s.active g.none);
  }
