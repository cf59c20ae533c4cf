-- Who is where on the shadow: the same transactions as on the state, and those that they depend on, claim and wait for.
use Rattle.std.proofs.Common.{◌≡◌, ℕ, Bool, true, false, cond, not, ◌+◌, List, [], ◌∷◌, ◌++◌, Option, None, Some, map, length, refl, sym, ap, ◌∙◌}
use Rattle.std.specs.Prelude.{◌==◌, ◌&&◌, is_some}
use Rattle.std.specs.List.{filter}
use Rattle.std.specs.Option.{option_map}
use Rattle.std.specs.FinMap as fin
use Rattle.std.proofs.lemmas.List.{length-map}
use Rattle.mvo_types.specs.declared.row.RowKey.{RowKey}
use Rattle.mvo_types.specs.declared.op.Op.{Op}
use Rattle.mvo_types.specs.declared.cause.Cause.TheVariants.{Active, Stamped}
use Rattle.mvo_types.specs.AnswerData.{AnswerData}
use Rattle.mvo_types.specs.Keys.{Map}
use Rattle.mvo_types.specs.Write.{Effect}
use Rattle.mvo_model.specs.History.{net_write, after_history}
use Rattle.mvo_theory.specs.State.{State, ActiveTx, StampedTx, EndedTx, active_of, preparing_of, ended_of, history_of_active, seen_by, snapshot}
use Rattle.mvo_theory.specs.Phases.{phase_by, phase_in}
use Rattle.mvo_theory.specs.Dependencies.{has_end}
use Rattle.mvo_theory.specs.Claims.{has_claim, origin, claim_with, ended_key, new_claim}
use Rattle.mvo_theory.specs.Marks.{least_open, below_open, low_water, open_begins, least, oldest_begin}
use Rattle.mvo_theory.specs.Causes.{flag_of_active, flag_of_preparing, unsettled, unfinished, active_claim, stamped_claim, or_cause, claimed_by, conflict, waiting_for, awaited_by, awaited, was_valid}
use Rattle.mvo_theory.specs.Words.{words_held, words_now}
use Rattle.mvo_theory.specs.Calls.{answer_in}
use Rattle.mvo_model.specs.Serial.{answer_to}
use Rattle.mvo_shared.specs.Shadow.{writing_operations, active_shadow, stamped_shadow, shadow}
use Rattle.mvo_shared.proofs.Shadow.{net_writes, after_writes, seen_shadow, origin_shadow, words_shadow}

-- ---- the transactions
pub active_there : (t : ℕ) (rs : List ActiveTx) → active_of t (map active_shadow rs) ≡ option_map active_shadow (active_of t rs)
active_there t [] = refl
active_there t (r ∷ rs) = go (r.id == t) (active_there t rs)
  where
    go : (b : Bool) → active_of t (map active_shadow rs) ≡ option_map active_shadow (active_of t rs) → cond b (Some (active_shadow r)) (active_of t (map active_shadow rs)) ≡ option_map active_shadow (cond b (Some r) (active_of t rs))
    go true e = refl
    go false e = e

pub preparing_there : (t : ℕ) (xs : List StampedTx) → preparing_of t (map stamped_shadow xs) ≡ option_map stamped_shadow (preparing_of t xs)
preparing_there t [] = refl
preparing_there t (x ∷ xs) = go ((x.id == t) && not x.settled) (preparing_there t xs)
  where
    go : (b : Bool) → preparing_of t (map stamped_shadow xs) ≡ option_map stamped_shadow (preparing_of t xs) → cond b (Some (stamped_shadow x)) (preparing_of t (map stamped_shadow xs)) ≡ option_map stamped_shadow (cond b (Some x) (preparing_of t xs))
    go true e = refl
    go false e = e

history_there : (t : ℕ) (rs : List ActiveTx) → history_of_active t (map active_shadow rs) ≡ writing_operations (history_of_active t rs)
history_there t [] = refl
history_there t (r ∷ rs) = go (r.id == t) (history_there t rs)
  where
    go : (b : Bool) → history_of_active t (map active_shadow rs) ≡ writing_operations (history_of_active t rs) → cond b (writing_operations r.history) (history_of_active t (map active_shadow rs)) ≡ writing_operations (cond b r.history (history_of_active t rs))
    go true e = refl
    go false e = e

phase_there : (v : Option ActiveTx) (w : Option StampedTx) (u : Option EndedTx) → phase_by (option_map active_shadow v) (option_map stamped_shadow w) u ≡ phase_by v w u
phase_there (Some r) w u = refl
phase_there None (Some x) u = refl
phase_there None None (Some u) = refl
phase_there None None None = refl

pub phase_alike : (s : State) (t : ℕ) → phase_in (shadow s) t ≡ phase_in s t
phase_alike s t =
    ap (λ v. phase_by v (preparing_of t (map stamped_shadow s.stamped)) (ended_of t s.ended)) (active_there t s.active)
    ∙ ap (λ w. phase_by (option_map active_shadow (active_of t s.active)) w (ended_of t s.ended)) (preparing_there t s.stamped)
    ∙ phase_there (active_of t s.active) (preparing_of t s.stamped) (ended_of t s.ended)

pub active_flag_alike : (s : State) (t : ℕ) → flag_of_active (active_of t (shadow s).active) ≡ flag_of_active (active_of t s.active)
active_flag_alike s t = ap flag_of_active (active_there t s.active) ∙ go (active_of t s.active)
  where
    go : (v : Option ActiveTx) → flag_of_active (option_map active_shadow v) ≡ flag_of_active v
    go None = refl
    go (Some r) = refl

pub preparing_flag_alike : (s : State) (t : ℕ) → flag_of_preparing (preparing_of t (shadow s).stamped) ≡ flag_of_preparing (preparing_of t s.stamped)
preparing_flag_alike s t = ap flag_of_preparing (preparing_there t s.stamped) ∙ go (preparing_of t s.stamped)
  where
    go : (v : Option StampedTx) → flag_of_preparing (option_map stamped_shadow v) ≡ flag_of_preparing v
    go None = refl
    go (Some x) = refl

pub was_valid_alike : (s : State) (t : ℕ) → was_valid (preparing_of t (shadow s).stamped) ≡ was_valid (preparing_of t s.stamped)
was_valid_alike s t = ap was_valid (preparing_there t s.stamped) ∙ go (preparing_of t s.stamped)
  where
    go : (v : Option StampedTx) → was_valid (option_map stamped_shadow v) ≡ was_valid v
    go None = refl
    go (Some x) = refl

-- ---- what they see
pub snapshot_alike : (s : State) (t : ℕ) → snapshot (shadow s) t ≡ snapshot s t
snapshot_alike s t =
    ap (λ ts. after_history ts (seen_by s.base (map stamped_shadow s.stamped) t)) (history_there t s.active)
    ∙ after_writes (history_of_active t s.active) (seen_by s.base (map stamped_shadow s.stamped) t)
    ∙ ap (after_history (history_of_active t s.active)) (seen_shadow s.base t s.stamped)

pub answer_alike : (s : State) (t : ℕ) (op : Op) → answer_in (shadow s) t op ≡ answer_in s t op
answer_alike s t op = ap (answer_to op) (snapshot_alike s t)

pub wrote_alike : (s : State) (t : ℕ) (k : RowKey) → net_write k (history_of_active t (shadow s).active) ≡ net_write k (history_of_active t s.active)
wrote_alike s t k = ap (net_write k) (history_there t s.active) ∙ net_writes k (history_of_active t s.active)

-- ---- lists
pub map_filter : {X : Type 0} (f : X → X) (p : X → Bool) → ((x : X) → p (f x) ≡ p x) → (xs : List X) → map f (filter p xs) ≡ filter p (map f xs)
map_filter f p h [] = refl
map_filter f p h (x ∷ xs) = go (p x) (map_filter f p h xs) ∙ ap (λ (b : Bool). cond b (f x ∷ filter p (map f xs)) (filter p (map f xs))) (sym (h x))
  where
    go : (b : Bool) → map f (filter p xs) ≡ filter p (map f xs) → map f (cond b (x ∷ filter p xs) (filter p xs)) ≡ cond b (f x ∷ filter p (map f xs)) (filter p (map f xs))
    go true e = ap (λ zs. f x ∷ zs) e
    go false e = e

-- ---- how many they are
unsettled_alike : (xs : List StampedTx) → unsettled (map stamped_shadow xs) ≡ unsettled xs
unsettled_alike [] = refl
unsettled_alike (x ∷ xs) = ap (λ (n : ℕ). cond x.settled n (n + 1)) (unsettled_alike xs)

pub unfinished_alike : (s : State) → unfinished (shadow s) ≡ unfinished s
unfinished_alike s =
    ap (λ (n : ℕ). n + (unsettled (map stamped_shadow s.stamped) + length s.ended)) (length-map s.active active_shadow)
    ∙ ap (λ (n : ℕ). length s.active + (n + length s.ended)) (unsettled_alike s.stamped)

-- ---- claims
active_claim_alike : (t : ℕ) (k : RowKey) (n : ℕ) (rs : List ActiveTx) → active_claim t k n (map active_shadow rs) ≡ active_claim t k n rs
active_claim_alike t k n [] = refl
active_claim_alike t k n (r ∷ rs) = ap (cond (not (r.id == t) && has_claim r.claims k n) (Some (Active (record { 0 = r.id })))) (active_claim_alike t k n rs)

stamped_claim_alike : (k : RowKey) (n : ℕ) (xs : List StampedTx) → stamped_claim k n (map stamped_shadow xs) ≡ stamped_claim k n xs
stamped_claim_alike k n [] = refl
stamped_claim_alike k n (x ∷ xs) = ap (cond (has_claim x.claims k n) (Some (Stamped (record { 0 = x.end })))) (stamped_claim_alike k n xs)

claimed_alike : (s : State) (t : ℕ) (k : RowKey) → claimed_by (shadow s) t k ≡ claimed_by s t k
claimed_alike s t k =
    ap (λ (n : ℕ). or_cause (active_claim t k n (map active_shadow s.active)) (stamped_claim k n (map stamped_shadow s.stamped))) (origin_shadow s t k)
    ∙ ap (λ c. or_cause c (stamped_claim k (origin s t k) (map stamped_shadow s.stamped))) (active_claim_alike t k (origin s t k) s.active)
    ∙ ap (or_cause (active_claim t k (origin s t k) s.active)) (stamped_claim_alike k (origin s t k) s.stamped)

pub conflict_alike : (s : State) (t : ℕ) (k : RowKey) → conflict (shadow s) t k ≡ conflict s t k
conflict_alike s t k =
    ap (λ (m : Map). cond (fin.contains_key m k && not (is_some (net_write k (history_of_active t (map active_shadow s.active))))) (claimed_by (shadow s) t k) None) (snapshot_alike s t)
    ∙ ap (λ (e : Option Effect). cond (fin.contains_key (snapshot s t) k && not (is_some e)) (claimed_by (shadow s) t k) None) (wrote_alike s t k)
    ∙ ap (λ c. cond (fin.contains_key (snapshot s t) k && not (is_some (net_write k (history_of_active t s.active)))) c None) (claimed_alike s t k)

pub new_claim_alike : (s : State) (t : ℕ) (op : Op) (a : AnswerData) → new_claim (shadow s) t op a ≡ new_claim s t op a
new_claim_alike s t op a = go (ended_key op a)
  where
    go : (w : Option RowKey) → claim_with (shadow s) t (history_of_active t (map active_shadow s.active)) w ≡ claim_with s t (history_of_active t s.active) w
    go None = refl
    go (Some k) =
        ap (λ (e : Option Effect). cond (is_some e) None (Some (record { key = k; origin = origin (shadow s) t k }))) (wrote_alike s t k)
        ∙ ap (λ (n : ℕ). cond (is_some (net_write k (history_of_active t s.active))) None (Some (record { key = k; origin = n }))) (origin_shadow s t k)

-- ---- whom one waits for
waiting_there : (ds : List ℕ) (xs : List StampedTx) → waiting_for ds (map stamped_shadow xs) ≡ option_map stamped_shadow (waiting_for ds xs)
waiting_there ds [] = refl
waiting_there ds (x ∷ xs) = go (not x.settled && has_end ds x.end) (waiting_there ds xs)
  where
    go : (b : Bool) → waiting_for ds (map stamped_shadow xs) ≡ option_map stamped_shadow (waiting_for ds xs) → cond b (Some (stamped_shadow x)) (waiting_for ds (map stamped_shadow xs)) ≡ option_map stamped_shadow (cond b (Some x) (waiting_for ds xs))
    go true e = refl
    go false e = e

pub awaited_there : (s : State) (t : ℕ) → awaited (shadow s) t ≡ option_map stamped_shadow (awaited s t)
awaited_there s t = ap (awaited_by (map stamped_shadow s.stamped)) (preparing_there t s.stamped) ∙ go (preparing_of t s.stamped)
  where
    go : (v : Option StampedTx) → awaited_by (map stamped_shadow s.stamped) (option_map stamped_shadow v) ≡ option_map stamped_shadow (awaited_by s.stamped v)
    go None = refl
    go (Some x) = waiting_there x.depends_on s.stamped

-- ---- the marks
least_open_alike : (xs : List StampedTx) → least_open (map stamped_shadow xs) ≡ least_open xs
least_open_alike [] = refl
least_open_alike (x ∷ xs) = ap (λ e. cond x.settled e (Some x.end)) (least_open_alike xs)

pub low_water_alike : (s : State) → low_water (shadow s) ≡ low_water s
low_water_alike s = ap (below_open s.clock) (least_open_alike s.stamped)

begins_alike : (xs : List StampedTx) → open_begins (map stamped_shadow xs) ≡ open_begins xs
begins_alike [] = refl
begins_alike (x ∷ xs) = ap (λ ns. cond x.settled ns (x.id ∷ ns)) (begins_alike xs)

ids_alike : (rs : List ActiveTx) → map (λ (r : ActiveTx). r.id) (map active_shadow rs) ≡ map (λ (r : ActiveTx). r.id) rs
ids_alike [] = refl
ids_alike (r ∷ rs) = ap (λ ns. r.id ∷ ns) (ids_alike rs)

pub oldest_alike : (s : State) → oldest_begin (shadow s) ≡ oldest_begin s
oldest_alike s =
    ap (λ ns. least s.clock (ns ++ (open_begins (map stamped_shadow s.stamped) ++ map (λ (u : EndedTx). u.id) s.ended))) (ids_alike s.active)
    ∙ ap (λ ns. least s.clock (map (λ (r : ActiveTx). r.id) s.active ++ (ns ++ map (λ (u : EndedTx). u.id) s.ended))) (begins_alike s.stamped)

-- ---- the words that one wrote
pub words_alike : (s : State) (t : ℕ) → words_now (shadow s) t ≡ words_now s t
words_alike s t =
    ap (λ v. words_held v (preparing_of t (map stamped_shadow s.stamped))) (active_there t s.active)
    ∙ ap (words_held (option_map active_shadow (active_of t s.active))) (preparing_there t s.stamped)
    ∙ go (active_of t s.active) (preparing_of t s.stamped)
  where
    go : (v : Option ActiveTx) (w : Option StampedTx) → words_held (option_map active_shadow v) (option_map stamped_shadow w) ≡ words_held v w
    go (Some r) w = words_shadow r.history r.claims
    go None (Some x) = words_shadow x.history x.claims
    go None None = refl
