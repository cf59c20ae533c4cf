-- Whatever a core that is given works comes to, where all are made on it, the whole state may come to as well.
use Rattle.std.proofs.Common.{◌≡◌, Bool, true, false, List, [], Option, None, Some, refl, sym, ap, ◌∙◌, subst}
use Rattle.std.specs.Option.{option_map}
use Rattle.mvo_types.specs.declared.refusal.Refusal.{Refusal}
use Rattle.mvo_types.specs.declared.refusal.Refusal.TheVariants.{OutOfMemory}
use Rattle.mvo_types.specs.Keys.{Map}
use Rattle.mvo_model.specs.Trace.{Step}
use Rattle.mvo_theory.specs.Groups.{Limits, Group}
use Rattle.mvo_theory.specs.Calls.{Call, Result, IsRefusal, MayCome}
use Rattle.mvo_theory.specs.Calls.Call.{Begin, Do, Precommit, Validate, Settle, Rollback, Finish, Trim, Close}
use Rattle.mvo_theory.specs.Calls.Result.{Accepted, Refused}
use Rattle.mvo_shared.specs.Shared.{WorksById}
use Rattle.mvo_shared.specs.Given.{GivenRefusal, GivenResult, IsGivenRefusal}
use Rattle.mvo_shared.specs.Given.GivenRefusal.{Because, WorkMismatch}
use Rattle.mvo_shared.specs.Given.GivenResult.{Took, Denied}
use Rattle.mvo_shared.specs.Held.{empty_work}
use Rattle.mvo_shadow.specs.Shadowed.{IsByWrites, shadow_call, with_no_group, IsTheoryCall}
use Rattle.mvo_shadow.proofs.Back.{call_is_one}
use Rattle.mvo_readonly.specs.Whole.{WholeState, id_named, stage_named}
use Rattle.mvo_readonly.specs.WholeCauses.{WholeCall, takes_memory_at_stage, MayComeWhole, IsWholeCallInOrder}
use Rattle.mvo_readonly.specs.WholeCauses.WholeCall.{CoreCall, BeginReadOnly}
use Rattle.mvo_given.specs.GivenWhole.{GivenWhole, others_given, why_not_given_whole, takes_memory_whole, MayComeGivenWhole}
use Rattle.mvo_given.specs.GivenCalls.{work_for_whole}
use Rattle.mvo_given.specs.WholeShadowed.{GoWholeTogether, why_not_whole, whole_shadow_call, IsWholeByWrites, whole_with_no_group}
use Rattle.mvo_given.specs.Laws.{GoWholeOn, IsWholeCallOf}
use Rattle.mvo_given.proofs.Causes.{whole_causes_go}
use Rattle.mvo_given.proofs.Together.{whole_goes}

-- ---- causes
no_cause : (w : Option Refusal) → option_map Because w ≡ None → w ≡ None
no_cause None e = refl
no_cause (Some q) e = absurd (none (Because q) e)
  where
    none : (r : GivenRefusal) → ◌≡◌ {A = Option GivenRefusal} (Some r) None → ⊥
    none r f = cc

same_cause : (q r : Refusal) → ◌≡◌ {A = GivenRefusal} (Because q) (Because r) → q ≡ r
same_cause q r e = cc

refused_back : (takes : Bool) (why : Option Refusal) (r : Refusal) → IsGivenRefusal takes (option_map Because why) (Because r) → IsRefusal takes why r
refused_back takes (Some q) r e = same_cause r q e
refused_back true None r e = same_cause r OutOfMemory e
refused_back false None r e = e

not_mismatch : (takes : Bool) (why : Option Refusal) → IsGivenRefusal takes (option_map Because why) WorkMismatch → ⊥
not_mismatch takes (Some q) e = other q e
  where
    other : (q : Refusal) → ◌≡◌ {A = GivenRefusal} WorkMismatch (Because q) → ⊥
    other q e = cc
not_mismatch true None e = other e
  where
    other : ◌≡◌ {A = GivenRefusal} WorkMismatch (Because OutOfMemory) → ⊥
    other e = cc
not_mismatch false None e = e

no_group_same : (c : Call) → with_no_group c ≡ with_no_group (shadow_call c)
no_group_same Begin = refl
no_group_same (Do t op) = refl
no_group_same (Precommit t) = refl
no_group_same (Validate t) = refl
no_group_same (Settle t) = refl
no_group_same (Rollback t) = refl
no_group_same (Finish t) = refl
no_group_same (Trim m) = refl
no_group_same (Close fits g full) = refl

whole_no_group_same : (c : WholeCall) → whole_with_no_group c ≡ whole_with_no_group (whole_shadow_call c)
whole_no_group_same BeginReadOnly = refl
whole_no_group_same (CoreCall c) = ap CoreCall (no_group_same c)

module _ (opening : Map) (ws xs : List Step) (w : WholeState) (g : GivenWhole) (works : WorksById) (h : GoWholeTogether opening ws xs w g works) where
  abbrev IsOf : WholeCall → GivenResult → Type 0
  IsOf call given = (c : WholeCall) × (r : Result) × IsWholeCallOf opening ws xs w g works call given c r

  -- the call there that is the one behind
  of_accepted : (c : WholeCall) → IsWholeByWrites c → MayComeWhole w c Accepted → IsOf (whole_shadow_call c) Took
  of_accepted c b m = let k = whole_goes opening ws xs w g works c Accepted b m h in (c, Accepted, record { may = m; same = refl; outcome = refl; told = k.1; together = k.2 })

  of_refused : (c : WholeCall) (q : Refusal) → IsWholeByWrites c → MayComeWhole w c (Refused q) → IsOf (whole_shadow_call c) (Denied (Because q))
  of_refused c q b m = let k = whole_goes opening ws xs w g works c (Refused q) b m h in (c, Refused q, record { may = m; same = whole_no_group_same c; outcome = refl; told = k.1; together = k.2 })

  causes : (c : WholeCall) → why_not_given_whole g (work_for_whole works (whole_shadow_call c)) (whole_shadow_call c) ≡ option_map Because (why_not_whole w c)
  causes c = whole_causes_go opening ws xs w g works c h

  none_back : (c : WholeCall) → why_not_given_whole g (work_for_whole works (whole_shadow_call c)) (whole_shadow_call c) ≡ None → why_not_whole w c ≡ None
  none_back c e = no_cause (why_not_whole w c) (sym (causes c) ∙ e)

  cause_back : (c : WholeCall) (q : Refusal) (takes : Bool) → IsGivenRefusal takes (why_not_given_whole g (work_for_whole works (whole_shadow_call c)) (whole_shadow_call c)) (Because q) → IsRefusal takes (why_not_whole w c) q
  cause_back c q takes m = refused_back takes (why_not_whole w c) q (subst (λ v. IsGivenRefusal takes v (Because q)) (causes c) m)

  no_mismatch : (c : WholeCall) (takes : Bool) → IsGivenRefusal takes (why_not_given_whole g (work_for_whole works (whole_shadow_call c)) (whole_shadow_call c)) WorkMismatch → ⊥
  no_mismatch c takes m = not_mismatch takes (why_not_whole w c) (subst (λ v. IsGivenRefusal takes v WorkMismatch) (causes c) m)

  -- as many read-only ones are there
  takes_there : (c : Call) → takes_memory_whole g (CoreCall c) ≡ takes_memory_at_stage c (stage_named w.readers (id_named c))
  takes_there c = ap (λ rs. takes_memory_at_stage c (stage_named rs (id_named c))) h.shadowed.readers

  -- ---- a call that closes no group
  plain_back : (c : Call) → shadow_call c ≡ c → IsByWrites c → IsWholeCallInOrder w (CoreCall c) → (given : GivenResult) → MayComeGivenWhole g (work_for_whole works (whole_shadow_call (CoreCall c))) (whole_shadow_call (CoreCall c)) given → IsOf (whole_shadow_call (CoreCall c)) given
  plain_back c i b o Took m = of_accepted (CoreCall c) b (none_back (CoreCall c) m.0, o)
  plain_back c i b o (Denied (Because q)) m =
      of_refused (CoreCall c) q b (subst (λ (k : Bool). IsRefusal k (why_not_whole w (CoreCall c)) q) (takes_there c)
      (cause_back (CoreCall c) q (takes_memory_whole g (CoreCall c)) (subst (λ d. IsGivenRefusal (takes_memory_whole g (CoreCall d)) (why_not_given_whole g (work_for_whole works (whole_shadow_call (CoreCall c))) (whole_shadow_call (CoreCall c))) (Because q)) i m)))
  plain_back c i b o (Denied WorkMismatch) m = absurd (no_mismatch (CoreCall c) (takes_memory_whole g (CoreCall (shadow_call c))) m)

  -- ---- one that closes a group
  abbrev IsCloseOf : Limits → Group → Bool → Call → Type 0
  IsCloseOf fits gr full c = (shadow_call c ≡ Close fits gr full) × MayCome w.core c Accepted

  closed_back : (fits : Limits) (gr : Group) (full : Bool) (c : Call) → IsByWrites (Close fits gr full) → IsCloseOf fits gr full c → IsOf (CoreCall (Close fits gr full)) Took
  closed_back fits gr full (Close fits' gr' full') b k =
      let same : fits ≡ fits' = one fits' gr' full' k.0 in
      let of = whole_goes opening ws xs w g works (CoreCall (Close fits' gr' full')) Accepted (subst (λ (f : Limits). IsByWrites (Close f gr full)) same b) (k.1.0, k.1.1) h in (
        CoreCall (Close fits' gr' full'),
        Accepted,
        record {
          may = (k.1.0, k.1.1);
          same = ap CoreCall k.0;
          outcome = refl;
          told = tt;
          together = subst (λ (d : Call). GoWholeOn opening ws xs w g works (CoreCall (Close fits' gr' full')) Accepted (CoreCall d) Took) k.0 of.2;
        },
      )
    where
      one : (f : Limits) (x : Group) (u : Bool) → shadow_call (Close f x u) ≡ Close fits gr full → fits ≡ f
      one f x u e = cc
  closed_back fits gr full Begin b k = absurd (no_close k.0)
    where
      no_close : ◌≡◌ {A = Call} Begin (Close fits gr full) → ⊥
      no_close e = cc
  closed_back fits gr full (Do t op) b k = absurd (no_close k.0)
    where
      no_close : ◌≡◌ {A = Call} (Do t op) (Close fits gr full) → ⊥
      no_close e = cc
  closed_back fits gr full (Precommit t) b k = absurd (no_close k.0)
    where
      no_close : ◌≡◌ {A = Call} (Precommit t) (Close fits gr full) → ⊥
      no_close e = cc
  closed_back fits gr full (Validate t) b k = absurd (no_close k.0)
    where
      no_close : ◌≡◌ {A = Call} (Validate t) (Close fits gr full) → ⊥
      no_close e = cc
  closed_back fits gr full (Settle t) b k = absurd (no_close k.0)
    where
      no_close : ◌≡◌ {A = Call} (Settle t) (Close fits gr full) → ⊥
      no_close e = cc
  closed_back fits gr full (Rollback t) b k = absurd (no_close k.0)
    where
      no_close : ◌≡◌ {A = Call} (Rollback t) (Close fits gr full) → ⊥
      no_close e = cc
  closed_back fits gr full (Finish t) b k = absurd (no_close k.0)
    where
      no_close : ◌≡◌ {A = Call} (Finish t) (Close fits gr full) → ⊥
      no_close e = cc
  closed_back fits gr full (Trim m) b k = absurd (no_close k.0)
    where
      no_close : ◌≡◌ {A = Call} (Trim m) (Close fits gr full) → ⊥
      no_close e = cc

  abbrev no_group : Group
  no_group = record { prev = 0; mark = 0; commits = [] }

  close_back : (fits : Limits) (gr : Group) (full : Bool) → IsByWrites (Close fits gr full) → (given : GivenResult) → MayComeGivenWhole g empty_work (CoreCall (Close fits gr full)) given → IsOf (CoreCall (Close fits gr full)) given
  close_back fits gr full b Took m = go (call_is_one opening xs w.core (others_given g) works (Close fits gr full) Took b (m.0, m.1) h.others)
    where
      go : ((c : Call) × (r : Result) × IsTheoryCall w.core (others_given g) works (Close fits gr full) Took c r) → IsOf (CoreCall (Close fits gr full)) Took
      go (c, Accepted, k) = closed_back fits gr full c b (k.same, k.may)
      go (c, Refused q, k) = absurd (other q k.outcome)
        where
          other : (q : Refusal) → ◌≡◌ {A = GivenResult} (Denied (Because q)) Took → ⊥
          other q e = cc
  close_back fits gr full b (Denied (Because q)) m =
      let c = CoreCall (Close fits no_group full) in
      let may = cause_back c q true m in
      let of = whole_goes opening ws xs w g works c (Refused q) b may h in
      (c, Refused q, record { may = may; same = refl; outcome = refl; told = tt; together = of.2 })
  close_back fits gr full b (Denied WorkMismatch) m = absurd (no_mismatch (CoreCall (Close fits no_group full)) true m)

  -- ---- each
  begin_back : (given : GivenResult) → MayComeGivenWhole g empty_work BeginReadOnly given → IsOf BeginReadOnly given
  begin_back Took m = of_accepted BeginReadOnly tt (none_back BeginReadOnly m.0, tt)
  begin_back (Denied (Because q)) m = of_refused BeginReadOnly q tt (cause_back BeginReadOnly q true m)
  begin_back (Denied WorkMismatch) m = absurd (no_mismatch BeginReadOnly true m)

  is_whole : (call : WholeCall) (given : GivenResult) → IsWholeByWrites call → MayComeGivenWhole g (work_for_whole works call) call given → IsOf call given
  is_whole BeginReadOnly given b m = begin_back given m
  is_whole (CoreCall Begin) given b m = plain_back Begin refl tt tt given m
  is_whole (CoreCall (Do t op)) given b m = plain_back (Do t op) refl tt tt given m
  is_whole (CoreCall (Precommit t)) given b m = plain_back (Precommit t) refl tt tt given m
  is_whole (CoreCall (Validate t)) given b m = plain_back (Validate t) refl tt tt given m
  is_whole (CoreCall (Settle t)) given b m = plain_back (Settle t) refl tt tt given m
  is_whole (CoreCall (Rollback t)) given b m = plain_back (Rollback t) refl tt tt given m
  is_whole (CoreCall (Finish t)) given b m = plain_back (Finish t) refl tt tt given m
  is_whole (CoreCall (Trim k)) given b m = plain_back (Trim k) refl tt tt given m
  is_whole (CoreCall (Close fits gr full)) given b m = close_back fits gr full b given m

pub given_is_whole : (opening : Map) (ws xs : List Step) (w : WholeState) (g : GivenWhole) (works : WorksById) (call : WholeCall) (given : GivenResult) → IsWholeByWrites call → MayComeGivenWhole g (work_for_whole works call) call given → GoWholeTogether opening ws xs w g works
    → (c : WholeCall) × (r : Result) × IsWholeCallOf opening ws xs w g works call given c r
given_is_whole opening ws xs w g works call given b m h = is_whole opening ws xs w g works h call given b m
