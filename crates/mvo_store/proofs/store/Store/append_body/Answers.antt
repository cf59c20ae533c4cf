use Rattle.std.proofs.Common.{◌≡◌, ◌∙◌, arith, false, inr, refl, rules, subst, sym, Bool, IsTrue}
use Rattle.mvo_frame.proofs.Crash.{gate_few}
use Rattle.mvo_format.specs.declared.format.TheConstants.{LAST_FORMAT}
use Rattle.mvo_store.specs.StoreData.{StoreData}
use Rattle.mvo_store.specs.View.{store_data}
use Rattle.mvo_store.specs.Safe.{IsStoreSound}
use Rattle.mvo_store.specs.Causes.{has_old_last}
use Rattle.mvo_store.specs.Calls.StoreStep.{Call}
use Rattle.mvo_store.specs.declared.call.StoreCall.TheVariants.{AppendBody}
use Rattle.mvo_store.proofs.Keeping.{Begins, refused_step, fault_step, other_step, done_step, file_others}
use Rattle.mvo_store.proofs.Logged.{last_stands, last_durable, slots_stay, follows_last, body_leaves, body_up, body_safe, left_same, never_misread}
use Rattle.mvo_store.proofs.store.Store.append_body.Goals as goal

pub write_body-requires-clause-file : goal.write_body-requires-clause-file
write_body-requires-clause-file g c = let file = (c.self.invariant c.if-self.false).safe.file in omega (arith, file.1)

pub write_body-requires-clause-few : goal.write_body-requires-clause-few
write_body-requires-clause-few g c = (c.self.invariant c.if-self.false).safe.few

pub write_body-requires-clause-start : goal.write_body-requires-clause-start
write_body-requires-clause-start g c = λ honest.
    let now = (c.self.invariant c.if-self.false).up honest in
    let new = subst (λ (s : StoreData _). has_old_last s ≡ false) (sym c.self.view_is) (sym c.has_old_last-old.ensures ∙ c.if-old.false) in
    let here = gate_few LAST_FORMAT.version now.1.parts.middle now.1.parts.last _ _ (last_stands g.D.Disk (store_data c.self.inside) now.0 now.1 new) in
    omega (arith, here.1)

pub write_body-requires-clause-room : goal.write_body-requires-clause-room
write_body-requires-clause-room g c = (c.self.invariant c.if-self.false).safe.room

pub invariant_of-self : goal.invariant_of-self
invariant_of-self g c =
    let d = g.D.Disk in
    let old : StoreData _ = store_data c.self.inside in
    let sound = c.self.invariant c.if-self.false in
    let e = c.in-Ok.ensures in
    let new = subst (λ (s : StoreData _). has_old_last s ≡ false) (sym c.self.view_is) (sym c.has_old_last-old.ensures ∙ c.if-old.false) in
    λ _. record {
      safe = body_safe sound.safe c.write_body.new.disk c.write_body.new.self c.in-Some.group c.in-Some.is e.ok e.next e.count;
      up = λ honest.
          let now = sound.up (subst (λ (b : Bool). IsTrue b) e.honest honest) in
          (now.0, body_up d old now.0 now.1 new c.write_body.new.disk c.write_body.new.self c.in-Some.group c.in-Some.is e.ok (e.written LAST_FORMAT.version now.1.parts.middle now.1.parts.last (last_stands d old now.0 now.1 new) (follows_last d old now.0 now.1 c.in-Some.group c.in-Some.is)) e.durable e.rest e.count);
    }

pub invariant_of-self-else-is_fault : goal.invariant_of-self-else-is_fault
invariant_of-self-else-is_fault g c =
    let old : StoreData _ = store_data c.self.inside in
    let same_disk = c.in-Err.ensures.left.other c.if-is_fault.ensures.other in
    λ _. subst (λ (s : StoreData _). IsStoreSound g.D.Disk s) (left_same old c.write_body.new.disk c.write_body.new.self same_disk c.in-Err.ensures.err) (c.self.invariant c.if-self.false)

pub returns-in-Ok : goal.returns-in-Ok
returns-in-Ok g c =
    let b : Begins g.D.Disk (store_data c.self.inside) (Call AppendBody) = record { none = search rules; up = c.if-self.false; sound = c.self.invariant c.if-self.false } in
    let e = c.in-Ok.ensures in
    let new = subst (λ (s : StoreData _). has_old_last s ≡ false) (sym c.self.view_is) (sym c.has_old_last-old.ensures ∙ c.if-old.false) in
    rw (← c.self.view_is) (done_step b _ (λ h. subst (λ (b : Bool). IsTrue b) e.honest h) (λ _ rows up slots. body_leaves g.D.Disk (store_data c.self.inside) rows up new _ slots (e.any_moment LAST_FORMAT.version up.parts.middle up.parts.last (last_stands g.D.Disk (store_data c.self.inside) rows up new) (last_durable g.D.Disk (store_data c.self.inside) rows up))) (λ _ rows up. slots_stay g.D.Disk (store_data c.self.inside) rows up _ e.rest) (file_others g.D.Disk (Call AppendBody) _ _ c.self.inside.segment.file refl e.rest) tt (search rules) e.count
    (λ _ rows up. body_up g.D.Disk (store_data c.self.inside) rows up new _ c.write_body.new.self c.in-Some.group c.in-Some.is e.ok (e.written LAST_FORMAT.version up.parts.middle up.parts.last (last_stands g.D.Disk (store_data c.self.inside) rows up new) (follows_last g.D.Disk (store_data c.self.inside) rows up c.in-Some.group c.in-Some.is)) e.durable e.rest e.count))

pub returns-then-is_fault : goal.returns-then-is_fault
returns-then-is_fault g c =
    let b : Begins g.D.Disk (store_data c.self.inside) (Call AppendBody) = record { none = search rules; up = c.if-self.false; sound = c.self.invariant c.if-self.false } in
    let e = c.in-Err.ensures in
    let new = subst (λ (s : StoreData _). has_old_last s ≡ false) (sym c.self.view_is) (sym c.has_old_last-old.ensures ∙ c.if-old.false) in
    rw (← c.self.view_is) (rw e.err (fault_step b g.met.D.Disk.counts_now _ c.in-Err.refusal (search rules) (inr refl) (search rules) (λ h. subst (λ (b : Bool). IsTrue b) e.honest h) (λ _ rows up slots. body_leaves g.D.Disk (store_data c.self.inside) rows up new _ slots (e.any_moment LAST_FORMAT.version up.parts.middle up.parts.last (last_stands g.D.Disk (store_data c.self.inside) rows up new) (last_durable g.D.Disk (store_data c.self.inside) rows up))) (file_others g.D.Disk (Call AppendBody) _ _ c.self.inside.segment.file refl e.rest)))

pub returns-else-is_fault : goal.returns-else-is_fault
returns-else-is_fault g c =
    let d = g.D.Disk in
    let old : StoreData _ = store_data c.self.inside in
    let same_disk = c.in-Err.ensures.left.other c.if-is_fault.ensures.other in
    rw (← c.self.view_is) (other_step d g.met.D.Disk.only_now old (record old { disk = c.write_body.new.disk; segment = c.write_body.new.self }) (Call AppendBody) c.in-Err.refusal (sym (left_same old c.write_body.new.disk c.write_body.new.self same_disk c.in-Err.ensures.err)) c.if-is_fault.ensures.other (never_misread c.in-Err.refusal c.in-Err.ensures.refused) (λ _. refl) (search rules))

pub returns-then-self : goal.returns-then-self
returns-then-self g c = rw (← c.self.view_is) (refused_step g.D.Disk g.met.D.Disk.only_now _ (Call AppendBody) _ (search rules))

pub returns-in_default : goal.returns-in_default
returns-in_default g c = rw (← c.self.view_is) (refused_step g.D.Disk g.met.D.Disk.only_now _ (Call AppendBody) _ (search rules))

pub returns-then-self-2 : goal.returns-then-self-2
returns-then-self-2 g c = rw (← c.self.view_is) (refused_step g.D.Disk g.met.D.Disk.only_now _ (Call AppendBody) _ (search rules))

pub returns-then-old : goal.returns-then-old
returns-then-old g c = rw (← c.self.view_is) (refused_step g.D.Disk g.met.D.Disk.only_now _ (Call AppendBody) _ (search rules))
