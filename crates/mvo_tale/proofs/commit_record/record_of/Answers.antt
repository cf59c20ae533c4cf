use Rattle.std.proofs.Common.{◌≡◌, true, List, map, refl, sym, ap, ◌∙◌, subst}
use Rattle.std.specs.List.{IsDistinct}
use Rattle.std.specs.List.Sorted.{IsPermutation}
use Rattle.std.specs.Ordering.{eq_by_cmp}
use Rattle.mvo_types.specs.declared.row.RowKey.{RowKey}
use Rattle.mvo_types.specs.Keys.{key_cmp}
use Rattle.mvo_group.specs.Data.{RecordData, write_data}
use Rattle.mvo_group.specs.Rules.{IsRecord, record_len}
use Rattle.mvo_theory.specs.Entries.{written_keys}
use Rattle.mvo_theory.specs.Groups.{is_writing}
use Rattle.mvo_tale.specs.Records.{IsRecordOf, net_writes, commit_len}
use Rattle.mvo_theory.specs.Told.{history_told}
use Rattle.mvo_tale.specs.Stored.{StoredCommit, stored_commit_of}
use Rattle.mvo_tale.proofs.NetWrites.{written_apart, record_is, record_keeps, record_len_is}
use Rattle.mvo_tale.proofs.commit_record.record_of.Goals as goal
use Rattle.mvo_tale.proofs.commit_record.record_of.Goals.{After-drop-keys-2}

pub in_order-requires : goal.in_order-requires
in_order-requires c = subst (λ (ks : List RowKey). IsDistinct (eq_by_cmp key_cmp) ks) (sym c.entry.invariant.1) (written_apart (history_told c.entry.inside.operations.items))

writes : (c : After-drop-keys-2) → map write_data c.in_ok-writes_at.field-0.items ≡ net_writes (history_told c.entry.inside.operations.items) c.in_ok-keys.keys.items
writes c =
    c.in_ok-writes_at.ensures
    ∙ ap (λ ops. net_writes (history_told ops) c.deref-2.result.now) c.deref.ensures.value
    ∙ ap (net_writes (history_told c.entry.inside.operations.items)) c.deref-2.ensures.value

keys : (c : After-drop-keys-2) → IsPermutation (written_keys (history_told c.entry.inside.operations.items)) c.in_ok-keys.keys.items
keys c = subst (λ (ks : List RowKey). IsPermutation ks c.in_ok-keys.keys.items) c.entry.invariant.1 c.in_ok-keys.ensures.same

-- what the record holds
left : After-drop-keys-2 → RecordData
left c = record { end = c.entry.inside.end.0; writes = map write_data c.in_ok-writes_at.field-0.items }

pub returns-clause-written : goal.returns-clause-written
unfolding left
returns-clause-written c =
    subst (λ (x : StoredCommit). IsRecordOf (stored_commit_of x) (left c)) c.entry.view_is
    (record_is c.entry.inside.end.0 (history_told c.entry.inside.operations.items) c.in_ok-keys.keys.items (left c) refl (writes c) (keys c) c.in_ok-keys.ensures.rise)

pub returns-clause-rules : goal.returns-clause-rules
unfolding left
returns-clause-rules c =
    subst (λ (x : StoredCommit). is_writing (stored_commit_of x) ≡ true → IsRecord (left c)) c.entry.view_is
    (record_keeps (history_told c.entry.inside.operations.items) c.in_ok-keys.keys.items (left c) (writes c) (keys c) c.in_ok-keys.ensures.rise c.entry.invariant.2)

pub returns-clause-len : goal.returns-clause-len
unfolding left
returns-clause-len c =
    subst (λ (x : StoredCommit). record_len (left c) ≡ commit_len (stored_commit_of x)) c.entry.view_is
    (record_len_is c.entry.inside.end.0 (history_told c.entry.inside.operations.items) c.in_ok-keys.keys.items (left c) (writes c) (keys c))
