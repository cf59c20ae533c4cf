-- When an operation may follow, by its kind.
use Rattle.std.proofs.Common.{◌≡◌, ℕ, ◌≤◌, false, Option, None, Some, refl, sym, ◌∙◌, subst}
use Rattle.mvo_types.specs.declared.limits.TheConstants.{MAX_TABLE}
use Rattle.mvo_types.specs.declared.row.RowKey.{RowKey}
use Rattle.mvo_types.specs.declared.op.Op.{Op}
use Rattle.mvo_types.specs.declared.op.Op.TheVariants.{Read, Scan, Insert, Update, Delete}
use Rattle.mvo_types.specs.RowData.{RowData}
use Rattle.mvo_types.specs.AnswerData.{AnswerData}
use Rattle.mvo_model.specs.History.{History, write_of}
use Rattle.mvo_theory.specs.Causes.{is_write_too_many}
use Rattle.mvo_types.specs.declared.entry.Entry.{Entry}
use Rattle.mvo_theory.specs.Entries.{entry_of}
use Rattle.mvo_types.specs.declared.entry.Entry.TheVariants.{Key, Range}
use Rattle.mvo_theory.specs.Limits.{IsRow, IsInLimits}
use Rattle.mvo_work.specs.Limits.{MayFollow}
use Rattle.mvo_work.proofs.OneMore.{key_looked}

one_key : (k j : RowKey) → ◌≡◌ {A = Entry} (Key k) (Key j) → k ≡ j
one_key k j e = cc

not_key : (table lo hi : ℕ) (j : RowKey) → ◌≡◌ {A = Entry} (Range table lo hi) (Key j) → ⊥
not_key table lo hi j e = cc

-- an operation at this key
at_key : (ts : History) (op : Op) (a : AnswerData) (k : RowKey) → entry_of op ≡ Key k → IsInLimits op → is_write_too_many ts k ≡ false → MayFollow ts op a
at_key ts op a k is row few = record {
  row = row;
  write = λ j w. subst (λ (i : RowKey). is_write_too_many ts i ≡ false) (one_key k j (sym is ∙ key_looked op a (write_of op a) j refl w)) few;
}

pub follows_read : (ts : History) (k : RowKey) (a : AnswerData) → MayFollow ts (Read k) a
follows_read ts k a = record { row = tt; write = λ j w. absurd (none_some j w) }
  where
    none_some : (j : RowKey) → ◌≡◌ {A = Option RowKey} None (Some j) → ⊥
    none_some j e = cc

pub follows_scan : (ts : History) (table lo hi : ℕ) (a : AnswerData) → MayFollow ts (Scan table lo hi) a
follows_scan ts table lo hi a = record { row = tt; write = λ j w. absurd (not_key table lo hi j (key_looked (Scan table lo hi) a (write_of (Scan table lo hi) a) j refl w)) }

pub follows_insert : (ts : History) (r : RowData) (a : AnswerData) → IsRow r → is_write_too_many ts r.key ≡ false → MayFollow ts (Insert r) a
follows_insert ts r a row few = at_key ts (Insert r) a r.key refl row few

pub follows_update : (ts : History) (r : RowData) (a : AnswerData) → IsRow r → is_write_too_many ts r.key ≡ false → MayFollow ts (Update r) a
follows_update ts r a row few = at_key ts (Update r) a r.key refl row few

pub follows_delete : (ts : History) (k : RowKey) (a : AnswerData) → k.table ≤ MAX_TABLE → is_write_too_many ts k ≡ false → MayFollow ts (Delete k) a
follows_delete ts k a row few = at_key ts (Delete k) a k refl row few
