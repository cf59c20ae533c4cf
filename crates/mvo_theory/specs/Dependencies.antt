-- What an operation of a transaction depends on: the Preparing ones that decide what it sees.
use Rattle.std.specs.Prelude.{ℕ, ◌==◌, nat_lt, Bool, not, ◌||◌, ◌&&◌, cond, if◌then◌else◌, is_some, List, [], ◌∷◌, ◌++◌, map, filter, Option, None, Some}
use Rattle.std.specs.List.{list_any}
use Rattle.std.specs.Ordering.{eq_by_cmp}
use Rattle.std.specs.FinMap as fin
use Rattle.mvo_types.specs.declared.row.RowKey.{RowKey}
use Rattle.mvo_types.specs.declared.op.Op.{Op}
use Rattle.mvo_types.specs.Keys.{Map, key_cmp}
use Rattle.mvo_model.specs.History.{History, net_write}
use Rattle.mvo_types.specs.declared.entry.Entry.{Entry}
use Rattle.mvo_theory.specs.Entries.{entry_of}
use Rattle.mvo_theory.specs.Ranges.{Row, shows, pass, puts, is_row_of}
use Rattle.mvo_theory.specs.State.{State, StampedTx, ActiveTx, history_below}
use Rattle.mvo_types.specs.declared.entry.Entry.TheVariants.{Key, Range}

-- a writer of the key below the begin
abbrev pub is_writer : RowKey → ℕ → StampedTx → Bool
is_writer k b x = nat_lt x.end b && is_some (net_write k x.history)

-- the second, if there is one, and else the first
abbrev pub or_later : Option StampedTx → Option StampedTx → Option StampedTx
or_later first None = first
or_later first (Some y) = Some y

-- the last writer of the key below the begin
abbrev pub last_writer : RowKey → ℕ → List StampedTx → Option StampedTx
last_writer k b [] = None
last_writer k b (x ∷ xs) =
    or_later (cond (is_writer k b x) (Some x) None) (last_writer k b xs)

abbrev pub has_end : List ℕ → ℕ → Bool
has_end ds d = list_any (λ x. x == d) ds

abbrev pub with_end : List ℕ → ℕ → List ℕ
with_end ds d = if has_end ds d then ds else d ∷ ds

-- with the last writer, if it is Preparing
abbrev pub depend_on : List ℕ → Option StampedTx → List ℕ
depend_on ds None = ds
depend_on ds (Some x) = if x.settled then ds else with_end ds x.end

-- with the last writers of these keys that are Preparing
abbrev pub depend_on_all : List ℕ → List RowKey → ℕ → List StampedTx → List ℕ
depend_on_all ds [] b stamped = ds
depend_on_all ds (k ∷ ks) b stamped =
    depend_on_all (depend_on ds (last_writer k b stamped)) ks b stamped

-- whether one that ends below the begin put a row of the key that passes
abbrev pub is_put_below : (Row → Bool) → RowKey → ℕ → List StampedTx → Bool
is_put_below p q b stamped =
    list_any (λ x. nat_lt x.end b && list_any (is_row_of p q) (puts x.history)) stamped

-- whether the key counts for the entry: it is the key; or the range has had a row of it, in the
-- base or put by one that ends below the begin
abbrev pub counts_for : Entry → RowKey → ℕ → Map → List StampedTx → Bool
counts_for (Key k) q b base stamped = eq_by_cmp key_cmp q k
counts_for (Range table lo hi) q b base stamped =
    is_some (pass (shows (Range table lo hi)) q (fin.get base q))
    || is_put_below (shows (Range table lo hi)) q b stamped

-- the keys that count for the entry
abbrev pub keys_for : Entry → ℕ → Map → List StampedTx → List RowKey
keys_for (Key k) b base stamped = k ∷ []
keys_for (Range table lo hi) b base stamped =
    map (λ r. r.0)
    (filter (shows (Range table lo hi)) (fin.entries base ++ puts (history_below b stamped)))

-- those of the keys that the operations have not written
abbrev pub unwritten : History → List RowKey → List RowKey
unwritten ts ks = filter (λ k. not (is_some (net_write k ts))) ks

-- what the transaction depends on after the operation: also on each Preparing one that is the
-- last writer of a key that counts for it, and that the transaction has not written
abbrev pub dependencies : State → Op → ActiveTx → List ℕ
dependencies s op r =
    depend_on_all r.depends_on
    (unwritten r.history (keys_for (entry_of op) r.id s.base s.stamped)) r.id s.stamped
