-- The shadow of a state of the theory: what a core knows of it by itself. Of each history only the
-- operations that wrote are left, and no checks are counted.
use Rattle.std.specs.Prelude.{is_some, Bool, map, filter}
use Rattle.mvo_types.specs.declared.op.Op.{Op}
use Rattle.mvo_types.specs.AnswerData.{AnswerData}
use Rattle.mvo_model.specs.History.{History, write_of}
use Rattle.mvo_theory.specs.State.{State, ActiveTx, StampedTx}

abbrev pub is_writing_answer : Op × AnswerData → Bool
is_writing_answer o = is_some (write_of o.0 o.1)

abbrev pub writing_operations : History → History
writing_operations ts = filter is_writing_answer ts

abbrev pub active_shadow : ActiveTx → ActiveTx
active_shadow r = record r { history = writing_operations r.history }

abbrev pub stamped_shadow : StampedTx → StampedTx
stamped_shadow x = record x { history = writing_operations x.history; checked = 0 }

abbrev pub shadow : State → State
shadow s = record s {
  active = map {A = ActiveTx} active_shadow s.active;
  stamped = map {A = StampedTx} stamped_shadow s.stamped;
  past = map {A = StampedTx} stamped_shadow s.past;
}
