use Rattle.std.proofs.Common.{arith, refl, sym, subst, ℕ, List, ◌≡◌, ◌≢◌}
use Rattle.std.proofs.lemmas.Map.Text.{text_keys}
use Rattle.mvo_types.specs.declared.ids.TxId.{TxId}
use Rattle.mvo_world.specs.declared.reply.Reply.{Reply}
use Rattle.mvo_world.specs.declared.reply.Reply.TheVariants.{Began}
use Rattle.mvo_script.specs.Bound.{BindsBegun, KeepsBound, Binds}
use Rattle.mvo_script.specs.declared.names.Names.{Names}
use Rattle.mvo_script.proofs.names.Names.begin.Goals as goal
use Rattle.mvo_script.proofs.names.Names.begin.Goals.{in-Began, in_default}

-- where nothing was begun, each name is bound as it was
not_begun : (old new : Names) (name : List ℕ) (r : Reply) → ((tx : TxId) → r ≢ Began tx) → KeepsBound old new → BindsBegun old new name r
not_begun old new name (Began tx) not_it keeps = absurd (not_it tx refl)
not_begun old new name _ not_it keeps = keeps

now_begun : (old new : Names) (name : List ℕ) (tx : TxId) (r : Reply) → r ≡ Began tx → Binds old new name tx → BindsBegun old new name r
now_begun old new name tx r e binds = subst (BindsBegun old new name) (sym e) binds

pub returns-clause-names : goal.returns-clause-names
returns-clause-names g c = elim c.match-reply.branch [
  | in-Began w ↦
      let tx = w.in-Began.tx in
      let is_it : c.step-reply.result ≡ Began tx = grind arith in
      let binds : Binds c.args.self.now c.match-reply.self c.args.name.now tx = λ q. grind (arith, text_keys) in
      now_begun c.args.self.now c.match-reply.self c.args.name.now tx c.step-reply.result is_it binds
  | in_default w ↦
      let not_it : (tx : TxId) → c.step-reply.result ≢ Began tx = λ tx e. grind (arith, e) in
      let keeps : KeepsBound c.args.self.now c.match-reply.self = λ q. grind (arith, text_keys) in
      not_begun c.args.self.now c.match-reply.self c.args.name.now c.step-reply.result not_it keeps
]
