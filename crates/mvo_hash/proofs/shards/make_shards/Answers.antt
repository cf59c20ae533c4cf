use Rattle.std.proofs.Common.{◌≡◌, sym, ap, ◌∙◌, subst, arith}
use Rattle.std.proofs.lemmas.Bool.{eqb-true}
use Rattle.std.specs.Vec.{vec_len}
use Rattle.mvo_hash.specs.Shards.{heads_of, IsSharded}
use Rattle.mvo_hash.proofs.Changes.{new_heads_same, nothing}
use Rattle.mvo_hash.proofs.Shared.{shared_new}
use Rattle.mvo_hash.proofs.shards.make_shards.Goals as goal

pub returns-in_ok-shards-clause-sharded : goal.returns-in_ok-shards-clause-sharded
returns-in_ok-shards-clause-sharded c = subst (IsSharded c.args.seeds) (sym c.in_ok-shards.ensures) (shared_new c.args.seeds)

pub returns-in_ok-shards-clause-same : goal.returns-in_ok-shards-clause-same
returns-in_ok-shards-clause-same c =
    let none : vec_len c.args.shards.now ≡ 0 = eqb-true (vec_len c.args.shards.now) 0 (sym c.is_empty.ensures ∙ c.if-is_empty.true) in
    ap (heads_of c.args.seeds) c.in_ok-shards.ensures ∙ new_heads_same c.args.seeds
    ∙ ap (heads_of c.args.seeds) (sym (nothing c.args.shards.now.items (omega (arith, none, c.args.shards.now.ok))))
