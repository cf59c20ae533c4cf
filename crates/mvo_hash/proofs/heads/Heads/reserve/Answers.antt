use Rattle.std.proofs.Common.{◌≤◌, ◌+◌, ◌/◌, ◌∙◌, arith, subst, List}
use Rattle.mvo_hash.specs.Table.{Table}
use Rattle.mvo_hash.specs.Shards.{least_room, AreMoved}
use Rattle.mvo_hash.proofs.HeadsPut.{moved_roomy, moved_same}
use Rattle.mvo_hash.proofs.heads.Heads.reserve.Goals as goal

pub returns-clause-numbers : goal.returns-clause-numbers
returns-clause-numbers c =
    let ts = c.make_shards.new.shards.items in
    let us = c.in_ok-self-inside.field-0.items in
    let keys = c.div_ceil-share.result + c.div_ceil-share.result / 8 + 16 in
    let moved : AreMoved ts keys us = subst (λ (xs : List Table). AreMoved xs keys us) c.deref.ensures.value c.in_ok-self-inside.ensures in
    moved_same c.self.inside.seeds ts us keys c.args.self.now moved c.make_shards.ensures.sharded (c.make_shards.ensures.same ∙ c.self.view_is)

pub returns-clause-ok : goal.returns-clause-ok
returns-clause-ok c =
    let ts = c.make_shards.new.shards.items in
    let us = c.in_ok-self-inside.field-0.items in
    let keys = c.div_ceil-share.result + c.div_ceil-share.result / 8 + 16 in
    let moved : AreMoved ts keys us = subst (λ (xs : List Table). AreMoved xs keys us) c.deref.ensures.value c.in_ok-self-inside.ensures in
    let roomy : c.div_ceil-share.result ≤ least_room us = moved_roomy ts us keys c.div_ceil-share.result c.in_ok-make_shards.ensures.made moved (omega arith) in
    omega (arith, c.div_ceil-share.ensures, roomy)

pub returns-clause-more : goal.returns-clause-more
returns-clause-more c =
    let ts = c.make_shards.new.shards.items in
    let us = c.in_ok-self-inside.field-0.items in
    let keys = c.div_ceil-share.result + c.div_ceil-share.result / 8 + 16 in
    let moved : AreMoved ts keys us = subst (λ (xs : List Table). AreMoved xs keys us) c.deref.ensures.value c.in_ok-self-inside.ensures in
    let roomy : c.div_ceil-share.result ≤ least_room us = moved_roomy ts us keys c.div_ceil-share.result c.in_ok-make_shards.ensures.made moved (omega arith) in
    omega (arith, roomy, c.if-room-share.false, c.room.ensures)
