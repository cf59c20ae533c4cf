use Rattle.std.proofs.Common.{inr, arith, refl}
use Rattle.mvo_pair.specs.declared.data.TheConstants.{DATA_MAGIC}
use Rattle.mvo_pair.proofs.Begun.{found_is_loaded, head_long, begun, too_many, not_begun}
use Rattle.mvo_pair.proofs.reading.PairReading.begin.Goals as goal

pub returns-in-Err-clause-refused : goal.returns-in-Err-clause-refused
returns-in-Err-clause-refused c =
    let p = c.args.pair in
    not_begun c.args.upto p c.args.front.now c.args.delta.now c.args.data_len c.in-Err.e c.refusal_of.result c.refusal_of.ensures c.in-Err.ensures

pub returns-then-are_too_many-clause-refused : goal.returns-then-are_too_many-clause-refused
returns-then-are_too_many-clause-refused c =
    let p = c.args.pair in
    inr (too_many c.args.upto p c.args.front.now c.args.delta.now c.in-Ok.format c.in-Ok.field-0-1.now c.in-Ok.ensures c.args.data_len (c.are_too_many.ensures.0 c.if-are_too_many.true))

pub returns-clause-begun : goal.returns-clause-begun
returns-clause-begun c =
    let p = c.args.pair in
    begun c.args.upto p c.args.front.now c.args.delta.now c.in-Ok.format c.in-Ok.field-0-1.now c.in-Ok.ensures
    c.in_ok-named.named.items c.in_ok-named.refused _ refl c.in_ok-named.ensures.named

pub returns-clause-loaded : goal.returns-clause-loaded
returns-clause-loaded c = found_is_loaded c.args.upto c.args.pair (record { hi = omega arith; records = omega arith })

pub returns-in-Err-clause-loaded : goal.returns-in-Err-clause-loaded
returns-in-Err-clause-loaded c = found_is_loaded c.args.upto c.args.pair (record { hi = omega arith; records = omega arith })

pub returns-then-are_too_many-clause-loaded : goal.returns-then-are_too_many-clause-loaded
returns-then-are_too_many-clause-loaded c = found_is_loaded c.args.upto c.args.pair (record { hi = omega arith; records = omega arith })

pub returns-in_err-named-clause-loaded : goal.returns-in_err-named-clause-loaded
returns-in_err-named-clause-loaded c = found_is_loaded c.args.upto c.args.pair (record { hi = omega arith; records = omega arith })

pub returns-clause-header : goal.returns-clause-header
returns-clause-header c = head_long DATA_MAGIC c.args.upto c.args.front.now (c.in-Ok.format, c.in-Ok.field-0-1.now) c.in-Ok.ensures
