use Rattle.std.proofs.Common.{inl, inr, ⊎_elim, drop, refl, arith}
use Rattle.mvo_pair.specs.Loading.{LoadsAs}
use Rattle.mvo_pair.specs.Reading.{pair_found}
use Rattle.mvo_pair.specs.Coming.{at_start, still_found}
use Rattle.mvo_pair.proofs.Loads.{only_at, tells_ok, tells_err}
use Rattle.mvo_pair.proofs.reading.load_pair.Goals as goal

pub returns-in-Err : goal.returns-in-Err
returns-in-Err c =
    let bytes = c.args.data_bytes.now in
    let delta = c.args.delta.now in
    tells_err (LoadsAs c.args.upto c.args.pair bytes delta) (pair_found c.args.upto c.args.pair bytes delta) c.in-Err.e _ (c.in-Err.ensures.loaded.only bytes delta (λ i. omega (arith, c.type_inv.data_bytes i)) (λ i. omega (arith, c.type_inv.delta i)))
    (⊎_elim (λ m. inl m) (λ h. inr (h bytes refl (omega arith))) c.in-Err.ensures.refused)

pub returns-in-Ok-read_all : goal.returns-in-Ok-read_all
returns-in-Ok-read_all c =
    let bytes = c.args.data_bytes.now in
    let delta = c.args.delta.now in
    let only = c.in-Ok.ensures.loaded.only bytes delta (λ i. omega (arith, c.type_inv.data_bytes i)) (λ i. omega (arith, c.type_inv.delta i)) in
    tells_ok (LoadsAs c.args.upto c.args.pair bytes delta) (still_found c.in-Ok.reading at_start (drop 8 bytes)) _ (only_at _ _ _ (c.in-Ok.ensures.begun bytes refl) only) c.in-Ok-read_all.ensures

pub returns : goal.returns
returns c =
    let bytes = c.args.data_bytes.now in
    let delta = c.args.delta.now in
    let only = c.in-Ok.ensures.loaded.only bytes delta (λ i. omega (arith, c.type_inv.data_bytes i)) (λ i. omega (arith, c.type_inv.delta i)) in
    tells_err (LoadsAs c.args.upto c.args.pair bytes delta) (still_found c.in-Ok.reading at_start (drop 8 bytes)) c.in-Err-read_all.e _ (only_at _ _ _ (c.in-Ok.ensures.begun bytes refl) only) c.in-Err-read_all.ensures
