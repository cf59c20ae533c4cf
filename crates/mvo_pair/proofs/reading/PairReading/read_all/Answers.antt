use Rattle.std.proofs.Common.{◌≡◌, ◌⊎◌, List, ℕ, drop, subst, arith}
use Rattle.std.proofs.lemmas.List.{length-drop}
use Rattle.mvo_types.specs.declared.refusal.Refusal.TheVariants.{OutOfMemory}
use Rattle.mvo_pair.specs.Coming.{at_start, IsReadOn, IsBroken}
use Rattle.mvo_pair.proofs.Comes.{goes_on, breaks_off}
use Rattle.mvo_pair.proofs.reading.PairReading.read_all.Goals as goal

pub returns-in-Err : goal.returns-in-Err
returns-in-Err c =
    let r = c.args.self.now in
    let bytes = c.args.data_bytes.now in
    breaks_off r at_start bytes c.slices.live.items c.slices.so_far c.slices.invariant.come c.in-Err.e
    (subst (λ (l : List ℕ). (c.in-Err.e ≡ OutOfMemory) ⊎ IsBroken r c.slices.so_far l c.in-Err.e) c.from_place-rest.ensures c.in-Err.ensures.refused)

pub slices-preserved : goal.slices-preserved
slices-preserved c =
    let r = c.args.self.now in
    let bytes = c.args.data_bytes.now in
    let on : IsReadOn r c.slices.so_far (drop c.slices.so_far.place bytes) c.in-Ok.some.items c.in-Ok.next =
    subst (λ (l : List ℕ). IsReadOn r c.slices.so_far l c.in-Ok.some.items c.in-Ok.next) c.from_place-rest.ensures c.in-Ok.ensures.on in
    record {
      come = goes_on r at_start bytes c.slices.live.items c.slices.so_far c.slices.invariant.come c.in-Ok.some.items c.append.new.self.items c.in-Ok.next on c.in_ok-append.ensures.items;
      place = omega (arith, c.slices.invariant.place, on.place_is, on.within, length-drop c.slices.so_far.place bytes);
    }
