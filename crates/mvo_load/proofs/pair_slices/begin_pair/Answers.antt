use Rattle.std.proofs.Common.{ℕ, List, length, take, inl, inr, ⊎_elim, ap, ◌∙◌, arith}
use Rattle.mvo_load.proofs.Sliced.{begins, begins_misread, begins_broken}
use Rattle.mvo_load.proofs.Unchanged.{then_unchanged, was_read, then_no_memory, then_misread}
use Rattle.mvo_load.proofs.pair_slices.begin_pair.Goals as goal

pub returns-in-Ok-begin-clause-begun : goal.returns-in-Ok-begin-clause-begun
returns-in-Ok-begin-clause-begun g c =
    let p = c.args.pair in
    let content = g.D.Disk.content c.args.disk.now in
    let front = c.deref.result.now in
    let delta = c.deref-2.result.now in
    let made = c.in-Ok-begin.ensures in
    begins c.args.upto p content front delta made.loaded made.front_bytes made.delta_bytes _ c.in-Ok-begin.reading made.pair
    (omega (arith, made.header, c.in-Ok-bytes_from.ensures.most, ap (λ (l : List ℕ). length l) c.deref.ensures.value)) made.begun
    (λ honest. c.deref.ensures.value ∙ c.in-Ok-bytes_from.ensures.bytes honest ∙ ap (λ (l : List ℕ). take 8 l) (c.in-Ok.ensures.read.rest.content p.data_file))
    (λ honest. c.deref-2.ensures.value ∙ c.in-Ok.ensures.bytes (c.in-Ok-bytes_from.ensures.read.any_moment.later.honest honest))

pub returns-clause-why : goal.returns-clause-why
returns-clause-why g c =
    let made = c.in-Err-begin.ensures in
    ⊎_elim (λ m. inl (inl m))
    (λ h. inr (begins_misread c.args.upto c.args.pair (g.D.Disk.content c.args.disk.now) c.deref.result.now c.deref-2.result.now made.loaded made.front_bytes made.delta_bytes c.in-Ok-bytes_from.read.1 c.in-Err-begin.e
    (omega (arith, c.in-Ok-bytes_from.ensures.few, ap (λ (l : List ℕ). length l) c.deref.ensures.value)) h)) made.refused

pub returns-clause-stop : goal.returns-clause-stop
returns-clause-stop g c = λ honest live gives.
    let p = c.args.pair in
    let made = c.in-Err-begin.ensures in
    let same = c.in-Ok.ensures.read.rest.content p.data_file in
    ⊎_elim (λ m. inl m)
    (λ h. absurd (begins_broken c.args.upto p (g.D.Disk.content c.args.disk.now) c.deref.result.now c.deref-2.result.now made.loaded made.front_bytes made.delta_bytes c.in-Ok-bytes_from.read.1 c.in-Err-begin.e h
    (omega (arith, c.in-Ok-bytes_from.ensures.len honest, ap (λ (l : List ℕ). length l) same))
    (c.deref.ensures.value ∙ c.in-Ok-bytes_from.ensures.bytes honest ∙ ap (λ (l : List ℕ). take 8 l) same)
    (c.deref-2.ensures.value ∙ c.in-Ok.ensures.bytes (c.in-Ok-bytes_from.ensures.read.any_moment.later.honest honest)) live gives)) made.refused

pub returns-clause-read : goal.returns-clause-read
returns-clause-read g c =
    let made = c.in-Err-begin.ensures in
    let first = was_read g.D.Disk c.args.disk.now c.delta_on.new.disk c.in-Ok.bytes c.in-Ok.ensures.read in
    let second = was_read g.D.Disk c.delta_on.new.disk c.bytes_from.new.disk c.in-Ok-bytes_from.read c.in-Ok-bytes_from.ensures.read in
    let both = then_unchanged g.D.Disk c.args.disk.now c.delta_on.new.disk c.bytes_from.new.disk first second in
    let e = c.in-Err-begin.e in
    ⊎_elim (λ m. then_no_memory g.D.Disk _ c.args.disk.now c.bytes_from.new.disk e m both)
    (λ h. then_misread g.D.Disk _ c.args.disk.now c.bytes_from.new.disk e
    (begins_misread c.args.upto c.args.pair (g.D.Disk.content c.args.disk.now) c.deref.result.now c.deref-2.result.now made.loaded made.front_bytes made.delta_bytes c.in-Ok-bytes_from.read.1 e
    (omega (arith, c.in-Ok-bytes_from.ensures.few, ap (λ (l : List ℕ). length l) c.deref.ensures.value)) h) both) made.refused
