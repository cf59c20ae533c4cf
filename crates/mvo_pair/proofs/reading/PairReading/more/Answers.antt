use Rattle.std.proofs.Common.{◌≡◌, ◌<◌, ap, sym, ◌∙◌, arith, Ok, Err, Some, None, false, get_or, length, subst, inr, ◌+◌, List, ℕ}
use Rattle.std.proofs.lemmas.List.{get_or_default}
use Rattle.mvo_pair.specs.Coming.{PairReadingData}
use Rattle.mvo_pair.specs.Answers.{file_refusal}
use Rattle.mvo_pair.specs.declared.unread.Unread.TheVariants.{Broken}
use Rattle.mvo_pair.proofs.Comes.{AreRead, none_read, next_of, refused_why, one_breaks, none_whole, one_read}
use Rattle.mvo_pair.proofs.reading.PairReading.more.Goals as goal

pub loop-init : goal.loop-init
loop-init c = none_read c.args.self.now c.args.from c.args.bytes.now c.new-live.result.items c.new-live.ensures.items

pub returns-in-Err-clause-refused : goal.returns-in-Err-clause-refused
returns-in-Err-clause-refused c =
    let r = c.args.self.now in
    let file = ap (λ (s : PairReadingData). s.pair.data_file) c.self.view_is in
    one_breaks r c.args.from c.args.bytes.now c.loop.rest.now c.loop.live.items c.loop.counter c.loop.so_far c.loop.invariant c.in-Err.e c.refusal_of.result
    (c.refusal_of.ensures ∙ ap (λ n. file_refusal n c.in-Err.e) file)
    (omega (arith, c.loop.invariant.count, ap (λ (s : PairReadingData). s.pair.records) c.self.view_is))
    (next_of _ r c.self.view_is c.loop.so_far.last c.loop.rest.now (Err c.in-Err.e) c.in-Err.ensures)

pub returns-then-so_far-from-clause-refused : goal.returns-then-so_far-from-clause-refused
returns-then-so_far-from-clause-refused c =
    let r = c.args.self.now in
    let file = ap (λ (s : PairReadingData). s.pair.data_file) c.self.view_is in
    inr (none_whole r c.args.from c.args.bytes.now c.loop.rest.now c.loop.live.items c.loop.counter c.loop.so_far c.loop.invariant _
    (ap (λ n. file_refusal n Broken) file)
    (omega (arith, c.loop.invariant.count, ap (λ (s : PairReadingData). s.pair.records) c.self.view_is)) c.if-so_far-from.true
    (next_of _ r c.self.view_is c.loop.so_far.last c.loop.rest.now (Ok None) (rw c.in_default.is at c.in-Ok.ensures)))

pub loop-preserved : goal.loop-preserved
loop-preserved c =
    let r = c.args.self.now in
    let read = one_read r c.args.from c.args.bytes.now c.loop.rest.now c.loop.live.items c.loop.counter c.loop.so_far c.loop.invariant c.in-Some.entry c.in-Some.len c.index-is_named.result.now c.add_unnamed.new.live.items c.behind-so_far.result
    (omega (arith, c.loop.invariant.count, ap (λ (s : PairReadingData). s.pair.records) c.self.view_is))
    (next_of _ r c.self.view_is c.loop.so_far.last c.loop.rest.now (Ok (Some (c.in-Some.entry, c.in-Some.len))) (rw c.in-Some.is at c.in-Ok.ensures))
    (let is : c.index-is_named.result.now ≡ get_or c.self.inside.named.items c.loop.so_far.count c.index-is_named.result.now = c.index-is_named.ensures in
    let within : c.loop.so_far.count < length c.self.inside.named.items = omega (arith, c.loop.invariant.count, c.self.invariant) in
    is ∙ get_or_default c.self.inside.named.items c.loop.so_far.count c.index-is_named.result.now false within
    ∙ ap (λ (s : PairReadingData). get_or s.named c.loop.so_far.count false) c.self.view_is) c.in_ok-add_unnamed.ensures c.behind-so_far.ensures in
    subst (λ (l : List ℕ). AreRead r c.args.from c.args.bytes.now l c.add_unnamed.new.live.items (c.loop.counter + 1) c.behind-so_far.result) (sym c.from_place-rest.ensures) read

pub returns-in-Err-clause-why : goal.returns-in-Err-clause-why
returns-in-Err-clause-why c =
    let file = ap (λ (s : PairReadingData). s.pair.data_file) c.self.view_is in
    let r = c.args.self.now in
    refused_why r.format r.pair.lo.0 r.pair.hi.0 c.loop.so_far.last c.loop.rest.now r.pair.data_file c.in-Err.e c.refusal_of.result (c.refusal_of.ensures ∙ ap (λ n. file_refusal n c.in-Err.e) file)
    (next_of _ r c.self.view_is c.loop.so_far.last c.loop.rest.now (Err c.in-Err.e) c.in-Err.ensures)
