use Rattle.std.proofs.Common.{arith, ◌≡◌, ◌+◌, List, [], ◌∷◌, ◌++◌, refl, inr, sym, ap, ◌∙◌, subst}
use Rattle.std.specs.List.{All, sum_by}
use Rattle.std.proofs.lemmas.List.Elements.{All-push}
use Rattle.std.proofs.lemmas.List.Sums.{sum_by_push}
use Rattle.mvo_group.specs.Data.{RecordData}
use Rattle.mvo_group.specs.Rules.{IsRecord, record_len}
use Rattle.mvo_group.proofs.Sizes.{record_small}
use Rattle.mvo_tale.proofs.Grouping.{some_records}
use Rattle.mvo_tale.proofs.gathering.Gathering.add.Goals as goal

pub encoded_len-requires : goal.encoded_len-requires
encoded_len-requires c = omega (arith, record_small c.in_ok-record.record (c.in_ok-record.ensures.rules c.requires))

pub overflow_add-len : goal.overflow_add-len
overflow_add-len c =
    let size = c.self.invariant.0.size in
    let len = c.self.invariant.1 in
    omega (arith, size, len, record_small c.in_ok-record.record (c.in_ok-record.ensures.rules c.requires), c.encoded_len.ensures)

pub returns-then-len-gt-MAX_BODY_LEN : goal.returns-then-len-gt-MAX_BODY_LEN
returns-then-len-gt-MAX_BODY_LEN c =
    let over = c.if-len-gt-MAX_BODY_LEN.true in
    let len = c.self.invariant.1 in
    let same : sum_by record_len c.self.inside.records.items ≡ sum_by record_len c.args.self.now = ap (λ (rs : List RecordData). sum_by record_len rs) c.self.view_is in
    let small = record_small c.in_ok-record.record (c.in_ok-record.ensures.rules c.requires) in (
      refl,
      record {
        some = some_records c.args.self.now (omega (arith, over, len, same, small, c.encoded_len.ensures));
        over = inr (omega (arith, over, len, same, c.encoded_len.ensures, c.in_ok-record.ensures.len));
      },
    )

pub invariant_of-self-2 : goal.invariant_of-self-2
invariant_of-self-2 c =
    let pushed : c.push.new.records.items ≡ c.self.inside.records.items ++ c.in_ok-record.record ∷ [] = c.in_ok-push.ensures.items in
    let fitting = c.self.invariant.0 in
    let len = c.self.invariant.1 in
    let more : sum_by record_len c.push.new.records.items ≡ sum_by record_len c.self.inside.records.items + record_len c.in_ok-record.record = ap (λ (rs : List RecordData). sum_by record_len rs) pushed ∙ sum_by_push record_len c.self.inside.records.items c.in_ok-record.record in
    let count = c.in_ok-push.ensures.len in
    let few = c.if-len-ge-MAX_RECORDS.false in
    let size = c.if-len-gt-MAX_BODY_LEN.false in (
      record {
        few = omega arith;
        size = omega (arith, size, len, more, c.encoded_len.ensures);
        each = subst (All IsRecord) (sym pushed) (All-push IsRecord c.self.inside.records.items c.in_ok-record.record fitting.each (c.in_ok-record.ensures.rules c.requires));
      },
      omega (arith, len, more, c.encoded_len.ensures),
    )
