use Rattle.std.proofs.Common.{◌≡◌, ℕ, ◌-◌, length, List, take, drop, sym, ap, ◌∙◌, arith}
use Rattle.std.specs.Prelude.{min}
use Rattle.std.specs.List.{enumerate_from}
use Rattle.mvo_types.specs.declared.row.RowKey.{RowKey}
use Rattle.mvo_places.specs.Places.{PlaceMap, with_live, without_keys}
use Rattle.mvo_places.proofs.Upto.{part_between, records_stay, records_then}
use Rattle.mvo_places.proofs.places.Places.take_over_upto.Goals as goal

pub returns-clause-taken : goal.returns-clause-taken
returns-clause-taken c = λ at begins.
    let file = c.args.data_file in
    let es = c.args.records.now in
    let gone = c.args.gone.now in
    let rest : PlaceMap = without_keys (take c.args.upto gone) at in
    let first : c.min-first.result ≡ min (c.args.from - length gone) (length es) = c.min-first.ensures ∙ ap (λ (n : ℕ). min n (length es)) c.saturating_sub.ensures in
    let last : c.min-last.result ≡ min (c.args.upto - length gone) (length es) = c.min-last.ensures ∙ ap (λ (n : ℕ). min n (length es)) c.saturating_sub-2.ensures in
    let keys_gone : c.remove_keys.new.self.at ≡ without_keys (drop (min c.args.from (length gone)) (take (min c.args.upto (length gone)) gone)) c.args.self.now.at =
    rw (c.min.ensures, c.min-2.ensures) at c.remove_keys.ensures.gone
    ∙ ap (λ (ks : List RowKey). without_keys ks c.args.self.now.at) (part_between gone (min c.args.from (length gone)) (min c.args.upto (length gone)) (omega (arith, c.requires.order))) in
    c.put_records.ensures.put rest
    (keys_gone ∙ records_stay file es gone c.args.from c.args.upto at c.args.self.now.at c.requires.order begins ∙ sym (ap (λ (n : ℕ). with_live file (enumerate_from 0 (take n es)) rest) first))
    ∙ ap (λ (n : ℕ). with_live file (enumerate_from 0 (take n es)) rest) last
    ∙ records_then file es gone c.args.upto at
