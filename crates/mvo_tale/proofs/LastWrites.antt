-- The last write to a key, after one operation more.
use Rattle.std.proofs.Common.{◌≡◌, ℕ, ◌+◌, ◌<◌, List, [], ◌∷◌, ◌++◌, take, length, get_or, Option, sym, ap, ◌∙◌}
use Rattle.std.proofs.lemmas.List.{take_more, map-append}
use Rattle.mvo_types.specs.declared.row.RowKey.{RowKey}
use Rattle.mvo_types.specs.declared.op.Op.{Op}
use Rattle.mvo_types.specs.declared.answer.Answer.{Answer}
use Rattle.mvo_types.specs.AnswerData.{answer_data}
use Rattle.mvo_types.specs.Write.{Write}
use Rattle.mvo_model.specs.History.{write_of, write_at, later, net_write}
use Rattle.mvo_model.proofs.Serials.{net_write-append}
use Rattle.mvo_theory.specs.Told.{history_told}

one_more : (ops : List (Op × Answer)) (i : ℕ) (x : Op × Answer) → i < length ops → x ≡ get_or ops i x → history_told (take (i + 1) ops) ≡ history_told (take i ops) ++ (x.0, answer_data x.1) ∷ []
one_more ops i x lt e =
    ap history_told (take_more ops i x lt ∙ ap (λ y. take i ops ++ y ∷ []) (sym e)) ∙ map-append (λ y. (y.0, answer_data y.1)) (take i ops) (x ∷ [])

pub last_step : (k : RowKey) (ops : List (Op × Answer)) (i : ℕ) (x : Op × Answer) (w : Option Write) → i < length ops → x ≡ get_or ops i x → w ≡ write_of x.0 (answer_data x.1) → net_write k (history_told (take (i + 1) ops)) ≡ later (write_at k w) (net_write k (history_told (take i ops)))
last_step k ops i x w lt e is =
    ap (net_write k) (one_more ops i x lt e)
    ∙ net_write-append k (history_told (take i ops)) ((x.0, answer_data x.1) ∷ [])
    ∙ ap (λ v. later (write_at k v) (net_write k (history_told (take i ops)))) (sym is)
