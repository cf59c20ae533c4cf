use Rattle.mvo_readonly.proofs.Serials.{replies_are_serial, rows_up_to_same}
use Rattle.mvo_readonly.proofs.Weights.{read_at_begin}
use Rattle.mvo_readonly.proofs.laws.laws_of_read_only_replies.Goals as goal

pub returns-clause-serial : goal.returns-clause-serial
returns-clause-serial c = replies_are_serial

pub returns-clause-reads : goal.returns-clause-reads
returns-clause-reads c = read_at_begin

pub returns-clause-marked : goal.returns-clause-marked
returns-clause-marked c = rows_up_to_same
