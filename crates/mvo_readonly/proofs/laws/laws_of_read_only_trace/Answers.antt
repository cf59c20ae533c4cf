use Rattle.mvo_readonly.proofs.rests.Following.{followed_opened, followed_after_call}
use Rattle.mvo_readonly.proofs.rests.Justifying.{whole_justified, snapshots_followed, core_traced}
use Rattle.mvo_readonly.proofs.laws.laws_of_read_only_trace.Goals as goal

pub returns-clause-opens : goal.returns-clause-opens
returns-clause-opens c = followed_opened

pub returns-clause-keeps : goal.returns-clause-keeps
returns-clause-keeps c = followed_after_call

pub returns-clause-justified : goal.returns-clause-justified
returns-clause-justified c = λ whole own w call r f m. whole_justified whole own w f call r m

pub returns-clause-snapshots : goal.returns-clause-snapshots
returns-clause-snapshots c = snapshots_followed

pub returns-clause-traced : goal.returns-clause-traced
returns-clause-traced c = core_traced
