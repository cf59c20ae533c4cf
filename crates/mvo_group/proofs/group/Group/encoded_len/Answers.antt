use Rattle.std.proofs.Common.{rules, ◌≡◌, ◌∙◌, sym}
use Rattle.mvo_group.specs.Rules.{body_len}
use Rattle.mvo_group.proofs.Sizes.{length-body_of}
use Rattle.mvo_group.proofs.group.Group.encoded_len.Goals as goal

pub returns-clause-bytes : goal.returns-clause-bytes
returns-clause-bytes c =
    let value : c.len_of_body.result ≡ body_len c.args.self.now = search rules in
    value ∙ sym (length-body_of c.args.self.now)
