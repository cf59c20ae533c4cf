use Rattle.std.proofs.Common.{◌≡◌, ◌≢◌, ◌<◌, ◌≤◌, not, nat_eq, length, sym, ap, ◌∙◌, subst, arith}
use Rattle.std.proofs.lemmas.Bool.{OnTrue_from, OnFalse_from, not-true, not-false, eqb-true, eqb-false}
use Rattle.std.proofs.lemmas.List.{get_or_past}
use Rattle.mvo_hash.specs.declared.link.Link.{Link}
use Rattle.mvo_hash.specs.Lists.{Index, IsHeld, IsNewNumber}
use Rattle.mvo_hash.specs.Links.{unheld, no_link, link, numbers}
use Rattle.mvo_hash.proofs.Views.{shown_held, shown_fresh, link_read}
use Rattle.mvo_hash.proofs.index.HashIndex.is_held.Goals as goal

pub returns-then-index-len-clause-held : goal.returns-then-index-len-clause-held
returns-then-index-len-clause-held c =
    let ls = c.self.inside.links in
    let n = c.args.version.0 in
    let within : n < length ls = omega (arith, c.if-index-len.true, c.index.ensures, c.len.ensures) in
    let read : c.index-then-index-len-2.result.now ≡ link ls n = link_read ls c.index-then-index-len.result n c.index-then-index-len-2.result.now c.index-then-index-len.ensures within c.index-then-index-len-2.ensures in
    OnTrue_from (not (nat_eq c.index-then-index-len-2.result.now.newer 4294967294)) (IsHeld c.args.self.now.versions n) (λ b.
    let other : c.index-then-index-len-2.result.now.newer ≢ unheld = eqb-false _ _ (not-true _ b) in
    subst (λ m. IsHeld m n) (ap (λ (i : Index). i.versions) c.self.view_is)
    (shown_held c.self.inside.heads.numbers ls (numbers c.self.inside.heads.numbers ls) c.self.invariant n (λ e. other (ap (λ (l : Link). l.newer) read ∙ e))))

pub returns-then-index-len-clause-fresh : goal.returns-then-index-len-clause-fresh
returns-then-index-len-clause-fresh c =
    let ls = c.self.inside.links in
    let n = c.args.version.0 in
    let within : n < length ls = omega (arith, c.if-index-len.true, c.index.ensures, c.len.ensures) in
    let read : c.index-then-index-len-2.result.now ≡ link ls n = link_read ls c.index-then-index-len.result n c.index-then-index-len-2.result.now c.index-then-index-len.ensures within c.index-then-index-len-2.ensures in
    OnFalse_from (not (nat_eq c.index-then-index-len-2.result.now.newer 4294967294)) (IsNewNumber c.args.self.now.versions n) (λ b.
    let same : c.index-then-index-len-2.result.now.newer ≡ unheld = eqb-true _ _ (not-false _ b) in
    subst (λ m. IsNewNumber m n) (ap (λ (i : Index). i.versions) c.self.view_is)
    (shown_fresh c.self.inside.heads.numbers ls (numbers c.self.inside.heads.numbers ls) c.self.invariant n (ap (λ (l : Link). l.newer) (sym read) ∙ same)))

pub returns-else-index-len-clause-fresh : goal.returns-else-index-len-clause-fresh
returns-else-index-len-clause-fresh c =
    let ls = c.self.inside.links in
    let n = c.args.version.0 in
    let past : length ls ≤ n = omega (arith, c.if-index-len.false, c.index.ensures, c.len.ensures) in
    OnFalse_from _ (IsNewNumber c.args.self.now.versions n) (λ b.
    subst (λ m. IsNewNumber m n) (ap (λ (i : Index). i.versions) c.self.view_is)
    (shown_fresh c.self.inside.heads.numbers ls (numbers c.self.inside.heads.numbers ls) c.self.invariant n (ap (λ (l : Link). l.newer) (get_or_past ls n no_link past))))
