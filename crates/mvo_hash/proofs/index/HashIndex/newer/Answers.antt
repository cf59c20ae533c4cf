use Rattle.std.proofs.Common.{◌<◌, eqb, None, Some, length, sym, ap, ◌∙◌, arith}
use Rattle.std.proofs.lemmas.Bool.{cond-true, cond-false, eq-eqb, ne_eqb}
use Rattle.mvo_hash.specs.Lists.{Index, is_among, numbers_of}
use Rattle.mvo_hash.specs.Links.{no_number}
use Rattle.mvo_hash.proofs.Views.{shown_within, read_newer}
use Rattle.mvo_hash.proofs.index.HashIndex.newer.Goals as goal

pub index-requires-2 : goal.index-requires-2
index-requires-2 c =
    let within : c.args.version.0 < length c.self.inside.links = shown_within c.self.inside.heads.numbers c.self.inside.links c.self.invariant c.requires.0 c.args.version.0
    (ap (λ m. is_among c.args.version.0 (numbers_of m c.requires.0)) (ap (λ (i : Index). i.versions) c.self.view_is) ∙ c.requires.1) in
    omega (arith, within, c.index.ensures)

pub returns-then-number : goal.returns-then-number
returns-then-number c = record {
  at = λ key a.
      let o = c.index-2.result.now.newer in
      sym (read_newer c.self.inside.heads.numbers c.self.inside.links c.args.self.now.versions c.self.invariant (ap (λ (i : Index). i.versions) c.self.view_is) key c.args.version.0 c.index.result c.index-2.result.now c.index.ensures c.index-2.ensures a
      ∙ cond-true (eqb o no_number) None (Some o) (eq-eqb o no_number c.if-number.true));
}

pub returns : goal.returns
returns c = record {
  at = λ key a.
      let o = c.index-2.result.now.newer in
      sym (read_newer c.self.inside.heads.numbers c.self.inside.links c.args.self.now.versions c.self.invariant (ap (λ (i : Index). i.versions) c.self.view_is) key c.args.version.0 c.index.result c.index-2.result.now c.index.ensures c.index-2.ensures a
      ∙ cond-false (eqb o no_number) None (Some o) (ne_eqb o no_number c.if-number.false));
}
