use Rattle.std.proofs.Common.{◌≡◌, ◌||◌, ℕ, List, [], ◌∷◌, eqb, map, refl, ap, ◌∙◌}
use Rattle.std.specs.List.{list_any}
use Rattle.mvo_chain.specs.declared.version.VersionNo.{VersionNo}
use Rattle.mvo_hash.specs.Lists.{is_among}
use Rattle.mvo_rules_tests.proofs.engine.has.Goals as goal

among_map : (n : ℕ) (vs : List VersionNo) → list_any (λ v. eqb n v.0) vs ≡ is_among n (map (λ (v : VersionNo). v.0) vs)
among_map n [] = refl
among_map n (v ∷ vs) = ap (λ b. eqb n v.0 || b) (among_map n vs)

pub returns : goal.returns
returns c =
    c.holds.ensures
    ∙ ap (λ (vs : List VersionNo). list_any (λ v. eqb c.args.version.0 v.0) vs) c.as_slice.ensures.value
    ∙ among_map c.args.version.0 c.in_ok-versions.versions.items
    ∙ ap (is_among c.args.version.0) c.in_ok-versions.ensures
