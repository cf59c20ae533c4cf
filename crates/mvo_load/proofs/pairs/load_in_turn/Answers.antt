use Rattle.std.specs.Prelude.{All}
use Rattle.mvo_types.specs.Keys.{Map}
use Rattle.mvo_types.specs.declared.limits.TheConstants.{MAX_PAIR_RECORDS}
use Rattle.mvo_types.specs.declared.refusal.Refusal.TheVariants.{Corrupt}
use Rattle.std.proofs.Common.{◌<◌, arith, ap, ◌∙◌, get_or, take, drop, length, ◌-◌, ◌≡◌, List, inl, inr, ⊎_elim, subst, sym, Ok, Err, Bool}
use Rattle.std.specs.List.{AllByRecursion}
use Rattle.std.proofs.lemmas.List.Elements.{All-weaker}
use Rattle.mvo_pair.specs.Data.{Numbered, AreApart}
use Rattle.mvo_pair.specs.declared.pair.Pair.{Pair}
use Rattle.mvo_places.specs.Rows.{rows_of}
use Rattle.mvo_places.specs.Places.{PlaceMap, PlaceTable, with_live}
use Rattle.mvo_load.specs.Parts.{Joins}
use Rattle.mvo_load.proofs.Slices.{first_and_rest, no_more, no_pair}
use Rattle.mvo_load.proofs.Unchanged.{unchanged_yet, then_unchanged, was_read, gives_any, then_refused, then_misread}
use Rattle.mvo_load.proofs.Paired.{no_pairs}
use Rattle.mvo_load.proofs.Pairing.{PairsSoFar, HasFiles, loads_before, no_pair_yet, refused_here, second_here, pair_more, all_rows, all_places, rest_leads}
use Rattle.mvo_load.proofs.pairs.load_in_turn.Goals as goal

pub loop-rest-init : goal.loop-rest-init
loop-rest-init g c =
    let upto = c.args.upto in
    let image = g.D.Disk.content c.args.disk.now in
    let m = c.args.manifest.now in
    let at = c.new-places.result.at in
    let none : PairsSoFar upto image m m.pairs c.new-rows.result at = no_pair_yet upto image m c.new-rows.result at c.new-rows.ensures (ap (λ (t : PlaceTable). t.at) c.new-places.ensures) c.pairs-rest.ensures.manifest in (
      λ _. subst (λ (l : List Pair). PairsSoFar upto image m l c.new-rows.result at) (sym c.pairs-rest.ensures.value) none,
      unchanged_yet g.D.Disk g.met.D.Disk.only_now c.args.disk.now,
      subst (λ (l : List Pair). AllByRecursion HasFiles l) (sym c.pairs-rest.ensures.value) none.files,
    )

pub returns-in-Err : goal.returns-in-Err
returns-in-Err g c =
    let upto = c.args.upto in
    let image = g.D.Disk.content c.args.disk.now in
    let rest = c.loop-rest.rest.now in
    let p = get_or rest 0 no_pair in
    let ps = take (length rest - 1) (drop 1 rest) in
    let whole = first_and_rest c.loop-rest.rest.now no_pair c.in-len1-up.len_at_least in
    let same = c.loop-rest.invariant.1.rest.content in
    let e = c.in-Err.e in
    no_pairs g.D.Disk upto c.args.manifest.now c.args.disk.now c.pair_on.new.disk e
    (λ honest.
    let before = c.loop-rest.invariant.0 (c.in-Err.ensures.read.any_moment.later.honest honest) in
    ⊎_elim (λ m. inl m)
    (λ h. inr (refused_here upto image c.args.manifest.now p ps c.loop-rest.rest.now c.loop-rest.rows c.loop-rest.places.at before whole e (loads_before upto p (g.D.Disk.content c.loop-rest.disk) image same (Err e) h)))
    (c.in-Err.ensures.says honest))
    (then_refused g.D.Disk _ (Map × PlaceTable) c.args.disk.now c.loop-rest.disk c.pair_on.new.disk e c.loop-rest.invariant.1 c.in-Err.ensures.read)

pub returns-then-not-branch : goal.returns-then-not-branch
returns-then-not-branch g c =
    let upto = c.args.upto in
    let image = g.D.Disk.content c.args.disk.now in
    let rest = c.loop-rest.rest.now in
    let p = get_or rest 0 no_pair in
    let ps = take (length rest - 1) (drop 1 rest) in
    let whole = first_and_rest c.loop-rest.rest.now no_pair c.in-len1-up.len_at_least in
    let same = c.loop-rest.invariant.1.rest.content in
    let live = c.in-Ok.live.items in
    let two = λ (before : List (List Numbered)) (apart : AreApart before) (is : c.loop-rest.rows ≡ rows_of before). subst (λ (b : Bool). Joins before live b c.join.new.rows) c.if-not-branch.true (c.in_ok-join.ensures before apart is) in
    no_pairs g.D.Disk upto c.args.manifest.now c.args.disk.now c.pair_on.new.disk (Corrupt p.data_file)
    (λ honest.
    let before = c.loop-rest.invariant.0 (c.in-Ok.ensures.read.any_moment.later.honest honest) in
    inr (second_here upto image c.args.manifest.now p ps c.loop-rest.rest.now c.loop-rest.rows c.loop-rest.places.at before whole live
    (loads_before upto p (g.D.Disk.content c.loop-rest.disk) image same (Ok live) (c.in-Ok.ensures.says honest)) c.join.new.rows two))
    (then_misread g.D.Disk (Map × PlaceTable) c.args.disk.now c.pair_on.new.disk (Corrupt p.data_file) tt
    (then_unchanged g.D.Disk c.args.disk.now c.loop-rest.disk c.pair_on.new.disk c.loop-rest.invariant.1 (was_read g.D.Disk c.loop-rest.disk c.pair_on.new.disk c.in-Ok.live c.in-Ok.ensures.read)))

pub loop-rest-preserved : goal.loop-rest-preserved
loop-rest-preserved g c =
    let upto = c.args.upto in
    let image = g.D.Disk.content c.args.disk.now in
    let rest = c.loop-rest.rest.now in
    let p = get_or rest 0 no_pair in
    let ps = take (length rest - 1) (drop 1 rest) in
    let whole = first_and_rest c.loop-rest.rest.now no_pair c.in-len1-up.len_at_least in
    let same = c.loop-rest.invariant.1.rest.content in
    let live = c.in-Ok.live.items in
    let joined = λ (before : List (List Numbered)) (apart : AreApart before) (is : c.loop-rest.rows ≡ rows_of before). subst (λ (b : Bool). Joins before live b c.join.new.rows) c.if-not-branch.false (c.in_ok-join.ensures before apart is) in (
      λ honest. subst (λ (at : PlaceMap). PairsSoFar upto image c.args.manifest.now ps c.join.new.rows at) (sym (c.in_ok-add_pair.ensures ∙ ap (λ (l : List Numbered). with_live p.data_file l c.loop-rest.places.at) c.deref.ensures.value))
          (pair_more upto image c.args.manifest.now p ps c.loop-rest.rest.now c.loop-rest.rows c.loop-rest.places.at (c.loop-rest.invariant.0 (c.in-Ok.ensures.read.any_moment.later.honest honest)) whole live
          (loads_before upto p (g.D.Disk.content c.loop-rest.disk) image same (Ok live) (c.in-Ok.ensures.says honest)) c.join.new.rows c.pairs-rest.ensures.manifest joined),
      then_unchanged g.D.Disk c.args.disk.now c.loop-rest.disk c.pair_on.new.disk c.loop-rest.invariant.1
          (record { rest = c.in-Ok.ensures.read.rest; any_moment = c.in-Ok.ensures.read.any_moment; count = c.in-Ok.ensures.read.count }),
      (subst (λ (l : List Pair). AllByRecursion HasFiles l) whole c.loop-rest.invariant.2).1,
    )

pub returns : goal.returns
returns g c =
    let upto = c.args.upto in
    let image = g.D.Disk.content c.args.disk.now in
    let m = c.args.manifest.now in
    let rest = c.loop-rest.rest.now in
    let rows = c.loop-rest.rows in
    let at = c.loop-rest.places.at in
    let none = no_more rest c.in_default.len_below in
    record {
      live = λ honest. all_rows upto image m rest rows at (c.loop-rest.invariant.0 honest) none;
      places = λ honest. all_places upto image m rest rows at (c.loop-rest.invariant.0 honest) none;
      leads = λ honest. rest_leads upto image m rest rows at (c.loop-rest.invariant.0 honest) none;
      read = gives_any g.D.Disk (Map × PlaceTable) c.args.disk.now c.loop-rest.disk (rows, c.loop-rest.places) c.loop-rest.invariant.1;
    }

pub add_pair-requires-clause-numbers : goal.add_pair-requires-clause-numbers
add_pair-requires-clause-numbers g c =
    let p = get_or c.loop-rest.rest.now 0 no_pair in
    let whole = first_and_rest c.loop-rest.rest.now no_pair c.in-len1-up.len_at_least in
    let fit = (subst (λ (l : List Pair). AllByRecursion HasFiles l) whole c.loop-rest.invariant.2).0 in
    subst (λ (l : List Numbered). All (λ x. x.0 < MAX_PAIR_RECORDS) l) (sym c.deref.ensures.value)
    (All-weaker (λ l. l.0 < p.records) (λ l. l.0 < MAX_PAIR_RECORDS) (λ l few. omega (arith, few, fit.records)) c.in-Ok.live.items c.in-Ok.ensures.numbers)
