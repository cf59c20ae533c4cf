use Rattle.std.proofs.Common.{◌≡◌, ◌∷◌, ◌++◌, [], List, length, sym, ap, ◌∙◌, arith}
use Rattle.std.proofs.lemmas.List.{length-append}
use Rattle.mvo_core.specs.Receipts.{Receipt}
use Rattle.mvo_engine.specs.States.{SessionState}
use Rattle.mvo_engine.specs.run.Watching.{count_of}
use Rattle.mvo_engine.specs.Gathering.{gathered_receipts}
use Rattle.mvo_engine.proofs.Pouring.{poured, amount_poured, receipts_popped, forgotten_before}
use Rattle.mvo_engine.proofs.gathering.pour.Goals as goal

pub loop-session-preserved : goal.loop-session-preserved
loop-session-preserved g c =
    let l = c.loop-session in
    let i = l.invariant in
    let x = c.in-Some.session in
    let left = c.pop.new.self.items in
    let all = l.all.items in
    let whole = gathered_receipts c.args.sessions.items in
    let is : l.left.items ≡ left ++ x ∷ [] = c.in-Some.ensures.items in
    let p = c.into_parts-list in
    let list : p.result.0.items ≡ x.receipts = p.ensures.list ∙ c.into_receipts.ensures.list in
    let both : c.add_all.new.all.items ≡ all ++ x.receipts = c.add_all.ensures.items ∙ ap (λ (rs : List Receipt). all ++ rs) list in
    let up = forgotten_before c.args.start.0 left x l.left.items is i.forgotten in
    let upto = up.1 in
    let went = c.into_receipts.ensures.forgotten in
    let counts = p.ensures.amount in
    let n = ap length is ∙ length-append left (x ∷ []) in
    let m = receipts_popped left x l.left.items is in
    let k = ap length list in
    record {
      parts = omega arith;
      items = ap (λ (rs : List Receipt). rs ++ gathered_receipts left) both ∙ poured all left x whole (ap (λ (ss : List SessionState). all ++ gathered_receipts ss) (sym is) ∙ i.items);
      amount = amount_poured g.L.Run.watched c.args.start.0 l.whole.amount p.result.1.amount c.merge.new.self.amount c.into_receipts.result.forgotten all p.result.0.items c.add_all.new.all.items i.amount (λ low. counts low ∙ ap (count_of g.L.Run.watched) (sym p.ensures.list)) (omega (arith, upto, went)) c.merge.ensures.amount c.add_all.ensures.items;
      forgotten = up.0;
      room = omega arith;
    }
