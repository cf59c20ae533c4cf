use Rattle.std.proofs.Common.{◌≡◌, None, Some, sym, ap, ◌∙◌, subst, arith}
use Rattle.std.specs.FinMap as map
use Rattle.mvo_hash.specs.declared.slot.Slot.{Slot}
use Rattle.mvo_hash.specs.Slots.{IsReached, IsFoundAt, IsNowhere}
use Rattle.mvo_hash.specs.Table.{Table, map_of}
use Rattle.mvo_hash.proofs.Finds.{get_missing, slot_read}
use Rattle.mvo_hash.proofs.Homes.{at_home}
use Rattle.mvo_hash.proofs.Tables.{get_at}
use Rattle.mvo_hash.proofs.open_table.OpenTable.get_by_hash.Goals as goal

pub returns-in-Some : goal.returns-in-Some
returns-in-Some c =
    let ss = c.self.inside.slots.items in
    let t = c.self.invariant.table in
    let key = c.args.key in
    let found : IsFoundAt ss key c.in-Some.at = subst (λ xs. IsFoundAt xs key c.in-Some.at) c.deref.ensures.value c.in-Some.ensures.found in
    ap (λ (s : Slot). Some s.number) (slot_read ss c.in-Some.at c.index.result.now found.within c.index.ensures)
    ∙ sym (get_at _ _ _ ss t key c.in-Some.at found) ∙ ap (λ (m : Table). map.get m.numbers key) c.self.view_is

pub returns-in-None : goal.returns-in-None
returns-in-None c =
    let ss = c.self.inside.slots.items in
    let t = c.self.invariant.table in
    let key = c.args.key in
    let none : map.get (map_of ss) key ≡ None = get_missing ss key (subst (λ xs. IsNowhere xs key) c.deref.ensures.value c.in-None.ensures.nowhere) in
    sym none ∙ ap (λ (m : Table). map.get m.numbers key) c.self.view_is

pub find-requires-clause-reached : goal.find-requires-clause-reached
find-requires-clause-reached c =
    let ss = c.self.inside.slots.items in
    let key = c.args.key in
    let at = at_home c.self.inside.seeds c.args.self.now ss c.len.result key c.args.hash c.home-home.result (ap (λ (t : Table). t.seeds) c.self.view_is) c.requires (omega (arith, c.len.ensures, c.self.inside.slots.ok)) c.home-home.ensures.at in
    subst (λ xs. IsReached xs c.home-home.result key) (sym c.deref.ensures.value)
    (subst (λ h. IsReached ss h key) (sym at) (c.self.invariant.table.reached key))
