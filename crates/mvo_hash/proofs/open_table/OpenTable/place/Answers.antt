use Rattle.std.proofs.Common.{◌≡◌, ◌+◌, ◌-◌, ◌<◌, List, None, length, set, sym, ap, ◌∙◌, subst, arith}
use Rattle.std.specs.FinMap as map
use Rattle.mvo_hash.specs.declared.open_table.OpenTable.TheInside.{Inside}
use Rattle.mvo_hash.specs.declared.slot.Slot.{Slot}
use Rattle.mvo_hash.specs.Home.{home_of}
use Rattle.mvo_hash.specs.Slots.{slot, IsFreeFrom, HasUnused}
use Rattle.mvo_hash.specs.Table.{Table, map_of, IsHeads}
use Rattle.mvo_hash.proofs.Homes.{at_home}
use Rattle.mvo_hash.proofs.Finds.{slot_read}
use Rattle.mvo_hash.proofs.Tables.{map_place}
use Rattle.mvo_hash.proofs.Uses.{heads_fresh, heads_again}
use Rattle.mvo_hash.proofs.open_table.OpenTable.place.Goals.{then-is_empty, else-is_empty}
use Rattle.mvo_hash.proofs.open_table.OpenTable.place.Goals as goal

pub free-at-requires : goal.free-at-requires
free-at-requires c =
    let ss = c.self.inside.slots.items in
    let h = c.self.invariant in
    let room : 0 < c.self.inside.most - c.self.inside.used = omega (arith, c.requires.room, ap (λ (m : Table). m.room) c.self.view_is) in
    let unused : HasUnused ss = omega (arith, room, h.counted, h.long) in
    subst HasUnused (sym c.deref.ensures.value) unused

pub invariant_of-self : goal.invariant_of-self
invariant_of-self c =
    let ss = c.self.inside.slots.items in
    let h = c.self.invariant in
    let i = c.free-at.result in
    let key = c.args.key in
    let free : IsFreeFrom ss c.home-home.result i = subst (λ xs. IsFreeFrom xs c.home-home.result i) c.deref.ensures.value c.free-at.ensures in
    let none : map.get (map_of ss) key ≡ None = ap (λ (m : Table). map.get m.numbers key) c.self.view_is ∙ c.requires.new in
    let at : c.home-home.result ≡ home_of c.self.inside.seeds.first c.self.inside.seeds.second (length ss) key = at_home c.self.inside.seeds c.args.self.now ss c.len.result key c.args.hash c.home-home.result (ap (λ (t : Table). t.seeds) c.self.view_is) c.requires.hash (omega (arith, c.len.ensures, c.self.inside.slots.ok)) c.home-home.ensures.at in
    let room : 0 < c.self.inside.most - c.self.inside.used = omega (arith, c.requires.room, ap (λ (m : Table). m.room) c.self.view_is) in
    let read : c.index.result.now ≡ slot ss i = slot_read ss i c.index.result.now free.within c.index.ensures in
    elim c.if-is_empty.branch [
      | then-is_empty w ↦
          subst (λ (f : Inside). IsHeads f.seeds.first f.seeds.second f.most f.used f.keys (set f.slots.items i c.live.result)) (sym w.self-inside-is)
          (subst (λ s. IsHeads c.self.inside.seeds.first c.self.inside.seeds.second c.self.inside.most (c.self.inside.used + 1) (c.self.inside.keys + 1) (set ss i s)) (sym c.live.ensures)
          (heads_fresh _ _ _ _ _ ss h key c.args.number i none c.home-home.result at free (sym (ap (λ (s : Slot). s.state) read) ∙ c.is_empty.ensures.0 w.if-is_empty.true) (omega (arith, room))))
      | else-is_empty w ↦
          subst (λ (f : Inside). IsHeads f.seeds.first f.seeds.second f.most f.used f.keys (set f.slots.items i c.live.result)) (sym w.self-inside-is)
          (subst (λ s. IsHeads c.self.inside.seeds.first c.self.inside.seeds.second c.self.inside.most c.self.inside.used (c.self.inside.keys + 1) (set ss i s)) (sym c.live.ensures)
          (heads_again _ _ _ _ _ ss h key c.args.number i none c.home-home.result at free (λ e. let t = c.is_empty.ensures.1 (ap (λ (s : Slot). s.state) read ∙ e) in let f = w.if-is_empty.false in cc)))
    ]

pub returns-clause-numbers : goal.returns-clause-numbers
returns-clause-numbers c =
    let ss = c.self.inside.slots.items in
    let i = c.free-at.result in
    let key = c.args.key in
    let free : IsFreeFrom ss c.home-home.result i = subst (λ xs. IsFreeFrom xs c.home-home.result i) c.deref.ensures.value c.free-at.ensures in
    let none : map.get (map_of ss) key ≡ None = ap (λ (m : Table). map.get m.numbers key) c.self.view_is ∙ c.requires.new in
    let at : c.home-home.result ≡ home_of c.self.inside.seeds.first c.self.inside.seeds.second (length ss) key = at_home c.self.inside.seeds c.args.self.now ss c.len.result key c.args.hash c.home-home.result (ap (λ (t : Table). t.seeds) c.self.view_is) c.requires.hash (omega (arith, c.len.ensures, c.self.inside.slots.ok)) c.home-home.ensures.at in
    let same : c.if-is_empty.self-inside.slots.items ≡ ss = elim c.if-is_empty.branch [
      | then-is_empty w ↦ ap (λ (f : Inside). f.slots.items) w.self-inside-is
      | else-is_empty w ↦ ap (λ (f : Inside). f.slots.items) w.self-inside-is
    ] in
    ap (λ (xs : List Slot). map_of (set xs i c.live.result)) same
    ∙ ap (λ s. map_of (set ss i s)) c.live.ensures
    ∙ map_place _ _ _ ss c.self.invariant.table key c.args.number i none c.home-home.result at free
    ∙ ap (λ (m : Table). map.insert m.numbers key c.args.number) c.self.view_is
