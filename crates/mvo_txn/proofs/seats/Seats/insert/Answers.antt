use Rattle.std.proofs.Common.{Some, sym, subst, ◌∙◌}
use Rattle.slab.specs.Slab.{Updates}
use Rattle.mvo_txn.proofs.Seated.{alike, has_room, put_seats, put_map}
use Rattle.mvo_txn.proofs.seats.Seats.insert.Goals as goal

pub invariant_of-self : goal.invariant_of-self
invariant_of-self g c = alike c.self.inside.directory c.note.new.self c.self.inside.chairs c.in_err-note.ensures.err c.self.invariant

pub insert_reserved-requires : goal.insert_reserved-requires
insert_reserved-requires g c = has_room c.self.inside.directory c.self.inside.chairs c.args.self.now c.self.invariant c.self.view_is c.requires.room

pub invariant_of-self-2 : goal.invariant_of-self-2
invariant_of-self-2 g c =
    put_seats c.self.inside.directory c.note.new.self c.self.inside.chairs c.insert_reserved.new.self c.args.self.now c.vacant_key-number.result c.args.id c.args.seat c.self.invariant c.self.view_is c.requires.new
    c.in_ok-note.ensures.ok
    (subst (λ n. Updates c.self.inside.chairs c.insert_reserved.new.self n (Some (record { id = c.args.id; seat = c.args.seat }))) (c.insert_reserved.ensures.key ∙ sym c.vacant_key-number.ensures.value) c.insert_reserved.ensures.updates) c.insert_reserved.ensures.capacity

pub returns-clause-ok : goal.returns-clause-ok
returns-clause-ok g c =
    put_map c.self.inside.directory c.note.new.self c.self.inside.chairs c.insert_reserved.new.self c.args.self.now c.vacant_key-number.result c.args.id c.args.seat c.self.invariant (invariant_of-self-2 g c) c.self.view_is
    c.vacant_key-number.ensures.vacant
    (subst (λ n. Updates c.self.inside.chairs c.insert_reserved.new.self n (Some (record { id = c.args.id; seat = c.args.seat }))) (c.insert_reserved.ensures.key ∙ sym c.vacant_key-number.ensures.value) c.insert_reserved.ensures.updates)
