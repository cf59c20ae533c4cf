use Rattle.std.proofs.Common.{◌≡◌, ◌++◌, Some, None, ap, sym, ◌∙◌}
use Rattle.std.specs.Prelude.{is_some}
use Rattle.std.specs.Option.{option_copied}
use Rattle.mvo_types.specs.Entries.{has_entry}
use Rattle.mvo_shared.specs.Kept.{entries_in, rows_kept}
use Rattle.mvo_content.specs.Looks.{LooksData, look_at}
use Rattle.mvo_content.proofs.Seeking.{there, kept_there, found_front, found_behind}
use Rattle.mvo_content.proofs.looks.Looks.rows.Goals as goal

pub returns-in-Some-clause-there : goal.returns-in-Some-clause-there
returns-in-Some-clause-there c =
    let few = c.self.inside.few.items in
    let behind = c.self.inside.behind.entries in
    let e = c.args.entry in
    let found : look_at few e ≡ Some c.in-Some.rows.now = ap (λ xs. look_at xs e) (sym c.deref.ensures.value) ∙ sym c.look_at.ensures ∙ ap option_copied c.in-Some.is in
    sym (ap is_some (found_front few behind e c.in-Some.rows.now found)) ∙ there (few ++ behind) e ∙ ap (λ (d : LooksData). has_entry (entries_in d.looked) e) c.self.view_is

pub returns-in-Some-clause-rows : goal.returns-in-Some-clause-rows
returns-in-Some-clause-rows c =
    let few = c.self.inside.few.items in
    let behind = c.self.inside.behind.entries in
    let e = c.args.entry in
    let found : look_at few e ≡ Some c.in-Some.rows.now = ap (λ xs. look_at xs e) (sym c.deref.ensures.value) ∙ sym c.look_at.ensures ∙ ap option_copied c.in-Some.is in
    kept_there (few ++ behind) e c.in-Some.rows.now (found_front few behind e c.in-Some.rows.now found) ∙ ap (λ (d : LooksData). rows_kept d.looked e) c.self.view_is

pub returns-in-Some-look_behind-clause-there : goal.returns-in-Some-look_behind-clause-there
returns-in-Some-look_behind-clause-there c =
    let few = c.self.inside.few.items in
    let behind = c.self.inside.behind.entries in
    let e = c.args.entry in
    let none : look_at few e ≡ None = ap (λ xs. look_at xs e) (sym c.deref.ensures.value) ∙ sym c.look_at.ensures ∙ ap option_copied c.in-None.is in
    let found : look_at behind e ≡ Some c.in-Some-look_behind.rows.now = sym c.look_behind.ensures ∙ ap option_copied c.in-Some-look_behind.is in
    sym (ap is_some (found_behind few behind e none ∙ found)) ∙ there (few ++ behind) e ∙ ap (λ (d : LooksData). has_entry (entries_in d.looked) e) c.self.view_is

pub returns-in-Some-look_behind-clause-rows : goal.returns-in-Some-look_behind-clause-rows
returns-in-Some-look_behind-clause-rows c =
    let few = c.self.inside.few.items in
    let behind = c.self.inside.behind.entries in
    let e = c.args.entry in
    let none : look_at few e ≡ None = ap (λ xs. look_at xs e) (sym c.deref.ensures.value) ∙ sym c.look_at.ensures ∙ ap option_copied c.in-None.is in
    let found : look_at behind e ≡ Some c.in-Some-look_behind.rows.now = sym c.look_behind.ensures ∙ ap option_copied c.in-Some-look_behind.is in
    kept_there (few ++ behind) e c.in-Some-look_behind.rows.now (found_behind few behind e none ∙ found) ∙ ap (λ (d : LooksData). rows_kept d.looked e) c.self.view_is

pub returns-in-None-look_behind-clause-there : goal.returns-in-None-look_behind-clause-there
returns-in-None-look_behind-clause-there c =
    let few = c.self.inside.few.items in
    let behind = c.self.inside.behind.entries in
    let e = c.args.entry in
    let none : look_at few e ≡ None = ap (λ xs. look_at xs e) (sym c.deref.ensures.value) ∙ sym c.look_at.ensures ∙ ap option_copied c.in-None.is in
    let found : look_at behind e ≡ None = sym c.look_behind.ensures ∙ ap option_copied c.in-None-look_behind.is in
    sym (ap is_some (found_behind few behind e none ∙ found)) ∙ there (few ++ behind) e ∙ ap (λ (d : LooksData). has_entry (entries_in d.looked) e) c.self.view_is
