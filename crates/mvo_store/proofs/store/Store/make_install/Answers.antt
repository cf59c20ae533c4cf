use Rattle.std.proofs.Common.{◌≡◌, Err, rules}
use Rattle.mvo_store.proofs.Taken.{refused_so}
use Rattle.mvo_store.proofs.store.Store.make_install.Goals as goal

pub returns-in_err-install_close-in-Close-clause-step : goal.returns-in_err-install_close-in-Close-clause-step
returns-in_err-install_close-in-Close-clause-step g c =
    let e = c.in_err-install_close-in-Close.field-0.0 in
    let is : c.from_residual.result ≡ Err e = search rules in
    rw (is, c.in-Close.is) (refused_so _ _ g.D.Disk c.args.self.now _ e c.install_close.new.self c.in_err-install_close-in-Close.ensures)

pub returns-in_err-install_body-in-Body-clause-step : goal.returns-in_err-install_body-in-Body-clause-step
returns-in_err-install_body-in-Body-clause-step g c =
    let e = c.in_err-install_body-in-Body.field-0.0 in
    let is : c.from_residual-in_err-install_body-in-Body.result ≡ Err e = search rules in
    rw (is, c.in-Body.is) (refused_so _ _ g.D.Disk c.args.self.now _ e c.install_body.new.self c.in_err-install_body-in-Body.ensures)

pub returns-in-Err-clause-step : goal.returns-in-Err-clause-step
returns-in-Err-clause-step g c = rw c.in-Open.is (refused_so _ _ g.D.Disk c.args.self.now _ c.in-Err.refusal c.install_open.new.self c.in-Err.ensures.step)
