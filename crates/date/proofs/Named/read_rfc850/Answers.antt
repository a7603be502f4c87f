-- `date::Named::read_rfc850` meets its contract.
use native.Mathlib.Omega.{arith}
use mathlib.Core.Path.{sym}
use lib.ListN.{drop}
use Prim.Native.Nat.{◌≤◌}
use Rattle.date.proofs.Tables.{fit_bound}
use Rattle.date.proofs.Scan.{rfc850-stop, rfc850-end, head-short}
use Rattle.date.proofs.Named.read_rfc850.Goals as goal
use Rattle.date.proofs.Named.read_rfc850.Goals.{After-fitting_at-fits}

-- places behind a head are small numbers
small : (c : After-fitting_at-fits) → c.fitting_at-fits.result ≤ 11
small c =
    let head = c.rfc850_head-head in
    omega (arith, fit_bound head.result.now (drop 3 c.args.self.text.now), c.fitting_at-fits.ensures, head-short c.args.self.day head.result.now head.ensures)

pub overflow_add-at : goal.overflow_add-at
overflow_add-at c = omega (arith, small ((goal.at.overflow_add-at c).After-fitting_at-fits))

pub returns-then-fits-head : goal.returns-then-fits-head
returns-then-fits-head c =
    let x = c.args.self in
    let head = c.rfc850_head-head in
    sym (rfc850-stop x.present_year x.text.now x.day c.requires head.result.now head.ensures _ c.fitting_at-fits.ensures c.if-fits-head.true)

pub overflow_add-places : goal.overflow_add-places
overflow_add-places c = omega (arith, small ((goal.at.overflow_add-places c).After-fitting_at-fits))

pub overflow_add-places-2 : goal.overflow_add-places-2
overflow_add-places-2 c = omega (arith, small ((goal.at.overflow_add-places-2 c).After-fitting_at-fits))

pub read_tail-requires : goal.read_tail-requires
read_tail-requires c =
    let x = c.args.self in
    let head = c.rfc850_head-head in
    rfc850-end x.present_year x.text.now x.day c.requires head.result.now head.ensures _ c.fitting_at-fits.ensures c.if-fits-head.false
