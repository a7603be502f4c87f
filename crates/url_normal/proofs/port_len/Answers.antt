-- `url_normal::port_len` meets its contract.
use native.Mathlib.Omega.{arith}
use mathlib.Core.Path.{sym, ap}
use lib.ListN.{length}
use Rattle.url_normal.proofs.Writer.{port_default, port-other, few-digits}
use Rattle.url_normal.proofs.port_len.Goals as goal

pub returns-then-port-eq-DEFAULT_PORT : goal.returns-then-port-eq-DEFAULT_PORT
returns-then-port-eq-DEFAULT_PORT c =
    let n = c.args.port in
    record { is = sym (ap length (port_default n c.if-port-eq-DEFAULT_PORT.true)); small = omega arith }

pub overflow_add-result : goal.overflow_add-result
overflow_add-result c =
    omega (arith, c.width.ensures, few-digits c.args.port (omega (arith, c.ranges.port)))

pub returns : goal.returns
returns c =
    let n = c.args.port in record {
      is = omega (arith, c.width.ensures, ap length (port-other n c.if-port-eq-DEFAULT_PORT.false));
      small = omega (arith, c.width.ensures, few-digits n (omega (arith, c.ranges.port)));
    }
