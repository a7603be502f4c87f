-- `url_normal::put_port` meets its contract: nothing, or the colon and the number.
use mathlib.Core.List.{[], ◌∷◌}
use Rattle.numerals.specs.Numeral.{numeral}
use Rattle.text.proofs.Placing.{puts_none, puts_two}
use Rattle.url_normal.specs.Normal.{port_form}
use Rattle.url_normal.proofs.Writer.{port_default, port-other}
use Rattle.url_normal.proofs.put_port.Goals as goal

pub returns-then-port-eq-DEFAULT_PORT : goal.returns-then-port-eq-DEFAULT_PORT
returns-then-port-eq-DEFAULT_PORT c =
    let x = c.args in
    let r = puts_none x.out.now x.at (port_form x.port) c.requires (port_default x.port c.if-port-eq-DEFAULT_PORT.true) in
    record { ends = r.0; writes = r.1 }

pub returns : goal.returns
returns c =
    let x = c.args in
    let r = puts_two x.out.now x.at (port_form x.port) c.requires (58 ∷ []) c.put_bytes-colon_end.new.out (numeral 10 x.port) c.put_numeral.new.out
    c.put_bytes-colon_end.result c.put_numeral.result (port-other x.port c.if-port-eq-DEFAULT_PORT.false)
    c.put_bytes-colon_end.ensures.ends c.put_bytes-colon_end.ensures.writes c.put_numeral.ensures.ends c.put_numeral.ensures.writes in
    record { ends = r.0; writes = r.1 }
