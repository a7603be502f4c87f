-- `http_url::read_port` meets its contract: each way out is what the grammar leaves there.
use Rattle.std.proofs.Common.{sym, arith}
use Rattle.http_url.proofs.Scan.{port-passes, port-small, port-reads, port-empty}
use Rattle.http_url.proofs.read_port.Goals as goal

pub overflow_cast-result : goal.overflow_cast-result
overflow_cast-result c =
    let x = c.args in
    let n = c.in-Number in
    let small = port-small x.s.now x.host_end c.requires c.if-host_end-s.false c.if-s-host_end-ne58.false in
    omega (arith, small n.value n.end (sym n.ensures))

pub returns-in-Number : goal.returns-in-Number
returns-in-Number c =
    let x = c.args in
    let n = c.in-Number in
    port-reads x.s.now x.host_end c.requires c.if-host_end-s.false c.if-s-host_end-ne58.false n.value n.end (sym n.ensures)

pub returns-in-Above : goal.returns-in-Above
returns-in-Above c =
    let x = c.args in
    port-passes x.s.now x.host_end c.requires c.if-host_end-s.false c.if-s-host_end-ne58.false _ _ (sym c.in-Above.ensures)

pub returns-in-Missing : goal.returns-in-Missing
returns-in-Missing c =
    let x = c.args in
    port-empty x.s.now x.host_end c.requires c.if-host_end-s.false c.if-s-host_end-ne58.false (sym c.in-Missing.ensures)
