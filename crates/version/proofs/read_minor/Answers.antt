-- `version::read_minor` meets its contract: each way out is what the grammar leaves there.
use native.Mathlib.Omega.{arith}
use mathlib.Core.Path.{sym, ◌∙◌}
use Rattle.version.proofs.Scan.{point-none, point-not, minor_missing, minor-passes, minor-small, major-small}
use Rattle.version.proofs.Scan.{version-goes-on, version-reads}
use Rattle.version.proofs.read_minor.Goals as goal

pub returns-then-at-s : goal.returns-then-at-s
returns-then-at-s c =
    let x = c.args in
    let out = point-none x.s.now x.major x.at c.requires in
    let not_point = point-not x.s.now x.major x.at c.requires in
    grind (arith, out, not_point)

pub returns-then-end-s : goal.returns-then-end-s
returns-then-end-s c =
    let x = c.args in
    let e = sym c.read_decimal.ensures ∙ c.in-Number.is in
    sym (version-goes-on x.s.now x.major x.at c.requires (omega arith) (omega arith) _ _ e c.if-end-s.true)

pub overflow_cast-result : goal.overflow_cast-result
overflow_cast-result c =
    let x = c.args in
    omega (arith, major-small x.s.now x.major x.at c.requires)

pub overflow_cast-result-in-Number : goal.overflow_cast-result-in-Number
overflow_cast-result-in-Number c =
    let x = c.args in
    let e = sym c.read_decimal.ensures ∙ c.in-Number.is in
    omega (arith, minor-small x.s.now x.major x.at c.requires (omega arith) (omega arith) _ _ e)

pub returns-in-Above : goal.returns-in-Above
returns-in-Above c =
    let x = c.args in
    let e = sym c.read_decimal.ensures ∙ c.in-Above.is in
    sym (minor-passes x.s.now x.major x.at c.requires (omega arith) (omega arith) _ _ e)

pub returns-in-Missing : goal.returns-in-Missing
returns-in-Missing c =
    let x = c.args in
    let e = sym c.read_decimal.ensures ∙ c.in-Missing.is in
    sym (minor_missing x.s.now x.major x.at c.requires (omega arith) (omega arith) e)

pub returns-else-end-s : goal.returns-else-end-s
returns-else-end-s c =
    let x = c.args in
    let e = sym c.read_decimal.ensures ∙ c.in-Number.is in
    sym (version-reads x.s.now x.major x.at c.requires (omega arith) (omega arith) _ _ e c.if-end-s.false)
