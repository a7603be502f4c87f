-- `version::Version::read` meets its contract: each way out is what the grammar leaves there.
use native.Mathlib.Omega.{arith}
use mathlib.Core.Path.{sym, ap, ◌∙◌}
use Rattle.grammar.specs.Reading.{refused}
use Rattle.version.proofs.Scan.{name-not, name-is, name-inside, major_missing, major-passes, major-reads}
use Rattle.version.proofs.Version.read.Goals as goal

pub returns-then-agreed-lt-NAME_LEN : goal.returns-then-agreed-lt-NAME_LEN
returns-then-agreed-lt-NAME_LEN c =
    let s = c.args.s.now in
    sym (name-not s c.in_ok-check_length.ensures (omega (arith, c.word_at-agreed.ensures, c.if-agreed-lt-NAME_LEN.true)) ∙ ap (refused 1) (sym c.word_at-agreed.ensures))

pub read_minor-requires : goal.read_minor-requires
read_minor-requires c =
    let s = c.args.s.now in
    let n = name-is s (omega (arith, c.word_at-agreed.ensures, c.if-agreed-lt-NAME_LEN.false)) in
    let e = sym c.read_decimal.ensures ∙ c.in-Number.is in
    major-reads s c.in_ok-check_length.ensures n (name-inside s n) _ _ e

pub returns-in-Above : goal.returns-in-Above
returns-in-Above c =
    let s = c.args.s.now in
    let n = name-is s (omega (arith, c.word_at-agreed.ensures, c.if-agreed-lt-NAME_LEN.false)) in
    let e = sym c.read_decimal.ensures ∙ c.in-Above.is in
    sym (major-passes s c.in_ok-check_length.ensures n (name-inside s n) _ _ e)

pub returns-in-Missing : goal.returns-in-Missing
returns-in-Missing c =
    let s = c.args.s.now in
    let n = name-is s (omega (arith, c.word_at-agreed.ensures, c.if-agreed-lt-NAME_LEN.false)) in
    let e = sym c.read_decimal.ensures ∙ c.in-Missing.is in
    sym (major_missing s c.in_ok-check_length.ensures n (name-inside s n) e)
