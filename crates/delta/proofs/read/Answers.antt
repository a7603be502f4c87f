-- `delta::read` meets its contract: each answer of the decimal reading is what the grammar finds.
use native.Mathlib.Omega.{arith}
use mathlib.Core.Path.{sym, ◌∙◌}
use Rattle.delta.proofs.Scan.{seconds_missing, seconds-within, seconds-beyond, seconds-small}
use Rattle.delta.proofs.read.Goals as goal

pub overflow_cast-seconds : goal.overflow_cast-seconds
overflow_cast-seconds c =
    omega (arith, seconds-small c.args.s.now c.in-Number.value c.in-Number.end (sym c.read_decimal.ensures ∙ c.in-Number.is))

pub read_end-requires : goal.read_end-requires
read_end-requires c =
    seconds-within c.args.s.now c.in_ok-check_length.ensures _ _ (sym c.read_decimal.ensures ∙ c.in-Number.is)

pub read_end-requires-in-Above : goal.read_end-requires-in-Above
read_end-requires-in-Above c =
    seconds-beyond c.args.s.now c.in_ok-check_length.ensures _ _ (sym c.read_decimal.ensures ∙ c.in-Above.is)

pub returns-in-Missing : goal.returns-in-Missing
returns-in-Missing c = sym (seconds_missing c.args.s.now c.in_ok-check_length.ensures (sym c.read_decimal.ensures ∙ c.in-Missing.is))
