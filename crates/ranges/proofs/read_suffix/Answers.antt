-- `ranges::read_suffix` meets its contract: each way out is what the grammar leaves where no number stands.
use Rattle.std.proofs.Common.{◌≡◌, ◌<◌, length, get_or, arith}
use Rattle.grammar.specs.Reading.{refused}
use Rattle.grammar.specs.helpers.Judge.{header}
use Rattle.ranges.specs.Grammar.{rules}
use Rattle.ranges.proofs.Scan.{element_missing, element_no_number, suffix_missing, suffix-read}
use Rattle.ranges.proofs.read_suffix.Goals as goal

pub returns-then-start-s : goal.returns-then-start-s
returns-then-start-s c n xs room x =
    let a = c.args in
    let out = element_missing n a.s.now x in
    let other : a.start < length a.s.now → (get_or a.s.now a.start 0 ≡ 45 → ⊥) → header (rules n a.s.now) a.s.now ≡ refused 1 a.start =
    λ h. element_no_number n a.s.now x h c.requires in
    grind (arith, out, other)

pub returns-in_default : goal.returns-in_default
returns-in_default c n xs room x =
    let a = c.args in
    suffix_missing n a.s.now x room (omega arith) (omega arith) c.in_default.ensures

pub returns : goal.returns
returns c n xs room x =
    let a = c.args in
    suffix-read n a.s.now x room (omega arith) (omega arith) _ _ c.in-Some.ensures
