-- `copying::copy` meets its contract.
use Rattle.numerals.proofs.Digits.{put-fits, put-short}
use mathlib.Core.Path.{refl, sym, ◌∙◌}
use native.Mathlib.Omega.{arith}
use Rattle.copying.proofs.copy.Goals as goal

pub returns-then-src-dst : goal.returns-then-src-dst
returns-then-src-dst c =
    let s = c.args in
    sym (put-short s.src.now s.dst.now (omega arith))

pub returns-then-src-lt16 : goal.returns-then-src-lt16
returns-then-src-lt16 c =
    let s = c.args in
    c.copy_bytes.ensures ∙ sym (put-fits s.src.now s.dst.now (omega arith))

pub copy_rest-requires : goal.copy_rest-requires
copy_rest-requires c = record { src_in_bounds = (omega arith, omega arith, omega arith); front = record { is = refl; within = omega arith } }

pub returns : goal.returns
returns c =
    let s = c.args in
    c.copy_rest.ensures ∙ sym (put-fits s.src.now s.dst.now (omega arith))
