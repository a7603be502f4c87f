-- `copying::copy_long` meets its contract.
use Rattle.numerals.proofs.Digits.{put-fits, put-short}
use Rattle.copying.proofs.Runs.{front_length, front-from, front-behind}
use mathlib.Core.Path.{◌≡◌, sym, ◌∙◌, ap}
use mathlib.Core.List.{List, ◌++◌}
use lib.ListN.{length}
use native.Mathlib.Omega.{arith}
use Rattle.copying.proofs.copy_long.Goals as goal
use Rattle.copying.proofs.copy_long.Goals.{After-copy_wide-at}

-- the wide blocks keep the length
wide-length : (c : After-copy_wide-at) → length c.copy_wide-at.new.dst ≡ length c.args.dst.now
wide-length c = front_length (omega arith) c.copy_wide-at.ensures.0

pub returns-then-len-dst : goal.returns-then-len-dst
returns-then-len-dst c =
    let s = c.args in
    sym (put-short s.src.now s.dst.now (omega arith))

pub returns-then-len-lt16 : goal.returns-then-len-lt16
returns-then-len-lt16 c =
    let s = c.args in
    c.copy_few.ensures ∙ sym (put-fits s.src.now s.dst.now (omega arith))

pub copy_rest-requires : goal.copy_rest-requires
copy_rest-requires c =
    record {
      src_in_bounds = (omega (arith, wide-length ((goal.at.copy_rest-requires c).After-copy_wide-at)), omega arith, c.copy_wide-at.ensures.1);
      front = front-from c.copy_wide-at.ensures.0;
    }

pub shape_of-dst : goal.shape_of-dst
shape_of-dst c = c.copy_rest.auto.dst ∙ wide-length ((goal.at.shape_of-dst c).After-copy_wide-at)

pub returns : goal.returns
returns c =
    let s = c.args in
    c.copy_rest.ensures
    ∙ ap (λ (z : List _). s.src.now ++ z) (front-behind c.copy_wide-at.ensures.0)
    ∙ sym (put-fits s.src.now s.dst.now (omega arith))
