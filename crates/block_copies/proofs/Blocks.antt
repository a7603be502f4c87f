-- Blocks of 16 bytes put into parts.
use mathlib.Core.Path.{◌≡◌, ◌∙◌}
use mathlib.Core.List.{List, ◌++◌}
use Prim.Native.Nat.{ℕ, ◌+◌, ◌-◌, ◌≤◌}
use native.Mathlib.Omega.{arith}
use lib.ListN.{length, take, drop}
use Rattle.numerals.specs.Numeral.{put}
use Rattle.copying.proofs.Runs.{block_at_lem, put-part}
use Rattle.copying.specs.helpers.Runs.{block_at}

pub block_put : (src l y : List ℕ) (k : ℕ) → k + 16 ≤ length src → length l ≡ length src
    → y ≡ put (take (k + 16 - k) (drop k src)) (take (k + 16 - k) (drop k l))
    → take k l ++ (y ++ drop (k + 16 - k) (drop k l)) ≡ block_at 16 src l k
block_put src l y k h n e = block_at_lem 16 src l y k (e ∙ put-part l src k k 16 (omega arith) h)
