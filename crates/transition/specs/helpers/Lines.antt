-- A chunk line, as the code goes over it.
use Rattle.std.specs.Prelude.{Bool, true, false, cond, ℕ, suc, eqb}
use Rattle.std.proofs.Math.Option.{none, some}
use Rattle.framing.specs.declared.ExtPos.{ExtPos}
use Rattle.framing.specs.declared.LinePos.{LinePos}
use Rattle.framing.specs.declared.LinePos.TheVariants.{First, Size, Ext}
use Rattle.framing.specs.declared.State.{State}
use Rattle.framing.specs.declared.State.TheVariants.{Line}
use Rattle.framing.specs.helpers.Extensions.{ext_step, ext_ends}
use Rattle.framing.specs.helpers.Machine.{leave_line}
use Rattle.positions.specs.helpers.Ends.{cr_byte}

-- a digit may go on there
abbrev pub digits : LinePos → Bool
digits First = true
digits (Size v) = true
digits (Ext v e) = false

-- where extensions stand; before the first digit there are none to come
abbrev pub ext_pos_of : LinePos → ExtPos
ext_pos_of First = ExtPos.Dead
ext_pos_of (Size v) = ExtPos.Between
ext_pos_of (Ext v e) = e

-- behind a byte that is no digit, in a line that gives v
abbrev pub behind_digits : ℕ → ExtPos → ℕ → ℕ → ℕ → State
behind_digits v e k t b = cond (eqb b cr_byte) (leave_line (cond (ext_ends e) (some v) none) t) (Line (Ext v (ext_step e b)) (suc k) t)
