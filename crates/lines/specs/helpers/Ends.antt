-- Where no line ends.
use Rattle.std.specs.Prelude.{◌≡◌, Bool, not, List, ℕ, ◌+◌, ◌≤◌, eqb, length, drop}
use Prim.Native.Char.{code}
use Rattle.lines.specs.Reading.{line_end}

-- a byte inside a line: any but LF
abbrev pub inner? : ℕ → Bool
inner? b = not (eqb b (code "\n"))

-- no LF stands before this place
abbrev pub NoneBefore : List ℕ → ℕ → Type 0
NoneBefore s at = (at ≤ length s) × (at + line_end (drop at s) ≡ line_end s)
