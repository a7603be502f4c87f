-- What the program prints of two inputs. The words quoted are those of document 01.
use mathlib.Core.Path.{◌≡◌}
use mathlib.Core.List.{[], ◌∷◌}
use Prim.Native.Char.{code}
use Rattle.grammar.specs.Text.{bytes}
use Rattle.report.specs.Saying.{printed}
use Rattle.report_example.proofs.Example as Example

-- "An empty line ended by LF is a frame of no bytes and gives `M`."
pub empty-line : printed (code "\n" ∷ []) ≡ bytes "M\n"
empty-line = Example.empty-line

-- the example of document 01
pub example : printed (bytes "350D0A68656C6C6F0D0A300D0A0D0A\n350D0A\n350D58\n46464646\n3\n") ≡ bytes "C 15 5\nM\nR 1 2\nR 7 3\nX\n"
example = Example.example
