-- Document 01's example of the bench program, computed by the definitions.
use mathlib.Core.Path.{◌≡◌, refl}
use mathlib.Core.List.{[], ◌∷◌}
use Prim.Native.Char.{code}
use Rattle.grammar.specs.Text.{bytes}
use Rattle.octets.specs.Bytes.{digit?, hex?, token?}
use Rattle.numerals.specs.Numeral.{glyph, digits, width_in, width, numeral}
use Rattle.framing.specs.helpers.Machine.{next_line_pos, line_live, line_ends, leave_line, enter_chunk, step, live, done, past_room}
use Rattle.framing.specs.helpers.Scan.{answer}
use Rattle.framing.specs.Reading.{judge, decode}
use Rattle.lines.specs.Reading.{lines_from, rest_from, lines_of, bytes_of, spelled}
use Rattle.report.specs.Saying.{said_answer, said_bytes, said, all_said, printed}

pub example : printed (bytes "350D0A68656C6C6F0D0A300D0A0D0A\n350D0A\n350D58\n46464646\n3\n") ≡ bytes "C 15 5\nM\nR 1 2\nR 7 3\nX\n"
unfolding digit? hex? token? glyph digits width_in width numeral next_line_pos line_live line_ends leave_line enter_chunk step live done past_room
    answer judge decode lines_from rest_from lines_of bytes_of spelled said_answer said_bytes said all_said printed
example = refl

pub empty-line : printed (code "\n" ∷ []) ≡ bytes "M\n"
unfolding answer decode lines_from rest_from lines_of bytes_of spelled said_answer said_bytes said all_said printed
empty-line = refl
