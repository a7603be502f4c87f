-- What the program prints. The words quoted are those of document 01.
use mathlib.Core.Path.{◌≡◌, refl, ◌∙◌, ap}
use mathlib.Core.List.{List, [], ◌∷◌, ◌++◌}
use Prim.Native.Nat.{ℕ, ◌<◌, ◌≤◌}
use Prim.Native.Char.{code}
use native.Mathlib.Omega.{arith}
use lib.ListN.{length}
use Rattle.grammar.specs.Text.{bytes, joined}
use Rattle.framing.specs.Reading.{decode}
use Rattle.lines.specs.Grammar as G
use Rattle.lines.specs.Grammar.{NoLf, Lines, Spells, DIGIT_LIMIT}
use Rattle.lines.specs.Reading.{lines_from, rest_from, lines_of}
use Rattle.lines.proofs.Demands as L
use Rattle.report.specs.Saying.{ROOM, said_answer, said_bytes, said, all_said, printed}
use Rattle.report.specs.Calls.{Calls}
use Rattle.report.proofs.Pieces.{all_one}
use Rattle.report.proofs.Printing.{calls_print, calls_are}

-- In whatever way an input is cut into pieces, `put_piece` on each in turn and then `put_last` put what is printed of that input.
pub prints : {line text : List ℕ} {pieces : List (List ℕ)} → Calls line 0 pieces text → text ≡ printed (joined pieces)
unfolding printed lines_of
prints calls = calls_print [] refl calls

-- There are such calls for every list of pieces.
pub calls_exist : (line : List ℕ) (pieces : List (List ℕ)) → (text : List ℕ) × Calls line 0 pieces text
calls_exist line pieces = calls_are line 0 pieces

-- What is said of each line of an input is printed, in order: lines "ended by LF or the end of input".
pub says-lines : {input : List ℕ} {lines : List (List ℕ)} → Lines input lines → printed input ≡ all_said lines
unfolding printed
says-lines {input} {lines} are = ap all_said ((L.lines input lines).1 are)

-- A line of at most 32,768 digits, two for each byte of a frame: "Each is decoded as a chunked body in 16,384 bytes of room."
pub good-line : {line frame : List ℕ} → Spells line frame → length line ≤ DIGIT_LIMIT → said line ≡ said_answer (decode ROOM frame)
unfolding said said_bytes
good-line {line} {frame} spells short =
    ap said_bytes ((L.good line frame ROOM).1 (spells, short, omega (arith, L.two_digits spells)))

-- "A line with an odd count, another character or too many digits gives `X`."
pub bad_line : (line : List ℕ) → ((frame : List ℕ) → Spells line frame → length line ≤ DIGIT_LIMIT → ⊥) → said line ≡ bytes "X\n"
unfolding said said_bytes
bad_line line bad = ap said_bytes ((L.bad line ROOM).1 (λ frame spells short _. bad frame spells short))

-- one line alone, "ended by LF or the end of input": "After the last LF, nothing left is no line"
pub one_line : {line : List ℕ} → NoLf line
    → (printed (line ++ (code "\n" ∷ [])) ≡ said line) × (0 < length line → printed line ≡ said line)
one_line {line} free = (says-lines (G.next free G.none) ∙ all_one line, λ some. says-lines (G.last free some) ∙ all_one line)

-- "empty input prints nothing"
pub empty-input : printed [] ≡ []
unfolding printed all_said lines_of lines_from rest_from
empty-input = refl
