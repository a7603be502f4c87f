-- "The writer gives the 29 bytes of the RFC 1123 form, and refusal 9 outside that range."
use Rattle.std.specs.Prelude.{ℕ, ◌+◌, ◌-◌, ◌*◌, ◌/◌, ◌%◌, not, List, ◌∷◌, ℤ, length, get_or}
use Prim.Native.Char.{code}
use Rattle.grammar.specs.Reading.{Verdict}
use Rattle.grammar.specs.Text.{bytes}
use Rattle.octets.specs.Writing.{writing, output}
use Rattle.calendar.specs.declared.Fields.{Fields}
use Rattle.calendar.specs.Instants.{in_range?, fields_at, weekday_at}
use Rattle.date.specs.Names.{month_names, day_names}

-- the last two digits of a number
abbrev pub tens : ℕ → ℕ
tens n = code "0" + n / 10 % 10

abbrev pub ones : ℕ → ℕ
ones n = code "0" + n % 10

-- a byte of a table of names
abbrev pub letter : (names : List ℕ) (place : ℕ) → ℕ
letter names i = get_or names i 0

-- `Sun, 06 Nov 1994 08:49:37 GMT`: days of the week are counted from 0, months from 1
unfoldable pub date_text : (weekday : ℕ) → Fields → List ℕ
date_text k f =
    let m = 3 * (f.month - 1) in
    letter day_names (3 * k) ∷ letter day_names (3 * k + 1) ∷ letter day_names (3 * k + 2) ∷ code "," ∷ code " "
    ∷ tens f.day ∷ ones f.day ∷ code " "
    ∷ letter month_names m ∷ letter month_names (m + 1) ∷ letter month_names (m + 2) ∷ code " "
    ∷ tens (f.year / 100) ∷ ones (f.year / 100) ∷ tens f.year ∷ ones f.year ∷ code " "
    ∷ tens f.hour ∷ ones f.hour ∷ code ":" ∷ tens f.minute ∷ ones f.minute ∷ code ":"
    ∷ tens f.second ∷ ones f.second ∷ bytes " GMT"

abbrev pub instant_text : ℤ → List ℕ
instant_text s = date_text (weekday_at s) (fields_at s)

-- the answer in a room, and the lent output afterwards
abbrev pub date_writing : ℤ → ℕ → Verdict ℕ
date_writing s room = writing (not (in_range? s)) (instant_text s) room

abbrev pub date_output : ℤ → List ℕ → List ℕ
date_output s old = output (date_writing s (length old)) (instant_text s) old
