-- "Written in capitals without leading zeros; a number above 65,535 given to the writer is refusal 9": as the two numbers are written.
use Rattle.std.specs.Prelude.{ℕ, Bool, List}
use Rattle.grammar.specs.Reading.{Verdict}
use Rattle.version_writer.specs.Writing.{numbers_text, numbers_too_large, numbers_writing, numbers_output}
use Rattle.version.specs.declared.Version.{Version}

abbrev pub version_text : Version → List ℕ
version_text v = numbers_text v.major v.minor

abbrev pub too_large : Version → Bool
too_large v = numbers_too_large v.major v.minor

-- the answer in a room, and the lent output afterwards
abbrev pub version_writing : Version → ℕ → Verdict ℕ
version_writing v room = numbers_writing v.major v.minor room

abbrev pub version_output : Version → List ℕ → List ℕ
version_output v old = numbers_output v.major v.minor old
