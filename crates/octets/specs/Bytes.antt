-- Classes of bytes: RFC 2616 2.2 as document 01 states it. Definitions alone.
use Rattle.std.specs.Prelude.{ℕ, ◌-◌, Bool, cond, not, ◌&&◌, ◌||◌, List, ◌==◌, nat_le}
use Prim.Native.Char.{code}
use Rattle.grammar.specs.Classes.{one_of}
use Rattle.grammar.specs.Text.{bytes}

-- b is one of lo to hi
abbrev pub within : ℕ → ℕ → ℕ → Bool
within lo hi b = nat_le lo b && nat_le b hi

-- a byte is a number below 256
abbrev pub octet? : ℕ → Bool
octet? b = nat_le b 255

unfoldable pub digit? : ℕ → Bool
digit? b = within (code "0") (code "9") b

unfoldable pub letter? : ℕ → Bool
letter? b = within (code "A") (code "Z") b || within (code "a") (code "z") b

unfoldable pub hex? : ℕ → Bool
hex? b = within (code "0") (code "9") b || (within (code "A") (code "F") b || within (code "a") (code "f") b)

-- the value of a hex digit; of other bytes it is not asked
abbrev pub hex_value : ℕ → ℕ
hex_value b = cond (nat_le b (code "9")) (b - code "0") (cond (nat_le b (code "F")) (b - (code "A" - 10)) (b - (code "a" - 10)))

-- SP, HT
unfoldable pub blank? : ℕ → Bool
blank? b = b == (code " ") || b == (code "\t")

abbrev pub separators : List ℕ
separators = bytes "()<>@,;:\\\"/[]?={}"

-- a byte of a token: 33 to 126 without the separators
unfoldable pub token? : ℕ → Bool
token? b = within 33 126 b && not (one_of separators b)

-- a byte of a trailer line's value: HT, 32 to 126, 128 to 255
unfoldable pub content? : ℕ → Bool
content? b = b == (code "\t") || (within 32 126 b || within 128 255 b)

-- a byte of a quoted string that stands for itself: "HT, 32 to 126 without `"` and `\`, 128 to 255"
unfoldable pub text? : ℕ → Bool
text? b = b == (code "\t") || ((within 32 126 b && not (one_of (bytes "\"\\") b)) || within 128 255 b)

-- a byte that may follow the `\` of a pair: "HT or 32 to 126"
unfoldable pub escaped? : ℕ → Bool
escaped? b = b == (code "\t") || within 32 126 b
