-- The classes of bytes as grammars use them: only bytes are in each, and one is named that is.
use Rattle.std.specs.Prelude.{◌≡◌, ℕ, Bool, refl}
use Prim.Native.Char.{code}
use Rattle.grammar.specs.Grammar.{Class, Grammar, byte, plus, just}
use Rattle.grammar.specs.Classes.{range, ◌or◌, but}
use Rattle.grammar.specs.Text.{bytes}
use Rattle.octets.specs.Bytes.{digit?, letter?, hex?, blank?, separators, token?, text?, escaped?}
use Rattle.octets.specs.helpers.Tests.{tested-below, tested-holds, letter-below, letter-holds, blank-below, blank-holds}

-- the class of the bytes that pass p, which is the test of c
abbrev pub tested : (p : ℕ → Bool) (c : Class) → p ≡ c.has → Class
tested p c e = record { has = p; below = tested-below p c e; some = c.some; holds = tested-holds p c e }

pub digit_is : digit? ≡ (range (code "0") (code "9") tt).has
unfolding digit?
digit_is = refl

abbrev pub DIGIT : Class
DIGIT = tested digit? (range (code "0") (code "9") tt) digit_is

-- the class of the letters: `letter-is` (proofs/Classes.antt)
abbrev pub LETTER : Class
LETTER = record { has = letter?; below = letter-below; some = code "A"; holds = letter-holds }

pub hex_is : hex? ≡ (range (code "0") (code "9") tt or range (code "A") (code "F") tt or range (code "a") (code "f") tt).has
unfolding hex?
hex_is = refl

abbrev pub HEX : Class
HEX = tested hex? (range (code "0") (code "9") tt or range (code "A") (code "F") tt or range (code "a") (code "f") tt) hex_is

-- the class of the blanks: `blank-is` (proofs/Classes.antt)
abbrev pub BLANK : Class
BLANK = record { has = blank?; below = blank-below; some = code " "; holds = blank-holds }

pub token-is : token? ≡ (but (range 33 126 tt) separators (code "a") tt).has
unfolding token?
token-is = refl

abbrev pub TOKEN : Class
TOKEN = tested token? (but (range 33 126 tt) separators (code "a") tt) token-is

-- "**Token** (2.2): one or more of" these bytes
abbrev pub token : {L : Type 0} → Grammar L
token = plus (byte TOKEN)

pub text-is : text? ≡ (just (code "\t") tt or but (range 32 126 tt) (bytes "\"\\") (code "a") tt or range 128 255 tt).has
unfolding text?
text-is = refl

abbrev pub TEXT : Class
TEXT = tested text? (just (code "\t") tt or but (range 32 126 tt) (bytes "\"\\") (code "a") tt or range 128 255 tt) text-is

pub escaped_is : escaped? ≡ (just (code "\t") tt or range 32 126 tt).has
unfolding escaped?
escaped_is = refl

abbrev pub ESCAPED : Class
ESCAPED = tested escaped? (just (code "\t") tt or range 32 126 tt) escaped_is
