-- Quoted strings (RFC 2616 2.2): what stands between the quotes is text, and pairs of a backslash and a byte.
use Prim.Native.Char.{code}
use Rattle.grammar.specs.Grammar.{Class, Grammar, byte, ◌⨾◌, ◌∣◌, star, just}
use Rattle.octets.specs.Classes.{TEXT, ESCAPED}

-- " and \
abbrev pub QUOTE : Class
QUOTE = just (code "\"") tt

abbrev pub BACKSLASH : Class
BACKSLASH = just (code "\\") tt

abbrev pub quoted_text : {L : Type 0} → Grammar L
quoted_text = star (byte TEXT ∣ (byte BACKSLASH ⨾ byte ESCAPED))
