-- media-type = type "/" subtype *( ";" parameter ), type = token, subtype = token (RFC 2616 3.7), parameter = attribute "=" value,
-- attribute = token, value = token | quoted-string (RFC 2616 3.6); blanks stand around the semicolon only.
use Rattle.std.specs.Prelude.{ℕ, Bool, true, false, cond, ◌&&◌, ◌||◌, List, [], ◌∷◌, ◌++◌, ltb, eqb, length, take, drop}
use Prim.Native.Char.{code}
use Rattle.std.proofs.Math.Option.{Option, none, some}
use Rattle.grammar.specs.Grammar.{Class, Part, Grammar, byte, ◌⨾◌, ◌∣◌, star, part, just, past}
use Rattle.grammar.specs.Reading.{Limit, crowded, repeated, Rules}
use Rattle.octets.specs.Classes.{BLANK, token}
use Rattle.octets.specs.Case.{alike}
use Rattle.octets.specs.Quoted.{QUOTE, quoted_text}
use Rattle.media.specs.declared.MediaType.{MediaType}
use Rattle.media.specs.declared.Parameter.{Parameter}

-- The parts: a quoted value is what stands between its quotes.
pub data Name : Type 0 where
  type subtype attribute value quoted_value : Name

abbrev pub SLASH : Class
SLASH = just (code "/") tt

abbrev pub SEMICOLON : Class
SEMICOLON = just (code ";") tt

abbrev pub EQUALS : Class
EQUALS = just (code "=") tt

abbrev pub blanks : Grammar Name
blanks = star (byte BLANK)

abbrev pub argument : Grammar Name
argument = part value token ∣ (byte QUOTE ⨾ part quoted_value quoted_text ⨾ byte QUOTE)

abbrev pub parameter : Grammar Name
parameter = blanks ⨾ byte SEMICOLON ⨾ blanks ⨾ part attribute token ⨾ byte EQUALS ⨾ argument

abbrev pub parameters : Grammar Name
parameters = star parameter

abbrev pub media_type : Grammar Name
media_type = part type token ⨾ byte SLASH ⨾ part subtype token ⨾ parameters

-- ## Limits

abbrev pub attribute? : Name → Bool
attribute? type = false
attribute? subtype = false
attribute? attribute = true
attribute? value = false
attribute? quoted_value = false

abbrev pub attributes : List (Part Name) → List (Part Name)
attributes [] = []
attributes (c ∷ ps) = cond (attribute? c.label) (c ∷ attributes ps) (attributes ps)

-- one of the names is that one, letter case ignored
abbrev pub has_name : List ℕ → List (List ℕ) → Bool
has_name name [] = false
has_name name (t ∷ names) = alike name t || has_name name names

-- the byte at k follows an attribute that is one of those before it
abbrev pub repeats : (k : ℕ) (before : List (List ℕ)) → List (Part Name) → Bool
repeats k before [] = false
repeats k before (c ∷ cs) =
    (eqb (past c.start c.text) k && has_name c.text before) || repeats k (before ++ c.text ∷ []) cs

abbrev pub parameter_limit : ℕ
parameter_limit = 16

-- "more than 16 parameters", at the "first byte of the 17th attribute"; "attribute repeated, letter case ignored", at "the `=` after the
-- second"
abbrev pub limit : ℕ → List (Part Name) → Option Limit
limit k ps = cond (ltb parameter_limit (length (attributes ps))) (some crowded) (cond (repeats k [] (attributes ps)) (some repeated) none)

-- ## Values

abbrev pub quoted? : Name → Bool
quoted? type = false
quoted? subtype = false
quoted? attribute = false
quoted? value = false
quoted? quoted_value = true

-- an attribute and its value
abbrev pub entry : Part Name → Part Name → Parameter
entry a v = record {
  start = a.start;
  length = length a.text;
  value_start = v.start;
  value_length = length v.text;
  quoted = quoted? v.label;
}

-- of attributes and values in turn; no media type has an attribute without a value (`MediaParts`)
abbrev pub entries : List (Part Name) → List Parameter
entries [] = []
entries (a ∷ []) = []
entries (a ∷ v ∷ ps) = entry a v ∷ entries ps

-- type and subtype, with so many parameters behind them
abbrev pub kind : Part Name → Part Name → ℕ → MediaType
kind t u n = record {
  type_start = t.start;
  type_length = length t.text;
  subtype_start = u.start;
  subtype_length = length u.text;
  count = n;
}

-- "The answer gives start and length of each part, a quoted value's without its quotes."
pub record Media : Type 0 where
  pub names : MediaType
  pub table : List Parameter

abbrev pub none_read : Media
none_read = record {
  names = record { type_start = 0; type_length = 0; subtype_start = 0; subtype_length = 0; count = 0 };
  table = [];
}

-- every media type has a type and a subtype (`MediaParts`): no reading reaches the first two clauses
abbrev pub media : List (Part Name) → Media
media [] = none_read
media (t ∷ []) = none_read
media (t ∷ u ∷ ps) = record { names = kind t u (length (entries ps)); table = entries ps }

-- media types read for a value that is a function of their parts
abbrev pub valued : {A : Type 0} → (List (Part Name) → A) → Rules Name A
valued f = record { grammar = media_type; limit = limit; fault = λ ps. none; value = f }

abbrev pub rules : Rules Name Media
rules = valued media

-- the bytes of s from a start on, as many as a length says
abbrev pub part_at : (s : List ℕ) (start size : ℕ) → List ℕ
part_at s start size = take size (drop start s)
