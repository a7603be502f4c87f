-- byte-ranges-specifier = bytes-unit "=" byte-range-set, byte-range-set = 1#( byte-range-spec | suffix-byte-range-spec ),
-- byte-range-spec = first-byte-pos "-" [last-byte-pos], suffix-byte-range-spec = "-" suffix-length (RFC 2616 14.35.1). "`bytes` is read in
-- any case, blanks may stand only around commas, and an empty element is malformed (house rule)."
use Rattle.std.specs.Prelude.{ℕ, suc, ◌≡◌, Bool, true, false, cond, ◌&&◌, not, List, [], ◌∷◌, ltb}
use Prim.Native.Char.{code}
use Rattle.std.proofs.Math.Option.{Option, none, some}
use Rattle.grammar.specs.Grammar.{Class, Part, Grammar, byte, ◌⨾◌, ◌∣◌, star, plus, part, spell, just}
use Rattle.grammar.specs.Text.{bytes}
use Rattle.grammar.specs.Reading.{Limit, crowded, Rules}
use Rattle.grammar.specs.Endings.{Judgement, judging}
use Rattle.octets.specs.Bytes.{digit?}
use Rattle.octets.specs.Classes.{DIGIT, BLANK}
use Rattle.octets.specs.Numbers.{number, capped_number, length_limit}
use Rattle.ranges.specs.declared.Element.{Element}
use Rattle.ranges.specs.declared.Element.TheVariants.{Closed, Open, Suffix}
use Rattle.ranges.specs.Meaning.{resolved, Ranges, answer}

-- An element has two parts: a first and a last position, the last one empty where none is sent; or the sign of a suffix and its length.
pub data Name : Type 0 where
  first last sign suffix : Name

abbrev pub MINUS : Class
MINUS = just (code "-") tt

abbrev pub COMMA : Class
COMMA = just (code ",") tt

abbrev pub blanks : Grammar Name
blanks = star (byte BLANK)

abbrev pub element : Grammar Name
element =
    (part first (plus (byte DIGIT)) ⨾ byte MINUS ⨾ part last (star (byte DIGIT)))
    ∣ (part sign (byte MINUS) ⨾ part suffix (plus (byte DIGIT)))

abbrev pub others : Grammar Name
others = star (blanks ⨾ byte COMMA ⨾ blanks ⨾ element)

abbrev pub unit : List ℕ
unit = bytes "bytes="

abbrev pub byte_ranges : Grammar Name
byte_ranges = spell unit tt (element ⨾ others)

-- ## What the parts say

-- "Numbers above 2^63-1 are capped to it before first and last are compared."
abbrev pub capped : List ℕ → ℕ
capped t = (capped_number length_limit length_limit (number t)).value

-- the positions of an element, by what digits are read as
abbrev pub positions : (List ℕ → ℕ) → List ℕ → List ℕ → Element
positions read f [] = Open (read f)
positions read f (b ∷ l) = Closed (read f) (read (b ∷ l))

abbrev pub sign? : Name → Bool
sign? first = false
sign? last = false
sign? sign = true
sign? suffix = false

abbrev pub element_of : (List ℕ → ℕ) → Part Name → Part Name → Element
element_of read a b = cond (sign? a.label) (Suffix (read b.text)) (positions read a.text b.text)

-- every element has two parts (`ElementParts`): no reading reaches the second clause
abbrev pub elements : (List ℕ → ℕ) → List (Part Name) → List Element
elements read [] = []
elements read (a ∷ []) = []
elements read (a ∷ b ∷ ps) = element_of read a b ∷ elements read ps

-- ## Limits

-- an element begins with such a part
abbrev pub opens? : Name → Bool
opens? first = true
opens? last = false
opens? sign = true
opens? suffix = false

-- how many elements have begun
abbrev pub opened : List (Part Name) → ℕ
opened [] = 0
opened (c ∷ ps) = cond (opens? c.label) (suc (opened ps)) (opened ps)

abbrev pub element_limit : ℕ
element_limit = 16

-- "up to 16 (a seventeenth is refusal 10 at its first byte)"
abbrev pub limit : ℕ → List (Part Name) → Option Limit
limit k ps = cond (ltb element_limit (opened ps)) (some crowded) none

abbrev pub last? : Name → Bool
last? first = false
last? last = true
last? sign = false
last? suffix = false

-- a last position below the first before it; the last two of the parts are such
abbrev pub backward : Part Name → Part Name → Bool
backward a b = last? b.label && ltb (capped b.text) (capped a.text)

abbrev pub ends_backward : List (Part Name) → Bool
ends_backward [] = false
ends_backward (a ∷ []) = false
ends_backward (a ∷ b ∷ []) = backward a b
ends_backward (a ∷ b ∷ c ∷ ps) = ends_backward (b ∷ c ∷ ps)

-- "A last below its first, once its digits end, is malformed at its last digit, whatever follows." Digits go on with a number, and nothing
-- with a sign.
abbrev pub forward : Judgement Name
forward = record { goes_on = λ l b. not (sign? l) && digit? b; misfit = ends_backward }

-- nothing follows, or another byte than a digit
abbrev pub NoDigit : List ℕ → Type 0
NoDigit [] = Unit
NoDigit (b ∷ u) = digit? b ≡ false

-- ## The rules in an entity of n bytes: without that judgement, and for the value s

abbrev pub plain_rules : ℕ → Rules Name Ranges
plain_rules n =
    record { grammar = byte_ranges; limit = limit; fault = λ ps. none; value = λ ps. answer (resolved n (elements capped ps)) }

abbrev pub rules : ℕ → List ℕ → Rules Name Ranges
rules n s = judging forward (plain_rules n) s
