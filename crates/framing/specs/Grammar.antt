-- Chunked bodies by RFC 2616 3.6.1 with the rules of documents 01 and 02, limits aside: which bytes are one, and what data it carries.
-- Then the part of a body in which a byte stands, and the limits. Definitions alone; no machine stands here.
use Rattle.std.specs.Prelude.{◌≡◌, Bool, true, List, [], ◌∷◌, ◌++◌, ℕ, suc, ◌+◌, ◌-◌, ◌*◌, ◌<◌, ◌≤◌, length, take}
use Prim.Native.Char.{code}
use Rattle.grammar.specs.Text.{bytes}
use Rattle.grammar.specs.Refusals.{LINE_TOO_LONG, TRAILER_TOO_LONG, BODY_TOO_LARGE, FORBIDDEN_FIELD}
use Rattle.grammar.specs.Beginnings.{Matches}
use Rattle.octets.specs.Bytes.{hex?, hex_value, token?, content?, octet?}
use Rattle.octets.specs.Case.{alike}
use Rattle.octets.specs.Quoted.{quoted_text}
use Rattle.framing.specs.declared.Whole.{Whole}
use Rattle.framing.specs.Demand.{Format}

-- ## Parts

-- "CRLF"
abbrev pub crlf : List ℕ
crlf = bytes "\r\n"

-- any number of bytes, each of which passes the test
pub data Many (p : ℕ → Bool) : List ℕ → Type 0 where
  none : Many p []
  more : {b : ℕ} {xs : List ℕ} → p b ≡ true → Many p xs → Many p (b ∷ xs)

-- one or more
pub data Some (p : ℕ → Bool) : List ℕ → Type 0 where
  some : {b : ℕ} {xs : List ℕ} → p b ≡ true → Many p xs → Some p (b ∷ xs)

abbrev pub Token : List ℕ → Type 0
Token xs = Some token? xs

-- the number that hex digits go on to from v, the first digit foremost
abbrev pub hex_value_from : ℕ → List ℕ → ℕ
hex_value_from v [] = v
hex_value_from v (b ∷ xs) = hex_value_from (v * 16 + hex_value b) xs

-- "hex digits of either case", with their value
pub data Size : List ℕ → ℕ → Type 0 where
  size : {xs : List ℕ} → Some hex? xs → Size xs (hex_value_from 0 xs)

-- what stands between the quotes of a quoted string, as in header values
abbrev pub Inside : List ℕ → Type 0
Inside xs = Matches {L = Unit {0}} quoted_text xs

-- "a token or quoted string"
pub data Value : List ℕ → Type 0 where
  token_value : {xs : List ℕ} → Token xs → Value xs
  quoted_value : {xs : List ℕ} → Inside xs → Value (code "\"" ∷ (xs ++ bytes "\""))

-- "`;` token, optionally `=` and a token or quoted string, no blanks"
pub data Extension : List ℕ → Type 0 where
  bare : {n : List ℕ} → Token n → Extension (code ";" ∷ n)
  valued : {n v : List ℕ} → Token n → Value v → Extension (code ";" ∷ (n ++ (code "=" ∷ v)))

pub data Extensions : List ℕ → Type 0 where
  none : Extensions []
  more : {e es : List ℕ} → Extension e → Extensions es → Extensions (e ++ es)

-- "The chunk line is what stands before its CR": a size and extensions, with the value of the size
pub data Line : List ℕ → ℕ → Type 0 where
  line : {s e : List ℕ} {v : ℕ} → Size s v → Extensions e → Line (s ++ e) v

-- "Trailer line: token, `:`, any of HT, 32 to 126, 128 to 255, then CRLF"; any number of them
pub data Trailer : List ℕ → Type 0 where
  none : Trailer []
  more : {n f t : List ℕ} → Token n → Many content? f → Trailer t → Trailer (n ++ (code ":" ∷ (f ++ (crlf ++ t))))

-- ## Bodies

-- "hex digits of either case with value above zero, extensions, CRLF, that many bytes, CRLF"
pub data Chunk : List ℕ → List ℕ → Type 0 where
  chunk : {l x : List ℕ} → Line l (length x) → 0 < length x → Many octet? x → Chunk (l ++ (crlf ++ (x ++ crlf))) x

-- chunks one after the other, with their joined data
pub data Chunks : List ℕ → List ℕ → Type 0 where
  none : Chunks [] []
  more : {c d e x : List ℕ} → Chunks c d → Chunk e x → Chunks (c ++ e) (d ++ x)

-- "A size of value zero begins the last chunk, which has no data; then trailer lines, then CRLF"
pub data Body : List ℕ → List ℕ → Type 0 where
  body : {c d l t : List ℕ} → Chunks c d → Line l 0 → Trailer t → Body (c ++ (l ++ (crlf ++ (t ++ crlf)))) d

-- p is a body whose trailer is t, "all bytes of trailer lines, CR and LF included, without the closing CRLF", behind its first n bytes
pub data HasTrailer : List ℕ → ℕ → List ℕ → Type 0 where
  has_trailer : {c d l t : List ℕ} → Chunks c d → Line l 0 → Trailer t
      → HasTrailer (c ++ (l ++ (crlf ++ (t ++ crlf)))) (length (c ++ (l ++ crlf))) t

-- "bytes taken is the length of the beginning that is the body, body length that of its joined chunk data"; and "the trailer's start and
-- length"
pub record Tells (w : Whole) (f d : List ℕ) : Type 0 where
  pub taken : w.taken ≡ length f
  pub joined : w.length ≡ length d
  pub trailer : List ℕ
  pub stands : HasTrailer f w.trailer_start trailer
  pub trailed : w.trailer_length ≡ length trailer

-- ## Where a byte stands
-- "The bytes up to and with a byte decide which part of a body it stands in." In each, p is these bytes.

-- p ends in a chunk line, of which it has the bytes l
pub data InLine : List ℕ → List ℕ → Type 0 where
  in_line : {c d l : List ℕ} (u : List ℕ) {v : ℕ} → Chunks c d → Line (l ++ u) v → InLine (c ++ l) l

-- p ends with a size digit, behind chunks with t bytes of data; v is the value of the digits before it, w with it
pub data AtDigit : List ℕ → ℕ → ℕ → ℕ → Type 0 where
  at_digit : {c d l : List ℕ} (b : ℕ) → Chunks c d → Many hex? l → hex? b ≡ true
      → AtDigit (c ++ (l ++ (b ∷ []))) (length d) (hex_value_from 0 l) (hex_value_from 0 (l ++ (b ∷ [])))

-- p ends in the trailer, "all bytes of trailer lines, CR and LF included, without the closing CRLF", of which it has the bytes t
pub data InTrailer : List ℕ → List ℕ → Type 0 where
  in_trailer : {c d l t : List ℕ} (u : List ℕ) → Chunks c d → Line l 0 → Trailer (t ++ u) → InTrailer (c ++ (l ++ (crlf ++ t))) t

-- p ends with the colon behind n, the name of a trailer line
pub data AtColon : List ℕ → List ℕ → Type 0 where
  at_colon : {c d l t n : List ℕ} → Chunks c d → Line l 0 → Trailer t → Token n
      → AtColon (c ++ (l ++ (crlf ++ (t ++ (n ++ bytes ":"))))) n

-- ## The data so far
-- p begins a body, and d is the chunk data that stands in p
pub data SoFar : List ℕ → List ℕ → Type 0 where
  -- it ends in a chunk, of which u is missing: data, and CR LF
  in_chunk : {c d x : List ℕ} (q u : List ℕ) → Chunks c d → Chunk (q ++ u) x → SoFar (c ++ q) (d ++ take (length x + 2 - length u) x)
  -- it ends in the last chunk, the trailer or what closes the body
  in_last : {c d l t : List ℕ} (q u : List ℕ) → Chunks c d → Line l 0 → Trailer t → q ++ u ≡ l ++ (crlf ++ (t ++ crlf)) → SoFar (c ++ q) d

-- ## Limits

abbrev pub LINE_LIMIT : ℕ
LINE_LIMIT = 1024

abbrev pub TRAILER_LIMIT : ℕ
TRAILER_LIMIT = 8192

-- "By RFC 2616 14.40 a trailer must not hold `Transfer-Encoding`, `Content-Length` or `Trailer`"
abbrev pub forbidden : List (List ℕ)
forbidden = bytes "Transfer-Encoding" ∷ bytes "Content-Length" ∷ bytes "Trailer" ∷ []

-- n is one of these names, "letter case ignored"
pub data Named (n : List ℕ) : List (List ℕ) → Type 0 where
  first : {f : List ℕ} {fs : List (List ℕ)} → alike n f ≡ true → Named n (f ∷ fs)
  later : {f : List ℕ} {fs : List (List ℕ)} → Named n fs → Named n (f ∷ fs)

-- the last byte of these breaks the limit of that number, in that room
pub data Broken (room : ℕ) : ℕ → List ℕ → Type 0 where
  -- row 5: "chunk line above 1,024 bytes", at "its byte 1,025"
  long_line : {p l : List ℕ} → InLine p l → length l ≡ suc LINE_LIMIT → Broken room LINE_TOO_LONG p
  -- row 6: "trailer above 8,192 bytes", at "its byte 8,193"
  long_trailer : {p t : List ℕ} → InTrailer p t → length t ≡ suc TRAILER_LIMIT → Broken room TRAILER_TOO_LONG p
  -- row 7: "the digit with which finished chunks plus the value read so far pass" the room
  no_room : {p : List ℕ} {t v w : ℕ} → AtDigit p t v w → t + v ≤ room → room < t + w → Broken room BODY_TOO_LARGE p
  -- row 15: "These names, letter case ignored, are new refusal 15 at the colon"
  forbidden_field : {p n : List ℕ} → AtColon p n → Named n forbidden → Broken room FORBIDDEN_FIELD p

-- "at one byte: 1, 5, 6, 7", then 15
abbrev pub limits : List ℕ
limits = LINE_TOO_LONG ∷ TRAILER_TOO_LONG ∷ BODY_TOO_LARGE ∷ FORBIDDEN_FIELD ∷ []

-- chunked bodies under a set of limits
abbrev pub chunked : List ℕ → Format Whole
chunked ls = record { Body = Body; Tells = Tells; limits = ls; Broken = Broken }
