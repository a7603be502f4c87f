-- Lines of an input, and bytes spelled in hexadecimal, as document 01 has them for its programs. Definitions alone; no machine stands here.
use Rattle.std.specs.Prelude.{◌≡◌, true, false, List, [], ◌∷◌, ◌++◌, ℕ, ◌+◌, ◌*◌, ◌<◌, eqb, length}
use Prim.Native.Char.{code}
use Rattle.octets.specs.Bytes.{hex?, hex_value}

-- no byte is LF
pub data NoLf : List ℕ → Type 0 where
  none : NoLf []
  more : {b : ℕ} {xs : List ℕ} → eqb b (code "\n") ≡ false → NoLf xs → NoLf (b ∷ xs)

-- the lines of an input, each without its LF: "ended by LF or the end of input"; "After the last LF, nothing left is no line", and so an
-- empty input has none
pub data Lines : List ℕ → List (List ℕ) → Type 0 where
  none : Lines [] []
  last : {l : List ℕ} → NoLf l → 0 < length l → Lines l (l ∷ [])
  next : {l xs : List ℕ} {ls : List (List ℕ)} → NoLf l → Lines xs ls → Lines (l ++ (code "\n" ∷ xs)) (l ∷ ls)

-- "lines of hexadecimal, one frame a line, either case": two digits for each byte
pub data Spells : List ℕ → List ℕ → Type 0 where
  none : Spells [] []
  pair : {a b : ℕ} {xs ys : List ℕ} → hex? a ≡ true → hex? b ≡ true → Spells xs ys
      → Spells (a ∷ b ∷ xs) ((hex_value a * 16 + hex_value b) ∷ ys)

-- "at most 32,768 digits"
abbrev pub DIGIT_LIMIT : ℕ
DIGIT_LIMIT = 32768
