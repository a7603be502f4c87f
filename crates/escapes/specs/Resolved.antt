-- The text of a path or a query as it is compared: RFC 2616 3.2.3 as document 01 states it.
use Rattle.std.specs.Prelude.{ℕ, ◌+◌, ◌*◌, Bool, cond, ◌&&◌, List, [], ◌∷◌, eqb}
use Prim.Native.Char.{code}
use Rattle.octets.specs.Bytes.{hex?, hex_value}
use Rattle.http_url.specs.Bytes.{unreserved?}

-- the byte that the hex digits of an escape name
abbrev pub escaped_byte : (x y : ℕ) → ℕ
escaped_byte x y = hex_value x * 16 + hex_value y

-- "an escape of a letter, a digit or one of `- _ . ! ~ * ' ( )`"
abbrev pub unneeded? : (x y : ℕ) → Bool
unneeded? x y = hex? x && (hex? y && unreserved? (escaped_byte x y))

-- a text with each such escape as its character; every other byte as it is. In the texts that are read two hex digits follow each `%`.
abbrev pub resolved : List ℕ → List ℕ
resolved [] = []
resolved (a ∷ []) = a ∷ []
resolved (a ∷ x ∷ []) = a ∷ x ∷ []
resolved (a ∷ x ∷ y ∷ s) = cond (eqb a (code "%") && unneeded? x y) (escaped_byte x y ∷ resolved s) (a ∷ resolved (x ∷ y ∷ s))
