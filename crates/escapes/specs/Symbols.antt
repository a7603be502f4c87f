-- Texts as characters and escapes, and when two of them are equal: RFC 2616 3.2.3 as document 01 states it, over the bytes themselves.
-- proofs/Demands.antt proves that `resolved` tells it.
use Rattle.std.specs.Prelude.{ℕ, ◌≡◌, true, false, cond, List, [], ◌∷◌, ◌++◌}
use Prim.Native.Char.{code}
use Rattle.octets.specs.Bytes.{hex?}
use Rattle.escapes.specs.Resolved.{escaped_byte, unneeded?}

-- A path and a query are characters and escapes.
pub data Symbol : Type 0 where
  character : ℕ → Symbol
  escape : (x y : ℕ) → Symbol

-- the text s is these symbols: each `%` begins an escape, "`%` with two hex digits"
pub data Spelled : List ℕ → List Symbol → Type 0 where
  nothing : Spelled [] []
  a_character : {s : List ℕ} {us : List Symbol} (b : ℕ) → (b ≡ code "%" → ⊥) → Spelled s us → Spelled (b ∷ s) (character b ∷ us)
  an_escape : {s : List ℕ} {us : List Symbol} (x y : ℕ) → hex? x ≡ true → hex? y ≡ true → Spelled s us
      → Spelled (code "%" ∷ x ∷ y ∷ s) (escape x y ∷ us)

-- "an escape of a letter, a digit or one of `- _ . ! ~ * ' ( )` equals that character"; any other symbol stands for itself
abbrev pub stands_for : Symbol → Symbol
stands_for (character b) = character b
stands_for (escape x y) = cond (unneeded? x y) (character (escaped_byte x y)) (escape x y)

abbrev pub standing : List Symbol → List Symbol
standing [] = []
standing (u ∷ us) = stands_for u ∷ standing us

-- the symbols agree one by one, and the two lists end together
pub data Agree : List Symbol → List Symbol → Type 0 where
  both_end : Agree [] []
  next : {u v : Symbol} {us vs : List Symbol} → stands_for u ≡ stands_for v → Agree us vs → Agree (u ∷ us) (v ∷ vs)

abbrev pub EqualTexts : List ℕ → List ℕ → Type 0
EqualTexts s t = (us : List Symbol) × (vs : List Symbol) × Spelled s us × Spelled t vs × Agree us vs

-- nowhere in the text stands an escape that is not needed
abbrev pub NoneUnneeded : List ℕ → Type 0
NoneUnneeded s = (p t : List ℕ) (x y : ℕ) → s ≡ p ++ code "%" ∷ x ∷ y ∷ t → unneeded? x y ≡ false
