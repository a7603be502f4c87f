-- Grammars of header values with named parts, and what each one means: `Parses g i s ps`, the text s (a list of bytes), which stands
-- at the place i, is one of g's, and ps are its parts in order, each with its name, the place where it starts and its bytes.
use Rattle.std.specs.Prelude.{ℕ, zero, suc, ◌≡◌, ◌⊎◌, Bool, true, ◌&&◌, List, [], ◌∷◌, ◌++◌, T, ltb, eqb}
use Rattle.std.proofs.Math.Dec.{eqb_refl}
use Rattle.grammar.specs.helpers.Bounds.{fold-below}
-- names that crates above take from here
pub use Rattle.grammar.specs.helpers.Bounds.{T-left, T-right, just-below}
unfoldable pub use Rattle.grammar.specs.Letters.{lower}

-- A class of bytes: a test that only bytes pass, with one that does, so that no class is void.
pub record Class : Type 0 where
  pub has : ℕ → Bool
  pub below : (b : ℕ) → T (has b) → T (ltb b 256)
  pub some : ℕ
  pub holds : T (has some)

pub record Part (L : Type 0) : Type 0 where
  pub label : L
  pub start : ℕ
  pub text : List ℕ

-- What is left of a grammar behind a byte is again a grammar, of this same type, so that each law is stated once for both. Two forms are
-- there for that: `rest`, a part that has begun, and `nest` with an item that has begun and levels that are open. The grammar of a
-- kind of header value has `rest` nowhere (`fresh?` of helpers/Checks.antt tests it), and writes `nested`, below, for `nest`.
infixr 45 ◌⨾◌
infixr 40 ◌∣◌
pub data Grammar (L : Type 0) : Type 0 where
  void empty : Grammar L
  byte : Class → Grammar L
  ◌⨾◌ ◌∣◌ : Grammar L → Grammar L → Grammar L
  star : Grammar L → Grammar L
  -- a text of g is a part of that name
  part : L → Grammar L → Grammar L
  -- rest c g: c is a part that has begun, and a text of g is the rest of it
  rest : Part L → Grammar L → Grammar L
  -- nest o c l m g r n: the rest r of an item, and then what closes n + 1 nested levels of items g; a byte that opens a level, of o, is a
  -- part l, and one that closes a level, of c, a part m
  nest : (o c : Class) (l m : L) (g r : Grammar L) → ℕ → Grammar L

-- the place after the bytes s, which stand at i
abbrev pub past : ℕ → List ℕ → ℕ
past i [] = i
past i (b ∷ s) = past (suc i) s

-- a part with more bytes
abbrev pub grown : {L : Type 0} → Part L → List ℕ → Part L
grown c s = record { label = c.label; start = c.start; text = c.text ++ s }

-- none, one or more texts of P, one after the other; none of them is empty
pub data Many {L : Type 0} (P : ℕ → List ℕ → List (Part L) → Type 0) : ℕ → List ℕ → List (Part L) → Type 0 where
  none : {i : ℕ} → Many P i [] []
  more : {i : ℕ} (b : ℕ) (t u : List ℕ) (ps qs : List (Part L)) → P i (b ∷ t) ps → Many P (past (suc i) t) u qs
      → Many P i (b ∷ (t ++ u)) (ps ++ qs)

-- a text at whose beginning n levels are open, and none at its end: items P stand only within a level
pub data Nest {L : Type 0} (o c : Class) (l m : L) (P : ℕ → List ℕ → List (Part L) → Type 0) : ℕ → ℕ → List ℕ → List (Part L) → Type 0 where
  out : {i : ℕ} → Nest o c l m P zero i [] []
  item : {n i : ℕ} (b : ℕ) (t u : List ℕ) (ps qs : List (Part L)) → P i (b ∷ t) ps → Nest o c l m P (suc n) (past (suc i) t) u qs
      → Nest o c l m P (suc n) i (b ∷ (t ++ u)) (ps ++ qs)
  opens : {n i : ℕ} (b : ℕ) (u : List ℕ) (ps : List (Part L)) → T (o.has b) → Nest o c l m P (suc (suc n)) (suc i) u ps
      → Nest o c l m P (suc n) i (b ∷ u) (record { label = l; start = i; text = b ∷ [] } ∷ ps)
  closes : {n i : ℕ} (b : ℕ) (u : List ℕ) (ps : List (Part L)) → T (c.has b) → Nest o c l m P n (suc i) u ps
      → Nest o c l m P (suc n) i (b ∷ u) (record { label = m; start = i; text = b ∷ [] } ∷ ps)

abbrev pub Parses : {L : Type 0} → Grammar L → ℕ → List ℕ → List (Part L) → Type 0
Parses void i s ps = ⊥
Parses empty i s ps = (s ≡ []) × (ps ≡ [])
Parses (byte c) i s ps = (b : ℕ) × (s ≡ b ∷ []) × T (c.has b) × (ps ≡ [])
Parses {L} (g ⨾ h) i s ps =
    (t : List ℕ) × (u : List ℕ) × (qs : List (Part L)) × (rs : List (Part L)) × (s ≡ t ++ u) × (ps ≡ qs ++ rs)
    × Parses g i t qs × Parses h (past i t) u rs
Parses (g ∣ h) i s ps = Parses g i s ps ⊎ Parses h i s ps
Parses (star g) i s ps = Many (Parses g) i s ps
Parses {L} (part l g) i s ps = (qs : List (Part L)) × (ps ≡ record { label = l; start = i; text = s } ∷ qs) × Parses g i s qs
Parses {L} (rest c g) i s ps = (qs : List (Part L)) × (ps ≡ grown c s ∷ qs) × Parses g i s qs
Parses {L} (nest o c l m g r n) i s ps =
    (t : List ℕ) × (u : List ℕ) × (qs : List (Part L)) × (rs : List (Part L)) × (s ≡ t ++ u) × (ps ≡ qs ++ rs)
    × Parses r i t qs × Nest o c l m (Parses g) (suc n) (past i t) u rs

-- ## Derived forms

abbrev pub opt : {L : Type 0} → Grammar L → Grammar L
opt g = empty ∣ g

abbrev pub plus : {L : Type 0} → Grammar L → Grammar L
plus g = g ⨾ star g

-- from none to n texts of g
abbrev pub up_to : {L : Type 0} → ℕ → Grammar L → Grammar L
up_to zero g = empty
up_to (suc n) g = opt (g ⨾ up_to n g)

-- one byte, as it is
abbrev pub just : (b : ℕ) → T (ltb b 256) → Class
just b p = record { has = λ x. eqb x b; below = just-below b p; some = b; holds = eqb_refl b }

-- one byte, in either letter case
abbrev pub fold : (b : ℕ) → T (ltb b 256) → Class
fold b p = record { has = λ x. eqb (lower x) (lower b); below = fold-below b p; some = b; holds = eqb_refl (lower b) }

abbrev pub bytes? : List ℕ → Bool
bytes? [] = true
bytes? (b ∷ s) = ltb b 256 && bytes? s

-- the bytes l as they are, and then g
abbrev pub lit : {L : Type 0} → (l : List ℕ) → T (bytes? l) → Grammar L → Grammar L
lit [] p g = g
lit (b ∷ l) p g = byte (just b (T-left (ltb b 256) (bytes? l) p)) ⨾ lit l (T-right (ltb b 256) (bytes? l) p) g

-- the bytes l in any letter case, and then g
abbrev pub spell : {L : Type 0} → (l : List ℕ) → T (bytes? l) → Grammar L → Grammar L
spell [] p g = g
spell (b ∷ l) p g = byte (fold b (T-left (ltb b 256) (bytes? l) p)) ⨾ spell l (T-right (ltb b 256) (bytes? l) p) g

-- an item that may hold itself, as a comment does: o, items g and such items, c
abbrev pub nested : {L : Type 0} → Class → Class → L → L → Grammar L → Grammar L
nested o c l m g = part l (byte o) ⨾ nest o c l m g empty zero
