-- Only bytes are in a class, and one is named that is: what the classes of specs/Grammar.antt and specs/Classes.antt have to show.
use Rattle.std.specs.Prelude.{ℕ, ◌+◌, ◌≤◌, ◌<◌, ◌≡◌, refl, Bool, true, false, cond, ◌&&◌, ◌||◌, T, leb, ltb, eqb}
use Rattle.std.proofs.Common.{arith, leb-true, eqb→eq, leb→le, le→leb, ltb→lt, lt→ltb}
use Rattle.grammar.specs.Letters.{lower}

pub T-left : (a b : Bool) → T (a && b) → T a
T-left true b p = tt
T-left false b p = p

pub T-right : (a b : Bool) → T (a && b) → T b
T-right true b p = p
T-right false b p = absurd p

-- one byte
pub just-below : (b : ℕ) → T (ltb b 256) → (x : ℕ) → T (eqb x b) → T (ltb x 256)
just-below b p x h = rw (eqb→eq x b h) p

-- one byte in either letter case
lower-up : (x : ℕ) → x ≤ lower x
unfolding lower
lower-up x = go (leb 65 x && leb x 90)
  where
    go : (t : Bool) → x ≤ cond t (x + 32) x
    go true = omega arith
    go false = omega arith

lower-byte : (x : ℕ) → x < 256 → lower x < 256
unfolding lower
lower-byte x h = go (leb 65 x) (leb x 90) refl
  where
    go : (s t : Bool) → leb x 90 ≡ t → cond (s && t) (x + 32) x < 256
    go false t e = h
    go true false e = h
    go true true e = omega (arith, leb-true x 90 e)

pub fold-below : (b : ℕ) → T (ltb b 256) → (x : ℕ) → T (eqb (lower x) (lower b)) → T (ltb x 256)
fold-below b p x h = lt→ltb x 256 (omega (arith, lower-up x, lower-byte b (ltb→lt b 256 p), eqb→eq (lower x) (lower b) h))

-- the bytes from x to y
pub range-below : (x y : ℕ) → T (leb x y && ltb y 256) → (b : ℕ) → T (leb x b && leb b y) → T (ltb b 256)
range-below x y p b h =
    lt→ltb b 256 (omega (arith, ltb→lt y 256 (T-right (leb x y) (ltb y 256) p), leb→le b y (T-right (leb x b) (leb b y) h)))

pub range-some : (x y : ℕ) → T (leb x y && ltb y 256) → T (leb x x && leb x y)
range-some x y p = go (leb x x) (le→leb x x (omega arith))
  where
    go : (t : Bool) → T t → T (t && leb x y)
    go true q = T-left (leb x y) (ltb y 256) p
    go false q = q

-- the bytes that pass p, and those that pass q
abbrev Bytes : (ℕ → Bool) → Type 0
Bytes p = (b : ℕ) → T (p b) → T (ltb b 256)

pub or_below : (p q : ℕ → Bool) → Bytes p → Bytes q → (b : ℕ) → T (p b || q b) → T (ltb b 256)
or_below p q f g b h = go (p b) (q b) h (f b) (g b)
  where
    go : (s t : Bool) → T (s || t) → (T s → T (ltb b 256)) → (T t → T (ltb b 256)) → T (ltb b 256)
    go true t h f g = f tt
    go false t h f g = g h

pub or_some : (s t : Bool) → T s → T (s || t)
or_some true t h = tt
or_some false t h = absurd h
