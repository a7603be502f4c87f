-- Classes of bytes, put together from ranges and single bytes.
use Rattle.std.specs.Prelude.{ℕ, Bool, false, ◌&&◌, ◌||◌, not, List, [], ◌∷◌, T, leb, ltb, eqb}
use Rattle.grammar.specs.helpers.Bounds.{T-left, range-below, range-some, or_below, or_some}
use Rattle.grammar.specs.Grammar.{Class}

-- b is one of the bytes xs
abbrev pub one_of : List ℕ → ℕ → Bool
one_of [] b = false
one_of (x ∷ xs) b = eqb b x || one_of xs b

-- the bytes from x to y
abbrev pub range : (x y : ℕ) → T (leb x y && ltb y 256) → Class
range x y p = record { has = λ b. leb x b && leb b y; below = range-below x y p; some = x; holds = range-some x y p }

-- the bytes of c and those of d
infixr 42 ◌or◌
abbrev pub ◌or◌ : Class → Class → Class
c or d =
    record {
      has = λ b. c.has b || d.has b;
      below = or_below c.has d.has c.below d.below;
      some = c.some;
      holds = or_some (c.has c.some) (d.has c.some) c.holds;
    }

-- the bytes of c without those of xs; x is one that is left
abbrev pub but : (c : Class) (xs : List ℕ) (x : ℕ) → T (c.has x && not (one_of xs x)) → Class
but c xs x p =
    record {
      has = λ b. c.has b && not (one_of xs b);
      below = λ b h. c.below b (T-left (c.has b) (not (one_of xs b)) h);
      some = x;
      holds = p;
    }
