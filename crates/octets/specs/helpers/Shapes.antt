-- A text against a shape: a 0 of the shape stands for any digit, every other byte for itself.
use Rattle.std.specs.Prelude.{ℕ, Bool, cond, List, ◌==◌}
use Prim.Native.Char.{code}
use Rattle.grammar.specs.helpers.Words.{matching}
use Rattle.octets.specs.Bytes.{digit?}

abbrev pub stands_for : (shape byte : ℕ) → Bool
stands_for a b = cond (a == (code "0")) (digit? b) (b == a)

-- how many bytes at the front of the text are of the shape
abbrev pub fitting : (shape text : List ℕ) → ℕ
fitting w t = matching stands_for w t
