-- Where the text and pairs of a quoted string stop: what `quoted_end` answers.
use Rattle.std.specs.Prelude.{ℕ, suc, ◌+◌, Bool, true, false, cond, List, [], ◌∷◌, drop, ◌==◌}
use Prim.Native.Char.{code}
use Rattle.octets.specs.Bytes.{text?, escaped?}

-- how many bytes at the front of s may stand between quotes; `pair` says that a backslash stands before them
abbrev pub quoted_length : (pair : Bool) → List ℕ → ℕ
quoted_length pair [] = 0
quoted_length true (b ∷ s) = cond (escaped? b) (suc (quoted_length false s)) 0
quoted_length false (b ∷ s) = cond (text? b) (suc (quoted_length false s)) (cond (b == (code "\\")) (suc (quoted_length true s)) 0)

-- the place where the text and pairs that stand at i in s stop: at the closing quote, at a byte that may not stand there, or at the end
abbrev pub quoted_end : List ℕ → ℕ → ℕ
quoted_end s i = i + quoted_length false (drop i s)
