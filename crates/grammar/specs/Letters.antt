-- Letter case: RFC 2616 2.1 ignores that of the letters A to Z.
use Rattle.std.specs.Prelude.{ℕ, ◌+◌, cond, ◌&&◌, leb}
use Prim.Native.Char.{code}

-- a capital letter as the small one; any other byte as it is
unfoldable pub lower : ℕ → ℕ
lower b = cond (leb (code "A") b && leb b (code "Z")) (b + 32) b
