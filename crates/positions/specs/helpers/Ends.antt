-- The byte that ends a line.
use Rattle.std.specs.Prelude.{ℕ}
use Prim.Native.Char.{code}

abbrev pub cr_byte : ℕ
cr_byte = code "\r"
