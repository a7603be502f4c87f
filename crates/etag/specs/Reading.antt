-- The bytes of a tag.
use Rattle.std.specs.Prelude.{ℕ, List, take, drop}
use Rattle.etag.specs.declared.Tag.{Tag}

-- the opaque bytes of a tag, those between its quotes, as sent
abbrev pub opaque_bytes : List ℕ → Tag → List ℕ
opaque_bytes s v = take v.length (drop v.start s)
