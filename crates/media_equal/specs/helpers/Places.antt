-- For the contracts of the helpers that compare parts at their places.
use Rattle.std.specs.Prelude.{ℕ, Bool, ◌&&◌, List}
use Rattle.octets.specs.Case.{alike}
use Rattle.media.specs.declared.MediaType.{MediaType}
use Rattle.media.specs.Grammar.{part_at}

-- type and subtype are the same, letter case ignored
abbrev pub same_names : (a : List ℕ) → MediaType → (b : List ℕ) → MediaType → Bool
same_names a m b n =
    alike (part_at a m.type_start m.type_length) (part_at b n.type_start n.type_length)
    && alike (part_at a m.subtype_start m.subtype_length) (part_at b n.subtype_start n.subtype_length)
