-- A name among those of a table.
use Prim.Native.Nat.{ℕ}
use mathlib.Core.Path.{◌≡◌, refl, ap}
use Rattle.std.specs.List.{list_any}
use mathlib.Core.Bool.{Bool, ◌||◌}
use mathlib.Core.List.{List, [], ◌∷◌}
use Rattle.octets.specs.Case.{alike}
use Rattle.media.specs.declared.Parameter.{Parameter}
use Rattle.media.specs.Grammar.{has_name, part_at}
use Rattle.media.specs.helpers.Places.{names_at}

-- a name among those at their places
pub any-named : (s name : List ℕ) (ps : List Parameter) → list_any (λ p. alike name (part_at s p.start p.length)) ps ≡ has_name name (names_at s ps)
any-named s name [] = refl
any-named s name (p ∷ ps) = ap (λ (t : Bool). alike name (part_at s p.start p.length) || t) (any-named s name ps)
