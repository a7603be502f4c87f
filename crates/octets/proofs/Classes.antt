-- The tests of letters and blanks are those of classes that are put together from ranges and single bytes.
use Rattle.std.specs.Prelude.{◌≡◌, refl}
use Prim.Native.Char.{code}
use Rattle.grammar.specs.Grammar.{just}
use Rattle.grammar.specs.Classes.{range, ◌or◌}
use Rattle.octets.specs.Bytes.{letter?, blank?}

pub letter-is : letter? ≡ (range (code "A") (code "Z") tt or range (code "a") (code "z") tt).has
unfolding letter?
letter-is = refl

pub blank-is : blank? ≡ (just (code " ") tt or just (code "\t") tt).has
unfolding blank?
blank-is = refl
