-- Checks on a grammar that compute: it has no part that has begun; it takes no byte; its alternatives have no part that has begun, so that
-- the parts that have begun are the same on every way to read on.
use Rattle.std.specs.Prelude.{Bool, true, false, ◌&&◌, List, [], ◌∷◌}
use Rattle.grammar.specs.helpers.Derivative.{then}
use Rattle.grammar.specs.Grammar.{Part, Grammar, void, empty, byte, ◌⨾◌, ◌∣◌, star, part, rest, nest}

abbrev pub fresh? : {L : Type 0} → Grammar L → Bool
fresh? void = true
fresh? empty = true
fresh? (byte c) = true
fresh? (g ⨾ h) = fresh? g && fresh? h
fresh? (g ∣ h) = fresh? g && fresh? h
fresh? (star g) = fresh? g
fresh? (part l g) = fresh? g
fresh? (rest c g) = false
fresh? (nest o c l m g r n) = fresh? g && fresh? r

abbrev pub still? : {L : Type 0} → Grammar L → Bool
still? void = true
still? empty = true
still? (byte c) = false
still? (g ⨾ h) = still? g && still? h
still? (g ∣ h) = still? g && still? h
still? (star g) = false
still? (part l g) = false
still? (rest c g) = still? g
still? (nest o c l m g r n) = false

abbrev pub clear? : {L : Type 0} → Grammar L → Bool
clear? void = true
clear? empty = true
clear? (byte c) = true
clear? (g ⨾ h) = clear? g && clear? h
clear? (g ∣ h) = fresh? g && fresh? h
clear? (star g) = fresh? g
clear? (part l g) = fresh? g
clear? (rest c g) = clear? g
clear? (nest o c l m g r n) = fresh? g && clear? r

-- parts that have ended, and then g
abbrev pub ahead : {L : Type 0} → List (Part L) → Grammar L → Grammar L
ahead [] g = g
ahead (c ∷ cs) g = then (rest c empty) (ahead cs g)
