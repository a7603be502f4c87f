-- Parts that are the same, letter case ignored: each is the same as itself, and so on both ways and along a chain.
use Rattle.std.proofs.Common.{◌≡◌, ℕ, true, List}
use Rattle.grammar.specs.Grammar.{lower}
use Rattle.octets.specs.Case.{alike}
use Rattle.octets.proofs.SameBy.{by_self, by_swap, by_chain}

pub alike_self : (a : List ℕ) → alike a a ≡ true
alike_self = by_self lower

pub alike_swap : (a b : List ℕ) → alike a b ≡ alike b a
alike_swap = by_swap lower

pub alike_chain : (a b c : List ℕ) → alike a b ≡ true → alike b c ≡ true → alike a c ≡ true
alike_chain = by_chain lower
