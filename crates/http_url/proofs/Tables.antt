-- The classes that are given as bits.
use Rattle.std.proofs.Common.{[], ◌∷◌, refl}
use Rattle.octets.specs.Bytes.{digit?, letter?, hex?}
use Rattle.octets.specs.helpers.Bits.{Bits}
use Rattle.octets.proofs.Tables.{bits}
use Rattle.http_url.specs.Bytes.{host?, unreserved?, path?, query?}

pub host-bits : Bits (0x3ff600000000000 ∷ 0x7fffffe07fffffe ∷ 0 ∷ 0 ∷ []) host?
unfolding host? digit? letter?
host-bits = bits (0x3ff600000000000 ∷ 0x7fffffe07fffffe ∷ 0 ∷ 0 ∷ []) host? refl

pub path-bits : Bits (0x2fffffd200000000 ∷ 0x47fffffe87ffffff ∷ 0 ∷ 0 ∷ []) path?
unfolding path? unreserved? digit? letter?
path-bits = bits (0x2fffffd200000000 ∷ 0x47fffffe87ffffff ∷ 0 ∷ 0 ∷ []) path? refl

pub query-bits : Bits (0xafffffd200000000 ∷ 0x47fffffe87ffffff ∷ 0 ∷ 0 ∷ []) query?
unfolding query? path? unreserved? digit? letter?
query-bits = bits (0xafffffd200000000 ∷ 0x47fffffe87ffffff ∷ 0 ∷ 0 ∷ []) query? refl

pub hex_bits : Bits (0x3ff000000000000 ∷ 0x7e0000007e ∷ 0 ∷ 0 ∷ []) hex?
unfolding hex?
hex_bits = bits (0x3ff000000000000 ∷ 0x7e0000007e ∷ 0 ∷ 0 ∷ []) hex? refl
