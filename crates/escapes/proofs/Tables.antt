-- The class that is given as bits.
use mathlib.Core.Path.{refl}
use mathlib.Core.List.{[], ◌∷◌}
use Rattle.octets.specs.Bytes.{digit?, letter?}
use Rattle.octets.specs.helpers.Bits.{Bits}
use Rattle.octets.proofs.Tables.{bits}
use Rattle.http_url.specs.Bytes.{unreserved?}

pub unreserved_bits : Bits (0x3ff678200000000 ∷ 0x47fffffe87fffffe ∷ 0 ∷ 0 ∷ []) unreserved?
unfolding unreserved? digit? letter?
unreserved_bits = bits (0x3ff678200000000 ∷ 0x47fffffe87fffffe ∷ 0 ∷ 0 ∷ []) unreserved? refl
