-- The classes that are given as bits: each by one test, computed over all 256 bytes.
use Rattle.std.proofs.Common.{◌≡◌, ℕ, Bool, List, [], ◌∷◌, refl, arith}
use Rattle.octets.specs.Bytes.{digit?, letter?, blank?, token?, content?, text?, escaped?}
use Rattle.octets.specs.helpers.Bits.{member, Bits}
use Rattle.octets.proofs.Spans.{values, by_range}

-- the bits of a test, where antt computes both alike
pub bits : (words : List ℕ) (p : ℕ → Bool) → values (member words) 0 256 ≡ values p 0 256 → Bits words p
bits words p e b h = by_range (member words) p 0 256 e b (omega arith) h

pub digit_bits : Bits (0x3ff000000000000 ∷ 0 ∷ 0 ∷ 0 ∷ []) digit?
unfolding digit?
digit_bits = bits (0x3ff000000000000 ∷ 0 ∷ 0 ∷ 0 ∷ []) digit? refl

pub letter-bits : Bits (0 ∷ 0x7fffffe07fffffe ∷ 0 ∷ 0 ∷ []) letter?
unfolding letter?
letter-bits = bits (0 ∷ 0x7fffffe07fffffe ∷ 0 ∷ 0 ∷ []) letter? refl

pub blank-bits : Bits (0x100000200 ∷ 0 ∷ 0 ∷ 0 ∷ []) blank?
unfolding blank?
blank-bits = bits (0x100000200 ∷ 0 ∷ 0 ∷ 0 ∷ []) blank? refl

pub token-bits : Bits (0x3ff6cfa00000000 ∷ 0x57ffffffc7fffffe ∷ 0 ∷ 0 ∷ []) token?
unfolding token?
token-bits = bits (0x3ff6cfa00000000 ∷ 0x57ffffffc7fffffe ∷ 0 ∷ 0 ∷ []) token? refl

pub content-bits : Bits (0xffffffff00000200 ∷ 0x7fffffffffffffff ∷ 0xffffffffffffffff ∷ 0xffffffffffffffff ∷ []) content?
unfolding content?
content-bits = bits (0xffffffff00000200 ∷ 0x7fffffffffffffff ∷ 0xffffffffffffffff ∷ 0xffffffffffffffff ∷ []) content? refl

pub text-bits : Bits (0xfffffffb00000200 ∷ 0x7fffffffefffffff ∷ 0xffffffffffffffff ∷ 0xffffffffffffffff ∷ []) text?
unfolding text?
text-bits = bits (0xfffffffb00000200 ∷ 0x7fffffffefffffff ∷ 0xffffffffffffffff ∷ 0xffffffffffffffff ∷ []) text? refl

pub escaped_bits : Bits (0xffffffff00000200 ∷ 0x7fffffffffffffff ∷ 0 ∷ 0 ∷ []) escaped?
unfolding escaped?
escaped_bits = bits (0xffffffff00000200 ∷ 0x7fffffffffffffff ∷ 0 ∷ 0 ∷ []) escaped? refl
