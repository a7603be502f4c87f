-- Leading zeros: a text of digits with zeros before it is one too, and its number is the same.
use Prim.Native.Nat.{ℕ, zero, suc}
use Prim.Native.Char.{code}
use mathlib.Core.Path.{◌≡◌, refl}
use mathlib.Core.List.{List, [], ◌∷◌, ◌++◌}
use lib.ListN.{replicate}
use Rattle.grammar.specs.Grammar.{Class, Part, byte, Parses, Many, none, more}
use Rattle.grammar.specs.Beginnings.{Matches}
use Rattle.grammar.proofs.Regroup.{star-more}
use Rattle.octets.specs.Bytes.{digit?}
use Rattle.octets.specs.Classes.{DIGIT}
use Rattle.octets.specs.Numbers.{number}
use Rattle.delta.specs.Grammar.{Name, seconds, delta_seconds}

-- bytes of a class are so at any place
elsewhere : (c : Class) (i j : ℕ) (s : List ℕ) (ps : List (Part Name)) → Many (Parses (byte c)) i s ps → Many (Parses (byte c)) j s ps
elsewhere c i j s ps none = none
elsewhere c i j s ps (more b t u qs rs p m) = more b t u qs rs p (elsewhere c _ _ u rs m)

zero-first : (s : List ℕ) → Matches delta_seconds s → Matches delta_seconds (code "0" ∷ s)
unfolding digit?
zero-first s m =
    let qs = m.1.0 in
    let digits = elsewhere DIGIT 0 1 s qs (star-more 0 s qs (byte DIGIT) (λ t. t) m.1.2) in (
      record { label = seconds; start = 0; text = code "0" ∷ s } ∷ qs,
      (qs, refl, (code "0" ∷ [], s, [], qs, refl, refl, (code "0", refl, tt, refl), digits)),
    )

abbrev pub zeros : ℕ → List ℕ → List ℕ
zeros n s = replicate n (code "0") ++ s

pub zeros_match : (n : ℕ) (s : List ℕ) → Matches delta_seconds s → Matches delta_seconds (zeros n s)
zeros_match zero s m = m
zeros_match (suc n) s m = zero-first (zeros n s) (zeros_match n s m)

pub zeros-number : (n : ℕ) (s : List ℕ) → number (zeros n s) ≡ number s
zeros-number zero s = refl
zeros-number (suc n) s = zeros-number n s
