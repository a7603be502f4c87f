-- No text of the same value is shorter than the one that the writer gives.
use Prim.Native.Nat.{ℕ, ◌+◌, ◌≤◌}
use native.Mathlib.Omega.{arith}
use mathlib.Core.Path.{◌≡◌}
use mathlib.Core.Logic.{inl, inr}
use mathlib.Core.List.{List, [], ◌∷◌, append-nil}
use lib.Dec.{T, ltb}
use lib.ListN.{length}
use Rattle.grammar.specs.Grammar.{Class, Part, Parses, past, byte, ◌⨾◌, part, just}
use Rattle.octets.specs.Classes.{DIGIT}
use Rattle.qvalue.specs.Grammar.{Name, whole, decimals, qvalue, thousandths}
use Rattle.qvalue.proofs.Values.{worth, no_parts}
use Rattle.qvalue_writer.specs.Writing.{qvalue_text}
use Rattle.qvalue_writer.proofs.Text.{no_digit, at-most_three, at-most-four, at-most_five}

one : (b : ℕ) → length (qvalue_text (worth (b ∷ []))) ≡ 1
one b = no_digit (worth (b ∷ [])) (omega arith)

behind-point : (b : ℕ) (t : List ℕ) → length (qvalue_text (worth (b ∷ t))) ≤ 2 + length t
behind-point b [] = omega (arith, one b)
behind-point b (x ∷ []) = at-most_three (worth (b ∷ x ∷ [])) (omega arith)
behind-point b (x ∷ y ∷ []) = at-most-four (worth (b ∷ x ∷ y ∷ [])) (omega arith)
behind-point b (x ∷ y ∷ z ∷ t) = omega (arith, at-most_five (worth (b ∷ x ∷ y ∷ z ∷ t)))

form_shortest : (w : ℕ) (k : T (ltb w 256)) (c : Class) (s : List ℕ) (ps : List (Part Name))
    → Parses (part whole (byte (just w k)) ⨾ decimals c) 0 s ps
    → length (qvalue_text (thousandths ps)) ≤ length s
form_shortest w k c s ps (t, u, qs, rs, es, ep, (qs', eq, (b, et, h, e)), inl (eu, er)) =
    rw (ep, eq, e, er, es, et, eu) (omega (arith, one b))
form_shortest w k c s ps (t, u, qs, rs, es, ep, (qs', eq, (b, et, h, e)), inr (t₂, u₂, qs₂, rs₂, eu, er, (b₂, et₂, h₂, e₂), (qs₃, e₃, p))) =
    rw (ep, eq, e, er, e₂, e₃, no_parts 3 c (past (past 0 t) t₂) u₂ qs₃ p, es, et, eu, et₂, append-nil u₂)
    (omega (arith, behind-point b u₂))

pub shortest_text : (s : List ℕ) (ps : List (Part Name)) → Parses qvalue 0 s ps → length (qvalue_text (thousandths ps)) ≤ length s
shortest_text s ps (inl p) = form_shortest 48 tt DIGIT s ps p
shortest_text s ps (inr p) = form_shortest 49 tt (just 48 tt) s ps p
