-- What the parts of a text tell of its value: it is at most 1000.
use Prim.Native.Nat.{ℕ, zero, suc, ◌+◌, ◌-◌, ◌*◌, ◌≤◌}
use native.Mathlib.Omega.{arith}
use mathlib.Core.Path.{◌≡◌, ◌∙◌}
use mathlib.Core.Logic.{inl, inr}
use mathlib.Core.List.{List, [], ◌∷◌, ◌++◌, append-nil}
use lib.Dec.{T, leb, ltb, eqb, leb→le, eqb→eq}
use lib.ListN.{get_or, take}
use Rattle.grammar.specs.Grammar.{Class, Part, Parses, past, byte, ◌⨾◌, up_to, part, just, T-right}
use Rattle.octets.specs.Bytes.{digit?}
use Rattle.octets.specs.Classes.{DIGIT}
use Rattle.octets.specs.Numbers.{number}
use Rattle.qvalue.specs.Grammar.{Name, whole, decimals, qvalue, thousandths, largest}
use Rattle.qvalue.proofs.Scan.{padded}

-- digits with zeros behind them, as thousandths
abbrev pub worth : List ℕ → ℕ
worth t = number (take 4 (t ++ (48 ∷ 48 ∷ 48 ∷ [])))

-- bytes outside parts have no parts
pub no_parts : (n : ℕ) (c : Class) (i : ℕ) (s : List ℕ) (ps : List (Part Name)) → Parses (up_to n (byte c)) i s ps → ps ≡ []
no_parts zero c i s ps (es, ep) = ep
no_parts (suc n) c i s ps (inl (es, ep)) = ep
no_parts (suc n) c i s ps (inr (t, u, qs, rs, es, ep, (b, et, h, e), p)) = ep ∙ rw (e, no_parts n c (past i t) u rs p)

-- no digit is above m
worth-small : (b m : ℕ) (t : List ℕ) → ((k : ℕ) → get_or t k 48 ≤ m) → worth (b ∷ t) ≤ (b - 48) * 1000 + (m - 48) * 111
worth-small b m t h = rw (padded t) (omega (arith, h 0, h 1, h 2))

-- c is a class of bytes up to m, the zero among them, and w the byte of the first digit
module _ (c : Class) (zero_in : T (c.has 48)) (m : ℕ) (top : (b : ℕ) → T (c.has b) → b ≤ m) where
  -- every byte, a zero in place of what is missing, is of the class
  in_class : (n i : ℕ) (s : List ℕ) (ps : List (Part Name)) → Parses (up_to n (byte c)) i s ps → (k : ℕ) → T (c.has (get_or s k 48))
  in_class zero i s ps (es, ep) k = rw es zero_in
  in_class (suc n) i s ps (inl (es, ep)) k = rw es zero_in
  in_class (suc n) i s ps (inr (t, u, qs, rs, es, ep, (b, et, h, e), p)) zero = rw (es, et) h
  in_class (suc n) i s ps (inr (t, u, qs, rs, es, ep, (b, et, h, e), p)) (suc k) = rw (es, et) (in_class n (past i t) u rs p k)

  form_small : (w : ℕ) (k : T (ltb w 256)) (s : List ℕ) (ps : List (Part Name)) → Parses (part whole (byte (just w k)) ⨾ decimals c) 0 s ps
      → thousandths ps ≤ (w - 48) * 1000 + (m - 48) * 111
  form_small w k s ps (t, u, qs, rs, es, ep, (qs', eq, (b, et, h, e)), inl (eu, er)) =
      rw (ep, eq, e, er, et, eqb→eq b w h) (worth-small w m [] (λ j. top 48 zero_in))
  form_small w k s ps (t, u, qs, rs, es, ep, (qs', eq, (b, et, h, e)), inr (t₂, u₂, qs₂, rs₂, eu, er, (b₂, et₂, h₂, e₂), (qs₃, e₃, p))) =
      rw (ep, eq, e, er, e₂, e₃, no_parts 3 c (past (past 0 t) t₂) u₂ qs₃ p, et, append-nil u₂, eqb→eq b w h)
      (worth-small w m u₂ (λ j. top (get_or u₂ j 48) (in_class 3 (past (past 0 t) t₂) u₂ qs₃ p j)))

digit_top : (b : ℕ) → T (digit? b) → b ≤ 57
unfolding digit?
digit_top b h = leb→le b 57 (T-right (leb 48 b) (leb b 57) h)

zero_top : (b : ℕ) → T (eqb b 48) → b ≤ 48
zero_top b h = omega (arith, eqb→eq b 48 h)

pub at_most_one : (s : List ℕ) (ps : List (Part Name)) → Parses qvalue 0 s ps → thousandths ps ≤ largest
at_most_one s ps (inl p) = omega (arith, form_small DIGIT DIGIT.holds 57 digit_top 48 tt s ps p)
at_most_one s ps (inr p) = form_small (just 48 tt) tt 48 zero_top 49 tt s ps p
