-- Quoted strings byte by byte: what the grammar of header values calls one is text and pairs, one after the other.
use mathlib.Core.Path.{◌≡◌, refl, sym, subst}
use mathlib.Core.Bool.{Bool, true, false}
use mathlib.Core.List.{List, [], ◌∷◌, ◌++◌}
use mathlib.Core.Logic.{inl, inr}
use Prim.Native.Nat.{ℕ, suc}
use lib.Dec.{T, eqb}
use borrow.Author.Tests.{eqb-true}
use Rattle.octets.specs.Bytes.{text?, escaped?}
use Rattle.octets.specs.Classes.{TEXT, ESCAPED}
use Rattle.octets.specs.Quoted.{BACKSLASH}
use Rattle.grammar.specs.Grammar.{Part, Many, none, more, Parses, byte, ◌⨾◌, ◌∣◌}
use Rattle.grammar.proofs.Derivative.{T_true}
use Rattle.framing.specs.Grammar.{Inside}

pub data Spelled : List ℕ → Type 0 where
  end : Spelled []
  text : {b : ℕ} {xs : List ℕ} → text? b ≡ true → Spelled xs → Spelled (b ∷ xs)
  pair : {b : ℕ} {xs : List ℕ} → escaped? b ≡ true → Spelled xs → Spelled (92 ∷ b ∷ xs)

holds : (x : Bool) → x ≡ true → T x
holds true e = tt
holds false e = absurd (subst T (sym e) tt)

abbrev Label : Type 0
Label = Unit {0}

abbrev Step : ℕ → List ℕ → List (Part Label) → Type 0
Step i s ps = Parses {L = Label} (byte TEXT ∣ (byte BACKSLASH ⨾ byte ESCAPED)) i s ps

parsed : {xs : List ℕ} → Spelled xs → (i : ℕ) → Many Step i xs []
parsed end i = none
parsed (text {b = b} {xs = xs} h w) i = more b [] xs [] [] (inl (b, refl, holds (text? b) h, refl)) (parsed w (suc i))
parsed (pair {b = b} {xs = xs} h w) i =
    more 92 (b ∷ []) xs [] []
    (inr (92 ∷ [], b ∷ [], [], [], refl, refl, (92, refl, tt, refl), (b, refl, holds (escaped? b) h, refl))) (parsed w (suc (suc i)))

one : (b c : ℕ) (t u : List ℕ) → b ∷ t ≡ c ∷ [] → text? c ≡ true → Spelled u → Spelled (b ∷ (t ++ u))
one b c t u e h w =
    let x : b ≡ c = cc in
    let y : t ≡ [] = cc in
    subst (λ (z : List ℕ). Spelled (z ++ u)) (sym e) (text h w)

two : (b c d : ℕ) (t u x y : List ℕ) → b ∷ t ≡ x ++ y → x ≡ c ∷ [] → y ≡ d ∷ [] → c ≡ 92 → escaped? d ≡ true → Spelled u
    → Spelled (b ∷ (t ++ u))
two b c d t u x y e f g k h w =
    let z : b ∷ t ≡ 92 ∷ d ∷ [] = rw (f, g, k) at e in
    subst (λ (s : List ℕ). Spelled (s ++ u)) (sym z) (pair h w)

spelled-from : {i : ℕ} {xs : List ℕ} {ps : List (Part Label)} → Many Step i xs ps → Spelled xs
spelled-from none = end
spelled-from (more b t u ps qs (inl h) m) = one b h.0 t u h.1 (T_true (text? h.0) h.2) (spelled-from m)
spelled-from (more b t u ps qs (inr h) m) =
    let x = h.6 in
    let y = h.7 in
    two b x.0 y.0 t u h.0 h.1 h.4 x.1 y.1 (eqb-true x.0 92 (T_true (eqb x.0 92) x.2))
    (T_true (escaped? y.0) y.2) (spelled-from m)

pub spelled : (xs : List ℕ) → Inside xs → Spelled xs
spelled xs h = spelled-from h.1

pub inside : {xs : List ℕ} → Spelled xs → Inside xs
inside w = ([], parsed w 0)
