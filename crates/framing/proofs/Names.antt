-- What the machine keeps of a name says whether it is one of a list. For any list of names without a colon.
use mathlib.Core.Path.{◌≡◌, refl, sym, ◌∙◌, ap, ap₂}
use mathlib.Core.Bool.{Bool, true, false, ◌&&◌, not}
use mathlib.Core.List.{List, [], ◌∷◌, ◌++◌}
use Prim.Native.Nat.{ℕ, zero, suc, ◌+◌, ◌*◌, ◌/◌, ◌%◌, ◌<◌, ◌≤◌}
use native.Mathlib.Omega.{arith}
use lib.Dec.{eqb}
use lib.ListN.{length, get_or}
use borrow.Author.Tests.{eqb-true, eq-eqb, ne_eqb}
use Rattle.grammar.specs.Grammar.{lower}
use Rattle.octets.specs.Case.{alike}
use Rattle.framing.specs.Grammar as G
use Rattle.framing.specs.Grammar.{Named}
use Rattle.framing.specs.helpers.Names.{small, texts, has, odd, bit, every, going_on}
use Rattle.framing.proofs.Cases.{false-true}
use Rattle.framing.proofs.Ranks.{Each}

-- ## What agrees with a name
-- a text begins with n, letter case ignored
abbrev pub begins : List ℕ → List ℕ → Bool
begins [] f = true
begins (b ∷ n) [] = false
begins (b ∷ n) (c ∷ f) = eqb (lower b) c && begins n f

-- the texts that do, as bits
unfoldable pub agreeing : List (List ℕ) → List ℕ → ℕ
agreeing [] n = 0
agreeing (f ∷ fs) n = bit (begins n f) + 2 * agreeing fs n

-- ## A byte on
and-true : (x : Bool) → (x && true) ≡ x
and-true true = refl
and-true false = refl

and_second : (x : Bool) {y : Bool} → (x && y) ≡ true → y ≡ true
and_second true e = e
and_second false e = false-true e

and-false : (x : Bool) → (x && false) ≡ false
and-false true = refl
and-false false = refl

and_assoc : (x y z : Bool) → (x && (y && z)) ≡ ((x && y) && z)
and_assoc true y z = refl
and_assoc false y z = refl

begins-on : (n f : List ℕ) (b : ℕ) → begins (n ++ (b ∷ [])) f ≡ (begins n f && has f (length n) b)
begins-on [] [] b = refl
begins-on [] (c ∷ f) b = and-true (eqb (lower b) c)
begins-on (a ∷ n) [] b = refl
begins-on (a ∷ n) (c ∷ f) b =
    ap (λ (z : Bool). eqb (lower a) c && z) (begins-on n f b) ∙ and_assoc (eqb (lower a) c) (begins n f) (has f (length n) b)

low_bit : (x : Bool) (y : ℕ) → odd (bit x + 2 * y) ≡ x
low_bit true y = eq-eqb ((1 + 2 * y) % 2) 1 (omega arith)
low_bit false y = ne_eqb ((0 + 2 * y) % 2) 1 (λ (e : (0 + 2 * y) % 2 ≡ 1). absurd (omega arith))

other-bits : (x : Bool) (y : ℕ) → (bit x + 2 * y) / 2 ≡ y
other-bits true y = omega arith
other-bits false y = omega arith

pub agrees_on : (fs : List (List ℕ)) (n : List ℕ) (b : ℕ) → going_on fs (agreeing fs n) (length n) b ≡ agreeing fs (n ++ (b ∷ []))
unfolding going_on agreeing
agrees_on [] n b = refl
agrees_on (f ∷ fs) n b =
    ap₂ (λ (x : Bool) (m : ℕ). bit (x && has f (length n) b) + 2 * going_on fs m (length n) b) (low_bit (begins n f) (agreeing fs n))
    (other-bits (begins n f) (agreeing fs n))
    ∙ ap₂ (λ (x : Bool) (m : ℕ). bit x + 2 * m) (sym (begins-on n f b)) (agrees_on fs n b)

-- the empty name agrees with every one
pub every-agrees : (names : List (List ℕ)) → every names ≡ agreeing (texts names) []
unfolding agreeing texts
every-agrees [] = refl
every-agrees (f ∷ fs) = ap (λ (m : ℕ). 1 + 2 * m) (every-agrees fs)

-- and no name with more
one_bit : (x : Bool) → bit x ≤ 1
one_bit true = omega arith
one_bit false = omega arith

pub agreeing-few : (names : List (List ℕ)) (n : List ℕ) → agreeing (texts names) n ≤ every names
unfolding agreeing texts
agreeing-few [] n = omega arith
agreeing-few (f ∷ fs) n = omega (arith, one_bit (begins n (small f ++ (58 ∷ []))), agreeing-few fs n)

-- nor go more on
pub going-few : (names : List (List ℕ)) (m k b : ℕ) → going_on (texts names) m k b ≤ every names
unfolding going_on texts
going-few [] m k b = omega arith
going-few (f ∷ fs) m k b = omega (arith, one_bit (odd m && has (small f ++ (58 ∷ [])) k b), going-few fs (m / 2) k b)

-- where none agrees, none goes on
pub none-on : (fs : List (List ℕ)) (k b : ℕ) → going_on fs 0 k b ≡ 0
unfolding going_on
none-on [] k b = refl
none-on (f ∷ fs) k b = ap (λ (m : ℕ). 0 + 2 * m) (none-on fs k b)

-- nor behind the end of all
pub past_end : (f : List ℕ) (k b : ℕ) → length f ≤ k → has f k b ≡ false
past_end [] k b h = refl
past_end (c ∷ f) zero b h = absurd (omega arith)
past_end (c ∷ f) (suc k) b h = past_end f k b (omega arith)

-- before its end, by the byte there
pub has-byte : (f : List ℕ) (k b : ℕ) → k < length f → has f k b ≡ eqb (lower b) (get_or f k 0)
has-byte [] k b h = absurd (omega arith)
has-byte (c ∷ f) zero b h = refl
has-byte (c ∷ f) (suc k) b h = has-byte f k b (omega arith)

pub past_all : (fs : List (List ℕ)) (m k b : ℕ) → Each (λ (f : List ℕ). length f ≤ k) fs → going_on fs m k b ≡ 0
unfolding going_on
past_all [] m k b h = refl
past_all (f ∷ fs) m k b h =
    ap₂ (λ (x : Bool) (n : ℕ). bit (odd m && x) + 2 * n) (past_end f k b h.0) (past_all fs (m / 2) k b h.1)
    ∙ ap (λ (x : Bool). bit x + 0) (and-false (odd m))

-- ## The name is one of them
abbrev pub colonless : List ℕ → Bool
colonless [] = true
colonless (c ∷ f) = not (eqb (lower 58) (lower c)) && colonless f

text-is : (n f : List ℕ) → colonless f ≡ true → begins (n ++ (58 ∷ [])) (small f ++ (58 ∷ [])) ≡ alike n f
unfolding lower
text-is [] [] h = refl
text-is [] (c ∷ f) h = go (eqb (lower 58) (lower c)) h
  where
    go : (x : Bool) → (not x && colonless f) ≡ true → (x && true) ≡ false
    go true e = false-true e
    go false e = refl
text-is (a ∷ []) [] h = and-false (eqb (lower a) 58)
text-is (a ∷ a' ∷ n) [] h = and-false (eqb (lower a) 58)
text-is (a ∷ n) (c ∷ f) h = ap (λ (z : Bool). eqb (lower a) (lower c) && z) (text-is n f (and_second (not (eqb (lower 58) (lower c))) h))

abbrev pub Colonless : List (List ℕ) → Type 0
Colonless names = Each (λ (f : List ℕ). colonless f ≡ true) names

some-bit : (x : Bool) (m : ℕ) → x ≡ true → eqb (bit x + 2 * m) 0 ≡ false
some-bit true m e = ne_eqb (1 + 2 * m) 0 (λ z. absurd (omega arith))
some-bit false m e = false-true e

some-other : (x : Bool) (m : ℕ) → eqb m 0 ≡ false → eqb (bit x + 2 * m) 0 ≡ false
some-other true m e = ne_eqb (1 + 2 * m) 0 (λ z. absurd (omega arith))
some-other false m e = ne_eqb (0 + 2 * m) 0 (λ z. false-true (sym e ∙ eq-eqb m 0 (omega arith)))

module _ (n : List ℕ) where
  -- exactly where some text begins with the name and its colon
  pub named-agrees : (names : List (List ℕ)) → Colonless names → Named n names → eqb (agreeing (texts names) (n ++ (58 ∷ []))) 0 ≡ false
  unfolding agreeing texts
  named-agrees [] c x = elim x [ ]
  named-agrees (f ∷ fs) c (G.first e) =
      some-bit (begins (n ++ (58 ∷ [])) (small f ++ (58 ∷ []))) (agreeing (texts fs) (n ++ (58 ∷ []))) (text-is n f c.0 ∙ e)
  named-agrees (f ∷ fs) c (G.later h) =
      some-other (begins (n ++ (58 ∷ [])) (small f ++ (58 ∷ []))) (agreeing (texts fs) (n ++ (58 ∷ []))) (named-agrees fs c.1 h)

  pub agrees-named : (names : List (List ℕ)) → Colonless names → eqb (agreeing (texts names) (n ++ (58 ∷ []))) 0 ≡ false → Named n names
  unfolding agreeing texts
  agrees-named [] c e = false-true (sym e)
  agrees-named (f ∷ fs) c e =
      go (begins (n ++ (58 ∷ [])) (small f ++ (58 ∷ []))) (text-is n f c.0) (eqb (agreeing (texts fs) (n ++ (58 ∷ []))) 0) refl
      (agrees-named fs c.1) e
    where
      go : (x : Bool) → x ≡ alike n f → (y : Bool) → eqb (agreeing (texts fs) (n ++ (58 ∷ []))) 0 ≡ y
          → (eqb (agreeing (texts fs) (n ++ (58 ∷ []))) 0 ≡ false → Named n fs)
          → eqb (bit x + 2 * agreeing (texts fs) (n ++ (58 ∷ []))) 0 ≡ false → Named n (f ∷ fs)
      go true h y z on k = G.first (sym h)
      go false h false z on k = G.later (on z)
      go false h true z on k =
          false-true (sym k ∙ eq-eqb _ 0 (ap (λ (m : ℕ). 0 + 2 * m) (eqb-true (agreeing (texts fs) (n ++ (58 ∷ []))) 0 z)))
