-- The bytes that digits spell, over the grammar.
use mathlib.Core.Path.{◌≡◌, refl, sym, ◌∙◌, ap, ap₂, subst}
use mathlib.Core.Bool.{Bool, true, false, ◌&&◌}
use mathlib.Core.List.{List, [], ◌∷◌}
use mathlib.Core.Option.{Option, none, some}
use Prim.Native.Nat.{ℕ, ◌+◌, ◌*◌, ◌≤◌}
use native.Mathlib.Omega.{arith}
use lib.Dec.{ltb}
use lib.ListN.{length}
use borrow.Author.Tests.{ltb-false, le-ltb}
use Rattle.octets.specs.Bytes.{hex?, hex_value}
use Rattle.numerals.proofs.Digits.{split, at_true, at-false}
use Rattle.lines.specs.Grammar as G
use Rattle.lines.specs.Grammar.{Spells, DIGIT_LIMIT}
use Rattle.lines.specs.Reading.{byte_before, bytes_of, within_room, spelled}
use Rattle.lines.proofs.Hexes.{false-true, pair-good, pair_bad}

pub spells_is : {xs ys : List ℕ} → Spells xs ys → bytes_of xs ≡ some ys
unfolding bytes_of
spells_is G.none = refl
spells_is (G.pair {a = a} {b = b} {xs = xs} e f s) =
    pair-good a b xs (ap₂ (λ (x y : Bool). x && y) e f) ∙ ap (byte_before (hex_value a * 16 + hex_value b)) (spells_is s)

pub none-some : {A : Type 0} {ys : List ℕ} → none ≡ some ys → A
none-some e = let z : ◌≡◌ {A = ℕ} 0 1 = cc in absurd (omega arith)

both : (s t : Bool) → (s && t) ≡ true → (s ≡ true) × (t ≡ true)
both true t e = (refl, e)
both false t e = false-true e

pub is_spelled : (xs ys : List ℕ) → bytes_of xs ≡ some ys → Spells xs ys
unfolding bytes_of
is_spelled [] ys e = subst (Spells []) (cc) G.none
is_spelled (a ∷ []) ys e = none-some e
is_spelled (a ∷ b ∷ xs) ys e = split (hex? a && hex? b)
    (λ t. found (bytes_of xs) (sym (pair-good a b xs t) ∙ e) (is_spelled xs) (both (hex? a) (hex? b) t))
    (λ t. none-some (sym (pair_bad a b xs t) ∙ e))
  where
    found : (o : Option (List ℕ)) → byte_before (hex_value a * 16 + hex_value b) o ≡ some ys
        → ((zs : List ℕ) → o ≡ some zs → Spells xs zs) → (hex? a ≡ true) × (hex? b ≡ true) → Spells (a ∷ b ∷ xs) ys
    found none k f h = none-some k
    found (some zs) k f h =
        let z : (hex_value a * 16 + hex_value b) ∷ zs ≡ ys = cc in
        subst (Spells (a ∷ b ∷ xs)) z (G.pair h.0 h.1 (f zs refl))

-- a good line
module _ (xs ys : List ℕ) (room : ℕ) where
  pub good-spelled : Spells xs ys → length xs ≤ DIGIT_LIMIT → length ys ≤ room → spelled xs room ≡ some ys
  unfolding spelled
  good-spelled s h k = at-false (ltb DIGIT_LIMIT (length xs)) none (within_room room (bytes_of xs)) (le-ltb DIGIT_LIMIT (length xs) h)
      ∙ ap (within_room room) (spells_is s) ∙ at-false (ltb room (length ys)) none (some ys) (le-ltb room (length ys) k)

  fits : (o : Option (List ℕ)) → within_room room o ≡ some ys → (o ≡ some ys) × (length ys ≤ room)
  fits none e = none-some e
  fits (some zs) e = split (ltb room (length zs))
      (λ t. none-some (sym (at_true (ltb room (length zs)) none (some zs) t) ∙ e))
      (λ t. let z : some zs ≡ some ys = sym (at-false (ltb room (length zs)) none (some zs) t) ∙ e in
      let y : zs ≡ ys = cc in
      (z, subst (λ (l : List ℕ). length l ≤ room) y (ltb-false room (length zs) t)))

  pub spelled-good : spelled xs room ≡ some ys → Spells xs ys × (length xs ≤ DIGIT_LIMIT) × (length ys ≤ room)
  unfolding spelled
  spelled-good e =
      let many = ltb DIGIT_LIMIT (length xs) in
      let held = within_room room (bytes_of xs) in
      split many
      (λ t. none-some (sym (at_true many none held t) ∙ e))
      (λ t. let w : (bytes_of xs ≡ some ys) × (length ys ≤ room) = fits (bytes_of xs) (sym (at-false many none held t) ∙ e) in
      (is_spelled xs ys w.0, ltb-false DIGIT_LIMIT (length xs) t, w.1))

-- any other is bad
pub none-spelled : (xs : List ℕ) (room : ℕ)
    → ((ys : List ℕ) → Spells xs ys → length xs ≤ DIGIT_LIMIT → length ys ≤ room → ⊥) → spelled xs room ≡ none
none-spelled xs room f = never (spelled xs room) refl
  where
    never : (o : Option (List ℕ)) → spelled xs room ≡ o → o ≡ none
    never none e = refl
    never (some ys) e =
        let w : Spells xs ys × (length xs ≤ DIGIT_LIMIT) × (length ys ≤ room) = spelled-good xs ys room e in
        absurd (f ys w.0 w.1 w.2)
