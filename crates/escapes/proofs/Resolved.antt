-- Texts with the escapes that are not needed as their characters, a byte at a time.
use Prim.Native.Nat.{ℕ, suc, ◌+◌, ◌≤◌, ◌<◌}
use native.Mathlib.Omega.{arith}
use native.Mathlib.Numerals.{add-one}
use borrow.Author.Tests.{ne_eqb, eq-eqb, eqb-false}
use mathlib.Core.Path.{◌≡◌, refl, sym, ap, ◌∙◌}
use mathlib.Core.Bool.{Bool, true, false, cond, ◌&&◌, ◌||◌, true≢false}
use mathlib.Core.List.{List, [], ◌∷◌, head-eq_of_cons-eq, tail-eq_of_cons-eq}
use lib.Dec.{eqb}
use lib.ListN.{length, get_or, drop, length-drop}
use lib.Seq.{drop-cons}
use Rattle.octets.specs.Bytes.{digit?, letter?, hex?}
use Rattle.http_url.specs.Bytes.{unreserved?}
use Rattle.escapes.specs.Resolved.{escaped_byte, unneeded?, resolved}
use Rattle.escapes.specs.helpers.Units.{percent?}

-- a byte that begins no escape, and one that is not needed
pub character-first : (a : ℕ) (t : List ℕ) → (a ≡ 37 → ⊥) → resolved (a ∷ t) ≡ a ∷ resolved t
character-first a [] h = refl
character-first a (x ∷ []) h = refl
character-first a (x ∷ y ∷ t) h = rw (ne_eqb a 37 h)

-- a byte stays where the two behind it make no escape that is not needed
pub needed_first : (a x y : ℕ) (t : List ℕ) → unneeded? x y ≡ false → resolved (a ∷ x ∷ y ∷ t) ≡ a ∷ resolved (x ∷ y ∷ t)
needed_first a x y t h = go (eqb a 37) (unneeded? x y) h
  where
    go : (u v : Bool) → v ≡ false → cond (u && v) (escaped_byte x y ∷ resolved t) (a ∷ resolved (x ∷ y ∷ t)) ≡ a ∷ resolved (x ∷ y ∷ t)
    go true v f = rw f
    go false v f = refl

unneeded_first : (a x y : ℕ) (t : List ℕ) → a ≡ 37 → unneeded? x y ≡ true → resolved (a ∷ x ∷ y ∷ t) ≡ escaped_byte x y ∷ resolved t
unneeded_first a x y t e h = go (eqb a 37) (unneeded? x y) (eq-eqb a 37 e) h
  where
    go : (u v : Bool) → u ≡ true → v ≡ true → cond (u && v) (escaped_byte x y ∷ resolved t) (a ∷ resolved (x ∷ y ∷ t)) ≡ escaped_byte x y ∷ resolved t
    go u v f g = rw (f, g)

percent_reserved : unreserved? 37 ≡ false
unfolding unreserved? letter? digit?
percent_reserved = refl

pub last_of : (a b c : Bool) → (a && (b && c)) ≡ true → c ≡ true
last_of true true c e = e
last_of true false c e = absurd (true≢false (sym e))
last_of false b c e = absurd (true≢false (sym e))

-- an escape that is not needed, and its character
pub escape_no_percent : (x y : ℕ) → unneeded? x y ≡ true → escaped_byte x y ≡ 37 → ⊥
escape_no_percent x y e f =
    true≢false (sym (last_of (hex? x) (hex? y) (unreserved? (escaped_byte x y)) e) ∙ ap unreserved? f ∙ percent_reserved)

pub escape-is : (x y : ℕ) (t : List ℕ) → unneeded? x y ≡ true → resolved (37 ∷ x ∷ y ∷ t) ≡ resolved (escaped_byte x y ∷ t)
escape-is x y t h = unneeded_first 37 x y t refl h ∙ sym (character-first (escaped_byte x y) t (escape_no_percent x y h))

-- ## How long

pub resolved-short : (s : List ℕ) → length (resolved s) ≤ length s
resolved-short [] = omega arith
resolved-short (a ∷ []) = omega arith
resolved-short (a ∷ x ∷ []) = omega arith
resolved-short (a ∷ x ∷ y ∷ t) = go (eqb a 37 && unneeded? x y) (resolved-short t) (resolved-short (x ∷ y ∷ t))
  where
    go : (u : Bool) → length (resolved t) ≤ length t → length (resolved (x ∷ y ∷ t)) ≤ suc (suc (length t))
        → length (cond u (escaped_byte x y ∷ resolved t) (a ∷ resolved (x ∷ y ∷ t))) ≤ suc (suc (suc (length t)))
    go true h k = omega arith
    go false h k = omega arith

-- a text that grows no shorter has nothing to resolve
pub unchanged : (s : List ℕ) → length (resolved s) ≡ length s → resolved s ≡ s
unchanged [] e = refl
unchanged (a ∷ []) e = refl
unchanged (a ∷ x ∷ []) e = refl
unchanged (a ∷ x ∷ y ∷ t) e = go (eqb a 37 && unneeded? x y) (unchanged (x ∷ y ∷ t)) e
  where
    go : (u : Bool) → (length (resolved (x ∷ y ∷ t)) ≡ suc (suc (length t)) → resolved (x ∷ y ∷ t) ≡ x ∷ y ∷ t)
        → length (cond u (escaped_byte x y ∷ resolved t) (a ∷ resolved (x ∷ y ∷ t))) ≡ suc (suc (suc (length t)))
        → cond u (escaped_byte x y ∷ resolved t) (a ∷ resolved (x ∷ y ∷ t)) ≡ a ∷ x ∷ y ∷ t
    go true h f = absurd (omega (arith, resolved-short t))
    go false h f = ap (λ (l : List ℕ). a ∷ l) (h (omega arith))

-- ## A text without `%`

pub no_percent : (s : List ℕ) → percent? s ≡ false → resolved s ≡ s
no_percent [] e = refl
no_percent (b ∷ s) e = go (eqb b 37) refl e (no_percent s)
  where
    go : (t : Bool) → eqb b 37 ≡ t → (t || percent? s) ≡ false → (percent? s ≡ false → resolved s ≡ s) → resolved (b ∷ s) ≡ b ∷ s
    go true f g h = absurd (true≢false g)
    go false f g h = character-first b s (eqb-false b 37 f) ∙ ap (λ (l : List ℕ). b ∷ l) (h g)

-- ## At a place

cons : (s : List ℕ) (j : ℕ) → j < length s → drop j s ≡ get_or s j 0 ∷ drop (j + 1) s
cons s j h = drop-cons s j 0 h ∙ ap (λ (n : ℕ). get_or s j 0 ∷ drop n s) (sym (add-one j))

-- a `%` that is looked for a byte at a time: it stands here, or it was found or stands behind
module _ (s : List ℕ) (i : ℕ) (found : Bool) (at : i < length s) (inv : (found || percent? (drop i s)) ≡ percent? s) where
  split : (found || (eqb (get_or s i 0) 37 || percent? (drop (i + 1) s))) ≡ percent? s
  split = ap (λ (l : List ℕ). found || percent? l) (sym (cons s i at)) ∙ inv

  pub percent_here : get_or s i 0 ≡ 37 → true ≡ percent? s
  percent_here e = go found (eqb (get_or s i 0) 37) (eq-eqb (get_or s i 0) 37 e) split
    where
      go : (x y : Bool) → y ≡ true → (x || (y || percent? (drop (i + 1) s))) ≡ percent? s → true ≡ percent? s
      go true y f g = g
      go false y f g = sym (rw f refl) ∙ g

  pub percent_not-here : (get_or s i 0 ≡ 37 → ⊥) → (found || percent? (drop (i + 1) s)) ≡ percent? s
  percent_not-here h = ap (λ (t : Bool). found || (t || percent? (drop (i + 1) s))) (sym (ne_eqb (get_or s i 0) 37 h)) ∙ split

-- ## As it is put, a byte at a time

-- what is left of a text begins with a byte
pub record First (t rest : List ℕ) (k b : ℕ) : Type 0 where
  pub at : k < length t
  pub is : get_or t k 0 ≡ b
  pub left : drop (k + 1) t ≡ rest

pub first_of : (t rest : List ℕ) (k b : ℕ) → drop k t ≡ b ∷ rest → First t rest k b
first_of t rest k b e =
    let h : k < length t = omega (arith, ap length e, length-drop k t) in
    let f : get_or t k 0 ∷ drop (k + 1) t ≡ b ∷ rest = sym (cons t k h) ∙ e in
    record { at = h; is = head-eq_of_cons-eq f; left = tail-eq_of_cons-eq f }
