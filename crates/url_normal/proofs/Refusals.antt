-- Equal forms, and when a normal form is refused.
use Prim.Native.Nat.{ℕ, ◌+◌, ◌<◌}
use native.Mathlib.Omega.{arith}
use borrow.Author.Tests.{lt-ltb, ltb-true}
use mathlib.Core.Path.{◌≡◌, refl, sym, ap, ◌∙◌}
use mathlib.Core.Logic.{◌↔◌}
use mathlib.Core.Bool.{Bool, true, false, cond}
use mathlib.Core.List.{List}
use lib.Dec.{ltb}
use lib.ListN.{length}
use Rattle.grammar.specs.Comparing.{outcome}
use Rattle.grammar.specs.Reading.{Verdict, value, refused, Limit, above, crowded, repeated, deep, unfit, limit_number}
use Rattle.grammar.specs.Reading.{Answers, too_long, malformed, breaks, faulty, reads}
use Rattle.grammar.specs.helpers.Judge.{header}
use Rattle.octets.specs.Writing.{output}
use Rattle.url_equal.specs.Meaning.{Page, pages, equality}
use Rattle.url_equal.proofs.Demands.{meaning, equal-pages}
use Rattle.url_normal.specs.Normal.{normal, of_page, answer_in_room, output_after, normal_form, normal_writing}
use Rattle.url_normal.proofs.Back.{ReadAs, read_as, form_of, form-means}
use Rattle.url_normal.proofs.Lengths.{one-longer}

value-is : {A : Type 0} {q r : A} → value q ≡ value r → q ≡ r
value-is f = cc

module _ (a b m n : List ℕ) (e : normal_form a ≡ value m) (f : normal_form b ≡ value n) where
  pub same-form : equality a b ≡ outcome true → m ≡ n
  same-form h =
      let p = (equal-pages a b).0 h in
      value-is (sym e ∙ ap of_page (p.1 ∙ sym p.2) ∙ f)

  pub same_page : m ≡ n → equality a b ≡ outcome true
  same_page h =
      let x = form_of a m e in
      let same = sym (form-means b n f) ∙ ap (header pages) (sym h) ∙ form-means a m e ∙ x.read in
      (equal-pages a b).1 (x.page, x.read, same)

pub too_long_exactly : (s : List ℕ) (p : Page) → header pages s ≡ value p → (normal_form s ≡ refused 13 8192) ↔ (length (normal p) ≡ 8192 + 1)
too_long_exactly s p e = (λ g. to (ltb 8192 (length (normal p))) refl (sym (ap of_page e) ∙ g), λ h. ap of_page e ∙ rw (lt-ltb 8192 (length (normal p)) (omega (arith, h))))
  where
    r : ReadAs s p
    r = read_as s p e

    to : (x : Bool) → ltb 8192 (length (normal p)) ≡ x → cond x (refused 13 8192) (value (normal p)) ≡ refused 13 8192 → length (normal p) ≡ 8192 + 1
    to true f g = omega (arith, ltb-true 8192 (length (normal p)) f, one-longer r, r.short)
    to false f g = let z : ◌≡◌ {A = ℕ} 0 1 = cc in absurd (omega arith)

-- ## No other refusal is 8

limit-not_8 : (l : Limit) → limit_number l ≡ 8 → ⊥
limit-not_8 above e = omega arith
limit-not_8 crowded e = omega arith
limit-not_8 repeated e = omega arith
limit-not_8 deep e = omega arith
limit-not_8 unfit e = omega arith

number_is : {A : Type 0} {n m p q : ℕ} → ◌≡◌ {A = Verdict A} (refused n p) (refused m q) → n ≡ m
number_is e = cc

reading-not_8 : (s : List ℕ) (p : ℕ) → header pages s ≡ refused 8 p → ⊥
reading-not_8 s p e = by (refused 8 p) ((meaning s (refused 8 p)).0 e) refl
  where
    by : (v : Verdict Page) → Answers pages s v → v ≡ refused 8 p → ⊥
    by v (too_long h) f = let z : ◌≡◌ {A = ℕ} 13 8 = number_is f in omega arith
    by v (malformed h m l z) f = let z : ◌≡◌ {A = ℕ} 1 8 = number_is f in omega arith
    by v (breaks {l = l} h b z) f = limit-not_8 l (number_is f)
    by v (faulty h m z g) f = let z : ◌≡◌ {A = ℕ} 0 1 = cc in omega arith
    by v (reads h m z g) f = let z : ◌≡◌ {A = ℕ} 0 1 = cc in omega arith

pub short_exactly : (s : List ℕ) (room : ℕ) → (normal_writing s room ≡ refused 8 0) ↔ ((n : List ℕ) × (normal_form s ≡ value n) × (room < length n))
short_exactly s room = (to (header pages s) refl, of)
  where
    fits : (t : List ℕ) (x : Bool) → ltb room (length t) ≡ x → cond x (refused 8 0) (value (length t)) ≡ refused 8 0 → room < length t
    fits t true f g = ltb-true room (length t) f
    fits t false f g = let z : ◌≡◌ {A = ℕ} 0 1 = cc in absurd (omega arith)

    limited : (p : Page) (x : Bool) → answer_in_room (cond x (refused 13 8192) (value (normal p))) room ≡ refused 8 0
        → (n : List ℕ) × (cond x (refused 13 8192) (value (normal p)) ≡ value n) × (room < length n)
    limited p true g = let z : ◌≡◌ {A = ℕ} 13 8 = number_is g in absurd (omega arith)
    limited p false g = (normal p, refl, fits (normal p) (ltb room (length (normal p))) refl g)

    to : (v : Verdict Page) → header pages s ≡ v → answer_in_room (of_page v) room ≡ refused 8 0 → (n : List ℕ) × (of_page v ≡ value n) × (room < length n)
    to (value p) e g = limited p (ltb 8192 (length (normal p))) g
    to (refused n p) e g = absurd (reading-not_8 s p (e ∙ ap (λ (m : ℕ). refused m p) (number_is g)))

    of : (n : List ℕ) × (normal_form s ≡ value n) × (room < length n) → normal_writing s room ≡ refused 8 0
    of (n, e, h) = ap (λ v. answer_in_room v room) e ∙ rw (lt-ltb room (length n) h)

pub keeps : (v : Verdict (List ℕ)) (old : List ℕ) (n p : ℕ) → answer_in_room v (length old) ≡ refused n p → output_after v old ≡ old
keeps (value t) old n p e = ap (λ (w : Verdict ℕ). output w t old) e
keeps (refused m q) old n p e = refl
