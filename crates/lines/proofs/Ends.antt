-- Where a line ends, and the lines of an input: how each goes on, one byte at a time.
use mathlib.Core.Path.{◌≡◌, refl, sym, ◌∙◌, ap, ap₂}
use mathlib.Core.Bool.{Bool, true, false, cond, not, ◌&&◌}
use mathlib.Core.List.{List, [], ◌∷◌, ◌++◌, append_assoc, append-nil}
use Prim.Native.Nat.{ℕ, zero, suc, ◌+◌, ◌-◌, ◌<◌, ◌≤◌}
use native.Mathlib.Numerals.{add-one}
use native.Mathlib.Omega.{arith}
use lib.Dec.{eqb}
use lib.ListN.{length, get_or, take, drop, drop_of_length-le, length-drop}
use lib.Seq.{drop-cons, drop-drop}
use borrow.Author.Tests.{eq-eqb, ne_eqb}
use Rattle.numerals.specs.Numeral.{every}
use Rattle.numerals.proofs.Digits.{split, at_true, at-false}
use Rattle.lines.specs.Reading.{line_end, lines_from, rest_from}
use Rattle.lines.specs.helpers.Ends.{inner?, NoneBefore}
use Rattle.lines.proofs.Hexes.{false-true, and-true, and-false, every-on}

end_cons : (b : ℕ) (xs : List ℕ) → line_end (b ∷ xs) ≡ cond (eqb b 10) 0 (suc (line_end xs))
unfolding line_end
end_cons b xs = refl

pub end_none : line_end [] ≡ 0
unfolding line_end
end_none = refl

pub end-lf : (b : ℕ) (xs : List ℕ) → eqb b 10 ≡ true → line_end (b ∷ xs) ≡ 0
end-lf b xs e = end_cons b xs ∙ at_true (eqb b 10) 0 (suc (line_end xs)) e

pub end_on : (b : ℕ) (xs : List ℕ) → eqb b 10 ≡ false → line_end (b ∷ xs) ≡ suc (line_end xs)
end_on b xs e = end_cons b xs ∙ at-false (eqb b 10) 0 (suc (line_end xs)) e

pub end-within : (xs : List ℕ) → line_end xs ≤ length xs
end-within [] = omega (arith, end_none)
end-within (b ∷ xs) = split (eqb b 10) (λ e. omega (arith, end-lf b xs e)) (λ e. omega (arith, end_on b xs e, end-within xs))

-- a loop that looks for the LF
module _ (s : List ℕ) (i : ℕ) where
  pub end-past : length s ≤ i → line_end (drop i s) ≡ 0
  end-past h = ap line_end (drop_of_length-le s {i = i} h) ∙ end_none

  pub end-here : i < length s → get_or s i 0 ≡ 10 → line_end (drop i s) ≡ 0
  end-here h e = ap line_end (drop-cons s i 0 h) ∙ end-lf (get_or s i 0) (drop (suc i) s) (eq-eqb (get_or s i 0) 10 e)

  pub end_later : i < length s → (get_or s i 0 ≡ 10 → ⊥) → line_end (drop i s) ≡ suc (line_end (drop (i + 1) s))
  end_later h f = ap line_end (drop-cons s i 0 h) ∙ end_on (get_or s i 0) (drop (suc i) s) (ne_eqb (get_or s i 0) 10 f)
      ∙ ap (λ (k : ℕ). suc (line_end (drop k s))) (sym (add-one i))

-- what it has to show: at an LF, behind another byte, and at the end
pub ends_here : (s : List ℕ) (i : ℕ) → i + line_end (drop i s) ≡ line_end s → i < length s → get_or s i 0 ≡ 10 → i ≡ line_end s
ends_here s i n h e = omega (arith, n, end-here s i h e)

pub ends_later : (s : List ℕ) (i : ℕ) → i + line_end (drop i s) ≡ line_end s → i < length s → (get_or s i 0 ≡ 10 → ⊥)
    → i + 1 + line_end (drop (i + 1) s) ≡ line_end s
ends_later s i n h f = omega (arith, n, end_later s i h f)

pub ends_last : (s : List ℕ) (i : ℕ) → i + line_end (drop i s) ≡ line_end s → i ≡ length s → length s ≡ line_end s
ends_last s i n e = omega (arith, n, end-past s i (omega arith))

-- the flag of a loop over a block
pub inner_stopped : (b : ℕ) (t : Bool) → b ≡ 10 → false ≡ (t && inner? b)
inner_stopped b t e = sym (ap (λ (u : Bool). t && not u) (eq-eqb b 10 e) ∙ and-false t)

pub inner-kept : (b : ℕ) (t : Bool) → (b ≡ 10 → ⊥) → t ≡ (t && inner? b)
inner-kept b t f = sym (ap (λ (u : Bool). t && not u) (ne_eqb b 10 f) ∙ and-true t)

-- the flag of the bytes before i, and of those before i + 1
pub inner_off : (xs : List ℕ) (i : ℕ) (t : Bool) → i < length xs → get_or xs i 0 ≡ 10
    → (t && every inner? (drop i xs)) ≡ every inner? xs → (false && every inner? (drop (i + 1) xs)) ≡ every inner? xs
inner_off xs i t h e k = every-on xs i h inner? t false (inner_stopped (get_or xs i 0) t e) k

pub inner_on : (xs : List ℕ) (i : ℕ) (t : Bool) → i < length xs → (get_or xs i 0 ≡ 10 → ⊥)
    → (t && every inner? (drop i xs)) ≡ every inner? xs → (t && every inner? (drop (i + 1) xs)) ≡ every inner? xs
inner_on xs i t h f k = every-on xs i h inner? t t (inner-kept (get_or xs i 0) t f) k

-- a block that has none is passed
end_block : (n : ℕ) (xs : List ℕ) → n ≤ length xs → every inner? (take n xs) ≡ true → n + line_end (drop n xs) ≡ line_end xs
end_block zero xs h e = omega arith
end_block (suc n) [] h e = absurd (omega arith)
end_block (suc n) (b ∷ xs) h e = split (eqb b 10)
    (λ t. false-true (ap (λ (u : Bool). not u && every inner? (take n xs)) (sym t) ∙ e))
    (λ f. omega (arith, end_on b xs f, end_block n xs (omega arith) (ap (λ (u : Bool). not u && every inner? (take n xs)) (sym f) ∙ e)))

pub none-behind : (s : List ℕ) (at end : ℕ) → NoneBefore s at → at ≤ end → end ≤ length s
    → every inner? (take (end - at) (drop at s)) ≡ true → NoneBefore s end
none-behind s at end n h k e =
    let m : at + (end - at) ≡ end = omega arith in
    let d : line_end (drop (end - at) (drop at s)) ≡ line_end (drop end s)
    = ap line_end (drop-drop (end - at) at s ∙ ap (λ (i : ℕ). drop i s) m) in
    (k, omega (arith, n.1, end_block (end - at) (drop at s) (omega (arith, length-drop at s)) e))

-- ## The lines that end in some bytes, and what is begun behind them
module _ (begun : List ℕ) (b : ℕ) (xs : List ℕ) where
  pub lines-lf : eqb b 10 ≡ true → lines_from begun (b ∷ xs) ≡ begun ∷ lines_from [] xs
  unfolding lines_from
  lines-lf e = at_true (eqb b 10) (begun ∷ lines_from [] xs) (lines_from (begun ++ (b ∷ [])) xs) e

  pub lines-on : eqb b 10 ≡ false → lines_from begun (b ∷ xs) ≡ lines_from (begun ++ (b ∷ [])) xs
  unfolding lines_from
  lines-on e = at-false (eqb b 10) (begun ∷ lines_from [] xs) (lines_from (begun ++ (b ∷ [])) xs) e

  pub rest-lf : eqb b 10 ≡ true → rest_from begun (b ∷ xs) ≡ rest_from [] xs
  unfolding rest_from
  rest-lf e = at_true (eqb b 10) (rest_from [] xs) (rest_from (begun ++ (b ∷ [])) xs) e

  pub rest-on : eqb b 10 ≡ false → rest_from begun (b ∷ xs) ≡ rest_from (begun ++ (b ∷ [])) xs
  unfolding rest_from
  rest-on e = at-false (eqb b 10) (rest_from [] xs) (rest_from (begun ++ (b ∷ [])) xs) e

pub lines_none : (begun : List ℕ) → lines_from begun [] ≡ []
unfolding lines_from
lines_none begun = refl

pub rest-none : (begun : List ℕ) → rest_from begun [] ≡ begun
unfolding rest_from
rest-none begun = refl

pub lines_append : (begun p q : List ℕ) → lines_from begun (p ++ q) ≡ lines_from begun p ++ lines_from (rest_from begun p) q
lines_append begun [] q = sym (ap₂ (λ (x : List (List ℕ)) (y : List ℕ). x ++ lines_from y q) (lines_none begun) (rest-none begun))
lines_append begun (b ∷ p) q = split (eqb b 10)
    (λ e. lines-lf begun b (p ++ q) e ∙ ap (λ (x : List (List ℕ)). begun ∷ x) (lines_append [] p q)
    ∙ sym (ap₂ (λ (x : List (List ℕ)) (y : List ℕ). x ++ lines_from y q) (lines-lf begun b p e) (rest-lf begun b p e)))
    (λ e. lines-on begun b (p ++ q) e ∙ lines_append (begun ++ (b ∷ [])) p q
    ∙ sym (ap₂ (λ (x : List (List ℕ)) (y : List ℕ). x ++ lines_from y q) (lines-on begun b p e) (rest-on begun b p e)))

pub rest_append : (begun p q : List ℕ) → rest_from begun (p ++ q) ≡ rest_from (rest_from begun p) q
rest_append begun [] q = sym (ap (λ (y : List ℕ). rest_from y q) (rest-none begun))
rest_append begun (b ∷ p) q = split (eqb b 10)
    (λ e. rest-lf begun b (p ++ q) e ∙ rest_append [] p q ∙ sym (ap (λ (y : List ℕ). rest_from y q) (rest-lf begun b p e)))
    (λ e. rest-on begun b (p ++ q) e ∙ rest_append (begun ++ (b ∷ [])) p q ∙ sym (ap (λ (y : List ℕ). rest_from y q) (rest-on begun b p e)))

-- a piece with an LF, and one without
pub first-line : (begun piece : List ℕ) → line_end piece < length piece
    → (lines_from begun piece ≡ (begun ++ take (line_end piece) piece) ∷ lines_from [] (drop (line_end piece + 1) piece))
    × (rest_from begun piece ≡ rest_from [] (drop (line_end piece + 1) piece))
first-line begun [] h = absurd (omega arith)
first-line begun (b ∷ xs) h = split (eqb b 10)
    (λ e. let z : 0 ≡ line_end (b ∷ xs) = sym (end-lf b xs e) in (
      lines-lf begun b xs e ∙ ap (λ (x : List ℕ). x ∷ lines_from [] xs) (sym (append-nil begun))
          ∙ ap (λ (i : ℕ). (begun ++ take i (b ∷ xs)) ∷ lines_from [] (drop (i + 1) (b ∷ xs))) z,
      rest-lf begun b xs e ∙ ap (λ (i : ℕ). rest_from [] (drop (i + 1) (b ∷ xs))) z,
    ))
    (λ e. let s : suc (line_end xs) ≡ line_end (b ∷ xs) = sym (end_on b xs e) in
    let t : suc (line_end xs + 1) ≡ line_end (b ∷ xs) + 1 = omega arith in
    let g = first-line (begun ++ (b ∷ [])) xs (omega arith) in (
      lines-on begun b xs e ∙ g.0
          ∙ ap₂ (λ (x y : List ℕ). x ∷ lines_from [] y)
          (append_assoc begun (b ∷ []) (take (line_end xs) xs) ∙ ap (λ (i : ℕ). begun ++ take i (b ∷ xs)) s)
          (ap (λ (i : ℕ). drop i (b ∷ xs)) t),
      rest-on begun b xs e ∙ g.1 ∙ ap (λ (i : ℕ). rest_from [] (drop i (b ∷ xs))) t,
    ))

pub no_line : (begun piece : List ℕ) → length piece ≤ line_end piece
    → (lines_from begun piece ≡ []) × (rest_from begun piece ≡ begun ++ piece)
no_line begun [] h = (lines_none begun, rest-none begun ∙ sym (append-nil begun))
no_line begun (b ∷ xs) h = split (eqb b 10)
    (λ e. absurd (omega (arith, end-lf b xs e)))
    (λ e. let g = no_line (begun ++ (b ∷ [])) xs (omega (arith, end_on b xs e)) in
    (lines-on begun b xs e ∙ g.0, rest-on begun b xs e ∙ g.1 ∙ append_assoc begun (b ∷ []) xs))
