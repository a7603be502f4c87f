-- Comparisons of two header values, whatever is compared: equal texts, exchanged texts, a chain of texts.
use Prim.Native.Nat.{ℕ}
use native.Mathlib.Omega.{arith}
use mathlib.Core.Path.{◌≡◌, refl, sym, ap, ◌∙◌}
use Rattle.grammar.specs.Reading.{Verdict, value, refused}
use Rattle.grammar.specs.Comparing.{outcome, compare}

module _ {A B : Type 0} where
  pub compare-read : (f : A → A → B) (x y : Verdict A) (v w : A) → x ≡ value v → y ≡ value w → compare f x y ≡ outcome (f v w)
  compare-read f x y v w e d = rw (e, d)

  -- an outcome comes of two values
  pub compare-values : (f : A → A → B) (x y : Verdict A) (t : B) → compare f x y ≡ outcome t
      → (v : A) × (w : A) × (x ≡ value v) × (y ≡ value w) × (f v w ≡ t)
  compare-values f (refused n p) y t e = let z : ◌≡◌ {A = ℕ} 0 1 = cc in absurd (omega arith)
  compare-values f (value v) (refused n p) t e = let z : ◌≡◌ {A = ℕ} 0 1 = cc in absurd (omega arith)
  compare-values f (value v) (value w) t e = (v, w, refl, refl, cc)

  pub compare_swap : (f g : A → A → B) (x y : Verdict A) (t : B) → ((v w : A) → f v w ≡ g w v) → compare f x y ≡ outcome t
      → compare g y x ≡ outcome t
  compare_swap f g x y t s e =
      let c = compare-values f x y t e in
      compare-read g y x c.1 c.0 c.3 c.2 ∙ ap outcome (sym (s c.0 c.1) ∙ c.4)

  -- what holds of the first and the second, and of the second and the third, gives t of the first and the third
  pub compare_chain : (f g h : A → A → B) (x y z : Verdict A) (t : B) → ((u v w : A) → f u v ≡ t → g v w ≡ t → h u w ≡ t)
      → compare f x y ≡ outcome t → compare g y z ≡ outcome t → compare h x z ≡ outcome t
  compare_chain f g h x y z t s e d =
      let a = compare-values f x y t e in
      let b = compare-values g y z t d in
      let same : a.1 ≡ b.0 = cc in
      compare-read h x z a.0 b.1 a.2 b.3 ∙ ap outcome (s a.0 b.0 b.1 (ap (f a.0) (sym same) ∙ a.4) b.4)
