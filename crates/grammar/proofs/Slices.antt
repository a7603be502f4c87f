-- The parts of a text are pieces of it, at their places; and so are the parts of a beginning.
use Prim.Native.Nat.{ℕ, zero, suc, ◌+◌, ◌-◌, ◌<◌}
use native.Mathlib.Omega.{arith}
use borrow.Author.Tests.{ltb-true}
use mathlib.Core.Path.{◌≡◌, refl, sym, ap, ◌∙◌}
use mathlib.Core.Logic.{inl, inr}
use mathlib.Core.Bool.{Bool, true, false, cond}
use mathlib.Core.List.{List, [], ◌∷◌, ◌++◌, append_assoc, append-nil}
use lib.Dec.{T, ltb}
use lib.ListN.{length, take}
use lib.Seq.{take-append-add, take_at}
use Rattle.grammar.specs.Grammar.{Class, Part, Grammar, void, empty, byte, ◌⨾◌, ◌∣◌, star, part, rest, nest, Nest, out}
use Rattle.grammar.specs.Grammar.{item, opens, closes, Parses, Many, none, more, past, T-left, T-right}
use Rattle.grammar.specs.Reading.{Rules, parts_before, SoFar}
use Rattle.grammar.specs.helpers.Checks.{fresh?}
use Rattle.grammar.specs.helpers.Slices.{Slice, Slices}
use Rattle.grammar.proofs.Derivative.{past_append}
use Rattle.grammar.proofs.Longest.{past-length}

take-two : (n : ℕ) (a c : List ℕ) → take n (a ++ c) ≡ take n a ++ take (n - length a) c
take-two zero a c =
    let z : 0 - length a ≡ 0 = omega arith in
    sym (ap (λ (k : ℕ). take k c) z)
take-two (suc n) [] c =
    let z : suc n ≡ suc n - 0 = omega arith in
    ap (λ (k : ℕ). take k c) z
take-two (suc n) (b ∷ a) c =
    let z : n - length a ≡ suc n - suc (length a) = omega arith in
    ap (λ (l : List ℕ). b ∷ l) (take-two n a c ∙ ap (λ (k : ℕ). take n a ++ take k c) z)

module _ {L : Type 0} where
  slices-both : (i : ℕ) (s : List ℕ) (ps qs : List (Part L)) → Slices i s ps → Slices i s qs → Slices i s (ps ++ qs)
  slices-both i s [] qs v w = w
  slices-both i s (c ∷ ps) qs v w = (v.0, slices-both i s ps qs v.1 w)

  slices-left : (i : ℕ) (t u : List ℕ) (ps : List (Part L)) → Slices i t ps → Slices i (t ++ u) ps
  slices-left i t u [] v = tt
  slices-left i t u (c ∷ ps) v =
      let x = v.0 in
      ((x.0, x.1 ++ u, ap (λ (l : List ℕ). l ++ u) x.2 ∙ simp append_assoc, x.3), slices-left i t u ps v.1)

  slices-right : (i : ℕ) (t u : List ℕ) (ps : List (Part L)) → Slices (past i t) u ps → Slices i (t ++ u) ps
  slices-right i t u [] v = tt
  slices-right i t u (c ∷ ps) v =
      let x = v.0 in (
        (t ++ x.0, x.1, ap (λ (l : List ℕ). t ++ l) x.2 ∙ sym (append_assoc t x.0 (c.text ++ x.1)), x.3 ∙ sym (past_append i t x.0)),
        slices-right i t u ps v.1,
      )

  slices_many : (P : ℕ → List ℕ → List (Part L) → Type 0) → ((j : ℕ) (t : List ℕ) (qs : List (Part L)) → P j t qs → Slices j t qs)
      → (i : ℕ) (s : List ℕ) (ps : List (Part L)) → Many P i s ps → Slices i s ps
  slices_many P f i s ps none = tt
  slices_many P f i s ps (more b t u qs rs m n) =
      slices-both i (b ∷ (t ++ u)) qs rs (slices-left i (b ∷ t) u qs (f i (b ∷ t) qs m))
      (slices-right i (b ∷ t) u rs (slices_many P f (past (suc i) t) u rs n))

  slices-nest : (o c : Class) (l m : L) (P : ℕ → List ℕ → List (Part L) → Type 0)
      → ((j : ℕ) (t : List ℕ) (qs : List (Part L)) → P j t qs → Slices j t qs)
      → (n i : ℕ) (s : List ℕ) (ps : List (Part L)) → Nest o c l m P n i s ps → Slices i s ps
  slices-nest o c l m P f n i s ps out = tt
  slices-nest o c l m P f n i s ps (item {n = w} b t u qs rs p k) =
      slices-both i (b ∷ (t ++ u)) qs rs (slices-left i (b ∷ t) u qs (f i (b ∷ t) qs p))
      (slices-right i (b ∷ t) u rs (slices-nest o c l m P f (suc w) (past (suc i) t) u rs k))
  slices-nest o c l m P f n i s ps (opens {n = w} b u qs p k) =
      (([], u, refl, refl), slices-right i (b ∷ []) u qs (slices-nest o c l m P f (suc (suc w)) (suc i) u qs k))
  slices-nest o c l m P f n i s ps (closes {n = w} b u qs p k) =
      (([], u, refl, refl), slices-right i (b ∷ []) u qs (slices-nest o c l m P f w (suc i) u qs k))

  pub slices : (g : Grammar L) (i : ℕ) (s : List ℕ) (ps : List (Part L)) → T (fresh? g) → Parses g i s ps → Slices i s ps
  slices void i s ps f m = absurd m
  slices empty i s ps f m = rw m.1 tt
  slices (byte c) i s ps f m = rw m.3 tt
  slices (g ⨾ h) i s ps f m =
      rw (m.4, m.5)
      (slices-both i (m.0 ++ m.1) m.2 m.3 (slices-left i m.0 m.1 m.2 (slices g i m.0 m.2 (T-left (fresh? g) (fresh? h) f) m.6))
      (slices-right i m.0 m.1 m.3 (slices h (past i m.0) m.1 m.3 (T-right (fresh? g) (fresh? h) f) m.7)))
  slices (g ∣ h) i s ps f (inl m) = slices g i s ps (T-left (fresh? g) (fresh? h) f) m
  slices (g ∣ h) i s ps f (inr m) = slices h i s ps (T-right (fresh? g) (fresh? h) f) m
  slices (star g) i s ps f m = slices_many (Parses g) (λ j t qs n. slices g j t qs f n) i s ps m
  slices (part l g) i s ps f m = rw m.1 (([], [], sym (append-nil s), refl), slices g i s m.0 f m.2)
  slices (rest c g) i s ps f m = absurd f
  slices (nest o c l m g r n) i s ps f k =
      rw (k.4, k.5)
      (slices-both i (k.0 ++ k.1) k.2 k.3 (slices-left i k.0 k.1 k.2 (slices r i k.0 k.2 (T-right (fresh? g) (fresh? r) f) k.6))
      (slices-right i k.0 k.1 k.3
      (slices-nest o c l m (Parses g) (λ j t qs x. slices g j t qs (T-left (fresh? g) (fresh? r) f) x) (suc n) (past i k.0) k.1 k.3 k.7)))

  -- of a beginning
  begun-slice : (p t : List ℕ) (c : Part L) → c.start < length p → Slice 0 (p ++ t) c
      → Slice 0 p (record { label = c.label; start = c.start; text = take (length p - c.start) c.text })
  begun-slice p t c h v =
      let x = v.0 in
      let n = length p - c.start in
      let e : c.start ≡ length x = v.3 ∙ past-length 0 x ∙ omega arith in
      let k : length p ≡ length x + n = omega arith in (
        x,
        take (n - length c.text) v.1,
        sym (take_at p t (length p) refl) ∙ ap (take (length p)) v.2 ∙ ap (λ (j : ℕ). take j (x ++ (c.text ++ v.1))) k
            ∙ take-append-add x (c.text ++ v.1) n ∙ ap (λ (l : List ℕ). x ++ l) (take-two n c.text v.1),
        v.3,
      )

  cut-slices : (p t : List ℕ) (ps : List (Part L)) → Slices 0 (p ++ t) ps → Slices 0 p (parts_before (length p) ps)
  cut-slices p t [] v = tt
  cut-slices p t (c ∷ ps) v = go (ltb c.start (length p)) refl (cut-slices p t ps v.1)
    where
      go : (x : Bool) → ltb c.start (length p) ≡ x → Slices 0 p (parts_before (length p) ps)
          → Slices 0 p (cond x (record { label = c.label; start = c.start; text = take (length p - c.start) c.text } ∷ parts_before (length p) ps) (parts_before (length p) ps))
      go true e r = (begun-slice p t c (ltb-true c.start (length p) e) v.0, r)
      go false e r = r

  pub so_far_slices : {A : Type 0} (r : Rules L A) (p : List ℕ) (ps : List (Part L)) → T (fresh? r.grammar) → SoFar r p ps
      → Slices 0 p ps
  so_far_slices r p ps f v = rw v.4 (cut-slices p v.0 v.1 (slices r.grammar 0 (p ++ v.0) v.1 f v.3))
