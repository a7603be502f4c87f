-- Strong and weak matches: what both have in common.
use Prim.Native.Nat.{ℕ}
use mathlib.Core.Path.{◌≡◌, refl, sym, ap, ◌∙◌}
use mathlib.Core.Logic.{◌↔◌}
use mathlib.Core.Bool.{Bool, true, false, ◌&&◌, not, true≢false}
use mathlib.Core.List.{List}
use Rattle.grammar.specs.Reading.{value}
use Rattle.grammar.specs.Comparing.{outcome}
use Rattle.grammar.specs.helpers.Judge.{header}
use Rattle.grammar.proofs.Comparing.{compare-read, compare-values, compare_swap, compare_chain}
use Rattle.octets.specs.Same.{same?}
use Rattle.octets.proofs.SameBytes.{same_list, same-is, same_swap}
use Rattle.etag.specs.declared.Tag.{Tag}
use Rattle.etag.specs.Grammar.{rules}
use Rattle.etag.specs.Reading.{opaque_bytes}
use Rattle.etag_match.specs.Matching.{weakly, strongly, matches, matching}

-- ## The tests

pub neither-weak : (x y z : Bool) → (not x && (not y && z)) ≡ true → (x ≡ false) × (y ≡ false) × (z ≡ true)
neither-weak false false z h = (refl, refl, h)
neither-weak false true z h = absurd (true≢false (sym h))
neither-weak true y z h = absurd (true≢false (sym h))

either_order : (x y p q : Bool) → p ≡ q → (not x && (not y && p)) ≡ (not y && (not x && q))
either_order false false p q e = e
either_order false true p q e = refl
either_order true false p q e = refl
either_order true true p q e = refl

swap : (strong : Bool) (a b : List ℕ) (v w : Tag) → matches strong a b v w ≡ matches strong b a w v
swap false a b v w = same_swap (opaque_bytes a v) (opaque_bytes b w)
swap true a b v w =
    either_order v.weak w.weak (weakly a b v w) (weakly b a w v) (same_swap (opaque_bytes a v) (opaque_bytes b w))

same_chain : (x y z : List ℕ) → same? x y ≡ true → same? y z ≡ true → same? x z ≡ true
same_chain x y z e f = (same-is x z).1 (same_list x y e ∙ same_list y z f)

chain : (strong : Bool) (a b c : List ℕ) (u v w : Tag) → matches strong a b u v ≡ true → matches strong b c v w ≡ true
    → matches strong a c u w ≡ true
chain false a b c u v w e f = same_chain (opaque_bytes a u) (opaque_bytes b v) (opaque_bytes c w) e f
chain true a b c u v w e f =
    let x = neither-weak u.weak v.weak (weakly a b u v) e in
    let y = neither-weak v.weak w.weak (weakly b c v w) f in
    rw (x.0, y.1) (same_chain (opaque_bytes a u) (opaque_bytes b v) (opaque_bytes c w) x.2 y.2)

-- ## The answers

module _ (strong : Bool) (a b : List ℕ) where
  pub matched : (v w : Tag) → header rules a ≡ value v → header rules b ≡ value w → matching strong a b ≡ outcome (matches strong a b v w)
  matched v w = compare-read (matches strong a b) (header rules a) (header rules b) v w

  pub match_swap : (t : Bool) → matching strong a b ≡ outcome t → matching strong b a ≡ outcome t
  match_swap t = compare_swap (matches strong a b) (matches strong b a) (header rules a) (header rules b) t (swap strong a b)

  pub match_chain : (c : List ℕ) → matching strong a b ≡ outcome true → matching strong b c ≡ outcome true
      → matching strong a c ≡ outcome true
  match_chain c =
      compare_chain (matches strong a b) (matches strong b c) (matches strong a c) (header rules a) (header rules b) (header rules c) true
      (chain strong a b c)

module _ (a b : List ℕ) (v w : Tag) (e : header rules a ≡ value v) (f : header rules b ≡ value w) where
  pub weak_when : (matching false a b ≡ outcome true) ↔ (opaque_bytes a v ≡ opaque_bytes b w)
  weak_when = (
    λ h. let z : weakly a b v w ≡ true = cc (matched false a b v w e f) in same_list (opaque_bytes a v) (opaque_bytes b w) z,
    λ h. matched false a b v w e f ∙ ap outcome ((same-is (opaque_bytes a v) (opaque_bytes b w)).1 h),
  )

  pub strong_when : (matching true a b ≡ outcome true)
      ↔ ((v.weak ≡ false) × (w.weak ≡ false) × (opaque_bytes a v ≡ opaque_bytes b w))
  strong_when = (
    λ h.
        let z : strongly a b v w ≡ true = cc (matched true a b v w e f) in
        let p = neither-weak v.weak w.weak (weakly a b v w) z in
        (p.0, p.1, same_list (opaque_bytes a v) (opaque_bytes b w) p.2),
    λ h. matched true a b v w e f ∙ rw (h.0, h.1, (same-is (opaque_bytes a v) (opaque_bytes b w)).1 h.2),
  )

-- what matches strongly matches weakly
pub weaker : (a b : List ℕ) → matching true a b ≡ outcome true → matching false a b ≡ outcome true
weaker a b e =
    let c = compare-values (strongly a b) (header rules a) (header rules b) true e in
    matched false a b c.0 c.1 c.2 c.3
    ∙ ap outcome (neither-weak c.0.weak c.1.weak (weakly a b c.0 c.1) c.4).2
