-- A set whose last element alone is backward is malformed at its last byte.
use Prim.Native.Nat.{ℕ, suc, ◌-◌, ◌≤◌, ◌<◌}
use native.Mathlib.Omega.{arith}
use borrow.Author.Tests.{lt-ltb}
use mathlib.Core.Path.{◌≡◌, refl, sym, ap, ap₂, subst, ◌∙◌}
use mathlib.Core.Logic.{◌⊎◌, inl, inr, ⊎_elim}
use mathlib.Core.Bool.{true, cond}
use mathlib.Core.List.{List, [], ◌∷◌, ◌++◌, append_assoc}
use lib.ListN.{length, length-append}
use Rattle.grammar.specs.Grammar.{Part, Parses, past}
use Rattle.grammar.specs.Refusals.{MALFORMED}
use Rattle.grammar.specs.Reading.{value_limit, unfit, parts_before, Passes, refused, Answers, breaks}
use Rattle.grammar.specs.Endings.{ended}
use Rattle.grammar.proofs.Endings.{ended_there}
use Rattle.grammar.proofs.Longest.{past-length}
use Rattle.grammar.proofs.Order.{Laid, last-before, passes_with, Fits}
use Rattle.ranges.specs.declared.Element.{Element}
use Rattle.ranges.specs.declared.Element.TheVariants.{Closed, Open, Suffix}
use Rattle.ranges.specs.Meaning.{Each, Forward}
use Rattle.ranges.specs.Grammar.{Name, first, last, sign?, last?, capped, positions, element_of, elements, ends_backward}
use Rattle.ranges.specs.Grammar.{byte_ranges, element_limit, forward, plain_rules, rules}
use Rattle.ranges.specs.Parts.{ElementParts, InTurn}
use Rattle.ranges.proofs.Limits.{backward-last, not-backward}
use Rattle.ranges.proofs.Parts.{Ending, Standing, standing}
use Rattle.ranges.proofs.Exact.{same_tail, no_tail, steady, forward-fit, none_passed}

-- the parts of the last element, and those before
pub record Final (ps : List (Part Name)) (xs : List Element) (x : Element) : Type 0 where
  pub front : List (Part Name)
  pub one : Part Name
  pub two : Part Name
  pub all : ps ≡ front ++ one ∷ two ∷ []
  pub turns : InTurn front
  pub before : elements capped front ≡ xs
  pub parts : ElementParts one two
  pub is : element_of capped one two ≡ x

final : (ps : List (Part Name)) (xs : List Element) (x : Element) → InTurn ps → elements capped ps ≡ xs ++ x ∷ [] → Final ps xs x
final [] xs x w e = absurd (no_tail x xs [] e)
final (a ∷ []) xs x w e = absurd w
final (a ∷ b ∷ []) [] x w e = record {
  front = [];
  one = a;
  two = b;
  all = refl;
  turns = tt;
  before = refl;
  parts = w.0;
  is = (same_tail (element_of capped a b) x [] [] e).0;
}
final (a ∷ b ∷ []) (y ∷ xs) x w e = absurd (no_tail x xs [] (same_tail (element_of capped a b) y [] (xs ++ x ∷ []) e).1)
final (a ∷ b ∷ c ∷ []) xs x w e = absurd w.1
final (a ∷ b ∷ c ∷ d ∷ ps) [] x w e =
    absurd (no_tail (element_of capped c d) [] (elements capped ps) (sym (same_tail (element_of capped a b) x (element_of capped c d ∷ elements capped ps) [] e).1))
final (a ∷ b ∷ c ∷ d ∷ ps) (y ∷ xs) x w e =
    let s = same_tail (element_of capped a b) y (element_of capped c d ∷ elements capped ps) (xs ++ x ∷ []) e in
    let r = final (c ∷ d ∷ ps) xs x w.1 s.1 in
    record {
      front = a ∷ b ∷ r.front;
      one = r.one;
      two = r.two;
      all = ap (λ (qs : List (Part Name)). a ∷ b ∷ qs) r.all;
      turns = (w.0, r.turns);
      before = ap₂ (λ (z : Element) (zs : List Element). z ∷ zs) s.0 r.before;
      parts = r.parts;
      is = r.is;
    }

-- a part of the list is one of those before the last two, or one of the two
place_of : (c a b : Part Name) (qs rs us : List (Part Name)) → us ++ a ∷ b ∷ [] ≡ qs ++ c ∷ rs
    → ((vs : List (Part Name)) × (us ≡ qs ++ c ∷ vs)) ⊎ ((c ≡ a) ⊎ ((c ≡ b) × (qs ≡ us ++ a ∷ [])))
place_of c a b [] rs [] e = inr (inl (sym (same_tail a c (b ∷ []) rs e).0))
place_of c a b (q ∷ []) rs [] e =
    let s = same_tail a q (b ∷ []) (c ∷ rs) e in
    let t = same_tail b c [] rs s.1 in
    inr (inr (sym t.0, ap (λ (x : Part Name). x ∷ []) (sym s.0)))
place_of c a b (q ∷ r ∷ qs) rs [] e =
    let s = same_tail a q (b ∷ []) (r ∷ (qs ++ c ∷ rs)) e in
    let t = same_tail b r [] (qs ++ c ∷ rs) s.1 in
    absurd (no_tail c qs rs t.1)
place_of c a b [] rs (u ∷ us) e = inl (us, ap (λ (x : Part Name). x ∷ us) (same_tail u c (us ++ a ∷ b ∷ []) rs e).0)
place_of c a b (q ∷ qs) rs (u ∷ us) e =
    let s = same_tail u q (us ++ a ∷ b ∷ []) (qs ++ c ∷ rs) e in
    ⊎_elim
    (λ v. inl (v.0, ap₂ (λ (x : Part Name) (xs : List (Part Name)). x ∷ xs) s.0 v.1))
    (⊎_elim (λ v. inr (inl v)) (λ v. inr (inr (v.0, ap₂ (λ (x : Part Name) (xs : List (Part Name)). x ∷ xs) (sym s.0) v.1))))
    (place_of c a b qs rs us s.1)

-- first and last of an element that has both
closed_parts : (a b : Part Name) (f l : ℕ) → ElementParts a b → element_of capped a b ≡ Closed f l
    → (a.label ≡ first) × (b.label ≡ last) × (0 < length b.text) × (capped a.text ≡ f) × (capped b.text ≡ l)
closed_parts a b f l (inr e) is = let z : ◌≡◌ {A = ℕ} 0 1 = ap kind (sym (ap (λ (x : Name). told x) e.0) ∙ is) in absurd (omega arith)
  where
    told : Name → Element
    told x = cond (sign? x) (Suffix (capped b.text)) (positions capped a.text b.text)

    kind : Element → ℕ
    kind (Closed x y) = 1
    kind (Open x) = 1
    kind (Suffix x) = 0
closed_parts a b f l (inl e) is = go b.text (sym (ap (λ (x : Name). told x b.text) e.0) ∙ is)
  where
    told : Name → List ℕ → Element
    told x t = cond (sign? x) (Suffix (capped t)) (positions capped a.text t)

    go : (t : List ℕ) → positions capped a.text t ≡ Closed f l
        → (a.label ≡ first) × (b.label ≡ last) × (0 < length t) × (capped a.text ≡ f) × (capped t ≡ l)
    go [] k = let z : ◌≡◌ {A = ℕ} 0 1 = cc in absurd (omega arith)
    go (d ∷ t) k = (e.0, e.1, omega arith, cc, cc)

ending-last : (m : ℕ) (qs : List (Part Name)) (c : Part Name) → Ending m (qs ++ c ∷ []) → past c.start c.text ≡ m
ending-last m [] c e = e
ending-last m (a ∷ []) c e = e
ending-last m (a ∷ b ∷ qs) c e = ending-last m (b ∷ qs) c e

module _ (n : ℕ) (s : List ℕ) (ps : List (Part Name)) (p : Parses byte_ranges 0 s ps) (xs : List Element) (f l : ℕ)
    (is : elements capped ps ≡ xs ++ Closed f l ∷ []) (below : l < f) (all : Each Forward xs) (few : length xs < element_limit) where
  abbrev whole : Standing 0 s [] ps
  whole = standing s ps p

  abbrev at_end : Final ps xs (Closed f l)
  at_end = final ps xs (Closed f l) whole.turns is

  abbrev a : Part Name
  a = at_end.one

  abbrev b : Part Name
  b = at_end.two

  two-parts : (a.label ≡ first) × (b.label ≡ last) × (0 < length b.text) × (capped a.text ≡ f) × (capped b.text ≡ l)
  two-parts = closed_parts a b f l at_end.parts at_end.is

  split-up : ps ≡ (at_end.front ++ a ∷ []) ++ b ∷ []
  split-up = at_end.all ∙ sym (append_assoc at_end.front (a ∷ []) (b ∷ []))

  ends_there : past b.start b.text ≡ length s
  ends_there =
      ending-last (past 0 s) (at_end.front ++ a ∷ []) b (subst (Ending (past 0 s)) split-up whole.ending) ∙ past-length 0 s ∙ omega arith

  abbrev k : ℕ
  k = length s - 1

  pub refused-behind : suc (length s - 1) ≡ length s
  refused-behind = omega (arith, ends_there, past-length b.start b.text, two-parts.2)

  -- the last element does not fit
  passes-last : Passes (rules n s) s unfit (suc k)
  passes-last =
      passes_with forward (plain_rules n) tt (steady n s ps p) s ps p whole.laid unfit k (omega (arith, refused-behind))
      (ap ((rules n s).limit k) parts_are ∙ rw (ended_so, backward_so))
    where
      parts_are : parts_before (suc k) ps ≡ (at_end.front ++ a ∷ []) ++ b ∷ []
      parts_are =
          ap₂ parts_before (refused-behind ∙ sym ends_there) split-up
          ∙ last-before forward 0 s [] (at_end.front ++ a ∷ []) b [] (subst (Laid forward 0 s []) split-up whole.laid) two-parts.2

      ended_so : ended forward s k ((at_end.front ++ a ∷ []) ++ b ∷ []) ≡ true
      ended_so =
          ended_there forward s k (at_end.front ++ a ∷ []) b (ends_there ∙ sym refused-behind) (λ h. absurd (omega (arith, refused-behind)))

      backward_so : ends_backward ((at_end.front ++ a ∷ []) ++ b ∷ []) ≡ true
      backward_so =
          ap ends_backward (append_assoc at_end.front (a ∷ []) (b ∷ [])) ∙ backward-last at_end.front a b
          ∙ rw two-parts.1 (lt-ltb (capped b.text) (capped a.text) (omega (arith, two-parts.3, two-parts.4)))

  -- and nothing before it is wrong
  fits-before : Fits forward (plain_rules n) tt (steady n s ps p) s ps p whole.laid k
  fits-before qs c rs e h inside =
      ⊎_elim
      (λ v. forward-fit at_end.front at_end.turns (subst (Each Forward) (sym at_end.before) all) qs c v.0 v.1 h)
      (⊎_elim
      (λ v. not-backward qs c (ap (λ (x : Part Name). last? x.label) v ∙ ap last? two-parts.0))
      (λ v. absurd (omega (arith, refused-behind, ends_there, inside, ap (λ (x : Part Name). past x.start x.text) v.0))))
      (place_of c a b qs rs at_end.front (sym at_end.all ∙ e))

  pub refused-last : length s ≤ value_limit → Answers (rules n s) s (refused MALFORMED (length s - 1))
  refused-last short =
      let many : length (elements capped ps) ≤ element_limit = omega (arith, ap length is, length-append xs (Closed f l ∷ [])) in
      let quiet = none_passed n s ps p many k (omega (arith, refused-behind)) fits-before in
      breaks {l = unfit} {p = k} short (omega (arith, refused-behind), passes-last, quiet k unfit (omega arith))
      (λ m y h br. quiet (suc m) y (omega arith) br.1)
