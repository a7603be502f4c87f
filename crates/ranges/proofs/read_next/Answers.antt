-- `ranges::read_next` meets its contract: the first element stands alone, and each other one behind its comma.
use Prim.Native.Nat.{ℕ, ◌<◌, ◌≤◌}
use native.Mathlib.Omega.{arith}
use mathlib.Core.Path.{◌≡◌, sym, subst, ◌∙◌}
use mathlib.Core.List.{List}
use lib.ListN.{length}
use Rattle.std.specs.Prelude.{Err}
use Rattle.grammar.specs.Grammar.{Grammar}
use Rattle.octets.specs.Bytes.{blank?}
use Rattle.octets.proofs.Tables.{blank-bits}
use Rattle.ranges.specs.declared.Element.{Element}
use Rattle.ranges.specs.Grammar.{Name, others}
use Rattle.ranges.specs.helpers.Scan.{FoundBefore, Found, ElementAt}
use Rattle.ranges.proofs.Scan.{left-none, left-some, steps_on, comma_missing, comma_not, element-begins, element-behind}
use Rattle.ranges.proofs.read_next.Goals as goal
use Rattle.ranges.proofs.read_next.Goals.{After-class_end-start}

-- no element stands before; some do
module _ {n : ℕ} {s : List ℕ} {xs : List Element} {i m : ℕ} (e : length xs ≡ m) (found : Found n s xs i) where
  alone : m ≡ 0 → ElementAt n s xs i
  alone z = subst (λ (g : Grammar Name). FoundBefore n s g xs i) (left-none (length xs) (e ∙ z)) found

  behind : (m ≡ 0 → ⊥) → FoundBefore n s others xs i
  behind z = subst (λ (g : Grammar Name). FoundBefore n s g xs i) (left-some (length xs) (λ f. z (sym e ∙ f))) found

pub returns-then-comma-s : goal.returns-then-comma-s
returns-then-comma-s c n xs e at found =
    let a = c.args in
    let run = c.class_end-comma.ensures blank? blank-bits in
    let out = comma_missing n a.s.now (behind e found c.if-elements-eq0.false) at c.class_end-comma.result run in
    let other = comma_not n a.s.now (behind e found c.if-elements-eq0.false) at c.class_end-comma.result run in
    grind (arith, out, other)

-- where an element has to begin behind its comma
module _ (c : After-class_end-start) (n : ℕ) (xs : List Element) (e : length xs ≡ c.args.elements)
    (at : c.args.at < length c.args.s.now) (found : Found n c.args.s.now xs c.args.at) where
  begins : ElementAt n c.args.s.now xs c.class_end-start.result
  begins =
      element-begins n c.args.s.now (behind e found c.if-elements-eq0.false) at c.class_end-comma.result
      (c.class_end-comma.ensures blank? blank-bits) (omega arith) (omega arith) c.class_end-start.result
      (c.class_end-start.ensures blank? blank-bits)

  further : c.args.at ≤ c.class_end-start.result
  further =
      element-behind n c.args.s.now (behind e found c.if-elements-eq0.false) at c.class_end-comma.result
      (c.class_end-comma.ensures blank? blank-bits) (omega arith) (omega arith) c.class_end-start.result
      (c.class_end-start.ensures blank? blank-bits)

pub returns-then-elements-eq-ELEMENT_LIMIT : goal.returns-then-elements-eq-ELEMENT_LIMIT
returns-then-elements-eq-ELEMENT_LIMIT c n xs e at found =
    let a = c.args in
    let b = (goal.at.returns-then-elements-eq-ELEMENT_LIMIT c).After-class_end-start in
    steps_on n a.s.now xs a.at c.class_end-start.result (Err c.seventeenth.result) (further b n xs e at found)
    (c.seventeenth.ensures n xs (e ∙ c.if-elements-eq-ELEMENT_LIMIT.true) (begins b n xs e at found))

pub returns : goal.returns
returns c n xs e at found =
    let a = c.args in
    let b = (goal.at.returns c).After-class_end-start in
    let w = begins b n xs e at found in
    steps_on n a.s.now xs a.at c.class_end-start.result c.read_element-2.result (further b n xs e at found)
    (c.read_element-2.ensures n xs (omega (arith, w.before.few, e, c.if-elements-eq-ELEMENT_LIMIT.false)) w)
