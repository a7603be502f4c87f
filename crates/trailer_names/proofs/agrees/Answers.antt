-- `trailer_names::agrees` meets its contract.
use mathlib.Core.Path.{◌≡◌, sym, ◌∙◌}
use Rattle.std.proofs.Common.{List, ℕ, nat_eq, Bor, get_or}
use Rattle.std.specs.Slice.{IsItemAt}
use Rattle.std.specs.declared.option.Option.{Option}
use Rattle.std.specs.declared.option.Option.TheVariants.{None, Some}
use Rattle.std.specs.Option.{option_eq}
use native.Mathlib.Omega.{arith}
use borrow.Author.Tests.{eq-eqb}
use Rattle.std.proofs.lemmas.Bool.Decides.{nat_tests}
use Rattle.grammar.specs.Grammar.{lower}
use Rattle.framing.specs.helpers.Names.{has}
use Rattle.framing.proofs.Names.{past_end, has-byte}
use Rattle.trailer_names.proofs.agrees.Goals as goal

-- the byte there, if the text goes so far, against that letter
looked : (text : List ℕ) (k b : ℕ) (r : Option (Bor ℕ)) (s : Bor ℕ) → s.now ≡ lower b → IsItemAt text k r
    → option_eq (λ x y. nat_eq x.now y.now) r (Some s) ≡ has text k b
looked text k b None s e i = sym (past_end text k b i.3)
looked text k b (Some x) s e i =
    let f : x.now ≡ get_or text k 0 = i.4 (omega arith) 0 in
    rw (has-byte text k b i.3.0, e, f) (grind (arith, nat_tests))

pub returns-then-bits-eq1 : goal.returns-then-bits-eq1
returns-then-bits-eq1 c = λ b e. rw (eq-eqb _ _ c.if-bits-eq1.true) (c.eq.ensures ∙ looked c.args.text.now c.args.at b c.get.result _ e c.get.ensures.lookup)
