-- `language::read` meets its contract: a text that is too long, one without a first part, or one with it.
use Prim.Native.Nat.{ℕ}
use mathlib.Core.Path.{sym, subst, ◌∙◌}
use Rattle.language.specs.helpers.Scan.{Behind}
use Rattle.language.proofs.Scan.{primary-none, primary-reads}
use Rattle.language.proofs.read.Goals as goal

pub returns-then-end-eq0 : goal.returns-then-end-eq0
returns-then-end-eq0 c =
    let s = c.args.s.now in
    sym (primary-none s c.in_ok-check_length.ensures (sym c.part_end-end.ensures ∙ c.if-end-eq0.true))

pub read_subtags-requires : goal.read_subtags-requires
read_subtags-requires c =
    let s = c.args.s.now in
    let e = c.part_end-end.ensures in
    subst (λ (n : ℕ). Behind s 1 n n) (sym e) (primary-reads s c.in_ok-check_length.ensures (λ z. c.if-end-eq0.false (e ∙ z)))
