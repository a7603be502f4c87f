-- `chunk_writer::put_part` meets its contract.
use mathlib.Core.Path.{subst, sym, ap, ◌∙◌}
use Prim.Native.Nat.{ℕ, ◌+◌}
use native.Mathlib.Omega.{arith}
use lib.ListN.{length}
use Rattle.numerals.specs.Numeral.{numeral}
use Rattle.chunk_writer.specs.helpers.Lines.{LineOf}
use Rattle.chunk_writer.proofs.Cuts.{chunk-length}
use Rattle.chunk_writer.proofs.put_part.Goals as goal

pub put_full-requires : goal.put_full-requires
put_full-requires c =
    let h = c.by_block.ensures c.if-by_block.true in
    let w = c.requires.2 ∙ ap (λ (n : ℕ). length (numeral 16 n) + 2) (sym h.0) in (
      omega (arith, w, c.requires.0, chunk-length c.args.part.now),
      subst (λ (n : ℕ). LineOf n c.args.line) (sym h.0) c.requires.1,
      w,
      h.1,
      h.2,
    )
