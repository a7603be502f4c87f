-- `http_url::hex_digits` meets its contract.
use Rattle.std.proofs.Common.{◌≡◌, ◌+◌, true, get_or, sym, ◌∙◌, arith, below_more}
use Rattle.octets.specs.Bytes.{hex?}
use Rattle.http_url.proofs.Tables.{hex_bits}
use Rattle.http_url.proofs.hex_digits.Goals as goal
use Rattle.http_url.proofs.hex_digits.Goals.{then-at-n-via-then-at-n, then-at-n-via-else-at-n+then-not-in_class}

pub returns-then-at-n : goal.returns-then-at-n
returns-then-at-n c =
    let x = c.args in
    let l = c.loop-n in record {
      few = omega arith;
      within = l.invariant.0;
      are = l.invariant.1;
      stops = λ q r. elim c.then-at-n.branch [
        | then-at-n-via-then-at-n w ↦ absurd (omega (arith, w.if-at-n))
        | then-at-n-via-else-at-n+then-not-in_class w ↦
            sym (hex_bits (get_or x.s.now (x.at + l.n) 0) (omega (arith, c.type_inv.s (x.at + l.n)))) ∙ sym w.in_class.ensures ∙ w.if-not-in_class.true
      ];
    }

pub loop-n-preserved : goal.loop-n-preserved
loop-n-preserved c =
    let x = c.args in
    let l = c.loop-n in (
      omega arith,
      below_more (λ k. hex? (get_or x.s.now (x.at + k) 0) ≡ true) l.n l.invariant.1
          (sym (hex_bits (get_or x.s.now (x.at + l.n) 0) (omega (arith, c.type_inv.s (x.at + l.n)))) ∙ sym c.in_class.ensures ∙ c.if-not-in_class.false),
    )
