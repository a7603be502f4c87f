-- `scans::is_letter` meets its contract: computed over all bytes, one whose small letter is one of a to z is in a token.
use Rattle.std.proofs.Common.{◌≡◌, ℕ, ◌+◌, ◌%◌, ◌<◌, ◌≤◌, Bool, true, cond, leb, refl, arith, le-leb, ltb-true}
use Rattle.grammar.specs.Grammar.{lower}
use Rattle.octets.specs.Bytes.{token?}
use Rattle.octets.proofs.Spans.{by_range}
use Rattle.scans.proofs.is_letter.Goals as goal

within : ℕ → Bool
within b = cond (leb 97 (lower b)) (cond (leb (lower b) 122) (token? b) true) true

letter-token : (b : ℕ) → b < 256 → 97 ≤ lower b → lower b ≤ 122 → token? b ≡ true
unfolding lower token? within
letter-token b s h k =
    rw (le-leb 97 (lower b) h, le-leb (lower b) 122 k) at (by_range within (λ (n : ℕ). true) 0 256 refl b (omega arith) (omega arith))

pub returns : goal.returns
returns c e =
    let b = c.args.b in
    let l : c.lower_case.result ≡ lower b = c.lower_case.ensures in
    let w : (lower b + 159) % 256 < 26 = omega (arith, ltb-true _ _ e) in
    letter-token b (omega arith) (omega arith) (omega arith)
