-- `octets::lower_case` meets its contract: both sides are computed at each byte.
use Rattle.std.proofs.Common.{◌≡◌, ℕ, ◌+◌, ◌%◌, cond, ltb, refl, arith, le-ltb, lt-ltb}
use Rattle.grammar.specs.Grammar.{lower}
use Rattle.octets.proofs.Spans.{by_range}
use Rattle.octets.proofs.lower_case.Goals as goal

picked : ℕ → ℕ
picked b = cond (ltb ((b + 191) % 256) 26) (b + 32) b

pub returns-then-b-lt-LETTERS : goal.returns-then-b-lt-LETTERS
unfolding lower picked
returns-then-b-lt-LETTERS c =
    let p : picked c.args.b ≡ lower c.args.b = by_range picked lower 0 256 refl c.args.b (omega arith) (omega arith) in
    rw (lt-ltb ((c.args.b + 191) % 256) 26 c.if-b-lt-LETTERS.true) at p

pub returns-else-b-lt-LETTERS : goal.returns-else-b-lt-LETTERS
unfolding lower picked
returns-else-b-lt-LETTERS c =
    let p : picked c.args.b ≡ lower c.args.b = by_range picked lower 0 256 refl c.args.b (omega arith) (omega arith) in
    rw (le-ltb ((c.args.b + 191) % 256) 26 (omega (arith, c.if-b-lt-LETTERS.false))) at p
