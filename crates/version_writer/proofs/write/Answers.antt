-- `version_writer::write` meets its contract.
use mathlib.Core.Bool.{true}
use mathlib.Core.Path.{◌≡◌}
use native.Mathlib.Omega.{arith}
use Rattle.octets.proofs.Writing.{refuses-argument, refuses-short, writes-all}
use Rattle.version_writer.specs.Writing.{numbers_text, numbers_too_large}
use Rattle.version_writer.proofs.Writer.{both-within, large_major, large_minor}
use Rattle.version_writer.proofs.write.Goals as goal
use Rattle.version_writer.proofs.write.Goals.{then-major-gt-NUMBER_LIMIT-via-then-major-gt-NUMBER_LIMIT, then-major-gt-NUMBER_LIMIT-via-else-major-gt-NUMBER_LIMIT+then-minor-gt-NUMBER_LIMIT}

pub returns-then-major-gt-NUMBER_LIMIT : goal.returns-then-major-gt-NUMBER_LIMIT
returns-then-major-gt-NUMBER_LIMIT c =
    let x = c.args in
    let outside : numbers_too_large x.major x.minor ≡ true = elim c.then-major-gt-NUMBER_LIMIT.branch [
      | then-major-gt-NUMBER_LIMIT-via-then-major-gt-NUMBER_LIMIT w ↦ large_major x.major x.minor w.if-major-gt-NUMBER_LIMIT.true
      | then-major-gt-NUMBER_LIMIT-via-else-major-gt-NUMBER_LIMIT+then-minor-gt-NUMBER_LIMIT w
          ↦ large_minor x.major x.minor w.if-minor-gt-NUMBER_LIMIT.true
    ] in
    let r = refuses-argument (numbers_too_large x.major x.minor) (numbers_text x.major x.minor) x.out.now outside in
    record { answers = r.0; writes = r.1 }

pub text_len-len-requires : goal.text_len-len-requires
text_len-len-requires c = both-within c.args.major c.args.minor c.if-major-gt-NUMBER_LIMIT.false c.if-minor-gt-NUMBER_LIMIT.false

pub returns-then-out-len : goal.returns-then-out-len
returns-then-out-len c =
    let x = c.args in
    let r = refuses-short (numbers_too_large x.major x.minor) (numbers_text x.major x.minor) x.out.now
    (both-within x.major x.minor c.if-major-gt-NUMBER_LIMIT.false c.if-minor-gt-NUMBER_LIMIT.false) (omega arith) in
    record { answers = r.0; writes = r.1 }

pub returns : goal.returns
returns c =
    let n = c.text_len-len in
    let x = c.args in
    let r = writes-all (numbers_too_large x.major x.minor) (numbers_text x.major x.minor) x.out.now n.result c.put_text.new.out n.ensures
    (both-within x.major x.minor c.if-major-gt-NUMBER_LIMIT.false c.if-minor-gt-NUMBER_LIMIT.false) (omega arith) c.put_text.ensures in
    record { answers = r.0; writes = r.1 }
