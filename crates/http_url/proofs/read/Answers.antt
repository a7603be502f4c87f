-- `http_url::read` meets its contract: each way out is what the grammar leaves there.
use Rattle.std.proofs.Common.{◌≤◌, sym, ap, ◌∙◌, arith}
use Rattle.grammar.specs.Reading.{refused}
use Rattle.grammar.specs.Refusals.{MALFORMED}
use Rattle.scans.proofs.Words.{word-whole, word-inside}
use Rattle.http_url.specs.Bytes.{host?}
use Rattle.http_url.specs.Grammar.{scheme}
use Rattle.http_url.proofs.Tables.{host-bits}
use Rattle.http_url.proofs.Scan.{scheme-not, host_missing, host-reads}
use Rattle.http_url.proofs.read.Goals as goal

pub returns-then-agreed-lt-SCHEME_LENGTH : goal.returns-then-agreed-lt-SCHEME_LENGTH
returns-then-agreed-lt-SCHEME_LENGTH c =
    let s = c.args.s.now in
    let w = c.word_at-agreed in
    sym (scheme-not s c.in_ok-check_length.ensures (omega (arith, w.ensures, c.if-agreed-lt-SCHEME_LENGTH.true)) ∙ ap (refused MALFORMED) (sym w.ensures))

pub returns-then-end-le-SCHEME_LENGTH : goal.returns-then-end-le-SCHEME_LENGTH
returns-then-end-le-SCHEME_LENGTH c =
    let s = c.args.s.now in
    let n = word-whole scheme s (omega (arith, c.word_at-agreed.ensures, c.if-agreed-lt-SCHEME_LENGTH.false)) in
    let ends : c.class_end-end.result ≤ 7 = c.if-end-le-SCHEME_LENGTH.true in
    sym (host_missing s c.in_ok-check_length.ensures n (word-inside scheme s n)
    (omega (arith, c.class_end-end.ensures host? host-bits, ends)))

pub read_port-requires : goal.read_port-requires
read_port-requires c =
    let s = c.args.s.now in
    let n = word-whole scheme s (omega (arith, c.word_at-agreed.ensures, c.if-agreed-lt-SCHEME_LENGTH.false)) in
    let e = c.class_end-end in
    host-reads s c.in_ok-check_length.ensures n (word-inside scheme s n) e.result (e.ensures host? host-bits) c.if-end-le-SCHEME_LENGTH.false
