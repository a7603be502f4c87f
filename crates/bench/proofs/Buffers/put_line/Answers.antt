-- `bench::Buffers::put_line` meets its contract. By whether the line is good.
use mathlib.Core.Path.{◌≡◌, refl, sym, ◌∙◌, ap}
use Rattle.grammar.specs.Text.{bytes}
use Prim.Native.Nat.{ℕ}
use native.Mathlib.Omega.{arith}
use lib.ListN.{length, take}
use Rattle.chunked.specs.Verdict.{verdict}
use Rattle.lines.specs.Reading.{spelled, hex_answer}
use Rattle.report.specs.Saying.{ROOM, said_answer}
use Rattle.report.proofs.Says.{one-put, said_bad, said-decoded, said-short, shows-line}
use Rattle.bench.proofs.Buffers.put_line.Goals as goal

pub returns-in-None : goal.returns-in-None
returns-in-None c =
    let b = c.args.self.now in
    let line = take c.args.held b.line in
    let framed : length b.frame ≡ ROOM = omega arith in
    let bad = said_bad line c.from_hex.result
    (c.from_hex.ensures.answers ∙ ap (λ (k : ℕ). hex_answer (spelled line k)) framed)
    c.in-None.is in
    let p = shows-line line (bytes "X\n") b.out c.put_bytes.new.out c.args.at
    c.put_bytes.result (sym bad)
    (one-put b.out c.args.at (bytes "X\n") c.put_bytes.new.out c.put_bytes.result
    (omega (arith, c.requires.1, said-short line, ap length bad)) c.put_bytes.ensures.ends c.put_bytes.ensures.writes) in
    record { ends = p.0; says = p.1; lines = refl }

pub returns-in-Some : goal.returns-in-Some
returns-in-Some c =
    let b = c.args.self.now in
    let line = take c.args.held b.line in
    let framed : length b.frame ≡ ROOM = omega arith in
    let roomed : length b.room ≡ ROOM = omega arith in
    let is = said-decoded line c.from_hex.result c.in-Some.count b.frame
    c.from_hex.new.out framed c.from_hex.ensures.answers c.in-Some.is
    c.from_hex.ensures.writes
    (length b.room) (verdict c.decode.result) roomed c.decode.ensures.answers in
    let says = said_answer (verdict c.decode.result) in
    let p = shows-line line says b.out c.put_answer.new.out c.args.at
    c.put_answer.result is
    (one-put b.out c.args.at says c.put_answer.new.out c.put_answer.result
    (omega (arith, c.requires.1, said-short line, ap length is)) c.put_answer.ensures.ends c.put_answer.ensures.says) in
    record { ends = p.0; says = p.1; lines = refl }
