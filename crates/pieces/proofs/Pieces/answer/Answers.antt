-- `Pieces::answer` meets its contract.
use native.Mathlib.Omega.{arith}
use mathlib.Core.Path.{◌≡◌, sym, ◌∙◌, ap}
use Prim.Native.Nat.{ℕ, ◌+◌, ◌-◌}
use Rattle.framing.specs.Answer.{whole}
use Rattle.pieces.proofs.Answers.{answer-refused, answer-done, answer-more, not_done}
use Rattle.pieces.proofs.Pieces.answer.Goals as goal

pub returns-in-Some : goal.returns-in-Some
returns-in-Some c =
    let e = c.in-Some.ensures in
    rw (e.2, e.3) (sym (answer-refused c.args.self (λ z. absurd (omega (arith, e.1)))))

pub returns-in-Done : goal.returns-in-Done
returns-in-Done c =
    let s = c.args.self in
    let p = c.in-Done in
    let e : c.saturating_sub-in-Done.result ≡ s.taken - (p.trailer + 2) = omega (arith, c.saturating_sub-in-Done.ensures, c.saturating_sub.ensures) in
    ap (λ (n : ℕ). whole (record { taken = s.taken; length = p.total; trailer_start = n; trailer_length = p.trailer })) e
    ∙ sym (answer-done s (c.in_default.ensures c.requires) p.total p.trailer p.is)

pub returns-in_default-position : goal.returns-in_default-position
returns-in_default-position c =
    sym (answer-more c.args.self (c.in_default.ensures c.requires) (not_done c.args.self.position c.in_default-position.not-Done))
