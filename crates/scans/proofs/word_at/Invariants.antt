-- `scans::word_at` meets its contract: the bytes passed and those that agree from there on are all that agree.
use Rattle.std.proofs.Common.{◌≡◌, ◌+◌, drop}
use Rattle.scans.specs.helpers.Words.{agreeing}
use Rattle.scans.proofs.word_at.Given as goal

abbrev pub invariant-loop-i : goal.invariant-loop-i
invariant-loop-i l = l.i + agreeing (drop l.i l.word) (drop l.i l.text) ≡ agreeing l.word l.text
