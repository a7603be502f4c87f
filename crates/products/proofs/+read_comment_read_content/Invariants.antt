-- `products::read_comment` and `products::read_content` meet their contracts. What falls is the number of remaining bytes: a comment's
-- content begins behind its `(`, and a comment within it stands at no earlier place than the content does.
use Rattle.std.proofs.Common.{◌+◌, ◌-◌, ◌*◌, length}
use Rattle.products.specs.helpers.Scan.{Passed}
use Rattle.products.proofs.+read_comment_read_content.Given as goal

abbrev pub decreases-read_comment : goal.decreases-read_comment
decreases-read_comment l = 2 * (length l.s.now - l.at)

abbrev pub decreases-read_content : goal.decreases-read_content
decreases-read_content l = 2 * (length l.s.now - l.from) + 1

abbrev pub invariant-read_content-loop-i : goal.invariant-read_content-loop-i
invariant-read_content-loop-i l = Passed l.s l.from l.allowed l.i l.levels

abbrev pub decreases-read_content-loop-i : goal.decreases-read_content-loop-i
decreases-read_content-loop-i l = length l.s - l.i
