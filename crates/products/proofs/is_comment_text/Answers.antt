-- `products::is_comment_text` meets its contract: the bytes from 128 on are all text, and the bits of the others are those of the class.
use Rattle.std.proofs.Common.{◌∙◌, rules}
use Rattle.std.proofs.lemmas.Grind.{common_steps}
use native.Mathlib.Omega.{arith}
use Rattle.products.specs.Grammar.{comment_text?}
use Rattle.products.proofs.Comments.{comment-text-bits}
use Rattle.products.proofs.is_comment_text.Goals as goal

pub returns-then-byte-ge128 : goal.returns-then-byte-ge128
unfolding comment_text?
returns-then-byte-ge128 c = grind (arith, common_steps)

pub returns : goal.returns
returns c = c.in_class.ensures ∙ comment-text-bits c.args.byte (search rules)
