-- `chunked::long_line` meets its contract.
use Rattle.std.proofs.Common.{ℕ, ◌+◌, ◌-◌, sym, subst}
use Rattle.chunked.specs.helpers.Passes.{ChunkAt}
use Rattle.chunked.proofs.Chunks.{chunk-known}
use Rattle.chunked.proofs.Long.{line-to}
use Rattle.chunked.proofs.long_line.Goals as goal

pub returns : goal.returns
returns c =
    let i = c.args.at in
    let k = c.cr_place.result + 2 - i in
    let v = c.size_at-size.result in
    let r : ChunkAt c.args.input.now i k v =
    subst (λ (n : ℕ). ChunkAt c.args.input.now i n v) (sym (line-to c.requires.2 c.cr_place.ensures))
    (subst (ChunkAt c.args.input.now i c.requires.0) (c.size_at-size.ensures c.requires.0 c.requires.1 c.requires.2) c.requires.2) in
    (chunk-known r, r)
