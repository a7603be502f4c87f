-- "Marked cases (*) go into a single table proved by one statement about the definitions": every one of them holds.
use lib.ListN.{take, drop}
use Rattle.marked.specs.Cases.{All, table}
use Rattle.marked.proofs.Computed.{versions, dates, qvalues, urls, bodies, both}

pub marked : All table
marked =
    both (take 3 table) (drop 3 table) versions
    (both (take 4 (drop 3 table)) (drop 7 table) dates
    (both (take 2 (drop 7 table)) (drop 9 table) qvalues (both (take 1 (drop 9 table)) (drop 10 table) urls bodies)))
