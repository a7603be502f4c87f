-- The theorems of URLs: what a customer reads.
use Rattle.std.proofs.Common.{◌≡◌, ℕ, ◌≤◌, T, ◌↔◌, List, refl}
use Rattle.grammar.specs.Grammar.{lower}
use Rattle.grammar.specs.Reading.{above, Verdict, value, Breaks, Answers, reads}
use Rattle.grammar.specs.helpers.Judge.{header}
use Rattle.grammar.proofs.Deterministic.{deterministic?}
use Rattle.grammar.proofs.Demands as G
use Rattle.grammar.proofs.Demands.{answered_exactly}
use Rattle.octets.specs.Bytes.{digit?, letter?, hex?}
use Rattle.scans.proofs.Limits.{number_stays, number-within}
use Rattle.http_url.specs.declared.Url.{Url}
use Rattle.http_url.specs.Bytes.{host?, unreserved?, path?, query?}
use Rattle.http_url.specs.Grammar.{url, is_port, largest_port, rules}
use Rattle.http_url.proofs.Ports.{named-within}

-- no URL can be read in two ways
pub one_way : T (deterministic? url)
unfolding lower digit? letter? hex? host? unreserved? path? query?
one_way = tt

-- What `read` answers (its promise is `header rules s`): where the parts of a well-formed URL stand, or the refusal of the row that applies
-- first, and nothing else.
pub reading : (s : List ℕ) (v : Verdict Url) → (header rules s ≡ v) ↔ Answers rules s v
reading = answered_exactly rules tt tt one_way

-- Row 2 has one place: "the digit that passes it", and no byte behind that digit breaks the limit again.
pub one_place : (s : List ℕ) (j k : ℕ) → Breaks rules s above j → Breaks rules s above k → j ≡ k
one_place = G.one_place rules tt tt one_way above (number_stays is_port largest_port)

-- "Port: at most 65,535"
pub port-within : (s : List ℕ) (u : Url) → header rules s ≡ value u → u.port ≤ largest_port
port-within s u e = by ((reading s (value u)).0 e)
  where
    by : {v : Url} → Answers rules s (value v) → v.port ≤ largest_port
    by (reads {ps = ps} h p sound f) = named-within ps (number-within is_port largest_port rules tt tt one_way (λ k qs. refl) s ps p sound)
