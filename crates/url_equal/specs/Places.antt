-- What stands at the places that reading gave.
use Rattle.std.specs.Prelude as P
use Rattle.std.specs.Prelude.{ℕ, ◌+◌, ◌≤◌, List, Some, None, length}
use Rattle.std.proofs.Math.Option.{Option, none, some}
use Rattle.http_url.specs.declared.Span.{Span}
use Rattle.http_url.specs.declared.Url.{Url}
use Rattle.http_url.specs.Places.{text_at, path_text}
use Rattle.escapes.specs.Resolved.{resolved}
use Rattle.url_equal.specs.Meaning.{Page, lower_all}

abbrev pub Inside : List ℕ → Span → Type 0
Inside s x = x.start + x.length ≤ length s

abbrev pub Within : List ℕ → P.Option Span → Type 0
Within s None = 0 ≤ length s
Within s (Some x) = Inside s x

abbrev pub path_in : List ℕ → P.Option Span → List ℕ
path_in s p = resolved (path_text s p)

abbrev pub query_in : List ℕ → P.Option Span → Option (List ℕ)
query_in s None = none
query_in s (Some x) = some (resolved (text_at s x))

abbrev pub page_in : List ℕ → Url → Page
page_in s u = record {
  host = lower_all (text_at s u.host);
  port = u.port;
  path = path_in s u.path;
  query = query_in s u.query;
}

pub record Placed (s : List ℕ) (u : Url) : Type 0 where
  pub host : Inside s u.host
  pub path : Within s u.path
  pub query : Within s u.query
