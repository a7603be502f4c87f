-- What stands where reading says: the bytes of a value at a span, as far as it has them.
use Rattle.std.specs.Prelude.{ℕ, List, Option, Some, None, take, drop}
use Rattle.grammar.specs.Text.{bytes}
use Rattle.http_url.specs.declared.Span.{Span}
use Rattle.http_url.specs.declared.Url.{Url}

abbrev pub text_at : List ℕ → Span → List ℕ
text_at s x = take x.length (drop x.start s)

-- "an absent path equals `/`"
abbrev pub path_text : List ℕ → Option Span → List ℕ
path_text s None = bytes "/"
path_text s (Some x) = text_at s x

abbrev pub path_at : List ℕ → Url → List ℕ
path_at s u = path_text s u.path
