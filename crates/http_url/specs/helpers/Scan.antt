-- For the contracts of the reader's helpers.
use Rattle.std.specs.Prelude as P
use Rattle.std.specs.Prelude.{◌≡◌, ℕ, ◌+◌, ◌-◌, ◌<◌, ◌≤◌, Bool, true, false, List, [], ◌∷◌, ◌++◌, Result, Ok, Err, length, ◌≢◌, slice_index}
use Prim.Native.Char.{code}
use Rattle.std.proofs.Math.Option.{Option, none, some}
use Rattle.grammar.specs.Grammar.{Part, ◌⨾◌}
use Rattle.grammar.specs.Reading.{refused}
use Rattle.grammar.specs.helpers.Checks.{ahead}
use Rattle.grammar.specs.helpers.Judge.{header}
use Rattle.grammar.specs.helpers.Scans.{slice, from}
use Rattle.octets.specs.Bytes.{hex?}
use Rattle.octets.specs.declared.Refusal.{Refusal}
use Rattle.octets.specs.declared.Refusal.TheVariants.{Malformed}
use Rattle.octets.specs.Reading.{number_of, place_of}
use Rattle.octets.specs.Numbers.{above?}
use Rattle.http_url.specs.declared.Span.{Span}
use Rattle.http_url.specs.declared.Url.{Url}
use Rattle.http_url.specs.Grammar.{Name, host, port, path, port_part, path_part, query_part, port_text, default_port}
use Rattle.http_url.specs.Grammar.{is_port, largest_port, rules}

-- n hex digits stand at i; where they are fewer than two, no further one
pub record Hexes (s : List ℕ) (i n : ℕ) : Type 0 where
  pub few : n ≤ 2
  pub within : i + n ≤ length s
  pub are : (k : ℕ) → k < n → hex? (slice_index s (i + k)) ≡ true
  pub stops : n < 2 → i + n < length s → hex? (slice_index s (i + n)) ≡ false

-- from i up to e stand bytes that pass the test, and escapes
pub data Stretch (p : ℕ → Bool) (s : List ℕ) (i : ℕ) : ℕ → Type 0 where
  empty : Stretch p s i i
  character : {e : ℕ} → Stretch p s i e → e < length s → p (slice_index s e) ≡ true → Stretch p s i (e + 1)
  escape : {e : ℕ} → Stretch p s i e → e < length s → slice_index s e ≡ code "%" → Hexes s (e + 1) 2 → Stretch p s i (e + 3)

-- the stretch that stands at i ends there, or breaks off there inside an escape
abbrev pub Found : (ℕ → Bool) → List ℕ → ℕ → Result ℕ Refusal → Type 0
Found p s i (Ok e) =
    Stretch p s i e × (e ≤ length s) × (e < length s → p (slice_index s e) ≡ false) × (e < length s → slice_index s e ≢ code "%")
Found p s i (Err r) =
    (j : ℕ) × (n : ℕ) × (r ≡ Malformed ((j + 1) + n)) × Stretch p s i j × (j < length s) × (slice_index s j ≡ code "%")
    × Hexes s (j + 1) n × (n < 2)

-- the host begins behind the scheme
abbrev pub host_start : ℕ
host_start = 7

abbrev pub host_at : List ℕ → ℕ → Part Name
host_at s e = record { label = host; start = host_start; text = slice s host_start e }

abbrev pub url_with : (e n : ℕ) (p q : P.Option Span) → Url
url_with e n p q = record { host = record { start = host_start; length = e - host_start }; port = n; path = p; query = q }

-- the host stands before the place e, and the answer is what is found from there on
pub record AfterHost (s : List ℕ) (e : ℕ) : Type 0 where
  pub some : host_start < e
  pub within : e ≤ length s
  pub reads : header rules s ≡ from rules s (ahead (host_at s e ∷ []) (port_part ⨾ path_part)) e

-- the parts before a path that stands at i: the host, and the port where its digits begin at a place
abbrev pub heads : List ℕ → ℕ → Option ℕ → ℕ → List (Part Name)
heads s e none i = host_at s e ∷ []
heads s e (some j) i = host_at s e ∷ record { label = port; start = j; text = slice s j i } ∷ []

abbrev pub port_read : List ℕ → Option ℕ → ℕ → ℕ
port_read s none i = default_port
port_read s (some j) i = port_text (slice s j i)

-- the host ends at e, the port is n, and the answer is what is found from i on
pub record BeforePath (s : List ℕ) (e n i : ℕ) : Type 0 where
  pub digits : Option ℕ
  pub some : host_start < e
  pub host_within : e ≤ length s
  pub within : i ≤ length s
  pub is : port_read s digits i ≡ n
  pub small : n ≤ largest_port
  pub quiet : above? is_port largest_port (heads s e digits i) ≡ false
  pub reads : header rules s ≡ from rules s (ahead (heads s e digits i) path_part) i

-- the port was read, or passes its limit
abbrev pub PortRead : List ℕ → ℕ → Result (ℕ × ℕ) Refusal → Type 0
PortRead s e (Ok v) = BeforePath s e v.0 v.1
PortRead s e (Err r) = header rules s ≡ refused (number_of r) (place_of r)

abbrev pub path_at : List ℕ → ℕ → ℕ → Part Name
path_at s i f = record { label = path; start = i; text = slice s i f }

-- the path stands from i up to f, and the answer is what is found from there on
pub record BeforeQuery (s : List ℕ) (e n i f : ℕ) : Type 0 where
  pub before : BeforePath s e n i
  pub some : i < f
  pub within : f ≤ length s
  pub reads : header rules s ≡ from rules s (ahead (heads s e before.digits i ++ path_at s i f ∷ []) query_part) f
