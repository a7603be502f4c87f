-- The classes of bytes of a URL, as tests and as grammars use them.
use Rattle.std.specs.Prelude.{ℕ, Bool, true, false, ◌||◌, T, List, [], ◌∷◌, ◌==◌, nat_lt}
use Prim.Native.Char.{code}
use Rattle.grammar.specs.Grammar.{Class, just, just-below, bytes?, T-left, T-right}
use Rattle.grammar.specs.Classes.{one_of, ◌or◌}
use Rattle.grammar.specs.Text.{bytes}
use Rattle.octets.specs.Bytes.{digit?, letter?}
use Rattle.octets.specs.Classes.{DIGIT, LETTER}

abbrev pub marks : List ℕ
marks = bytes "-_.!~*'()"

abbrev pub delimiters : List ℕ
delimiters = bytes ";/:@&=+$,"

-- "letters, digits, `-`, `.`"
unfoldable pub host? : ℕ → Bool
host? b = letter? b || (digit? b || one_of (bytes "-.") b)

-- letters, digits and the marks
unfoldable pub unreserved? : ℕ → Bool
unreserved? b = letter? b || (digit? b || one_of marks b)

-- a byte of a path that stands for itself
unfoldable pub path? : ℕ → Bool
path? b = unreserved? b || one_of delimiters b

-- "a query may also hold `?`"
unfoldable pub query? : ℕ → Bool
query? b = path? b || b == (code "?")

pub any-of-below : (xs : List ℕ) → T (bytes? xs) → (b : ℕ) → T (one_of xs b) → T (nat_lt b 256)
any-of-below [] p b h = absurd h
any-of-below (x ∷ xs) p b h =
    go (b == x) h (just-below x (T-left (nat_lt x 256) (bytes? xs) p) b) (any-of-below xs (T-right (nat_lt x 256) (bytes? xs) p) b)
  where
    go : (t : Bool) → T (t || one_of xs b) → (T t → T (nat_lt b 256)) → (T (one_of xs b) → T (nat_lt b 256)) → T (nat_lt b 256)
    go true h f g = f tt
    go false h f g = g h

-- the bytes of a list, of which x is one
abbrev pub any_of : (xs : List ℕ) → T (bytes? xs) → (x : ℕ) → T (one_of xs x) → Class
any_of xs p x q = record { has = one_of xs; below = any-of-below xs p; some = x; holds = q }

pub host-below : (b : ℕ) → T (host? b) → T (nat_lt b 256)
unfolding host?
host-below b = (LETTER or DIGIT or any_of (bytes "-.") tt (code "-") tt).below b

pub host-some : T (host? (code "a"))
unfolding host? letter?
host-some = tt

abbrev pub HOST : Class
HOST = record { has = host?; below = host-below; some = code "a"; holds = host-some }

pub path-below : (b : ℕ) → T (path? b) → T (nat_lt b 256)
unfolding path? unreserved?
path-below b = ((LETTER or DIGIT or any_of marks tt (code "-") tt) or any_of delimiters tt (code ";") tt).below b

pub path-some : T (path? (code "a"))
unfolding path? unreserved? letter?
path-some = tt

abbrev pub PATH : Class
PATH = record { has = path?; below = path-below; some = code "a"; holds = path-some }

pub query-below : (b : ℕ) → T (query? b) → T (nat_lt b 256)
unfolding query?
query-below b = (PATH or just (code "?") tt).below b

pub query-some : T (query? (code "a"))
unfolding query? path? unreserved? letter?
query-some = tt

abbrev pub QUERY : Class
QUERY = record { has = query?; below = query-below; some = code "a"; holds = query-some }
