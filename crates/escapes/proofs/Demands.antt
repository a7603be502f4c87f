-- The theorems of texts with escapes: what a customer reads.
use Prim.Native.Nat.{ℕ}
use Prim.Native.Char.{code}
use mathlib.Core.Path.{◌≡◌}
use mathlib.Core.Logic.{◌↔◌}
use mathlib.Core.Bool.{true}
use mathlib.Core.List.{List, ◌∷◌, ◌++◌}
use Rattle.grammar.specs.Grammar.{Part, Parses}
use Rattle.http_url.specs.Bytes.{PATH, QUERY}
use Rattle.http_url.specs.Grammar.{Name, text_of}
use Rattle.http_url.proofs.Scan.{path_no_percent, query_no_percent}
use Rattle.escapes.specs.Resolved.{escaped_byte, unneeded?, resolved}
use Rattle.escapes.specs.Symbols.{Symbol, Spelled, standing, Agree, NoneUnneeded}
use Rattle.escapes.proofs.Escapes as E
use Rattle.escapes.proofs.Escapes.{equal-spelled, one-spelling, escape-behind, spelled}
use Rattle.escapes.proofs.Escapes.{spelled-resolved, resolved-again, already_resolved}

-- Two texts are resolved to the same bytes just where their symbols agree one by one.
pub equal-texts : (s t : List ℕ) (us vs : List Symbol) → Spelled s us → Spelled t vs → (resolved s ≡ resolved t) ↔ Agree us vs
equal-texts s t us vs = equal-spelled

-- Each path and each query is symbols, and in one way only.
pub path-spelled : (i : ℕ) (s : List ℕ) (ps : List (Part Name)) → Parses (text_of PATH) i s ps → (us : List Symbol) × Spelled s us
path-spelled = spelled PATH path_no_percent

pub query-spelled : (i : ℕ) (s : List ℕ) (ps : List (Part Name)) → Parses (text_of QUERY) i s ps → (us : List Symbol) × Spelled s us
query-spelled = spelled QUERY query_no_percent

pub spelled_once : (s : List ℕ) (us vs : List Symbol) → Spelled s us → Spelled s vs → us ≡ vs
spelled_once s us vs = one-spelling

-- An escape that is not needed equals its character behind any beginning that breaks off inside no escape.
pub escape_equals : (p : List ℕ) (us : List Symbol) → Spelled p us → (x y : ℕ) (t : List ℕ) → unneeded? x y ≡ true
    → resolved (p ++ code "%" ∷ x ∷ y ∷ t) ≡ resolved (p ++ escaped_byte x y ∷ t)
escape_equals p us = escape-behind

-- ## A resolved text: document 02, request (x)

-- "unneeded escapes removed, other escapes as they were": each symbol is there as what it stands for.
pub resolved-spelled : (s : List ℕ) (us : List Symbol) → Spelled s us → Spelled (resolved s) (standing us)
resolved-spelled s us = spelled-resolved

-- So no unneeded escape is left, and resolving again changes nothing; a text without one stays as it is.
pub none_unneeded : (s : List ℕ) (us : List Symbol) → Spelled s us → NoneUnneeded (resolved s)
none_unneeded s us = E.none_unneeded

pub resolved-twice : (s : List ℕ) (us : List Symbol) → Spelled s us → resolved (resolved s) ≡ resolved s
resolved-twice s us = resolved-again

pub resolved_already : (s : List ℕ) (us : List Symbol) → Spelled s us → NoneUnneeded s → resolved s ≡ s
resolved_already s us = already_resolved
