-- The limit on trailers: the machine finds it where the grammar says that it is broken, and nowhere else.
use mathlib.Core.Path.{◌≡◌, refl}
use mathlib.Core.Bool.{true}
use mathlib.Core.List.{List}
use Prim.Native.Nat.{ℕ, suc}
use lib.ListN.{length}
use borrow.Author.Tests.{eqb-true, eq-eqb}
use Rattle.grammar.specs.Refusals.{TRAILER_TOO_LONG}
use Rattle.framing.specs.declared.State.{State}
use Rattle.framing.specs.Grammar as G
use Rattle.framing.specs.Grammar.{InTrailer, Broken, TRAILER_LIMIT}
use Rattle.framing.specs.helpers.Machine.{live, past_trailer, long_trailer}
use Rattle.framing.proofs.Past.{Past}
use Rattle.framing.proofs.Finds.{Finds, Tied}
use Rattle.framing.proofs.InTrailer.{trailer-finds, Stands, trailer-stands}

pub long-trailer-found : {p t : List ℕ} → InTrailer p t → length t ≡ suc TRAILER_LIMIT → Finds long_trailer p
long-trailer-found {t = t} i e = trailer-finds past_trailer i (eq-eqb (length t) (suc TRAILER_LIMIT) e)

long-trailer-broken : (room : ℕ) (s : State) (p d : List ℕ) → long_trailer s ≡ true → live s ≡ true → Past s p d
    → Broken room TRAILER_TOO_LONG p
long-trailer-broken room s p d e a h =
    let w : Stands past_trailer p = trailer-stands past_trailer s p d e a h in
    G.long_trailer w.is (eqb-true (length w.part) (suc TRAILER_LIMIT) w.passed)

pub long-trailer_tied : (room : ℕ) → Tied room (TRAILER_TOO_LONG, long_trailer)
long-trailer_tied room = record { opens = refl; broken = long-trailer-broken room }
