-- What a caller may count on who keeps the struct.
use mathlib.Core.Path.{◌≡◌, refl, sym, ap}
use mathlib.Core.Bool.{true, false}
use mathlib.Core.List.{List}
use Prim.Native.Nat.{ℕ}
use lib.Dec.{eqb}
use lib.ListN.{length}
use borrow.Author.Tests.{ne_eqb}
use Rattle.grammar.specs.Refusals.{OUT_OF_RANGE}
use Rattle.framing.specs.Answer.{Answer, whole, more, refused}
use Rattle.framing.specs.declared.Whole.{Whole}
use Rattle.framing.proofs.Cases.{pick-false}
use Rattle.framing.specs.declared.State.{State}
use Rattle.position_numbers.proofs.Demands.{place_kept}
use Rattle.pieces.specs.declared.Pieces.{Pieces}
use Rattle.pieces.specs.Reading.{valid, state_after, taken_by, answered}
use Rattle.pieces.proofs.Demands.{invalid, never_nine}
use Rattle.ffi.specs.Fields.{body_fields}
use Rattle.ffi_pieces.specs.declared.QzPieces.{QzPieces}
use Rattle.ffi_pieces.specs.declared.QzFed.{QzFed}
use Rattle.ffi_pieces.specs.Fields.{pieces_fields, pieces_of, handed, fed_fields}

-- what C hands back unchanged is the state that it was given: sequences of calls from C are those of `pieces`
pub kept : (s : Pieces) → pieces_of (pieces_fields s) ≡ s
kept s =
    ap (λ (p : State). record { position = p; taken = s.taken; room = s.room; refused = s.refused }) (place_kept s.position)

-- what a call gives
abbrev gives : QzPieces → List ℕ → ℕ → List ℕ → QzFed
gives q piece quota old =
    fed_fields q (state_after (pieces_of q) piece quota (length old)) (taken_by (pieces_of q) piece quota (length old))
    (answered (pieces_of q) piece quota (length old))

module _ (q : QzPieces) (piece : List ℕ) (quota : ℕ) (old : List ℕ) where
  -- an invalid call gives back the struct as it came, whatever its numbers are
  pub unchanged : valid (pieces_of q) quota (length old) ≡ false → (gives q piece quota old).pieces ≡ q
  unchanged h =
      ap (λ (a : Answer Whole). handed q (state_after (pieces_of q) piece quota (length old)) (body_fields a).number)
      (invalid (pieces_of q) piece quota old h).2

  -- a valid one that of the next state
  pub goes_on : valid (pieces_of q) quota (length old) ≡ true
      → (gives q piece quota old).pieces ≡ pieces_fields (state_after (pieces_of q) piece quota (length old))
  goes_on h = go (answered (pieces_of q) piece quota (length old)) (λ p. never_nine (pieces_of q) piece quota (length old) p h)
    where
      s : Pieces
      s = state_after (pieces_of q) piece quota (length old)

      go : (a : Answer Whole) → ((p : ℕ) → a ≡ refused OUT_OF_RANGE p → ⊥) → handed q s (body_fields a).number ≡ pieces_fields s
      go (whole w) f = refl
      go more f = refl
      go (refused n p) f =
          sym (pick-false (eqb n OUT_OF_RANGE) q (pieces_fields s) (ne_eqb n OUT_OF_RANGE (λ e. f p (ap (λ (k : ℕ). refused k p) e))))
