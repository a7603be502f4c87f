-- The answer so far, and whether a body is over, by what a state holds.
use mathlib.Core.Path.{◌≡◌, refl, ◌∙◌, ap}
use mathlib.Core.Bool.{Bool, cond}
use mathlib.Core.List.{[]}
use mathlib.Core.Option.{none}
use Prim.Native.Nat.{ℕ}
use borrow.Author.Tests.{eq-eqb, ne_eqb}
use Rattle.framing.specs.Answer.{whole, more, refused}
use Rattle.framing.specs.declared.State.{State}
use Rattle.framing.specs.declared.State.TheVariants.{Line, LineFeed, Data, DataCr, DataLf, Trail, EndLf, Done, Dead}
use Rattle.framing.specs.helpers.Machine.{done, emit, tell}
use Rattle.pieces.specs.declared.Pieces.{Pieces}
use Rattle.pieces.specs.Reading.{unrefused, answer_of}

module _ (s : Pieces) where
  pub answer-refused : (s.refused ≡ 0 → ⊥) → answer_of s ≡ refused s.refused s.taken
  unfolding answer_of
  answer-refused h =
      ap (λ (t : Bool). cond t (unrefused (done s.position) s.taken) (refused s.refused s.taken)) (ne_eqb s.refused 0 h)

  module _ (h : s.refused ≡ 0) where
    answer_by : answer_of s ≡ unrefused (done s.position) s.taken
    unfolding answer_of
    answer_by =
        ap (λ (t : Bool). cond t (unrefused (done s.position) s.taken) (refused s.refused s.taken)) (eq-eqb s.refused 0 h)

    pub answer-done : (t n : ℕ) → s.position ≡ Done t n → answer_of s ≡ whole (tell s.taken (record { length = t; trailer = n }))
    unfolding done
    answer-done t n e = answer_by ∙ ap (λ (p : State). unrefused (done p) s.taken) e

    pub answer-more : done s.position ≡ none → answer_of s ≡ more
    answer-more e = answer_by ∙ ap (λ o. unrefused o s.taken) e

-- ## The other arms of a match on a position
-- not at a body's end
pub not_done : (q : State) → ((t n : ℕ) → q ≡ Done t n → ⊥) → done q ≡ none
unfolding done
not_done (Line p k t) h = refl
not_done (LineFeed v t) h = refl
not_done (Data m t) h = refl
not_done (DataCr t) h = refl
not_done (DataLf t) h = refl
not_done (Trail p k t) h = refl
not_done (EndLf t n) h = refl
not_done (Done t n) h = absurd (h t n refl)
not_done Dead h = refl

-- not in data
pub no_data : (q : State) → ((m t : ℕ) → q ≡ Data m t → ⊥) → (b : ℕ) → emit q b ≡ []
unfolding emit
no_data (Line p k t) h b = refl
no_data (LineFeed v t) h b = refl
no_data (Data m t) h b = absurd (h m t refl)
no_data (DataCr t) h b = refl
no_data (DataLf t) h b = refl
no_data (Trail p k t) h b = refl
no_data (EndLf t n) h b = refl
no_data (Done t n) h b = refl
no_data Dead h b = refl
