-- Reading with an argument that has a range of its own: outside of it the argument is refused, before anything is read.
use Rattle.grammar.specs.Reading.{Verdict, refused}
use Rattle.grammar.specs.Refusals.{OUT_OF_RANGE}

-- "argument outside its range", at 0, "first of all"; within its range, the answer that reading asks for
pub data Asked {A : Type 0} (InRange : Type 0) (Answer : Verdict A → Type 0) : Verdict A → Type 0 where
  out_of_range : (InRange → ⊥) → Asked InRange Answer (refused OUT_OF_RANGE 0)
  in_range : {v : Verdict A} → InRange → Answer v → Asked InRange Answer v
