-- What a reader of a body answers. W is what it tells of a body that is whole.
use Rattle.std.specs.Prelude.{ℕ}

-- "Answers: whole, with bytes taken and body length; more; refused", with the number and the place
pub data Answer (W : Type 0) : Type 0 where
  whole : W → Answer W
  more : Answer W
  refused : ℕ → ℕ → Answer W
