-- A comparison of two header values given as bytes: it reads first one, then the other, and a refusal says which it was.
use Rattle.std.specs.Prelude.{ℕ}
use Rattle.grammar.specs.Reading.{Verdict, value, refused}

pub data Comparison (B : Type 0) : Type 0 where
  outcome : B → Comparison B
  refused_at : (which number place : ℕ) → Comparison B

abbrev pub compare : {A B : Type 0} → (A → A → B) → Verdict A → Verdict A → Comparison B
compare f (refused n p) second = refused_at 1 n p
compare f (value v) (refused n p) = refused_at 2 n p
compare f (value v) (value w) = outcome (f v w)
