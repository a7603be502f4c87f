-- Names of three bytes in a table, one behind the other, and which of them a text begins with.
use Rattle.std.specs.Prelude.{ℕ, suc, cond, List, [], ◌∷◌}
use Rattle.grammar.specs.Text.{bytes}
use Rattle.grammar.specs.helpers.Words.{begins}

abbrev pub month_names : List ℕ
month_names = bytes "JanFebMarAprMayJunJulAugSepOctNovDec"

abbrev pub day_names : List ℕ
day_names = bytes "MonTueWedThuFriSatSun"

-- "The first name in the month table that agrees with the three bytes gives the month number." This is the number of the first name in a
-- table that the text begins with, where the names are numbered from n on; 0 where the text begins with none of them.
unfoldable pub first_name : (n : ℕ) (names text : List ℕ) → ℕ
first_name n (a ∷ b ∷ c ∷ names) t = cond (begins (a ∷ b ∷ c ∷ []) t) n (first_name (suc n) names t)
first_name n [] t = 0
-- a table ends behind a name, not within one
first_name n (a ∷ []) t = 0
first_name n (a ∷ b ∷ []) t = 0
