-- A test that is that of a class passes only bytes, and one byte that is named.
use Rattle.std.specs.Prelude.{◌≡◌, ℕ, Bool, T, nat_lt}
use Rattle.std.proofs.Common.{sym, subst}
use Prim.Native.Char.{code}
use Rattle.grammar.specs.Grammar.{Class}
use Rattle.grammar.specs.helpers.Bounds.{just-below, range-below, or_below}
use Rattle.octets.specs.Bytes.{letter?, blank?}

module _ (p : ℕ → Bool) (c : Class) (e : p ≡ c.has) where
  pub tested-below : (b : ℕ) → T (p b) → T (nat_lt b 256)
  tested-below b h = c.below b (subst (λ (q : ℕ → Bool). T (q b)) e h)

  pub tested-holds : T (p c.some)
  tested-holds = subst (λ (q : ℕ → Bool). T (q c.some)) (sym e) c.holds

-- letters and blanks: of whatever bytes the two tests are made, so that a wrong test is refused by the theorems about it
pub letter-below : (b : ℕ) → T (letter? b) → T (nat_lt b 256)
unfolding letter?
letter-below = or_below _ _ (range-below _ _ tt) (range-below _ _ tt)

pub letter-holds : T (letter? (code "A"))
unfolding letter?
letter-holds = tt

pub blank-below : (b : ℕ) → T (blank? b) → T (nat_lt b 256)
unfolding blank?
blank-below = or_below _ _ (just-below _ tt) (just-below _ tt)

pub blank-holds : T (blank? (code " "))
unfolding blank?
blank-holds = tt
