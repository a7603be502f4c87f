-- What is left of a grammar behind a byte, computed. Nothing here has to be believed: proofs/Derivative.antt and proofs/Longest.antt tie
-- it to `Parses` and `Live`.
use Rattle.std.specs.Prelude.{ℕ, zero, suc, Bool, true, false, cond, ◌&&◌, ◌||◌, List, [], ◌∷◌}
use Rattle.grammar.specs.Grammar.{Class, Part, Grammar, void, empty, byte, ◌⨾◌, ◌∣◌, star, part, rest, nest, grown}

-- is the empty text one of g's? has g any text?
abbrev pub nullable : {L : Type 0} → Grammar L → Bool
nullable void = false
nullable empty = true
nullable (byte c) = false
nullable (g ⨾ h) = nullable g && nullable h
nullable (g ∣ h) = nullable g || nullable h
nullable (star g) = true
nullable (part l g) = nullable g
nullable (rest c g) = nullable g
nullable (nest o c l m g r n) = false

abbrev pub live : {L : Type 0} → Grammar L → Bool
live void = false
live empty = true
live (byte c) = true
live (g ⨾ h) = live g && live h
live (g ∣ h) = live g || live h
live (star g) = true
live (part l g) = live g
live (rest c g) = live g
live (nest o c l m g r n) = live r

-- ⨾, ∣ and rest without what says nothing; ⨾ stands to the right
abbrev pub then : {L : Type 0} → Grammar L → Grammar L → Grammar L
then g void = void
then g empty = g
then g (byte c) = g ⨾ byte c
then g (h ⨾ k) = g ⨾ (h ⨾ k)
then g (h ∣ k) = g ⨾ (h ∣ k)
then g (star h) = g ⨾ star h
then g (part l h) = g ⨾ part l h
then g (rest c h) = g ⨾ rest c h
then g (nest o c l m h r n) = g ⨾ nest o c l m h r n

abbrev pub seq : {L : Type 0} → Grammar L → Grammar L → Grammar L
seq void h = void
seq empty h = h
seq (byte c) h = then (byte c) h
seq (f ⨾ g) h = seq f (seq g h)
seq (f ∣ g) h = then (f ∣ g) h
seq (star g) h = then (star g) h
seq (part l g) h = then (part l g) h
seq (rest c g) h = then (rest c g) h
seq (nest o c l m g r n) h = then (nest o c l m g r n) h

abbrev pub or_else : {L : Type 0} → Grammar L → Grammar L → Grammar L
or_else g void = g
or_else g empty = g ∣ empty
or_else g (byte c) = g ∣ byte c
or_else g (h ⨾ k) = g ∣ (h ⨾ k)
or_else g (h ∣ k) = g ∣ (h ∣ k)
or_else g (star h) = g ∣ star h
or_else g (part l h) = g ∣ part l h
or_else g (rest c h) = g ∣ rest c h
or_else g (nest o c l m h r n) = g ∣ nest o c l m h r n

abbrev pub alt : {L : Type 0} → Grammar L → Grammar L → Grammar L
alt void h = h
alt empty h = or_else empty h
alt (byte c) h = or_else (byte c) h
alt (f ⨾ g) h = or_else (f ⨾ g) h
alt (f ∣ g) h = or_else (f ∣ g) h
alt (star g) h = or_else (star g) h
alt (part l g) h = or_else (part l g) h
alt (rest c g) h = or_else (rest c g) h
alt (nest o c l m g r n) h = or_else (nest o c l m g r n) h

abbrev pub during : {L : Type 0} → Part L → Grammar L → Grammar L
during p void = void
during p empty = rest p empty
during p (byte c) = rest p (byte c)
during p (f ⨾ g) = rest p (f ⨾ g)
during p (f ∣ g) = rest p (f ∣ g)
during p (star g) = rest p (star g)
during p (part l g) = rest p (part l g)
during p (rest c g) = rest p (rest c g)
during p (nest o c l m g r n) = rest p (nest o c l m g r n)

-- an item whose rest is r, at n + 1 open levels; what is left when one of them is closed
abbrev pub inside : {L : Type 0} → Class → Class → L → L → Grammar L → ℕ → Grammar L → Grammar L
inside o c l m g n void = void
inside o c l m g n empty = nest o c l m g empty n
inside o c l m g n (byte d) = nest o c l m g (byte d) n
inside o c l m g n (f ⨾ h) = nest o c l m g (f ⨾ h) n
inside o c l m g n (f ∣ h) = nest o c l m g (f ∣ h) n
inside o c l m g n (star h) = nest o c l m g (star h) n
inside o c l m g n (part k h) = nest o c l m g (part k h) n
inside o c l m g n (rest d h) = nest o c l m g (rest d h) n
inside o c l m g n (nest p d j k h r w) = nest o c l m g (nest p d j k h r w) n

abbrev pub closed : {L : Type 0} → Class → Class → L → L → Grammar L → ℕ → Grammar L
closed o c l m g zero = empty
closed o c l m g (suc n) = nest o c l m g empty n

-- the empty text of g, at the place i, with its parts
abbrev pub ends : {L : Type 0} → Grammar L → ℕ → Grammar L
ends void i = void
ends empty i = empty
ends (byte c) i = void
ends (g ⨾ h) i = seq (ends g i) (ends h i)
ends (g ∣ h) i = alt (ends g i) (ends h i)
ends (star g) i = empty
ends (part l g) i = during (record { label = l; start = i; text = [] }) (ends g i)
ends (rest c g) i = during c (ends g i)
ends (nest o c l m g r n) i = void

-- what may follow the byte b, which stands at the place i, in a text of g; what may follow the bytes s
abbrev pub deriv : {L : Type 0} → Grammar L → ℕ → ℕ → Grammar L
deriv void i b = void
deriv empty i b = void
deriv (byte c) i b = cond (c.has b) empty void
deriv (g ⨾ h) i b = alt (seq (deriv g i b) h) (seq (ends g i) (deriv h i b))
deriv (g ∣ h) i b = alt (deriv g i b) (deriv h i b)
deriv (star g) i b = seq (deriv g i b) (star g)
deriv (part l g) i b = during (record { label = l; start = i; text = b ∷ [] }) (deriv g i b)
deriv (rest c g) i b = during (grown c (b ∷ [])) (deriv g i b)
deriv (nest o c l m g r n) i b =
    alt (inside o c l m g n (deriv r i b))
    (seq (ends r i)
    (alt (cond (o.has b) (rest (record { label = l; start = i; text = b ∷ [] }) empty ⨾ nest o c l m g empty (suc n)) void)
    (alt (cond (c.has b) (then (rest (record { label = m; start = i; text = b ∷ [] }) empty) (closed o c l m g n)) void)
    (inside o c l m g n (deriv g i b)))))

abbrev pub residual : {L : Type 0} → Grammar L → ℕ → List ℕ → Grammar L
residual g i [] = g
residual g i (b ∷ s) = residual (deriv g i b) (suc i) s

-- how far s stays live
abbrev pub reach : {L : Type 0} → Grammar L → ℕ → List ℕ → ℕ
reach g i [] = zero
reach g i (b ∷ s) = cond (live (deriv g i b)) (suc (reach (deriv g i b) (suc i) s)) zero
