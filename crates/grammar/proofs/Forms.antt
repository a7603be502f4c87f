-- What `then`, `seq`, `alt`, `during` and `inside` give is the form that is written, but where a side is void or empty: a law of them is
-- proved in those few cases.
use Prim.Native.Nat.{ℕ}
use Rattle.grammar.specs.Grammar.{Class, Part, Grammar, void, empty, byte, ◌⨾◌, ◌∣◌, star, part, rest, nest}
use Rattle.grammar.specs.helpers.Derivative.{then, seq, or_else, alt, during, inside}

-- P g h k: k is what is given for g and h
module _ {L : Type 0} (P : Grammar L → Grammar L → Grammar L → Type 0) where
  pub then-all : ((g : Grammar L) → P g void void) → ((g : Grammar L) → P g empty g) → ((g h : Grammar L) → P g h (g ⨾ h))
      → (g h : Grammar L) → P g h (then g h)
  then-all u v w g void = u g
  then-all u v w g empty = v g
  then-all u v w g (byte c) = w g (byte c)
  then-all u v w g (h ⨾ k) = w g (h ⨾ k)
  then-all u v w g (h ∣ k) = w g (h ∣ k)
  then-all u v w g (star h) = w g (star h)
  then-all u v w g (part l h) = w g (part l h)
  then-all u v w g (rest c h) = w g (rest c h)
  then-all u v w g (nest o c l m h r n) = w g (nest o c l m h r n)

  pub seq-all : ((h : Grammar L) → P void h void) → ((h : Grammar L) → P empty h h) → ((g h : Grammar L) → P g h (then g h))
      → ((f g h : Grammar L) → P f (seq g h) (seq f (seq g h)) → P g h (seq g h) → P (f ⨾ g) h (seq f (seq g h)))
      → (g h : Grammar L) → P g h (seq g h)
  seq-all u v w x void h = u h
  seq-all u v w x empty h = v h
  seq-all u v w x (byte c) h = w (byte c) h
  seq-all u v w x (f ⨾ g) h = x f g h (seq-all u v w x f (seq g h)) (seq-all u v w x g h)
  seq-all u v w x (f ∣ g) h = w (f ∣ g) h
  seq-all u v w x (star g) h = w (star g) h
  seq-all u v w x (part l g) h = w (part l g) h
  seq-all u v w x (rest c g) h = w (rest c g) h
  seq-all u v w x (nest o c l m g r n) h = w (nest o c l m g r n) h

  or_else_all : ((g : Grammar L) → P g void g) → ((g h : Grammar L) → P g h (g ∣ h)) → (g h : Grammar L) → P g h (or_else g h)
  or_else_all v w g void = v g
  or_else_all v w g empty = w g empty
  or_else_all v w g (byte c) = w g (byte c)
  or_else_all v w g (h ⨾ k) = w g (h ⨾ k)
  or_else_all v w g (h ∣ k) = w g (h ∣ k)
  or_else_all v w g (star h) = w g (star h)
  or_else_all v w g (part l h) = w g (part l h)
  or_else_all v w g (rest c h) = w g (rest c h)
  or_else_all v w g (nest o c l m h r n) = w g (nest o c l m h r n)

  pub alt-all : ((h : Grammar L) → P void h h) → ((g : Grammar L) → P g void g) → ((g h : Grammar L) → P g h (g ∣ h)) → (g h : Grammar L)
      → P g h (alt g h)
  alt-all u v w void h = u h
  alt-all u v w empty h = or_else_all v w empty h
  alt-all u v w (byte c) h = or_else_all v w (byte c) h
  alt-all u v w (f ⨾ g) h = or_else_all v w (f ⨾ g) h
  alt-all u v w (f ∣ g) h = or_else_all v w (f ∣ g) h
  alt-all u v w (star g) h = or_else_all v w (star g) h
  alt-all u v w (part l g) h = or_else_all v w (part l g) h
  alt-all u v w (rest c g) h = or_else_all v w (rest c g) h
  alt-all u v w (nest o c l m g r n) h = or_else_all v w (nest o c l m g r n) h

-- P g k: k is what is given for g
module _ {L : Type 0} (P : Grammar L → Grammar L → Type 0) (u : P void void) where
  pub during-all : (c : Part L) → ((g : Grammar L) → P g (rest c g)) → (g : Grammar L) → P g (during c g)
  during-all c w void = u
  during-all c w empty = w empty
  during-all c w (byte d) = w (byte d)
  during-all c w (f ⨾ g) = w (f ⨾ g)
  during-all c w (f ∣ g) = w (f ∣ g)
  during-all c w (star g) = w (star g)
  during-all c w (part l g) = w (part l g)
  during-all c w (rest d g) = w (rest d g)
  during-all c w (nest o d l m g r n) = w (nest o d l m g r n)

  module _ (o c : Class) (l m : L) (g : Grammar L) (n : ℕ) where
    pub inside-all : ((r : Grammar L) → P r (nest o c l m g r n)) → (r : Grammar L) → P r (inside o c l m g n r)
    inside-all w void = u
    inside-all w empty = w empty
    inside-all w (byte d) = w (byte d)
    inside-all w (f ⨾ h) = w (f ⨾ h)
    inside-all w (f ∣ h) = w (f ∣ h)
    inside-all w (star h) = w (star h)
    inside-all w (part k h) = w (part k h)
    inside-all w (rest d h) = w (rest d h)
    inside-all w (nest p d j k h r x) = w (nest p d j k h r x)
