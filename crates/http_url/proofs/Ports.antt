-- The port of a URL that breaks no limit.
use Rattle.std.proofs.Common.{◌≡◌, ℕ, ◌≤◌, Bool, true, false, cond, ◌||◌, ltb, List, [], ◌∷◌, refl, true≢false, arith, ltb-false}
use mathlib.Core.Option.{some}
use Rattle.grammar.specs.Grammar.{Part}
use Rattle.octets.specs.Numbers.{number, above?}
use Rattle.http_url.specs.Grammar.{Name, host, port, path, query, is_port, named, port_text, port_number, largest_port}

first-false : (x y : Bool) → (x || y) ≡ false → x ≡ false
first-false true y e = absurd (true≢false e)
first-false false y e = refl

text-within : (t : List ℕ) → ltb largest_port (number t) ≡ false → port_text t ≤ largest_port
text-within [] e = omega arith
text-within (b ∷ t) e = ltb-false largest_port (number (b ∷ t)) e

pub named-within : (ps : List (Part Name)) → above? is_port largest_port ps ≡ false → port_number (named is_port ps) ≤ largest_port
named-within [] e = omega arith
named-within (c ∷ ps) e = go c.label (λ f. named-within ps f) e
  where
    go : (l : Name) → (above? is_port largest_port ps ≡ false → port_number (named is_port ps) ≤ largest_port)
        → above? is_port largest_port (record { label = l; start = c.start; text = c.text } ∷ ps) ≡ false
        → port_number (cond (is_port l) (some c) (named is_port ps)) ≤ largest_port
    go host f e = f e
    go port f e = text-within c.text (first-false (ltb largest_port (number c.text)) (above? is_port largest_port ps) e)
    go path f e = f e
    go query f e = f e
