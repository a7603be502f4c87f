-- The machine for a chunk line agrees with the grammar.
use mathlib.Core.Path.{◌≡◌, refl, sym, ◌∙◌, ap, subst}
use mathlib.Core.Bool.{Bool, true, false, cond}
use mathlib.Core.List.{List, [], ◌∷◌, ◌++◌}
use mathlib.Core.Option.{Option, none, some}
use Prim.Native.Nat.{ℕ, ◌+◌, ◌*◌}
use native.Mathlib.Omega.{arith}
use Rattle.framing.specs.declared.ExtPos.{ExtPos}
use Rattle.framing.specs.declared.LinePos.{LinePos}
use Rattle.framing.specs.declared.LinePos.TheVariants.{First, Size, Ext}
use Rattle.framing.specs.Grammar as G
use Rattle.octets.specs.Bytes.{hex?, hex_value}
use Rattle.framing.specs.Grammar.{Many, hex_value_from, Extensions, Line}
use Rattle.framing.specs.helpers.Machine.{extensions, next_line_pos, line_ends, line_live}
use Rattle.framing.specs.helpers.Scan.{run}
use Rattle.framing.proofs.Scanning.{run_append}
use Rattle.framing.proofs.Cases.{false-true, none-some, by_cond}
use Rattle.framing.proofs.Parts.{at, never_ends}
use Rattle.framing.proofs.Exts.{extensions-read, extensions_no_cr, extensions-begin}

abbrev pub line_run : LinePos → List ℕ → LinePos
line_run = run next_line_pos

-- ## From the machine to the grammar

data Waits : LinePos → ℕ → List ℕ → Type 0 where
  first : {v : ℕ} {xs : List ℕ} → Line xs v → Waits First v xs
  size : {w : ℕ} {s e : List ℕ} → Many hex? s → Extensions e → Waits (Size w) (hex_value_from w s) (s ++ e)
  ext : {w : ℕ} {p : ExtPos} {xs : List ℕ} → extensions.ends (at extensions p xs) ≡ true → Waits (Ext w p) w xs

from_first : {v : ℕ} {xs : List ℕ} → Waits First v xs → Line xs v
from_first (first l) = l

bad : {A : Type 0} {v w : ℕ} {xs : List ℕ} → Waits (Ext w ExtPos.Dead) v xs → A
bad (ext {xs = xs} h) = never_ends extensions extensions-read ExtPos.Dead xs refl h

size-first : {b v : ℕ} {xs : List ℕ} → hex? b ≡ true → Waits (Size (0 * 16 + hex_value b)) v xs → Waits First v (b ∷ xs)
size-first {b} h (size {s = s} m e) = first (G.line (G.size (G.some h m)) e)

to-size : {w b v : ℕ} {xs : List ℕ} → hex? b ≡ true → Waits (Size (w * 16 + hex_value b)) v xs → Waits (Size w) v (b ∷ xs)
to-size h (size m e) = size (G.more h m) e

ext-size : {w b v : ℕ} {xs : List ℕ} → Waits (Ext w (extensions.next extensions.begin b)) v xs → Waits (Size w) v (b ∷ xs)
ext-size {b = b} (ext {xs = xs} h) = size G.none (extensions-read.complete (b ∷ xs) h)

to-ext : {w b v : ℕ} {p : ExtPos} {xs : List ℕ} → Waits (Ext w (extensions.next p b)) v xs → Waits (Ext w p) v (b ∷ xs)
to-ext (ext h) = ext h

line-back : (p : LinePos) (b v : ℕ) (xs : List ℕ) → Waits (next_line_pos p b) v xs → Waits p v (b ∷ xs)
unfolding next_line_pos
line-back First b v xs = by_cond (λ (p : LinePos). Waits p v xs) (hex? b) size-first (λ k h. bad h)
line-back (Size w) b v xs = by_cond (λ (p : LinePos). Waits p v xs) (hex? b) to-size (λ k h. ext-size h)
line-back (Ext w p) b v xs = λ h. to-ext h

ext_nil : (w v : ℕ) (p : ExtPos) (t : Bool) → extensions.ends p ≡ t → cond t (some w) none ≡ some v → Waits (Ext w p) v []
ext_nil w v p true h e = let z : w ≡ v = cc in subst (λ (n : ℕ). Waits (Ext w p) n []) z (ext h)
ext_nil w v p false h e = none-some e

line_nil : (p : LinePos) (v : ℕ) → line_ends p ≡ some v → Waits p v []
unfolding line_ends
line_nil First v e = none-some e
line_nil (Size w) v e = let z : w ≡ v = cc in subst (λ (n : ℕ). Waits (Size w) n []) z (size G.none G.none)
line_nil (Ext w p) v e = ext_nil w v p (extensions.ends p) refl e

waits : (p : LinePos) (v : ℕ) (xs : List ℕ) → line_ends (line_run p xs) ≡ some v → Waits p v xs
waits p v [] e = line_nil p v e
waits p v (b ∷ xs) e = line-back p b v xs (waits (next_line_pos p b) v xs e)

pub line-complete : (xs : List ℕ) (v : ℕ) → line_ends (line_run First xs) ≡ some v → Line xs v
line-complete xs v e = from_first (waits First v xs e)

-- ## From the grammar to the machine

pub run-size : {s : List ℕ} (w : ℕ) → Many hex? s → line_run (Size w) s ≡ Size (hex_value_from w s)
unfolding next_line_pos
run-size w G.none = refl
run-size w (G.more {b = b} h m) = rw h (run-size (w * 16 + hex_value b) m)

pub run-digits : {s : List ℕ} {v : ℕ} → G.Size s v → line_run First s ≡ Size v
unfolding next_line_pos
run-digits (G.size (G.some {b = b} h m)) = rw h (run-size (0 * 16 + hex_value b) m)

pub run-ext : (w : ℕ) (p : ExtPos) (xs : List ℕ) → line_run (Ext w p) xs ≡ Ext w (at extensions p xs)
unfolding next_line_pos
run-ext w p [] = refl
run-ext w p (b ∷ xs) = run-ext w (extensions.next p b) xs

-- extensions take a size as they take the place where they begin
ends-size : (w : ℕ) (xs : List ℕ) → Extensions xs → line_ends (line_run (Size w) xs) ≡ some w
unfolding next_line_pos line_ends
ends-size w [] x = refl
ends-size w (b ∷ xs) x =
    rw (extensions-begin b xs x)
    (ap line_ends (run-ext w (extensions.next extensions.begin b) xs)
    ∙ ap (λ (t : Bool). cond t (some w) none) (extensions-read.sound (b ∷ xs) x))

pub line-sound : {xs : List ℕ} {v : ℕ} → Line xs v → line_ends (line_run First xs) ≡ some v
line-sound (G.line {s = s} {e = e} {v = v} z x) = rw (run_append next_line_pos First s e) (rw (run-digits z) (ends-size v e x))

-- ## Where only digits lead
data Digits : LinePos → ℕ → List ℕ → Type 0 where
  from_none : {v : ℕ} {xs : List ℕ} → G.Size xs v → Digits First v xs
  from_some : {w : ℕ} {xs : List ℕ} → Many hex? xs → Digits (Size w) (hex_value_from w xs) xs

not-ext : {A : Type 0} {v w : ℕ} {p : ExtPos} {xs : List ℕ} → Digits (Ext w p) v xs → A
not-ext h = elim h [ ]

digit_first : {b v : ℕ} {xs : List ℕ} → hex? b ≡ true → Digits (Size (0 * 16 + hex_value b)) v xs → Digits First v (b ∷ xs)
digit_first h (from_some m) = from_none (G.size (G.some h m))

digit_more : {w b v : ℕ} {xs : List ℕ} → hex? b ≡ true → Digits (Size (w * 16 + hex_value b)) v xs → Digits (Size w) v (b ∷ xs)
digit_more h (from_some m) = from_some (G.more h m)

digits-back : (p : LinePos) (b v : ℕ) (xs : List ℕ) → Digits (next_line_pos p b) v xs → Digits p v (b ∷ xs)
unfolding next_line_pos
digits-back First b v xs = by_cond (λ (p : LinePos). Digits p v xs) (hex? b) digit_first (λ k h. not-ext h)
digits-back (Size w) b v xs = by_cond (λ (p : LinePos). Digits p v xs) (hex? b) digit_more (λ k h. not-ext h)
digits-back (Ext w p) b v xs = λ h. not-ext h

digits_nil : (p : LinePos) (v : ℕ) → p ≡ Size v → Digits p v []
digits_nil First v e = let z : ◌≡◌ {A = ℕ} 0 1 = cc in absurd (omega arith)
digits_nil (Size w) v e = let z : w ≡ v = cc in subst (λ (n : ℕ). Digits (Size w) n []) z (from_some G.none)
digits_nil (Ext w p) v e = let z : ◌≡◌ {A = ℕ} 0 1 = cc in absurd (omega arith)

digits : (p : LinePos) (v : ℕ) (xs : List ℕ) → line_run p xs ≡ Size v → Digits p v xs
digits p v [] e = digits_nil p v e
digits p v (b ∷ xs) e = digits-back p b v xs (digits (next_line_pos p b) v xs e)

only_digits : {v : ℕ} {xs : List ℕ} → Digits First v xs → G.Size xs v
only_digits (from_none h) = h

pub digits-complete : (xs : List ℕ) (v : ℕ) → line_run First xs ≡ Size v → G.Size xs v
digits-complete xs v e = only_digits (digits First v xs e)

-- ## Live positions

pub line_dead : (p : LinePos) (b : ℕ) → line_live p ≡ false → line_live (next_line_pos p b) ≡ false
unfolding line_live next_line_pos
line_dead First b h = false-true (sym h)
line_dead (Size v) b h = false-true (sym h)
line_dead (Ext v e) b h = extensions-read.dead e b h

pub line_no_cr : (p : LinePos) → line_live (next_line_pos p 13) ≡ false
unfolding line_live next_line_pos hex?
line_no_cr First = refl
line_no_cr (Size v) = extensions_no_cr extensions.begin
line_no_cr (Ext v e) = extensions_no_cr e

pub line-finish : (p : LinePos) → line_live p ≡ true → (u : List ℕ) × (v : ℕ) × (line_ends (line_run p u) ≡ some v)
unfolding line_live next_line_pos line_ends hex?
line-finish First h = (48 ∷ [], 0, refl)
line-finish (Size v) h = ([], v, refl)
line-finish (Ext v e) h =
    let f : (u : List ℕ) × (extensions.ends (at extensions e u) ≡ true) = extensions-read.finish e h in
    (f.0, v, rw (run-ext v e f.0) (rw f.1 refl))

-- a live position goes on to a line
pub line-begun : (l : List ℕ) → line_live (line_run First l) ≡ true → (u : List ℕ) × (v : ℕ) × Line (l ++ u) v
line-begun l h =
    let f : (u : List ℕ) × (v : ℕ) × (line_ends (line_run (line_run First l) u) ≡ some v) = line-finish (line_run First l) h in
    (f.0, f.1, line-complete (l ++ f.0) f.1 (ap line_ends (run_append next_line_pos First l f.0) ∙ f.2))

pub line-ends-live : (p : LinePos) (v : ℕ) → line_ends p ≡ some v → line_live p ≡ true
unfolding line_live line_ends
line-ends-live First v h = refl
line-ends-live (Size w) v h = refl
line-ends-live (Ext w e) v h = by_cond (λ (o : Option ℕ). o ≡ some v) (extensions.ends e) (λ k _. extensions-read.ends_alive e k) (λ _ z. none-some z) h
