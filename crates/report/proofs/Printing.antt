-- The program's calls, piece by piece: what they put is the output of the pieces joined.
use mathlib.Core.Path.{◌≡◌, refl, sym, ◌∙◌, ap, ap₂}
use mathlib.Core.List.{List, [], ◌∷◌, ◌++◌, append_assoc}
use Prim.Native.Nat.{ℕ, ◌+◌}
use native.Mathlib.Omega.{arith}
use lib.Dec.{ltb}
use lib.ListN.{length, take, drop}
use lib.Seq.{take_all}
use borrow.Author.Tests.{ltb-true, ltb-false}
use Rattle.grammar.specs.Text.{joined}
use Rattle.numerals.proofs.Digits.{split}
use Rattle.lines.specs.Reading.{line_end, lines_from, rest_from, last_line}
use Rattle.lines.proofs.Ends.{lines_none, rest-none, lines_append, rest_append, first-line, no_line}
use Rattle.lines.proofs.Gathers.{clip_append}
use Rattle.report.specs.Saying.{said, all_said}
use Rattle.report.specs.Calls as C
use Rattle.report.specs.Calls.{LINE_LENGTH, piece_said, piece_held, last_said, Foremost, Calls}
use Rattle.report.proofs.Says.{said_clip}
use Rattle.report.proofs.Pieces.{all_append, all_cons, all_one}

-- ## Of a line begun only its first bytes count
said-behind : (h xs : List ℕ) → said (take LINE_LENGTH h ++ xs) ≡ said (h ++ xs)
said-behind h xs = sym (said_clip (take LINE_LENGTH h ++ xs)) ∙ ap said (clip_append LINE_LENGTH h xs) ∙ said_clip (h ++ xs)

clipped : (h q : List ℕ) → (all_said (lines_from (take LINE_LENGTH h) q) ≡ all_said (lines_from h q))
    × (take LINE_LENGTH (rest_from (take LINE_LENGTH h) q) ≡ take LINE_LENGTH (rest_from h q))
clipped h q = split (ltb (line_end q) (length q))
    (λ t. let a = first-line (take LINE_LENGTH h) q (ltb-true (line_end q) (length q) t) in
    let b = first-line h q (ltb-true (line_end q) (length q) t) in
    let later = lines_from [] (drop (line_end q + 1) q) in (
      ap all_said a.0 ∙ all_cons (take LINE_LENGTH h ++ take (line_end q) q) later
          ∙ ap (λ (z : List ℕ). z ++ all_said later) (said-behind h (take (line_end q) q))
          ∙ sym (ap all_said b.0 ∙ all_cons (h ++ take (line_end q) q) later),
      ap (take LINE_LENGTH) (a.1 ∙ sym b.1),
    ))
    (λ t. let a = no_line (take LINE_LENGTH h) q (ltb-false (line_end q) (length q) t) in
    let b = no_line h q (ltb-false (line_end q) (length q) t) in (
      ap all_said (a.0 ∙ sym b.0),
      ap (take LINE_LENGTH) a.1 ∙ clip_append LINE_LENGTH h q ∙ sym (ap (take LINE_LENGTH) b.1),
    ))

last_clipped : (h : List ℕ) → last_said (take LINE_LENGTH h) ≡ last_said h
last_clipped [] = refl
last_clipped (b ∷ h) = all_one (take LINE_LENGTH (b ∷ h)) ∙ said_clip (b ∷ h) ∙ sym (all_one (b ∷ h))

-- ## The calls
-- the output where a line is begun
abbrev output_from : List ℕ → List ℕ → List ℕ
output_from h xs = all_said (lines_from h xs ++ last_line (rest_from h xs))

output-piece : (h p q : List ℕ) → all_said (lines_from h p) ++ output_from (rest_from h p) q ≡ output_from h (p ++ q)
output-piece h p q =
    let k = rest_from h p in
    sym (all_append (lines_from h p) (lines_from k q ++ last_line (rest_from k q)))
    ∙ ap all_said (sym (append_assoc (lines_from h p) (lines_from k q) (last_line (rest_from k q))))
    ∙ ap₂ (λ (x : List (List ℕ)) (y : List ℕ). all_said (x ++ last_line y)) (sym (lines_append h p q)) (sym (rest_append h p q))

-- the buffer has the first bytes of the line begun
pub calls_print : {line text : List ℕ} {held : ℕ} {pieces : List (List ℕ)} (h : List ℕ) → take held line ≡ take LINE_LENGTH h
    → Calls line held pieces text → text ≡ output_from h (joined pieces)
unfolding joined
calls_print h e (C.last put) =
    put.is ∙ ap last_said e ∙ last_clipped h
    ∙ sym (ap₂ (λ (x : List (List ℕ)) (y : List ℕ). all_said (x ++ last_line y)) (lines_none h) (rest-none h))
calls_print h e (C.next {piece = p} {pieces = pieces} put holds calls) =
    ap₂ (λ (x y : List ℕ). x ++ y) (put.is ∙ ap (λ (z : List ℕ). all_said (lines_from z p)) e ∙ (clipped h p).0)
    (calls_print (rest_from h p) (holds.is ∙ ap (λ (z : List ℕ). take LINE_LENGTH (rest_from z p)) e ∙ (clipped h p).1) calls)
    ∙ output-piece h p (joined pieces)

whole : (xs : List ℕ) → Foremost (length xs) xs xs
whole xs =
    let all : take (length xs) xs ≡ xs = take_all (length xs) xs (omega arith) in
    record { within = omega arith; counts = sym (ap length all); is = all }

pub calls_are : (line : List ℕ) (held : ℕ) (pieces : List (List ℕ)) → (text : List ℕ) × Calls line held pieces text
calls_are line held [] = (_, C.last (whole (last_said (take held line))))
calls_are line held (p ∷ pieces) =
    let after = piece_held line held p in
    let rest = calls_are after (length after) pieces in
    (_, C.next (whole (piece_said line held p)) (whole after) rest.1)
