-- Over a chunk at a stroke: its line, where that is known to be one, its data, and the CR LF behind it.
use Rattle.std.proofs.Common.{◌≡◌, ℕ, ◌+◌, ◌-◌, ◌<◌, ◌≤◌, List, [], ◌∷◌, length, get_or, take, drop, sym, ◌∙◌, subst, arith, length-drop}
use Rattle.std.proofs.Common.{length-take-le, Ok}
use native.Mathlib.Decide.{dec_le}
use Rattle.framing.specs.Answer as Framing
use Rattle.framing.specs.declared.LinePos.TheVariants.{First}
use Rattle.framing.specs.declared.State.TheVariants.{Line, Data, DataCr, DataLf}
use Rattle.framing.specs.Reading.{decode}
use Rattle.chunked.specs.Verdict.{verdict}
use Rattle.chunked.specs.declared.Answer.{Answer}
use Rattle.chunked.specs.declared.Answer.TheVariants.{Whole, More, Refused}
use Rattle.chunked.specs.declared.Ending.{Ending}
use Rattle.chunked.specs.declared.ChunkLine.{ChunkLine}
use Rattle.chunked.specs.declared.Run.{Run}
use Rattle.chunked.specs.helpers.Passes.{At, LineAt, LineRead, Known, CrlfAt, ChunkAt, ChunkRead}
use Rattle.chunked.specs.helpers.Passes.{Plain, SameAt, ChunksTo, no_chunk, chunk_then, InChunks, ending_answer, Reached}
use Rattle.framing.proofs.Passing.{Passes, octets_part, passes-size, passes_data, passes-part}
use Rattle.chunked.proofs.Passes.{at_next, at_more, at_refuse, at_along, data_fits}
use Rattle.framing.proofs.Turns as Turns

module _ {room : ℕ} {xs : List ℕ} where
  -- ## A known line
  -- over a line and its CR LF, to its data
  pub line_on : {t i w v : ℕ} → At room xs (Line First 0 t) i → 0 < v → LineAt xs i w v (13 ∷ 10 ∷ []) → t + v ≤ room
      → At room xs (Data (v - 1) (t + v)) (i + w)
  line_on {t} {i} {w} {v} at pos l fits =
      at_along at w l.inside
      (subst (λ (z : List ℕ). Passes room (Line First 0 t) z [] (Data (v - 1) (t + v))) (sym l.split)
      (passes-size t l.line pos l.short fits))

  -- ## The CR LF
  module _ {t e : ℕ} (at : At room xs (DataCr t) e) where
    pub cr-refused : e < length xs → (get_or xs e 0 ≡ 13 → ⊥) → Framing.refused 1 e ≡ decode room xs
    cr-refused lt h = at_refuse at lt (Turns.no_data_cr (get_or xs e 0) t h) (Turns.no_more room)

    module _ (lt : e < length xs) (cr : get_or xs e 0 ≡ 13) where
      pub cr-on : At room xs (DataLf t) (e + 1)
      cr-on = at_next at lt (Turns.data_cr (get_or xs e 0) t cr) (Turns.quiet_data_lf room t)

      pub lf-refused : e + 1 < length xs → (get_or xs (e + 1) 0 ≡ 10 → ⊥) → Framing.refused 1 (e + 1) ≡ decode room xs
      lf-refused l h = at_refuse cr-on l (Turns.no_data_lf (get_or xs (e + 1) 0) t h) (Turns.no_more room)

      pub lf-on : e + 1 < length xs → get_or xs (e + 1) 0 ≡ 10 → At room xs (Line First 0 t) (e + 2)
      lf-on l h =
          let z : e + 1 + 1 ≡ e + 2 = omega arith in
          subst (At room xs (Line First 0 t)) z (at_next cr-on l (Turns.data_lf (get_or xs (e + 1) 0) t h) (Turns.quiet-first room t))

  -- ## The data
  module _ (bytes : (k : ℕ) → get_or xs k 0 < 256) where
    module _ {v t j : ℕ} (pos : 0 < v) (at : At room xs (Data (v - 1) t) j) where
      pub data_on : j + v ≤ length xs → At room xs (DataCr t) (j + v)
      data_on h =
          at_along at v h (passes_data (take v (drop j xs)) (v - 1) t (octets_part j v xs bytes)
          (omega (arith, length-take-le v (drop j xs) (omega (arith, length-drop j xs)))))

      pub data_more : length xs - j ≤ v → Framing.more ≡ decode room xs
      data_more h = go (dec_le v (length xs - j))
        where
          rest : length (take (length xs - j) (drop j xs)) ≡ length xs - j
          rest = length-take-le (length xs - j) (drop j xs) (omega (arith, length-drop j xs))

          go : Dec (v ≤ length xs - j) → Framing.more ≡ decode room xs
          go (yes g) = at_more (data_on (omega (arith, at.within))) (omega (arith, at.within))
          go (no g) =
              at_more (at_along at (length xs - j) (omega (arith, at.within))
              (passes-part (take (length xs - j) (drop j xs)) (v - 1) t (octets_part j (length xs - j) xs bytes) (omega (arith, rest))))
              (omega (arith, at.within))

    -- over a chunk
    pub chunk-on : {t i w v : ℕ} → At room xs (Line First 0 t) i → ChunkAt xs i w v → t + v ≤ room
        → At room xs (Line First 0 (t + v)) (i + w + v + 2)
    chunk-on {t} {i} {w} {v} at c fits =
        let a : i + (w + v) ≡ i + w + v = omega arith in
        let k : CrlfAt xs (i + w + v) = subst (CrlfAt xs) a c.end in
        lf-on (data_on c.some (line_on at c.some c.line fits) (omega (arith, k.inside))) (omega (arith, k.inside)) k.cr
        (omega (arith, k.inside)) k.lf

-- ## Chunks with one line
module _ {xs : List ℕ} where
  pub none-known : Known xs (record { at = 0; length = 0; size = 0 })
  none-known = record { inside = λ h. absurd (omega arith); line = λ h. absurd (omega arith) }

  -- a line that is not to be compared
  pub left-known : {i v : ℕ} → Known xs (record { at = i; length = 0; size = v })
  left-known = record { inside = λ h. absurd (omega arith); line = λ h. absurd (omega arith) }

  pub none-plain : {i left : ℕ} → Plain xs i left (record { at = 0; length = 0; size = 0 })
  none-plain = (none-known, λ h. absurd (omega arith))

  pub chunk-known : {i w v : ℕ} → ChunkAt xs i w v → Known xs (record { at = i; length = w; size = v })
  chunk-known {i} {w} {v} c = record { inside = λ _. omega (arith, c.end.inside); line = λ _. (c.some, c.line) }

  pub read-known : {line : ChunkLine} {i : ℕ} → line.at ≡ i → ChunkAt xs i line.length line.size → Known xs line
  read-known {line} e c = record {
    inside = λ h. omega (arith, e, c.end.inside);
    line = λ h. (c.some, subst (λ (k : ℕ). LineAt xs k line.length line.size (13 ∷ 10 ∷ [])) (sym e) c.line);
  }

  -- the same bytes are the same line
  pub same-line-at : {last : ChunkLine} {i : ℕ} → Known xs last → 0 < last.length → i + last.length ≤ length xs
      → SameAt xs last.at i last.length → LineAt xs i last.length last.size (13 ∷ 10 ∷ [])
  same-line-at {last} {i} known h inside same =
      let l : LineAt xs last.at last.length last.size (13 ∷ 10 ∷ []) = (known.line h).1 in
      record { inside = inside; text = l.text; split = sym same ∙ l.split; line = l.line; short = l.short }

  pub same-chunk : {last : ChunkLine} {i : ℕ} → Known xs last → 0 < last.length → CrlfAt xs (i + (last.length + last.size))
      → SameAt xs last.at i last.length → ChunkAt xs i last.length last.size
  same-chunk known h end same =
      record { some = (known.line h).0; line = same-line-at known h (omega (arith, end.inside)) same; end = end }

-- a line that was read, its data and CR LF
pub chunk_read : (room : ℕ) (xs : List ℕ) (i t : ℕ) (line : ChunkLine) → LineRead room xs i t (Ok line)
    → i + line.length + line.size + 2 ≤ length xs → get_or xs (i + line.length + line.size) 0 ≡ 13
    → get_or xs (i + line.length + line.size + 1) 0 ≡ 10 → ChunkRead room xs i t (Ok line)
chunk_read room xs i t line r h cr lf =
    let k : i + line.length + line.size ≡ i + (line.length + line.size) = omega arith in (
      r.0,
      data_fits r.2,
      record { some = r.1; line = r.3; end = subst (CrlfAt xs) k (record { inside = h; cr = cr; lf = lf }) },
    )

-- ## Chunks one after the other
module _ {xs : List ℕ} where
  pub chunk-more : {i j n w v : ℕ} → ChunksTo xs i j n → ChunkAt xs j w v → ChunksTo xs i (j + w + v + 2) (n + v)
  chunk-more {i} {w = w} {v = v} no_chunk c =
      let e : v + 0 ≡ 0 + v = omega arith in
      subst (ChunksTo xs i (i + w + v + 2)) e (chunk_then c no_chunk)
  chunk-more {i} {j} {w = w} {v = v} (chunk_then {v = u} {n = m} d h) c =
      let e : u + (m + v) ≡ u + m + v = omega arith in
      subst (ChunksTo xs i (j + w + v + 2)) e (chunk_then d (chunk-more h c))

  -- what they hold lies in the bytes
  pub chunks-inside : {i j n : ℕ} → ChunksTo xs i j n → i ≤ length xs → i + n ≤ length xs
  chunks-inside no_chunk h = omega arith
  chunks-inside (chunk_then c more) h = omega (arith, chunks-inside more (omega (arith, c.end.inside)))

  -- what ends so behind chunks is told of them
  pub in_chunks : {room i t : ℕ} (a : Answer) (e : Ending) → verdict a ≡ ending_answer t e → t ≤ room → ChunksTo xs 0 i t
      → InChunks room xs a
  in_chunks {i = i} {t = t} (Whole w) (Ending.Whole n k) z f h =
      let l : t ≡ w.length = cc in
      (omega arith, (i, subst (ChunksTo xs 0 i) l h))
  in_chunks (Whole w) Ending.More z f h = let y : ◌≡◌ {A = ℕ} 0 1 = cc in absurd (omega arith)
  in_chunks (Whole w) (Ending.Refused r) z f h = let y : ◌≡◌ {A = ℕ} 0 1 = cc in absurd (omega arith)
  in_chunks More e z f h = tt
  in_chunks (Refused r) e z f h = tt

-- ## How far the first pass has come
pub record Stands (room : ℕ) (xs : List ℕ) (i t : ℕ) : Type 0 where
  pub at : At room xs (Line First 0 t) i
  pub chunks : ChunksTo xs 0 i t

module _ {room : ℕ} {xs : List ℕ} where
  pub stands : {run : Run} → Reached room xs run → Stands room xs run.at run.total
  stands r = record { at = r.at; chunks = r.chunks }

  pub stands_on : ((k : ℕ) → get_or xs k 0 < 256) → {t i w v : ℕ} → Stands room xs i t → ChunkAt xs i w v → t + v ≤ room
      → Stands room xs (i + w + v + 2) (t + v)
  stands_on bytes s c fits = record { at = chunk-on bytes s.at c fits; chunks = chunk-more s.chunks c }

  pub reached : {i t : ℕ} {last : ChunkLine} → Stands room xs i t → Known xs last → Reached room xs (record { at = i; total = t; last = last })
  reached s k = record { at = s.at; known = k; chunks = s.chunks }

  -- by what is left of the room
  pub reached-left : (left : ℕ) {i t : ℕ} {last : ChunkLine} → t + left ≡ room → Stands room xs i t → Known xs last
      → Reached room xs (record { at = i; total = room - left; last = last })
  reached-left left {i} {t} {last} e s k =
      let z : t ≡ room - left = omega arith in
      subst (λ (n : ℕ). Reached room xs (record { at = i; total = n; last = last })) z (reached s k)
