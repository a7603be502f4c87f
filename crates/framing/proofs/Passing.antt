-- Over several bytes with no verdict on the way: lines, data, and the CR LF behind it. From any state, for every reader.
use mathlib.Core.Path.{◌≡◌, refl, sym, ◌∙◌, subst}
use mathlib.Core.Bool.{true}
use mathlib.Core.List.{List, [], ◌∷◌, ◌++◌}
use mathlib.Core.Option.{none, some}
use Prim.Native.Nat.{ℕ, zero, suc, ◌+◌, ◌-◌, ◌<◌, ◌≤◌}
use native.Mathlib.Omega.{arith}
use lib.ListN.{length, get_or, take, drop}
use lib.Seq.{get_or-drop}
use Rattle.framing.specs.declared.LinePos.{LinePos}
use Rattle.framing.specs.declared.LinePos.TheVariants.{First}
use Rattle.framing.specs.declared.State.{State}
use Rattle.framing.specs.declared.State.TheVariants.{Line, Data, DataCr}
use Rattle.framing.specs.Grammar as G
use Rattle.framing.specs.Grammar.{LINE_LIMIT}
use Rattle.framing.specs.Reading.{judge}
use Rattle.framing.specs.helpers.Machine.{next_line_pos, line_ends, line_live, step, emit, size_of}
use Rattle.framing.specs.helpers.Scan.{Quiet}
use Rattle.framing.proofs.Cases.{false-true}
use Rattle.framing.proofs.Scanning.{run-live, quiet_nil, quiet_cons, quiet_then}
use Rattle.framing.proofs.Lines.{line_run, line-sound, line_dead, line_no_cr, line-ends-live}
use Rattle.framing.proofs.Goes.{Goes, stay, then, byte, emit-line, emit_feed, emit_data, emit-cr, emit-lf}
use Rattle.framing.proofs.Rooms.{ends-size, size_grows}
use Rattle.framing.proofs.Turns as Turns

module _ (room : ℕ) where
  -- over xs the machine goes from s to s' and gives d, and no state on the way gets a verdict
  pub record Passes (s : State) (xs d : List ℕ) (s' : State) : Type 0 where
    pub goes : Goes s xs d s'
    pub quiet : Quiet step (judge room) s xs (length xs)

-- bytes, as a slice has them
abbrev pub Octets : List ℕ → Type 0
Octets x = (k : ℕ) → get_or x k 0 < 256

pub octets_take : (n : ℕ) (xs : List ℕ) → Octets xs → Octets (take n xs)
octets_take zero xs o k = omega arith
octets_take (suc n) [] o k = omega arith
octets_take (suc n) (b ∷ xs) o zero = o 0
octets_take (suc n) (b ∷ xs) o (suc k) = octets_take n xs (λ j. o (suc j)) k

pub octets_part : (i n : ℕ) (xs : List ℕ) → Octets xs → Octets (take n (drop i xs))
octets_part i n xs o = octets_take n (drop i xs) (λ k. subst (λ (b : ℕ). b < 256) (sym (get_or-drop i xs k 0)) (o (i + k)))

module _ {room : ℕ} where
  pub passes_none : (s : State) → judge room s ≡ none → Passes room s [] [] s
  passes_none s h = record { goes = stay s; quiet = quiet_nil step (judge room) s 0 h }

  pub passes-byte : {s s' s'' : State} (b : ℕ) {xs a d : List ℕ} → judge room s ≡ none → step s b ≡ s' → emit s b ≡ a
      → Passes room s' xs d s'' → Passes room s (b ∷ xs) (a ++ d) s''
  passes-byte {s} {s'} {s''} b {xs} h e f p = record {
    goes = byte s b e f p.goes;
    quiet = quiet_cons step (judge room) s b xs (length xs) h
        (subst (λ (z : State). Quiet step (judge room) z xs (length xs)) (sym e) p.quiet);
  }

  pub passes_then : {s s' s'' : State} {xs ys d e : List ℕ} → Passes room s xs d s' → Passes room s' ys e s''
      → Passes room s (xs ++ ys) (d ++ e) s''
  passes_then {s} {xs = xs} {ys = ys} p q = record {
    goes = then p.goes q.goes;
    quiet = quiet_then step (judge room) s xs ys p.quiet
        (subst (λ (z : State). Quiet step (judge room) z ys (length ys)) (sym p.goes.ends) q.quiet);
  }

  -- ## A line
  -- over bytes that stand in a line, to the position that they lead to
  pub passes_line : (l : List ℕ) (p : LinePos) (k t : ℕ) → line_live (line_run p l) ≡ true → k + length l ≤ LINE_LIMIT
      → t + size_of (line_run p l) ≤ room → Passes room (Line p k t) l [] (Line (line_run p l) (k + length l) t)
  passes_line [] p k t a short fits =
      subst (λ (n : ℕ). Passes room (Line p k t) [] [] (Line p n t)) (omega arith)
      (passes_none (Line p k t) (Turns.line_quiet room p k t a (omega arith) fits))
  passes_line (b ∷ l) p k t a short fits =
      let alive : line_live (next_line_pos p b) ≡ true = run-live next_line_pos line_live line_dead (next_line_pos p b) l a in
      let here : line_live p ≡ true = run-live next_line_pos line_live line_dead p (b ∷ []) alive in
      passes-byte b
      (Turns.line_quiet room p k t here (omega arith) (omega (arith, size_grows p (b ∷ l))))
      (Turns.line_step b p k t (λ z. false-true (sym (line_no_cr p) ∙ subst (λ (n : ℕ). line_live (next_line_pos p n) ≡ true) z alive)))
      (emit-line p b k t)
      (subst (λ (n : ℕ). Passes room (Line (next_line_pos p b) (suc k) t) l [] (Line (line_run (next_line_pos p b) l) n t)) (omega arith)
      (passes_line l (next_line_pos p b) (suc k) t a (omega arith) fits))

  -- over a line and its CR LF, to its data
  pub passes-size : {l : List ℕ} {v : ℕ} (t : ℕ) → G.Line l v → 0 < v → length l ≤ LINE_LIMIT → t + v ≤ room
      → Passes room (Line First 0 t) (l ++ (13 ∷ 10 ∷ [])) [] (Data (v - 1) (t + v))
  passes-size {l} {v} t h pos short fits =
      let s : line_ends (line_run First l) ≡ some v = line-sound h in
      let a : line_live (line_run First l) ≡ true = line-ends-live (line_run First l) v s in
      let f : t + size_of (line_run First l) ≤ room = omega (arith, ends-size (line_run First l) v s) in
      passes_then (passes_line l First 0 t a (omega arith) f)
      (passes-byte 13 (Turns.line_quiet room (line_run First l) (0 + length l) t a (omega arith) f)
      (Turns.line-cr 13 (line_run First l) (0 + length l) t refl ∙ Turns.leave_some v t (line_ends (line_run First l)) s)
      (emit-line (line_run First l) 13 (0 + length l) t)
      (passes-byte 10 (Turns.quiet_feed room v t) (Turns.feed_lf 10 v t refl ∙ Turns.enter_data v t pos) (emit_feed v t 10)
      (passes_none (Data (v - 1) (t + v)) (Turns.quiet_data room (v - 1) (t + v)))))

  -- ## Data
  -- a part of it
  pub passes-part : (x : List ℕ) (m t : ℕ) → Octets x → length x ≤ m → Passes room (Data m t) x x (Data (m - length x) t)
  passes-part [] m t o h =
      subst (λ (n : ℕ). Passes room (Data m t) [] [] (Data n t)) (omega arith) (passes_none (Data m t) (Turns.quiet_data room m t))
  passes-part (b ∷ x) zero t o h = absurd (omega arith)
  passes-part (b ∷ x) (suc m) t o h =
      passes-byte b (Turns.quiet_data room (suc m) t) (Turns.data_more b m t (o 0)) (emit_data (suc m) t b)
      (subst (λ (n : ℕ). Passes room (Data m t) x x (Data n t)) (omega arith)
      (passes-part x m t (λ k. o (suc k)) (omega arith)))

  -- all of it
  pub passes_data : (x : List ℕ) (m t : ℕ) → Octets x → length x ≡ suc m → Passes room (Data m t) x x (DataCr t)
  passes_data [] m t o h = absurd (omega arith)
  passes_data (b ∷ []) zero t o h =
      passes-byte b (Turns.quiet_data room 0 t) (Turns.data_last b t (o 0)) (emit_data 0 t b)
      (passes_none (DataCr t) (Turns.quiet_data_cr room t))
  passes_data (b ∷ []) (suc m) t o h = absurd (omega arith)
  passes_data (b ∷ (c ∷ x)) zero t o h = absurd (omega arith)
  passes_data (b ∷ (c ∷ x)) (suc m) t o h =
      passes-byte b (Turns.quiet_data room (suc m) t) (Turns.data_more b m t (o 0)) (emit_data (suc m) t b)
      (passes_data (c ∷ x) m t (λ k. o (suc k)) (omega arith))

  -- the CR LF behind it
  pub passes-crlf : (t : ℕ) → Passes room (DataCr t) (13 ∷ 10 ∷ []) [] (Line First 0 t)
  passes-crlf t =
      passes-byte 13 (Turns.quiet_data_cr room t) (Turns.data_cr 13 t refl) (emit-cr t 13)
      (passes-byte 10 (Turns.quiet_data_lf room t) (Turns.data_lf 10 t refl) (emit-lf t 10)
      (passes_none (Line First 0 t) (Turns.quiet-first room t)))
