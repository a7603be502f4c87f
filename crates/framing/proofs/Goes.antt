-- From the grammar to the machine: how the machine goes over each part of a body. And each live state has a completion.
use mathlib.Core.Path.{◌≡◌, refl, sym, ◌∙◌, ap, ap₂, subst}
use mathlib.Core.Bool.{Bool, true, false, ◌&&◌, cond}
use mathlib.Core.List.{List, [], ◌∷◌, ◌++◌, append_assoc, append-nil}
use mathlib.Core.Option.{Option, none, some}
use Prim.Native.Nat.{ℕ, zero, suc, ◌+◌, ◌<◌}
use native.Mathlib.Omega.{arith}
use lib.Dec.{eqb}
use lib.ListN.{length, length-append, replicate, length-replicate}
use borrow.Author.Tests.{eqb-true}
use Rattle.framing.specs.declared.LinePos.{LinePos}
use Rattle.framing.specs.declared.LinePos.TheVariants.{First}
use Rattle.framing.specs.declared.State.{State}
use Rattle.framing.specs.declared.State.TheVariants.{Line, LineFeed, Data, DataCr, DataLf, Trail, EndLf, Done, Dead}
use Rattle.framing.specs.Grammar as G
use Rattle.octets.specs.Bytes.{octet?, hex?}
use Rattle.framing.specs.Grammar.{Many, Trailer, Chunk, Chunks}
use Rattle.framing.specs.helpers.Machine.{next_line_pos, line_ends, line_live, TrailerAt, trailer}
use Rattle.framing.specs.helpers.Machine.{leave_line, enter_chunk, step, emit, live, start}
use Rattle.framing.specs.helpers.Scan.{run, out}
use Rattle.framing.proofs.Scanning.{run_append, out_append, run-live}
use Rattle.framing.proofs.Cases.{false-true, to-cond}
use Rattle.framing.proofs.Lines.{line_run, line-sound, line_dead, line_no_cr, line-finish, line-ends-live}
use Rattle.framing.proofs.Parts.{at}
use Rattle.framing.proofs.Trails.{trailer-read, trailer_no_cr}

-- over xs the machine goes from s to s' and gives d
pub record Goes (s : State) (xs d : List ℕ) (s' : State) : Type 0 where
  pub ends : run step s xs ≡ s'
  pub gives : out step emit s xs ≡ d

pub stay : (s : State) → Goes s [] [] s
stay s = record { ends = refl; gives = refl }

pub gives_then : {s s' : State} {xs d : List ℕ} → Goes s xs d s' → (ys : List ℕ) → out step emit s (xs ++ ys) ≡ d ++ out step emit s' ys
gives_then {s} {xs = xs} g ys =
    out_append step emit s xs ys ∙ ap₂ (λ (a : List ℕ) (z : State). a ++ out step emit z ys) g.gives g.ends

pub then : {s s' s'' : State} {xs ys d e : List ℕ} → Goes s xs d s' → Goes s' ys e s'' → Goes s (xs ++ ys) (d ++ e) s''
then {s} {s'} {s''} {xs} {ys} {d} {e} g h = record {
  ends = run_append step s xs ys ∙ ap (λ (z : State). run step z ys) g.ends ∙ h.ends;
  gives = gives_then g ys ∙ ap (λ (a : List ℕ). d ++ a) h.gives;
}

pub byte : (s : State) {s' s'' : State} (b : ℕ) {xs a d : List ℕ} → step s b ≡ s' → emit s b ≡ a → Goes s' xs d s''
    → Goes s (b ∷ xs) (a ++ d) s''
byte s {s'} {s''} b {xs} {a} {d} e f g = record {
  ends = ap (λ (z : State). run step z xs) e ∙ g.ends;
  gives = ap (λ (z : State). emit s b ++ out step emit z xs) e ∙ ap₂ (λ (x y : List ℕ). x ++ y) f g.gives;
}

-- ## In a line
step_line : (p : LinePos) (b k t : ℕ) → line_live (next_line_pos p b) ≡ true → step (Line p k t) b ≡ Line (next_line_pos p b) (suc k) t
unfolding step
step_line p b k t h = to-cond (λ (s : State). s ≡ Line (next_line_pos p b) (suc k) t) (eqb b 13)
    (λ e. false-true (sym (line_no_cr p) ∙ rw (eqb-true b 13 e) at h)) (λ _. refl)

pub emit-line : (p : LinePos) (b k t : ℕ) → emit (Line p k t) b ≡ []
unfolding emit
emit-line p b k t = refl

pub goes-line : (l : List ℕ) (p : LinePos) (k t : ℕ) → line_live (line_run p l) ≡ true
    → Goes (Line p k t) l [] (Line (line_run p l) (k + length l) t)
goes-line [] p k t h = record { ends = ap (λ (n : ℕ). Line p n t) (omega arith); gives = refl }
goes-line (b ∷ l) p k t h =
    byte (Line p k t) b (step_line p b k t (run-live next_line_pos line_live line_dead (next_line_pos p b) l h)) (emit-line p b k t)
    (subst (λ (n : ℕ). Goes (Line (next_line_pos p b) (suc k) t) l [] (Line (line_run (next_line_pos p b) l) n t)) (omega arith)
    (goes-line l (next_line_pos p b) (suc k) t h))

-- the CR and the LF behind it
line-cr : (p : LinePos) (v k t : ℕ) → line_ends p ≡ some v → step (Line p k t) 13 ≡ LineFeed v t
unfolding step leave_line
line-cr p v k t e = rw e refl

feed_lf : (v t : ℕ) → step (LineFeed v t) 10 ≡ enter_chunk v t
unfolding step
feed_lf v t = refl

pub emit_feed : (v t b : ℕ) → emit (LineFeed v t) b ≡ []
unfolding emit
emit_feed v t b = refl

pub goes_feed : (v t : ℕ) → Goes (LineFeed v t) (10 ∷ []) [] (enter_chunk v t)
goes_feed v t = byte (LineFeed v t) 10 (feed_lf v t) (emit_feed v t 10) (stay (enter_chunk v t))

pub goes-ended : (p : LinePos) (v k t : ℕ) → line_ends p ≡ some v → Goes (Line p k t) (13 ∷ 10 ∷ []) [] (enter_chunk v t)
goes-ended p v k t e = byte (Line p k t) 13 (line-cr p v k t e) (emit-line p 13 k t) (goes_feed v t)

pub goes-whole-line : {l : List ℕ} {v : ℕ} (t : ℕ) → G.Line l v → Goes (Line First 0 t) (l ++ (13 ∷ 10 ∷ [])) [] (enter_chunk v t)
goes-whole-line {l} {v} t h =
    then (goes-line l First 0 t (line-ends-live (line_run First l) v (line-sound h)))
    (goes-ended (line_run First l) v (0 + length l) t (line-sound h))

-- ## In data
step-last : (t b : ℕ) → octet? b ≡ true → step (Data 0 t) b ≡ DataCr t
unfolding step
step-last t b h = rw h refl

step_data : (m t b : ℕ) → octet? b ≡ true → step (Data (suc m) t) b ≡ Data m t
unfolding step
step_data m t b h = rw h refl

pub emit_data : (m t b : ℕ) → emit (Data m t) b ≡ b ∷ []
unfolding emit
emit_data m t b = refl

pub goes_data : {x : List ℕ} (m t : ℕ) → Many octet? x → length x ≡ suc m → Goes (Data m t) x x (DataCr t)
goes_data m t G.none h = absurd (omega arith)
goes_data zero t (G.more {b = b} k G.none) h = byte (Data 0 t) b (step-last t b k) (emit_data 0 t b) (stay (DataCr t))
goes_data (suc m) t (G.more k G.none) h = absurd (omega arith)
goes_data zero t (G.more k (G.more k' ks)) h = absurd (omega arith)
goes_data (suc m) t (G.more {b = b} k (G.more k' ks)) h =
    byte (Data (suc m) t) b (step_data m t b k) (emit_data (suc m) t b) (goes_data m t (G.more k' ks) (omega arith))

-- a beginning of the data gives itself
pub gives-begun : (m t : ℕ) (x y : List ℕ) → Many octet? (x ++ y) → length (x ++ y) ≡ suc m → out step emit (Data m t) x ≡ x
unfolding emit
gives-begun m t [] y k h = refl
gives-begun zero t (b ∷ []) y k h = refl
gives-begun zero t (b ∷ b' ∷ x) y k h = absurd (omega arith)
gives-begun (suc m) t (b ∷ x) y (G.more k ks) h =
    ap (λ (s : State). b ∷ out step emit s x) (step_data m t b k) ∙ ap (λ (z : List ℕ). b ∷ z) (gives-begun m t x y ks (omega arith))

data_cr : (t : ℕ) → step (DataCr t) 13 ≡ DataLf t
unfolding step
data_cr t = refl

data_lf : (t : ℕ) → step (DataLf t) 10 ≡ Line First 0 t
unfolding step
data_lf t = refl

pub emit-cr : (t b : ℕ) → emit (DataCr t) b ≡ []
unfolding emit
emit-cr t b = refl

pub emit-lf : (t b : ℕ) → emit (DataLf t) b ≡ []
unfolding emit
emit-lf t b = refl

pub goes-lf : (t : ℕ) → Goes (DataLf t) (10 ∷ []) [] (Line First 0 t)
goes-lf t = byte (DataLf t) 10 (data_lf t) (emit-lf t 10) (stay (Line First 0 t))

pub goes-crlf : (t : ℕ) → Goes (DataCr t) (13 ∷ 10 ∷ []) [] (Line First 0 t)
goes-crlf t = byte (DataCr t) 13 (data_cr t) (emit-cr t 13) (goes-lf t)

enter_data : (m t : ℕ) → enter_chunk (suc m) t ≡ Data m (t + suc m)
unfolding enter_chunk
enter_data m t = refl

enter_trail : (t : ℕ) → enter_chunk 0 t ≡ Trail trailer.begin 0 t
unfolding enter_chunk
enter_trail t = refl

goes-chunk_data : {x : List ℕ} (v t : ℕ) → Many octet? x → length x ≡ v → 0 < v → Goes (enter_chunk v t) x x (DataCr (t + v))
goes-chunk_data zero t k e h = absurd (omega arith)
goes-chunk_data (suc m) t k e h = rw (enter_data m t) (goes_data m (t + suc m) k e)

pub goes-chunk : {e x : List ℕ} (t : ℕ) → Chunk e x → Goes (Line First 0 t) e x (Line First 0 (t + length x))
goes-chunk t (G.chunk {l = l} {x = x} h k m) =
    subst (λ (z : List ℕ). Goes (Line First 0 t) z x (Line First 0 (t + length x))) (append_assoc l (13 ∷ 10 ∷ []) (x ++ (13 ∷ 10 ∷ [])))
    (subst (λ (z : List ℕ). Goes (Line First 0 t) ((l ++ (13 ∷ 10 ∷ [])) ++ (x ++ (13 ∷ 10 ∷ []))) z (Line First 0 (t + length x)))
    (append-nil x)
    (then (goes-whole-line t h) (then (goes-chunk_data (length x) t m refl k) (goes-crlf (t + length x)))))

pub goes-chunks : {c d : List ℕ} → Chunks c d → Goes start c d (Line First 0 (length d))
goes-chunks G.none = stay start
goes-chunks (G.more {c = c} {d = d} {e = e} {x = x} cs h) =
    subst (λ (n : ℕ). Goes start (c ++ e) (d ++ x) (Line First 0 n)) (sym (length-append d x))
    (then (goes-chunks cs) (goes-chunk (length d) h))

-- ## In the trailer
step_trail : (p : TrailerAt) (b k t : ℕ) → trailer.alive (trailer.next p b) ≡ true
    → step (Trail p k t) b ≡ Trail (trailer.next p b) (suc k) t
unfolding step
step_trail p b k t h = go (trailer.ends p) (eqb b 13) refl refl
  where
    go : (x y : Bool) → trailer.ends p ≡ x → eqb b 13 ≡ y
        → cond (x && y) (EndLf t k) (Trail (trailer.next p b) (suc k) t) ≡ Trail (trailer.next p b) (suc k) t
    go true true e f = false-true (sym (trailer_no_cr p e) ∙ rw (eqb-true b 13 f) at h)
    go true false e f = refl
    go false y e f = refl

emit_trail : (p : TrailerAt) (b k t : ℕ) → emit (Trail p k t) b ≡ []
unfolding emit
emit_trail p b k t = refl

pub goes_trail : (l : List ℕ) (p : TrailerAt) (k t : ℕ) → trailer.alive (at trailer p l) ≡ true
    → Goes (Trail p k t) l [] (Trail (at trailer p l) (k + length l) t)
goes_trail [] p k t h = record { ends = ap (λ (n : ℕ). Trail p n t) (omega arith); gives = refl }
goes_trail (b ∷ l) p k t h =
    byte (Trail p k t) b
    (step_trail p b k t (run-live trailer.next trailer.alive trailer-read.dead (trailer.next p b) l h)) (emit_trail p b k t)
    (subst (λ (n : ℕ). Goes (Trail (trailer.next p b) (suc k) t) l [] (Trail (at trailer (trailer.next p b) l) n t)) (omega arith)
    (goes_trail l (trailer.next p b) (suc k) t h))

trail_cr : (p : TrailerAt) (k t : ℕ) → trailer.ends p ≡ true → step (Trail p k t) 13 ≡ EndLf t k
unfolding step
trail_cr p k t e = ap (λ (x : Bool). cond (x && true) (EndLf t k) (Trail (trailer.next p 13) (suc k) t)) e

end-lf : (t n : ℕ) → step (EndLf t n) 10 ≡ Done t n
unfolding step
end-lf t n = refl

emit-end : (t n b : ℕ) → emit (EndLf t n) b ≡ []
unfolding emit
emit-end t n b = refl

pub goes_end : (t n : ℕ) → Goes (EndLf t n) (10 ∷ []) [] (Done t n)
goes_end t n = byte (EndLf t n) 10 (end-lf t n) (emit-end t n 10) (stay (Done t n))

pub goes_close : (p : TrailerAt) (k t : ℕ) → trailer.ends p ≡ true → Goes (Trail p k t) (13 ∷ 10 ∷ []) [] (Done t k)
goes_close p k t e = byte (Trail p k t) 13 (trail_cr p k t e) (emit_trail p 13 k t) (goes_end t k)

pub goes-last-line : {l : List ℕ} (t : ℕ) → G.Line l 0 → Goes (Line First 0 t) (l ++ (13 ∷ 10 ∷ [])) [] (Trail trailer.begin 0 t)
goes-last-line {l} t h = subst (Goes (Line First 0 t) (l ++ (13 ∷ 10 ∷ [])) []) (enter_trail t) (goes-whole-line t h)

-- the trailer and what closes it
goes-trailer : {y : List ℕ} (t : ℕ) → Trailer y → Goes (Trail trailer.begin 0 t) (y ++ (13 ∷ 10 ∷ [])) [] (Done t (length y))
goes-trailer {y} t h =
    let e : trailer.ends (at trailer trailer.begin y) ≡ true = trailer-read.sound y h in
    subst (λ (n : ℕ). Goes (Trail trailer.begin 0 t) (y ++ (13 ∷ 10 ∷ [])) [] (Done t n)) (omega arith)
    (then (goes_trail y trailer.begin 0 t (trailer-read.ends_alive (at trailer trailer.begin y) e))
    (goes_close (at trailer trailer.begin y) (0 + length y) t e))

-- ## A body
-- the last chunk, the trailer and what closes it
pub goes_last : {l y : List ℕ} (t : ℕ) → G.Line l 0 → Trailer y
    → Goes (Line First 0 t) (l ++ (13 ∷ 10 ∷ (y ++ (13 ∷ 10 ∷ [])))) [] (Done t (length y))
goes_last {l} {y} t h k =
    subst (λ (z : List ℕ). Goes (Line First 0 t) z [] (Done t (length y))) (append_assoc l (13 ∷ 10 ∷ []) (y ++ (13 ∷ 10 ∷ [])))
    (then (goes-last-line t h) (goes-trailer t k))

-- by its chunks, its last line and its trailer
pub goes_parts : {c d l t : List ℕ} → Chunks c d → G.Line l 0 → Trailer t
    → Goes start (c ++ (l ++ (13 ∷ 10 ∷ (t ++ (13 ∷ 10 ∷ []))))) d (Done (length d) (length t))
goes_parts {c} {d} {l} {t} cs h y =
    subst (λ (z : List ℕ). Goes start (c ++ (l ++ (13 ∷ 10 ∷ (t ++ (13 ∷ 10 ∷ []))))) z (Done (length d) (length t))) (append-nil d)
    (then (goes-chunks cs) (goes_last (length d) h y))

-- ## Every live state has a completion
pub record Finish (s : State) : Type 0 where
  pub rest : List ℕ
  pub data' : List ℕ
  pub total : ℕ
  pub trailer : ℕ
  pub goes : Goes s rest data' (Done total trailer)

before : {s s' : State} {xs d : List ℕ} → Goes s xs d s' → Finish s' → Finish s
before {xs = xs} {d = d} g f = record {
  rest = xs ++ f.rest;
  data' = d ++ f.data';
  total = f.total;
  trailer = f.trailer;
  goes = then g f.goes;
}

finish_trail : (p : TrailerAt) (k t : ℕ) → trailer.alive p ≡ true → Finish (Trail p k t)
finish_trail p k t h =
    let f : (u : List ℕ) × (trailer.ends (at trailer p u) ≡ true) = trailer-read.finish p h in
    before (goes_trail f.0 p k t (trailer-read.ends_alive (at trailer p f.0) f.1)) (record {
      rest = 13 ∷ 10 ∷ [];
      data' = [];
      total = t;
      trailer = k + length f.0;
      goes = goes_close (at trailer p f.0) (k + length f.0) t f.1;
    })

finish-begun : (t : ℕ) → Finish (enter_chunk 0 t)
finish-begun t = rw (enter_trail t) (finish_trail trailer.begin 0 t refl)

finish-first : (k t : ℕ) → Finish (Line First k t)
finish-first k t =
    before (goes-line (48 ∷ []) First k t (unfold line_live next_line_pos hex? in refl))
    (before (goes-ended (line_run First (48 ∷ [])) 0 (k + 1) t (unfold line_ends next_line_pos hex? in refl))
    (finish-begun t))

finish-cr : (t : ℕ) → Finish (DataCr t)
finish-cr t = before (goes-crlf t) (finish-first 0 t)

pub zeros : (n : ℕ) → Many octet? (replicate n 0)
zeros zero = G.none
zeros (suc n) = G.more refl (zeros n)

finish_data : (m t : ℕ) → Finish (Data m t)
finish_data m t = before (goes_data m t (zeros (suc m)) (length-replicate (suc m) 0)) (finish-cr t)

finish_enter : (v t : ℕ) → Finish (enter_chunk v t)
finish_enter zero t = finish-begun t
finish_enter (suc m) t = rw (enter_data m t) (finish_data m (t + suc m))

finish-line : (p : LinePos) (k t : ℕ) → line_live p ≡ true → Finish (Line p k t)
finish-line p k t h =
    let f : (u : List ℕ) × (v : ℕ) × (line_ends (line_run p u) ≡ some v) = line-finish p h in
    before (goes-line f.0 p k t (line-ends-live (line_run p f.0) f.1 f.2))
    (before (goes-ended (line_run p f.0) f.1 (k + length f.0) t f.2) (finish_enter f.1 t))

pub finish : (s : State) → live s ≡ true → Finish s
unfolding live
finish (Line p k t) h = finish-line p k t h
finish (LineFeed v t) h = before (goes_feed v t) (finish_enter v t)
finish (Data m t) h = finish_data m t
finish (DataCr t) h = finish-cr t
finish (DataLf t) h = before (goes-lf t) (finish-first 0 t)
finish (Trail p k t) h = finish_trail p k t h
finish (EndLf t n) h = record { rest = 10 ∷ []; data' = []; total = t; trailer = n; goes = goes_end t n }
finish (Done t n) h = record { rest = []; data' = []; total = t; trailer = n; goes = stay (Done t n) }
finish Dead h = false-true h

-- ## A dead state stays dead, and nothing follows a body
leave_dead : (p : LinePos) (t : ℕ) (o : Option ℕ) → line_ends p ≡ o → line_live p ≡ false → live (leave_line o t) ≡ false
unfolding live leave_line
leave_dead p t none e h = refl
leave_dead p t (some v) e h = false-true (sym h ∙ line-ends-live p v e)

pub dead : (s : State) (b : ℕ) → live s ≡ false → live (step s b) ≡ false
unfolding live step
dead (Line p k t) b h = to-cond (λ (s : State). live s ≡ false) (eqb b 13) (λ _. leave_dead p t (line_ends p) refl h) (λ _. line_dead p b h)
dead (LineFeed v t) b h = false-true (sym h)
dead (Data m t) b h = false-true (sym h)
dead (DataCr t) b h = false-true (sym h)
dead (DataLf t) b h = false-true (sym h)
dead (Trail p k t) b h = go (trailer.ends p) refl (eqb b 13)
  where
    go : (x : Bool) → trailer.ends p ≡ x → (y : Bool) → live (cond (x && y) (EndLf t k) (Trail (trailer.next p b) (suc k) t)) ≡ false
    go true e y = false-true (sym h ∙ trailer-read.ends_alive p e)
    go false e y = trailer-read.dead p b h
dead (EndLf t n) b h = false-true (sym h)
dead (Done t n) b h = false-true (sym h)
dead Dead b h = refl
