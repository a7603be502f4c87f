-- From the machine to the grammar: what the bytes behind a state are, in the grammar's words.
use mathlib.Core.Path.{◌≡◌, refl, sym, ◌∙◌, ap, subst}
use mathlib.Core.Bool.{Bool, true, false, ◌&&◌, cond}
use mathlib.Core.List.{List, [], ◌∷◌, ◌++◌, append_assoc, append-nil}
use mathlib.Core.Option.{Option, none, some}
use Prim.Native.Nat.{ℕ, zero, suc, ◌+◌, ◌<◌}
use native.Mathlib.Omega.{arith}
use lib.Dec.{eqb}
use lib.ListN.{length, length-append}
use borrow.Author.Tests.{eqb-true}
use Rattle.framing.specs.declared.LinePos.{LinePos}
use Rattle.framing.specs.declared.LinePos.TheVariants.{First}
use Rattle.framing.specs.declared.State.{State}
use Rattle.framing.specs.declared.State.TheVariants.{Line, LineFeed, Data, DataCr, DataLf, Trail, EndLf, Done, Dead}
use Rattle.framing.specs.Grammar as G
use Rattle.octets.specs.Bytes.{octet?}
use Rattle.framing.specs.Grammar.{Many, Trailer, Chunk, Chunks}
use Rattle.framing.specs.helpers.Machine.{next_line_pos, line_ends, TrailerAt, trailer, leave_line, enter_chunk, step, emit, start}
use Rattle.framing.specs.helpers.Scan.{run, out}
use Rattle.framing.proofs.Scanning.{run_append}
use Rattle.framing.proofs.Cases.{to-cond}
use Rattle.framing.proofs.Lines.{line_run, line-complete}
use Rattle.framing.proofs.Parts.{at}
use Rattle.framing.proofs.Trails.{trailer-read}

-- chunks, then l, a part of a line
pub record InLine (p : LinePos) (k t : ℕ) (pre done : List ℕ) : Type 0 where
  pub chunks : List ℕ
  pub part : List ℕ
  pub are : Chunks chunks done
  pub split : pre ≡ chunks ++ part
  pub at : line_run First part ≡ p
  pub count : k ≡ length part
  pub total : t ≡ length done

-- chunks, then a line that gives v, then CR
pub record AfterLine (v t : ℕ) (pre done : List ℕ) : Type 0 where
  pub chunks : List ℕ
  pub line : List ℕ
  pub are : Chunks chunks done
  pub is : G.Line line v
  pub split : pre ≡ chunks ++ (line ++ (13 ∷ []))
  pub total : t ≡ length done

-- chunks, then a line that gives v above zero, CR LF, part of the data, and what z says
pub record InData (v : ℕ) (z : List ℕ) (t : ℕ) (pre out : List ℕ) : Type 0 where
  pub chunks : List ℕ
  pub done : List ℕ
  pub line : List ℕ
  pub part : List ℕ
  pub are : Chunks chunks done
  pub is : G.Line line v
  pub some : 0 < v
  pub bytes : Many octet? part
  pub split : pre ≡ chunks ++ (line ++ (13 ∷ 10 ∷ (part ++ z)))
  pub out_is : out ≡ done ++ part
  pub total : t ≡ length done + v

pub record DataLeft (m : ℕ) (t : ℕ) (pre out : List ℕ) : Type 0 where
  pub size : ℕ
  pub inside : InData size [] t pre out
  pub left : size ≡ length inside.part + suc m

pub record DataEnd (z : List ℕ) (t : ℕ) (pre out : List ℕ) : Type 0 where
  pub size : ℕ
  pub inside : InData size z t pre out
  pub left : size ≡ length inside.part

-- chunks, the last chunk's line, CR LF, and y, a part of the trailer, and what z says
pub record InTrail (p : TrailerAt) (k : ℕ) (z : List ℕ) (t : ℕ) (pre done : List ℕ) : Type 0 where
  pub chunks : List ℕ
  pub line : List ℕ
  pub part : List ℕ
  pub are : Chunks chunks done
  pub is : G.Line line 0
  pub at : at trailer trailer.begin part ≡ p
  pub count : k ≡ length part
  pub split : pre ≡ chunks ++ (line ++ (13 ∷ 10 ∷ (part ++ z)))
  pub total : t ≡ length done

-- and the trailer may end there
pub record TrailEnd (z : List ℕ) (t n : ℕ) (pre done : List ℕ) : Type 0 where
  pub position : TrailerAt
  pub inside : InTrail position n z t pre done
  pub ends : trailer.ends position ≡ true

-- a body, and its trailer
pub record Ended (t n : ℕ) (pre done : List ℕ) : Type 0 where
  pub chunks : List ℕ
  pub line : List ℕ
  pub trailer : List ℕ
  pub are : Chunks chunks done
  pub is : G.Line line 0
  pub trails : Trailer trailer
  pub split : pre ≡ chunks ++ (line ++ (13 ∷ 10 ∷ (trailer ++ (13 ∷ 10 ∷ []))))
  pub total : t ≡ length done
  pub count : n ≡ length trailer

abbrev pub Past : State → List ℕ → List ℕ → Type 0
Past (Line p k t) pre d = InLine p k t pre d
Past (LineFeed v t) pre d = AfterLine v t pre d
Past (Data m t) pre d = DataLeft m t pre d
Past (DataCr t) pre d = DataEnd [] t pre d
Past (DataLf t) pre d = DataEnd (13 ∷ []) t pre d
Past (Trail p k t) pre d = InTrail p k [] t pre d
Past (EndLf t n) pre d = TrailEnd (13 ∷ []) t n pre d
Past (Done t n) pre d = Ended t n pre d
Past Dead pre d = Unit {0}

pub many_append : {q : ℕ → Bool} {xs ys : List ℕ} → Many q xs → Many q ys → Many q (xs ++ ys)
many_append G.none m = m
many_append (G.more h k) m = G.more h (many_append k m)

-- ## A byte on
module _ (pre d : List ℕ) where
  line_on : (p : LinePos) (k t b : ℕ) → InLine p k t pre d → InLine (next_line_pos p b) (suc k) t (pre ++ (b ∷ [])) d
  line_on p k t b h = record {
    chunks = h.chunks;
    part = h.part ++ (b ∷ []);
    are = h.are;
    split = ap (λ (z : List ℕ). z ++ (b ∷ [])) h.split ∙ append_assoc h.chunks h.part (b ∷ []);
    at = run_append next_line_pos First h.part (b ∷ []) ∙ ap (λ (z : LinePos). next_line_pos z b) h.at;
    count = omega (arith, h.count, length-append h.part (b ∷ []));
    total = h.total;
  }

  leave_on : (p : LinePos) (k t : ℕ) (o : Option ℕ) → line_ends p ≡ o → InLine p k t pre d → Past (leave_line o t) (pre ++ (13 ∷ [])) d
  unfolding leave_line
  leave_on p k t none e h = tt
  leave_on p k t (some v) e h = record {
    chunks = h.chunks;
    line = h.part;
    are = h.are;
    is = line-complete h.part v (ap line_ends h.at ∙ e);
    split = ap (λ (z : List ℕ). z ++ (13 ∷ [])) h.split ∙ append_assoc h.chunks h.part (13 ∷ []);
    total = h.total;
  }

  enter_on : (v t : ℕ) → AfterLine v t pre d → Past (enter_chunk v t) (pre ++ (10 ∷ [])) d
  unfolding enter_chunk
  enter_on zero t h = record {
    chunks = h.chunks;
    line = h.line;
    part = [];
    are = h.are;
    is = h.is;
    at = refl;
    count = refl;
    split = ap (λ (z : List ℕ). z ++ (10 ∷ [])) h.split ∙ simp append_assoc;
    total = h.total;
  }
  enter_on (suc m) t h = record {
    size = suc m;
    inside = record {
      chunks = h.chunks;
      done = d;
      line = h.line;
      part = [];
      are = h.are;
      is = h.is;
      some = omega arith;
      bytes = G.none;
      split = ap (λ (z : List ℕ). z ++ (10 ∷ [])) h.split ∙ simp append_assoc;
      out_is = sym (append-nil d);
      total = omega (arith, h.total);
    };
    left = omega arith;
  }

  abbrev data_on : (v t b : ℕ) → octet? b ≡ true → InData v [] t pre d → InData v [] t (pre ++ (b ∷ [])) (d ++ (b ∷ []))
  data_on v t b y h = record {
    chunks = h.chunks;
    done = h.done;
    line = h.line;
    part = h.part ++ (b ∷ []);
    are = h.are;
    is = h.is;
    some = h.some;
    bytes = many_append h.bytes (G.more y G.none);
    split = ap (λ (z : List ℕ). z ++ (b ∷ [])) h.split ∙ simp (append_assoc, append-nil);
    out_is = ap (λ (z : List ℕ). z ++ (b ∷ [])) h.out_is ∙ append_assoc h.done h.part (b ∷ []);
    total = h.total;
  }

  cr-on : (t : ℕ) → DataEnd [] t pre d → DataEnd (13 ∷ []) t (pre ++ (13 ∷ [])) d
  cr-on t e = let h : InData e.size [] t pre d = e.inside in record {
    size = e.size;
    inside = record {
      chunks = h.chunks;
      done = h.done;
      line = h.line;
      part = h.part;
      are = h.are;
      is = h.is;
      some = h.some;
      bytes = h.bytes;
      split = ap (λ (z : List ℕ). z ++ (13 ∷ [])) h.split ∙ simp (append_assoc, append-nil);
      out_is = h.out_is;
      total = h.total;
    };
    left = e.left;
  }

  lf-on : (t : ℕ) → DataEnd (13 ∷ []) t pre d → InLine First 0 t (pre ++ (10 ∷ [])) d
  lf-on t e = let h : InData e.size (13 ∷ []) t pre d = e.inside in
      let whole : Chunk (h.line ++ (13 ∷ 10 ∷ (h.part ++ (13 ∷ 10 ∷ [])))) h.part
      = G.chunk {x = h.part} (subst (G.Line h.line) e.left h.is) (omega (arith, h.some, e.left)) h.bytes in
      record {
        chunks = h.chunks ++ (h.line ++ (13 ∷ 10 ∷ (h.part ++ (13 ∷ 10 ∷ []))));
        part = [];
        are = subst (Chunks (h.chunks ++ (h.line ++ (13 ∷ 10 ∷ (h.part ++ (13 ∷ 10 ∷ [])))))) (sym h.out_is) (G.more h.are whole);
        split = ap (λ (z : List ℕ). z ++ (10 ∷ [])) h.split ∙ simp (append_assoc, append-nil);
        at = refl;
        count = refl;
        total = omega (arith, h.total, e.left, length-append h.done h.part, ap length h.out_is);
      }

  trail_on : (p : TrailerAt) (k t b : ℕ) → InTrail p k [] t pre d → InTrail (trailer.next p b) (suc k) [] t (pre ++ (b ∷ [])) d
  trail_on p k t b h = record {
    chunks = h.chunks;
    line = h.line;
    part = h.part ++ (b ∷ []);
    are = h.are;
    is = h.is;
    at = run_append trailer.next trailer.begin h.part (b ∷ []) ∙ ap (λ (z : TrailerAt). trailer.next z b) h.at;
    count = omega (arith, h.count, length-append h.part (b ∷ []));
    split = ap (λ (z : List ℕ). z ++ (b ∷ [])) h.split ∙ simp (append_assoc, append-nil);
    total = h.total;
  }

  -- the closing CR: the trailer is whole
  close-on : (p : TrailerAt) (k t : ℕ) → trailer.ends p ≡ true → InTrail p k [] t pre d → TrailEnd (13 ∷ []) t k (pre ++ (13 ∷ [])) d
  close-on p k t e h = record {
    position = p;
    inside = record {
      chunks = h.chunks;
      line = h.line;
      part = h.part;
      are = h.are;
      is = h.is;
      at = h.at;
      count = h.count;
      split = ap (λ (z : List ℕ). z ++ (13 ∷ [])) h.split ∙ simp (append_assoc, append-nil);
      total = h.total;
    };
    ends = e;
  }

  end_on : (t n : ℕ) → TrailEnd (13 ∷ []) t n pre d → Ended t n (pre ++ (10 ∷ [])) d
  end_on t n e = let h : InTrail e.position n (13 ∷ []) t pre d = e.inside in record {
    chunks = h.chunks;
    line = h.line;
    trailer = h.part;
    are = h.are;
    is = h.is;
    trails = trailer-read.complete h.part (ap trailer.ends h.at ∙ e.ends);
    split = ap (λ (z : List ℕ). z ++ (10 ∷ [])) h.split ∙ simp append_assoc;
    total = h.total;
    count = h.count;
  }

pub on : (s : State) (b : ℕ) (pre d : List ℕ) → Past s pre d → Past (step s b) (pre ++ (b ∷ [])) (d ++ emit s b)
unfolding step emit
on (Line p k t) b pre d h = rw append-nil (to-cond (λ (s : State). Past s (pre ++ (b ∷ [])) d) (eqb b 13)
    (λ e. rw (eqb-true b 13 e) (leave_on pre d p k t (line_ends p) refl h)) (λ _. line_on pre d p k t b h))
on (LineFeed v t) b pre d h = rw append-nil (to-cond (λ (s : State). Past s (pre ++ (b ∷ [])) d) (eqb b 10)
    (λ e. rw (eqb-true b 10 e) (enter_on pre d v t h)) (λ _. tt))
on (Data zero t) b pre d h = to-cond (λ (s : State). Past s (pre ++ (b ∷ [])) (d ++ (b ∷ []))) (octet? b) (λ y. record {
  size = h.size;
  inside = data_on pre d h.size t b y h.inside;
  left = omega (arith, h.left, length-append h.inside.part (b ∷ []));
}) (λ _. tt)
on (Data (suc m) t) b pre d h = to-cond (λ (s : State). Past s (pre ++ (b ∷ [])) (d ++ (b ∷ []))) (octet? b) (λ y. record {
  size = h.size;
  inside = data_on pre d h.size t b y h.inside;
  left = omega (arith, h.left, length-append h.inside.part (b ∷ []));
}) (λ _. tt)
on (DataCr t) b pre d h = rw append-nil (to-cond (λ (s : State). Past s (pre ++ (b ∷ [])) d) (eqb b 13)
    (λ e. rw (eqb-true b 13 e) (cr-on pre d t h)) (λ _. tt))
on (DataLf t) b pre d h = rw append-nil (to-cond (λ (s : State). Past s (pre ++ (b ∷ [])) d) (eqb b 10)
    (λ e. rw (eqb-true b 10 e) (lf-on pre d t h)) (λ _. tt))
on (Trail p k t) b pre d h = rw append-nil (go (trailer.ends p) (eqb b 13) refl refl)
  where
    go : (x y : Bool) → trailer.ends p ≡ x → eqb b 13 ≡ y
        → Past (cond (x && y) (EndLf t k) (Trail (trailer.next p b) (suc k) t)) (pre ++ (b ∷ [])) d
    go true true e f = rw (eqb-true b 13 f) (close-on pre d p k t e h)
    go true false e f = trail_on pre d p k t b h
    go false y e f = trail_on pre d p k t b h
on (EndLf t n) b pre d h = rw append-nil (to-cond (λ (s : State). Past s (pre ++ (b ∷ [])) d) (eqb b 10)
    (λ e. rw (eqb-true b 10 e) (end_on pre d t n h)) (λ _. tt))
on (Done t n) b pre d h = tt
on Dead b pre d h = tt

past-from : (xs : List ℕ) (s : State) (pre d : List ℕ) → Past s pre d → Past (run step s xs) (pre ++ xs) (d ++ out step emit s xs)
past-from [] s pre d h = rw append-nil (rw append-nil h)
past-from (b ∷ xs) s pre d h =
    subst (λ (z : List ℕ). Past (run step (step s b) xs) z (d ++ (emit s b ++ out step emit (step s b) xs))) (append_assoc pre (b ∷ []) xs)
    (subst (λ (z : List ℕ). Past (run step (step s b) xs) ((pre ++ (b ∷ [])) ++ xs) z)
    (append_assoc d (emit s b) (out step emit (step s b) xs))
    (past-from xs (step s b) (pre ++ (b ∷ [])) (d ++ emit s b) (on s b pre d h)))

-- what stands behind the state that the machine has reached
pub past : (xs : List ℕ) → Past (run step start xs) xs (out step emit start xs)
past xs = past-from xs start [] []
    (record { chunks = []; part = []; are = G.none; split = refl; at = refl; count = refl; total = refl })
