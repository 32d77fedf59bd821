-- The calls, one after the other, write the clean file and the listing. The bytes at hand are p, and rest is what follows them in the
-- old file: all that is left is at hand, or 490 bytes.
--
--   front_on         the piece at the front of the bytes at hand is that of all that is left
--   found_end, found_skipped, found-kept    what is found tells the piece
--   writes_end       nothing is left: the line of the last run
--   writes_skipped   skipped bytes lengthen the run
--   writes_kept      the record, the line of the run before it and its own line
-- Assumes nothing.
use mathlib.Core.Path.{◌≡◌, refl, sym, ap, ap₂, ◌∙◌, subst}
use mathlib.Core.Logic.{◌⊎◌, inl, inr}
use mathlib.Core.Bool.{Bool, true, false, ◌||◌}
use mathlib.Core.List.{List, [], ◌∷◌, ◌++◌, append-nil}
use Prim.Native.Nat.{ℕ, zero, suc, ◌+◌, ◌≤◌}
use native.Mathlib.Nat.{add-zero}
use native.Mathlib.Omega.{arith}
use lib.Dec.{ltb}
use lib.ListN.{length, take, drop}
use lib.Seq.{take-append-le}
use Rattle.patch.specs.Parts.{part, lay}
use Rattle.patch.proofs.Parts.{length-lay, take-lay}
use Rattle.refusal.specs.Meaning.{Meaning, number_of, detail_of}
use Rattle.refusal.proofs.Laws.{neither}
use Rattle.refusal.proofs.Keeping.{same_keeps}
use Rattle.ending.specs.declared.Ending.{Ending}
use Rattle.ending.specs.declared.Ending.TheVariants.{Refused, Corrected, Nothing, Several, Hollow}
use Rattle.joint.specs.Promises.{Given, Decodes, buffers, left}
use Rattle.record.specs.Records.{mark, rows_in, columns_in, size_in, no_mark, out_of_range, stop_checks, stop_of, wanted}
use Rattle.record.proofs.Wholes.{whole_of}
use Rattle.record.proofs.Enough as enough
use Rattle.salvage.specs.Pieces.{Piece, kept, skipped, size, rewritten, piece_of, Ended, AtFront, Salvages, ends, goes, clean}
use Rattle.salvage.specs.Listing.{run, runs_from, line_of, lines_from, WritesFrom}
use Rattle.salvage.specs.Promises.{Rooms, meaning, told, Finds}
use Rattle.salvage.specs.Working.{Advances}
use Rattle.salvage.specs.declared.Found.TheVariants.{End, Kept, Skipped}
use Rattle.salvage.proofs.Told.{size-most, second}
use Rattle.salvage.proofs.Again.{kept_at, new_long, old_long}
use Rattle.salvage.proofs.Demands.{whole_by}

-- no more than 490 bytes are ever wanted
wanted_by : (b : List ℕ) (x y : Bool) → (ltb (length b) 2 || no_mark b) ≡ x → (ltb (length b) 5 || out_of_range b) ≡ y → wanted b ≤ 490
unfolding wanted
wanted_by b true y e f = rw e (omega arith)
wanted_by b false true e f = rw (e, f) (omega arith)
wanted_by b false false e f = rw (e, f) (size-most b (neither (ltb (length b) 5) (out_of_range b) f).1)

wanted-most : (b : List ℕ) → wanted b ≤ 490
wanted-most b = wanted_by b _ _ refl refl

module _ (p rest : List ℕ) where
  module _ (z : stop_of p ≡ 0) where
    same_size : size_in (p ++ rest) ≡ size_in p
    same_size = enough.same_size p rest (whole_of p z).five

    same_front : take (size_in (p ++ rest)) (p ++ rest) ≡ take (size_in p) p
    same_front =
        ap (λ (k : ℕ). take k (p ++ rest)) same_size ∙ take-append-le (size_in p) p rest (whole_of p z).complete

    same_rewritten : (a : List ℕ) → rewritten (p ++ rest) a ≡ rewritten p a
    unfolding rewritten part size_in
    same_rewritten a =
        let w = whole_of p z in
        ap (λ (v : List ℕ). mark ++ v ++ a)
        (ap₂ (λ (r n : ℕ). take (4 + r + n) (drop 2 (p ++ rest))) (enough.at p rest w.five 3 (omega arith))
        (enough.at p rest w.five 4 (omega arith))
        ∙ enough.part p rest w.five 2 (4 + rows_in p + columns_in p) (omega (arith, w.complete)))

  same_piece : (e : Ending) (a : List ℕ) → Ended p (e, a) → piece_of p e a ≡ piece_of (p ++ rest) e a
  same_piece (Refused r) a h = refl
  same_piece (Corrected w) a h =
      let z = whole_by p (Corrected w) a h (λ r e. let z : ◌≡◌ {A = ℕ} 0 1 = cc in omega arith) in
      ap₂ kept (sym (same_front z)) (sym (same_rewritten z a))
  same_piece Nothing a h =
      ap skipped (sym (same_size (whole_by p Nothing a h (λ r e. let z : ◌≡◌ {A = ℕ} 0 1 = cc in omega arith))))
  same_piece (Several t) a h =
      ap skipped (sym (same_size (whole_by p (Several t) a h (λ r e. let z : ◌≡◌ {A = ℕ} 0 1 = cc in omega arith))))
  same_piece (Hollow t) a h =
      ap skipped (sym (same_size (whole_by p (Hollow t) a h (λ r e. let z : ◌≡◌ {A = ℕ} 0 1 = cc in omega arith))))

  ended_on : wanted p ≤ length p → (l : Ending × List ℕ) → Ended p l → Ended (p ++ rest) l
  unfolding stop_of
  ended_on w =
      let (stop, same) = enough.same_answer p w rest in
      same_keeps (stop_checks p) (stop_checks (p ++ rest)) _ _ _ (sym stop) (λ none l (f, s, d).
      (f, s, subst (λ (g : Given). Decodes g (left l.0 (buffers l.1 f) s)) (sym (same (sym none))) d))

  pub front_on : (490 ≤ length p) ⊎ (rest ≡ []) → {x : Piece} → AtFront p x → AtFront (p ++ rest) x
  front_on (inl most) h = record {
    ending = h.ending;
    array = h.array;
    ended = ended_on (omega (arith, wanted-most p)) (h.ending, h.array) h.ended;
    is = h.is ∙ same_piece h.ending h.array h.ended;
  }
  front_on (inr none) {x} h =
      subst (λ (l : List ℕ). AtFront l x) (sym (ap (λ (r : List ℕ). p ++ r) none ∙ append-nil p)) h

pub record FoundKept (at : ℕ) (p : List ℕ) (i m : ℕ) (after : Rooms) : Type 0 where
  pub old : List ℕ
  pub new : List ℕ
  pub front : AtFront p (kept old new)
  pub size : i ≡ length old
  pub file : take i after.for_record ≡ new
  pub line : take m after.for_line ≡ line_of at (kept old new)

-- what is laid at a buffer's front stands there
laid_front : (v lent left : List ℕ) {n : ℕ} → left ≡ lay 0 v lent → n ≡ length v → n ≤ length left → take n left ≡ v
laid_front v lent left is e h = take-lay v lent is (sym e) (omega (arith, ap length is, length-lay 0 v lent))

module _ (at : ℕ) (lent : Rooms) where
  kept_of : (p : List ℕ) {i m : ℕ} {after : Rooms} (x : Piece) → AtFront p x → told at lent x ≡ (meaning (Kept i m), after)
      → i ≤ length after.for_record → m ≤ length after.for_line → FoundKept at p i m after
  kept_of p (skipped n) f e h h' = absurd (omega (arith, ap (λ (l : Meaning × Rooms). number_of l.0) e))
  kept_of p {i} {m} {after} (kept old new) f e h h' =
      let k = kept_at f in
      let size : i ≡ length new = sym (ap (λ (l : Meaning × Rooms). detail_of l.0) e) in
      let lined : m ≡ length (line_of at (kept old new)) = sym (ap (λ (l : Meaning × Rooms). second l.0) e) in
      record {
        old = old;
        new = new;
        front = f;
        size = size ∙ new_long p k ∙ sym (old_long p k);
        file = laid_front new lent.for_record after.for_record (sym (ap (λ (l : Meaning × Rooms). l.1.for_record) e)) size h;
        line =
            laid_front (line_of at (kept old new)) lent.for_line after.for_line
            (sym (ap (λ (l : Meaning × Rooms). l.1.for_line) e)) lined h';
      }

  pub found-kept : (p : List ℕ) {i m : ℕ} {after : Rooms} → Finds at p lent (Kept i m) after → Advances p (Kept i m) after
      → FoundKept at p i m after
  found-kept [] h a = absurd (omega (arith, ap number_of h.0))
  found-kept (y ∷ p) (x, f, e) a = kept_of (y ∷ p) x f e a.2.0 a.3.0

  skipped_of : (p : List ℕ) {n : ℕ} {after : Rooms} (x : Piece) → AtFront p x → told at lent x ≡ (meaning (Skipped n), after)
      → AtFront p (skipped n)
  skipped_of p (kept old new) f e = absurd (omega (arith, ap (λ (l : Meaning × Rooms). number_of l.0) e))
  skipped_of p (skipped n) f e = rw (ap (λ (l : Meaning × Rooms). detail_of l.0) e) at f

  pub found_skipped : (p : List ℕ) (n : ℕ) (after : Rooms) → Finds at p lent (Skipped n) after → AtFront p (skipped n)
  found_skipped [] n after h = absurd (omega (arith, ap number_of h.0))
  found_skipped (y ∷ p) n after (x, f, e) = skipped_of (y ∷ p) x f e

  pub found_end : (p : List ℕ) (after : Rooms) → Finds at p lent End after → p ≡ []
  found_end [] after h = refl
  found_end (y ∷ p) after (kept old new, f, e) = absurd (omega (arith, ap (λ (l : Meaning × Rooms). number_of l.0) e))
  found_end (y ∷ p) after (skipped n, f, e) = absurd (omega (arith, ap (λ (l : Meaning × Rooms). number_of l.0) e))

pub writes_end : (at n : ℕ) → WritesFrom at n [] [] (lines_from at (run n))
unfolding clean runs_from
writes_end at n = record { pieces = []; salvages = ends refl refl; file = refl; lines = refl }

-- the lines behind those of a run
run_then : (at n : ℕ) (x : Piece) (ps : List Piece)
    → lines_from at (run n ++ x ∷ ps) ≡ lines_from at (run n) ++ (line_of (at + n) x ++ lines_from (at + n + size x) ps)
unfolding lines_from
run_then at zero x ps = ap (λ (k : ℕ). line_of k x ++ lines_from (k + size x) ps) (sym (add-zero at))
run_then at (suc n) x ps =
    ap (λ (l : List ℕ). l ++ (line_of (at + suc n) x ++ lines_from (at + suc n + size x) ps)) (sym (append-nil (line_of at (skipped (suc n)))))

module _ (at n : ℕ) (p rest c l : List ℕ) (h : (490 ≤ length p) ⊎ (rest ≡ [])) (some : p ++ rest ≡ [] → ⊥) where
  pub writes_skipped : {m : ℕ} → AtFront p (skipped m) → WritesFrom at (n + m) (drop m (p ++ rest)) c l → WritesFrom at n (p ++ rest) c l
  unfolding clean runs_from
  writes_skipped {m} f w = record {
    pieces = skipped m ∷ w.pieces;
    salvages = goes {b = p ++ rest} {p = skipped m} {ps = w.pieces} some (front_on p rest h f) w.salvages refl;
    file = w.file;
    lines = w.lines;
  }

  pub writes_kept : {i m : ℕ} {after : Rooms} → FoundKept (at + n) p i m after → WritesFrom (at + n + i) 0 (drop i (p ++ rest)) c l
      → WritesFrom at n (p ++ rest) (take i after.for_record ++ c) (lines_from at (run n) ++ (take m after.for_line ++ l))
  unfolding clean runs_from
  writes_kept {i} {m} {after} k w = record {
    pieces = kept k.old k.new ∷ w.pieces;
    salvages =
        goes {b = p ++ rest} {p = kept k.old k.new} {ps = w.pieces} some (front_on p rest h k.front)
        (subst (λ (j : ℕ). Salvages (drop j (p ++ rest)) w.pieces) k.size w.salvages) refl;
    file = ap₂ ◌++◌ k.file w.file;
    lines =
        ap (λ (v : List ℕ). lines_from at (run n) ++ v)
        (ap₂ ◌++◌ k.line (w.lines ∙ ap (λ (j : ℕ). lines_from (at + n + j) (runs_from 0 w.pieces)) k.size))
        ∙ sym (run_then at n (kept k.old k.new) (runs_from 0 w.pieces));
  }
