-- The promises of the calls, case by case.
--
--   counts              bytes that a list has stand at its front
--   size-most, size-some    how many bytes a record has
--   second m            the second value of a meaning
--   meaning_faithful    no two findings mean the same
--   no_run, some_run    the line of a run of skipped bytes
--   skip_told, skip_whole, keep_told    skipped bytes, a record that is skipped, and a record that is kept, are told
--   decided_as          a record that was decoded, by its ending
--   found_end, found_failed, found_decided    what is found
-- Assumes nothing.
use mathlib.Core.Path.{◌≡◌, refl, sym, ap, ap₂, ◌∙◌}
use mathlib.Core.Bool.{false}
use mathlib.Core.List.{List, [], ◌∷◌, ◌++◌, append-nil}
use Prim.Native.Nat.{ℕ, zero, suc, ◌+◌, ◌-◌, ◌*◌, ◌≤◌}
use native.Mathlib.Nat.{zero-add}
use native.Mathlib.Omega.{arith}
use lib.ListN.{length, take, drop}
use lib.Seq.{length-take-le}
use Rattle.record.specs.Counts.{Counts}
use Rattle.patch.specs.Parts.{part, lay}
use Rattle.patch.proofs.Parts.{lay_none, length-lay}
use Rattle.refusal.specs.Meaning.{Meaning, number_of, detail_of}
use Rattle.refusal.specs.Numbers.{named}
use Rattle.refusal.proofs.Keeping.{refuses, does}
use Rattle.ending.specs.declared.Ending.{Ending}
use Rattle.ending.specs.declared.Ending.TheVariants.{Refused}
use Rattle.record.specs.Records.{mark, rows_in, columns_in, symbols_in, size_in, out_of_range, stop_checks, stop_of}
use Rattle.record.specs.Lines.{ascii}
use Rattle.record.specs.Promises.{fresh}
use Rattle.record.specs.Working.{Puts, PutsWithin, Decoded}
use Rattle.record.proofs.Heads.{sizes_of}
use Rattle.record.proofs.Wholes.{Whole, whole_of}
use Rattle.salvage.specs.Pieces.{Piece, skipped, rewritten, piece_of, AtFront}
use Rattle.salvage.specs.Listing.{changes, line_of, lines_from}
use Rattle.salvage.specs.Promises.{Rooms, rooms, meaning, told, Finds, Lists}
use Rattle.salvage.specs.Working.{head, kept_with, Keepable, Told, Decided}
use Rattle.salvage.specs.declared.Found.{Found}
use Rattle.salvage.specs.declared.Found.TheVariants.{End, Kept, Skipped}
use Rattle.salvage.proofs.Rewritten.{front, rewritten_is, old_symbols, old_long, old_is, size_long, columns_with, symbols_of}
use Rattle.salvage.proofs.Rewritten.{length_with}

pub counts : (n : ℕ) (l : List ℕ) → n ≤ length l → Counts n l
counts n l h = (h, sym (length-take-le n l h))

pub size-most : (b : List ℕ) → out_of_range b ≡ false → size_in b ≤ 490
size-most b h = let s = sizes_of h refl refl in omega (arith, s.rows, s.columns, s.cells, s.total)

pub size-some : (b : List ℕ) → 6 ≤ size_in b
unfolding size_in
size-some b = omega arith

abbrev pub second : Meaning → ℕ
second (number, []) = 0
second (number, v ∷ []) = 0
second (number, v ∷ w ∷ vs) = w

pub meaning_faithful : (r r' : Found) → meaning r ≡ meaning r' → r ≡ r'
meaning_faithful End End e = refl
meaning_faithful End (Kept n m) e = absurd (omega (arith, ap number_of e))
meaning_faithful End (Skipped n) e = absurd (omega (arith, ap number_of e))
meaning_faithful (Kept n m) End e = absurd (omega (arith, ap number_of e))
meaning_faithful (Kept n m) (Kept n' m') e = ap₂ Kept (ap detail_of e) (ap second e)
meaning_faithful (Kept n m) (Skipped n') e = absurd (omega (arith, ap number_of e))
meaning_faithful (Skipped n) End e = absurd (omega (arith, ap number_of e))
meaning_faithful (Skipped n) (Kept n' m) e = absurd (omega (arith, ap number_of e))
meaning_faithful (Skipped n) (Skipped n') e = ap Skipped (ap detail_of e)

module _ (at : ℕ) {lent : List ℕ} where
  pub no_run : (n : ℕ) → n ≡ 0 → Lists at n lent 0 lent
  unfolding lines_from
  no_run zero e = record { size = refl; laid = sym (lay_none 0 lent) }
  no_run (suc n) e = absurd (omega arith)

  pub some_run : (n : ℕ) → (n ≡ 0 → ⊥) → {left : List ℕ} {r : ℕ} → Puts lent 0 (head at (ascii " skipped ") n ++ ascii "\n") left r
      → Lists at n lent r left
  unfolding lines_from line_of
  some_run zero d p = absurd (d refl)
  some_run (suc n) d p =
      let whole = append-nil (head at (ascii " skipped ") (suc n) ++ ascii "\n") in
      record { size = rw whole (p.behind ∙ zero-add _); laid = rw whole p.laid }

pub skip_told : (at : ℕ) (b : List ℕ) (n : ℕ) (lent : Rooms) → 1 ≤ n → n ≤ length b → Told at b (skipped n) lent (Skipped n) lent
skip_told at b n lent some here = record { is = refl; advances = (some, here) }

pub skip_whole : (at : ℕ) (b : List ℕ) {n : ℕ} (lent : Rooms) → n ≡ size_in b → Whole b
    → Told at b (skipped (size_in b)) lent (Skipped n) lent
skip_whole at b lent is w = rw is (skip_told at b (size_in b) lent (omega (arith, size-some b)) w.complete)

module _ (at : ℕ) (b array : List ℕ) (lent : Rooms) (h : Keepable b array lent) where
  abbrev z : stop_of b ≡ 0
  z = h.of.whole

  abbrev cells : ℕ
  cells = rows_in b * columns_in b

  new_long : length (take cells array) ≡ cells
  new_long = length-take-le cells array (omega (arith, h.symbols, (sizes_of (whole_of b z).inside refl refl).cells))

  -- the line, with the parts as they are read
  line_kept : line_of at (kept_with b array)
      ≡ head at (ascii " kept ") (size_in b) ++ changes (columns_in b) 0 (old_symbols b z) (take cells array) ++ ascii "\n"
  unfolding line_of
  line_kept =
      let old : take (size_in b) b ≡ front b ++ old_symbols b z = old_is b z in
      let n : columns_in (take (size_in b) b) ≡ columns_in b = ap columns_in old ∙ columns_with b z (old_symbols b z) in
      let was : symbols_in (take (size_in b) b) ≡ old_symbols b z =
      ap symbols_in old ∙ symbols_of b z (old_symbols b z) (old_long b z) in
      let is : symbols_in (rewritten b (take cells array)) ≡ take cells array =
      ap symbols_in (rewritten_is b z (take cells array)) ∙ symbols_of b z (take cells array) new_long in
      rw (size_long b z, n, was, is)

  keep_by : {v u : List ℕ} → v ≡ rewritten b (take cells array) → u ≡ line_of at (kept_with b array) → {r l : List ℕ} {n m : ℕ}
      → Puts lent.for_record 0 v r n → Puts lent.for_line 0 u l m → m ≤ 6191
      → Told at b (kept_with b array) lent (Kept n m) (rooms r l)
  keep_by e f {r} {l} {n} {m} p q most =
      let size : length (rewritten b (take cells array)) ≡ size_in b =
      ap length (rewritten_is b z (take cells array)) ∙ length_with b z (take cells array) new_long in
      let n_is : n ≡ length (rewritten b (take cells array)) = p.behind ∙ zero-add _ ∙ ap length e in
      let m_is : m ≡ length (line_of at (kept_with b array)) = q.behind ∙ zero-add _ ∙ ap length f in
      let r-is = p.laid ∙ ap (λ (x : List ℕ). lay 0 x lent.for_record) e in
      let l-is = q.laid ∙ ap (λ (x : List ℕ). lay 0 x lent.for_line) f in
      let whole = whole_of b z in
      let most-size : size_in b ≤ 490 = size-most b whole.inside in
      record {
        is = sym (ap₂ (λ (k : Meaning) (x : Rooms). (k, x)) (ap₂ (λ (i j : ℕ). (1, i ∷ j ∷ [])) n_is m_is) (ap₂ rooms r-is l-is));
        advances = (
          omega (arith, n_is, size, size-some b),
          omega (arith, n_is, size, whole.complete),
          counts n r (omega (
            arith,
            n_is,
            size,
            h.of.record_room,
            ap length r-is,
            length-lay 0 (rewritten b (take cells array)) lent.for_record,
          )),
          counts m l (omega (arith, h.of.line_room, ap length l-is, length-lay 0 (line_of at (kept_with b array)) lent.for_line)),
        );
      }

  pub keep_told : (r n : ℕ) → r ≡ rows_in b → n ≡ columns_in b → {k l : List ℕ} {i m : ℕ}
      → Puts lent.for_record 0 (mark ++ take (6 + r + n - 2) (drop 2 b) ++ take (r * n) array) k i
      → PutsWithin 6191 lent.for_line 0 (head at (ascii " kept ") (6 + r + n + r * n)
      ++ changes n 0 (take (6 + r + n + r * n - (6 + r + n)) (drop (6 + r + n) b)) (take (r * n) array) ++ ascii "\n") l m
      → Told at b (kept_with b array) lent (Kept i m) (rooms k l)
  unfolding rewritten part size_in old_symbols
  keep_told r n e f p q =
      let e₁ : 6 + r + n - 2 ≡ 4 + r + n = omega arith in
      let e₂ : 6 + r + n + r * n - (6 + r + n) ≡ r * n = omega arith in
      keep_by (rw (e₁, e, f)) (rw (e₂, e, f) (sym line_kept)) p q.puts q.most

-- a record that was decoded and ended as x, whose piece is told
pub decided_as : (x : Ending) {e : Ending} → e ≡ x → {w b array flags : List ℕ} → Decoded w b e array flags
    → {at : ℕ} {lent : Rooms} {r : Found} {left : Rooms} → Told at b (piece_of b x (take (rows_in b * columns_in b) array)) lent r left
    → Decided w at b lent r left
decided_as x {e} is {w} {b} {array} {flags} d {at} {lent} {r} {left} t = record {
  ending = e;
  array = take (rows_in b * columns_in b) array;
  flags = take (columns_in b) flags;
  space = d.space;
  decodes = d.decodes;
  piece = rw is t;
}

module _ (at : ℕ) (lent : Rooms) where
  pub found_end : (b : List ℕ) → length b ≡ 0 → Finds at b lent End lent
  found_end [] e = (refl, refl)
  found_end (x ∷ b) e = absurd (omega arith)

  -- the piece at the front of bytes, where there are any
  found_by : (b : List ℕ) {p : Piece} (r : Found) {left : Rooms} → (length b ≡ 0 → ⊥) → AtFront b p → told at lent p ≡ (meaning r, left)
      → Finds at b lent r left
  found_by [] r some f is = absurd (some refl)
  found_by (x ∷ b) {p} r some f is = (p, f, is)

  pub found_failed : (b : List ℕ) {k : ℕ} → (length b ≡ 0 → ⊥) → k ≡ stop_of b → (k ≡ 0 → ⊥) → Finds at b lent (Skipped 1) lent
  unfolding stop_of
  found_failed b {k} some e z = found_by b (Skipped 1) some
      (record { ending = Refused (named k); array = []; ended = refuses (stop_checks b) _ _ e z; is = refl }) refl

  pub found_decided : (b : List ℕ) (r : Found) {left : Rooms} → (length b ≡ 0 → ⊥) → stop_of b ≡ 0 → Decided fresh at b lent r left
      → Finds at b lent r left
  unfolding stop_of
  found_decided b r some z d = found_by b r some
      (record {
        ending = d.ending;
        array = d.array;
        ended = does (stop_checks b) _ _ _ (sym z) (d.flags, d.space, d.decodes);
        is = refl;
      })
      d.piece.is
