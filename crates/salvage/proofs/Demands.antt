-- What the user asks of a salvage, as theorems about the pieces of a file: 02, 2026-12.
--
--   front_fits        a piece has a byte at least, and no more than there are
--   adds_up           'Kept record lengths and skipped lengths add up to the old file's length.'
--   clean_long        the clean file has the lengths of the records kept
--   kept_nearest      a record that is kept is written with its own bytes before the symbols, and these are the code array within its limit
--                     where every other one differs from its old symbols in more columns
--   Apart ps          no two neighbours of ps are skipped bytes; runs_apart, so it is of runs
--   runs_kept, runs_skipped    and these add up to the same
--   clean-again       'Running it on its own output changes nothing and skips nothing.'
--   unchanged_line    of such records the listing names no change
-- Assumes nothing.
use mathlib.Core.Path.{◌≡◌, refl, sym, ap, ap₂, ◌∙◌, subst}
use mathlib.Core.List.{List, [], ◌∷◌, ◌++◌, append-nil}
use Prim.Native.Nat.{ℕ, zero, suc, ◌+◌, ◌*◌, ◌≤◌}
use native.Mathlib.Omega.{arith}
use lib.ListN.{length, length-append, length-drop}
use lib.Seq.{drop-append_seam}
use borrow.Author.Tests.{eq-eqb}
use Rattle.refusal.specs.Numbers.{named}
use Rattle.refusal.specs.declared.Refusal.{Refusal}
use Rattle.refusal.proofs.Keeping.{told}
use Rattle.poly.specs.Poly.{All}
use Rattle.codes.specs.Code.{wrong_count}
use Rattle.codes.specs.Factors.{CodeArrayBy}
use Rattle.codes.specs.Near.{Nearest}
use Rattle.ending.specs.declared.Ending.{Ending}
use Rattle.ending.specs.declared.Ending.TheVariants.{Refused, Corrected, Nothing, Several, Hollow}
use Rattle.joint.specs.Promises.{buffers, left}
use Rattle.joint.proofs.Demands as joint
use Rattle.record.specs.Records.{columns_in, code_in, described_in, limit_in, symbols_in, size_in, stop_checks, stop_of}
use Rattle.record.specs.Lines.{ascii, decimal}
use Rattle.record.specs.Promises.{record_in, fresh}
use Rattle.record.proofs.Wholes.{whole_of}
use Rattle.salvage.specs.Pieces.{Piece, kept, skipped, size, piece_of, Ended, AtFront, Salvages, ends, goes, clean, kept_length}
use Rattle.salvage.specs.Pieces.{skipped_length, Unchanged}
use Rattle.salvage.specs.Listing.{runs_from, changes, line_of}
use Rattle.salvage.proofs.Told.{size-some}
use Rattle.salvage.proofs.Rewritten.{front, symbols_of, size_long, rows_front, columns_front}
use Rattle.salvage.proofs.Unique.{pieces_unique}
use Rattle.salvage.proofs.Again.{KeptAt, kept_at, array_long, new_is_front, new_long, old_long, kept_again}

-- a record that is not refused is whole
pub whole_by : (b : List ℕ) (e : Ending) (a : List ℕ) → Ended b (e, a) → ((r : Refusal) → e ≡ Refused r → ⊥) → stop_of b ≡ 0
unfolding stop_of
whole_by b e a h not = told (stop_checks b) _ _ (e, a) h (λ none d. sym none)
    (λ k s d. absurd (not (named (suc k)) (ap (λ (x : Ending × List ℕ). x.0) d)))

some_byte : (b : List ℕ) → (b ≡ [] → ⊥) → 1 ≤ length b
some_byte [] n = absurd (n refl)
some_byte (x ∷ b) n = omega arith

whole_fits : (b : List ℕ) → stop_of b ≡ 0 → (1 ≤ size_in b) × (size_in b ≤ length b)
whole_fits b z = (omega (arith, size-some b), (whole_of b z).complete)

fits_by : (b : List ℕ) (e : Ending) (a : List ℕ) → (b ≡ [] → ⊥) → Ended b (e, a)
    → (1 ≤ size (piece_of b e a)) × (size (piece_of b e a) ≤ length b)
fits_by b (Refused r) a some h = (omega arith, some_byte b some)
fits_by b (Corrected w) a some h =
    let z = whole_by b (Corrected w) a h (λ r e. let z : ◌≡◌ {A = ℕ} 0 1 = cc in omega arith) in
    rw (size_long b z) (whole_fits b z)
fits_by b Nothing a some h = whole_fits b (whole_by b Nothing a h (λ r e. let z : ◌≡◌ {A = ℕ} 0 1 = cc in omega arith))
fits_by b (Several t) a some h = whole_fits b (whole_by b (Several t) a h (λ r e. let z : ◌≡◌ {A = ℕ} 0 1 = cc in omega arith))
fits_by b (Hollow t) a some h = whole_fits b (whole_by b (Hollow t) a h (λ r e. let z : ◌≡◌ {A = ℕ} 0 1 = cc in omega arith))

pub front_fits : {b : List ℕ} {p : Piece} → (b ≡ [] → ⊥) → AtFront b p → (1 ≤ size p) × (size p ≤ length b)
front_fits {b} some h = rw h.is (fits_by b h.ending h.array some h.ended)

-- the lengths of a piece and those behind it
add-cons : (p : Piece) (ps : List Piece) → kept_length (p ∷ ps) + skipped_length (p ∷ ps) ≡ size p + (kept_length ps + skipped_length ps)
unfolding kept_length skipped_length
add-cons (kept old new) ps = omega arith
add-cons (skipped n) ps = omega arith

pub adds_up : {b : List ℕ} {ps : List Piece} → Salvages b ps → kept_length ps + skipped_length ps ≡ length b
unfolding kept_length skipped_length
adds_up {b} (ends e a) = rw (a, e)
adds_up {b} (goes {p = p} {ps = ps} some f s a) =
    rw a (omega (arith, add-cons p ps, front_fits some f, adds_up s, length-drop (size p) b))

kept_same : {b old new : List ℕ} → AtFront b (kept old new) → length new ≡ length old
kept_same {b} f = new_long b (kept_at f) ∙ sym (old_long b (kept_at f))

long_cons : {b : List ℕ} (p : Piece) (ps : List Piece) → AtFront b p → length (clean ps) ≡ kept_length ps
    → length (clean (p ∷ ps)) ≡ kept_length (p ∷ ps)
unfolding clean kept_length
long_cons (kept old new) ps f h = omega (arith, length-append new (clean ps), kept_same f)
long_cons (skipped n) ps f h = h

pub clean_long : {b : List ℕ} {ps : List Piece} → Salvages b ps → length (clean ps) ≡ kept_length ps
unfolding clean kept_length
clean_long (ends e a) = rw a
clean_long (goes {p = p} {ps = ps} some f s a) = rw a (long_cons p ps f (clean_long s))

module _ {b old new : List ℕ} (f : AtFront b (kept old new)) where
  abbrev k : KeptAt b old new
  k = kept_at f

  new_symbols : symbols_in new ≡ k.array
  new_symbols = ap symbols_in (new_is_front b k)
      ∙ symbols_of b k.whole k.array (array_long b k ∙ ap₂ ◌*◌ (rows_front b k.whole) (columns_front b k.whole))

  pub kept_nearest : (new ≡ front b ++ symbols_in new)
      × (w : ℕ) × Nearest (CodeArrayBy (described_in b)) (wrong_count (code_in b) (symbols_in b)) (limit_in b) w (symbols_in new)
  kept_nearest = (
    new_is_front b k ∙ ap (λ (a : List ℕ). front b ++ a) (sym new_symbols),
    k.wrong,
    rw new_symbols (joint.corrected_nearest (record_in fresh b) (left (Corrected k.wrong) (buffers k.array k.flags) k.space)
        k.decodes k.wrong refl).0,
  )

-- 'Neighbouring skipped bytes form one run.'
abbrev KeptFirst : List Piece → Type 0
KeptFirst [] = Unit {0}
KeptFirst (kept old new ∷ ps) = Unit {0}
KeptFirst (skipped n ∷ ps) = ⊥

abbrev pub Apart : List Piece → Type 0
Apart [] = Unit {0}
Apart (kept old new ∷ ps) = Apart ps
Apart (skipped n ∷ ps) = KeptFirst ps × Apart ps

pub runs_apart : (n : ℕ) (ps : List Piece) → Apart (runs_from n ps)
unfolding runs_from
runs_apart zero [] = tt
runs_apart (suc n) [] = (tt, tt)
runs_apart n (skipped m ∷ ps) = runs_apart (n + m) ps
runs_apart zero (kept old new ∷ ps) = runs_apart 0 ps
runs_apart (suc n) (kept old new ∷ ps) = (tt, runs_apart 0 ps)

pub runs_kept : (n : ℕ) (ps : List Piece) → kept_length (runs_from n ps) ≡ kept_length ps
unfolding runs_from kept_length
runs_kept zero [] = refl
runs_kept (suc n) [] = refl
runs_kept n (skipped m ∷ ps) = runs_kept (n + m) ps
runs_kept zero (kept old new ∷ ps) = ap (◌+◌ (length old)) (runs_kept 0 ps)
runs_kept (suc n) (kept old new ∷ ps) = ap (◌+◌ (length old)) (runs_kept 0 ps)

pub runs_skipped : (n : ℕ) (ps : List Piece) → skipped_length (runs_from n ps) ≡ n + skipped_length ps
unfolding runs_from skipped_length
runs_skipped zero [] = refl
runs_skipped (suc n) [] = refl
runs_skipped n (skipped m ∷ ps) = omega (arith, runs_skipped (n + m) ps)
runs_skipped zero (kept old new ∷ ps) = runs_skipped 0 ps
runs_skipped (suc n) (kept old new ∷ ps) = omega (arith, runs_skipped 0 ps)

-- the clean file's own pieces
again : List Piece → List Piece
again [] = []
again (kept old new ∷ ps) = kept new new ∷ again ps
again (skipped n ∷ ps) = again ps

nonempty : {l : List ℕ} → 1 ≤ length l → l ≡ [] → ⊥
nonempty h e = omega (arith, ap length e)

salvages_cons : {b : List ℕ} (p : Piece) (ps : List Piece) → (b ≡ [] → ⊥) → AtFront b p → Salvages (clean ps) (again ps)
    → Salvages (clean (p ∷ ps)) (again (p ∷ ps))
unfolding clean again
salvages_cons {b} (kept old new) ps some f s =
    let k = kept_at f in
    let long = length-append new (clean ps) in
    goes {b = new ++ clean ps} {p = kept new new} {ps = again ps} (nonempty (omega (arith, long, new_long b k, size-some b)))
    (kept_again b k (clean ps))
    (subst (λ (l : List ℕ). Salvages l (again ps)) (sym (drop-append_seam new (clean ps))) s) refl
salvages_cons (skipped n) ps some f s = s

salvages-again : {b : List ℕ} {ps : List Piece} → Salvages b ps → Salvages (clean ps) (again ps)
unfolding clean again
salvages-again (ends e a) = rw a (ends refl refl)
salvages-again (goes {p = p} {ps = ps} some f s a) = rw a (salvages_cons p ps some f (salvages-again s))

again_same : (ps : List Piece) → (clean (again ps) ≡ clean ps) × All Unchanged (again ps)
unfolding clean again
again_same [] = (refl, tt)
again_same (kept old new ∷ ps) = (ap (◌++◌ new) (again_same ps).0, (refl, (again_same ps).1))
again_same (skipped n ∷ ps) = again_same ps

pub clean-again : {b : List ℕ} {ps qs : List Piece} → Salvages b ps → Salvages (clean ps) qs → (clean qs ≡ clean ps) × All Unchanged qs
clean-again {ps = ps} s t = rw (pieces_unique t (salvages-again s)) (again_same ps)

no_changes : (n i : ℕ) (v : List ℕ) → changes n i v v ≡ []
unfolding changes
no_changes n i [] = refl
no_changes n i (a ∷ v) = rw (eq-eqb a a refl) (no_changes n (suc i) v)

pub unchanged_line : (at : ℕ) (old new : List ℕ) → Unchanged (kept old new)
    → line_of at (kept old new) ≡ decimal at ++ ascii " kept " ++ decimal (length old) ++ ascii "\n"
unfolding line_of
unchanged_line at old new e = rw (e, no_changes (columns_in old) 0 (symbols_in old), append-nil)
