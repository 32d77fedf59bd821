-- No two distinct outcomes satisfy the promises, and no two clean files and listings those of the program.
--
--   front_unique      the bytes that are left fix the piece at their front
--   pieces_unique     a file fixes its pieces
--   unique, unique_line    what is left, the offset and the buffers lent fix what is found, and the line of a run
--   writes_unique     an old file fixes the clean file and the listing
-- Assumes nothing.
use mathlib.Core.Path.{◌≡◌, sym, ap, ap₂, ◌∙◌, subst}
use mathlib.Core.List.{List, [], ◌∷◌}
use Prim.Native.Nat.{ℕ}
use lib.ListN.{drop}
use Rattle.refusal.specs.Meaning.{Meaning}
use Rattle.refusal.proofs.Keeping as keeping
use Rattle.ending.specs.declared.Ending.{Ending}
use Rattle.joint.specs.Promises.{Left, left, buffers}
use Rattle.joint.proofs.Unique as joint
use Rattle.record.specs.Records.{stop_checks}
use Rattle.record.specs.Promises.{record_in, fresh}
use Rattle.salvage.specs.Pieces.{Piece, size, piece_of, Ended, AtFront, Salvages, ends, goes, clean}
use Rattle.salvage.specs.Listing.{runs_from, lines_from, WritesFrom}
use Rattle.salvage.specs.Promises.{Rooms, told, Finds, Lists}
use Rattle.salvage.specs.declared.Found.{Found}
use Rattle.salvage.proofs.Told.{meaning_faithful}

ended_unique : (b : List ℕ) (l l' : Ending × List ℕ) → Ended b l → Ended b l' → l ≡ l'
ended_unique b = keeping.unique (stop_checks b) _ _
    (λ none l l' (f, s, d) (f', s', d').
    let same = joint.unique (record_in fresh b) (left l.0 (buffers l.1 f) s) (left l'.0 (buffers l'.1 f') s') d d' in
    ap (λ (x : Left). (x.ending, x.buffers.array)) same)

pub front_unique : (b : List ℕ) {p p' : Piece} → AtFront b p → AtFront b p' → p ≡ p'
front_unique b h h' =
    h.is
    ∙ ap (λ (l : Ending × List ℕ). piece_of b l.0 l.1)
    (ended_unique b (h.ending, h.array) (h'.ending, h'.array) h.ended h'.ended)
    ∙ sym h'.is

pub pieces_unique : {b : List ℕ} {ps qs : List Piece} → Salvages b ps → Salvages b qs → ps ≡ qs
pieces_unique (ends e a) (ends e' a') = a ∙ sym a'
pieces_unique (ends e a) (goes some' f' s' a') = absurd (some' e)
pieces_unique (goes some f s a) (ends e' a') = absurd (some e')
pieces_unique {b} (goes {p = p} {ps = ps} some f s a) (goes {p = p'} {ps = ps'} some' f' s' a') =
    let same : p ≡ p' = front_unique b f f' in
    a ∙ ap₂ ◌∷◌ same (pieces_unique (subst (λ (q : Piece). Salvages (drop (size q) b) ps) same s) s') ∙ sym a'

pub writes_unique : {at n : ℕ} {b c c' l l' : List ℕ} → WritesFrom at n b c l → WritesFrom at n b c' l' → (c ≡ c') × (l ≡ l')
writes_unique {at} {n} h h' =
    let same = pieces_unique h.salvages h'.salvages in (
      h.file ∙ ap clean same ∙ sym h'.file,
      h.lines ∙ ap (λ (ps : List Piece). lines_from at (runs_from n ps)) same ∙ sym h'.lines,
    )

pub unique : (at : ℕ) (b : List ℕ) (lent : Rooms) (r r' : Found) (o o' : Rooms) → Finds at b lent r o → Finds at b lent r' o'
    → (r ≡ r') × (o ≡ o')
unique at [] lent r r' o o' h h' = (meaning_faithful r r' (h.0 ∙ sym h'.0), h.1 ∙ sym h'.1)
unique at (x ∷ b) lent r r' o o' (p, f, e) (p', f', e') =
    let same = sym e ∙ ap (told at lent) (front_unique (x ∷ b) f f') ∙ e' in
    (meaning_faithful r r' (ap (λ (l : Meaning × Rooms). l.0) same), ap (λ (l : Meaning × Rooms). l.1) same)

pub unique_line : {at n : ℕ} {lent : List ℕ} {r r' : ℕ} {o o' : List ℕ} → Lists at n lent r o → Lists at n lent r' o'
    → (r ≡ r') × (o ≡ o')
unique_line h h' = (h.size ∙ sym h'.size, h.laid ∙ sym h'.laid)
