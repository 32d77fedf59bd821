-- Every file has pieces.
--
--   decodes_some      every decoding leaves something
--   front_some        every list of bytes has a piece at its front
--   pieces_some       and every file has pieces; pieces_unique (proofs/Unique.antt) says that it has no others
-- Assumes nothing.
use mathlib.Core.Path.{◌≡◌, refl}
use mathlib.Core.List.{List, [], ◌∷◌}
use Prim.Native.Nat.{ℕ, zero, suc, ◌≤◌}
use native.Mathlib.Omega.{arith}
use native.Mathlib.Nat.{le_refl}
use lib.ListN.{length, drop, length-drop}
use Rattle.refusal.specs.Refusal.{first}
use Rattle.refusal.specs.Numbers.{named}
use Rattle.refusal.proofs.Keeping.{refuses, does}
use Rattle.codes.specs.Factors.{divided}
use Rattle.codes.proofs.Passed.{decoding}
use Rattle.codes.proofs.Factors.{is_divided}
use Rattle.ending.specs.declared.Ending.{Ending}
use Rattle.ending.specs.declared.Ending.TheVariants.{Refused}
use Rattle.ending.proofs.Model.{decided}
use Rattle.ending.proofs.ModelEnds.{model_ends}
use Rattle.joint.specs.Promises.{Given, Left, left, Decodes, checks_of}
use Rattle.joint.proofs.Promised as promised
use Rattle.record.specs.Records.{stop_checks}
use Rattle.record.specs.Promises.{record_in, fresh}
use Rattle.salvage.specs.Pieces.{Piece, size, piece_of, Ended, AtFront, Salvages, ends, goes}
use Rattle.salvage.proofs.Demands.{front_fits}

decodes_by : (g : Given) (k : ℕ) → k ≡ first (checks_of g) → (l : Left) × Decodes g l
decodes_by g zero none =
    let D = g.description in
    let (p, factors) = decoding D g.limit g.received g.lent.array g.lent.flags g.space none in
    let q = is_divided D p.array.proper factors p.array.received in
    let o = decided D.code (divided D g.received) g.limit g.lent in (
      _,
      promised.leaves (checks_of g) g.lent g.space _ none o.0 _ _
          (record { answer = o.1; ends = model_ends p.array.proper q g.limit p.limit g.lent; back = refl }) refl,
    )
decodes_by g (suc k) e = (_, refuses (checks_of g) (λ k. left (Refused (named k)) g.lent g.space) _ e (λ z. omega arith))

pub decodes_some : (g : Given) → (l : Left) × Decodes g l
decodes_some g = decodes_by g (first (checks_of g)) refl

ended_by : (b : List ℕ) (k : ℕ) → k ≡ first (stop_checks b) → (l : Ending × List ℕ) × Ended b l
ended_by b zero none =
    let (l, d) = decodes_some (record_in fresh b) in
    ((l.ending, l.buffers.array), does (stop_checks b) _ _ (l.ending, l.buffers.array) none (l.buffers.flags, l.space, d))
ended_by b (suc k) e = ((Refused (named (suc k)), []), refuses (stop_checks b) _ _ e (λ z. omega arith))

pub front_some : (b : List ℕ) → (p : Piece) × AtFront b p
front_some b =
    let (l, h) = ended_by b (first (stop_checks b)) refl in
    (piece_of b l.0 l.1, record { ending = l.0; array = l.1; ended = h; is = refl })

pieces_by : (n : ℕ) (b : List ℕ) → length b ≤ n → (ps : List Piece) × Salvages b ps
pieces_by zero [] h = ([], ends refl refl)
pieces_by zero (x ∷ b) h = absurd (omega arith)
pieces_by (suc n) [] h = ([], ends refl refl)
pieces_by (suc n) (x ∷ b) h =
    let some : x ∷ b ≡ [] → ⊥ = λ e. let z : ◌≡◌ {A = ℕ} 0 1 = cc in omega arith in
    let (p, f) = front_some (x ∷ b) in
    let (ps, s) = pieces_by n (drop (size p) (x ∷ b)) (omega (arith, h, front_fits some f, length-drop (size p) (x ∷ b))) in
    (p ∷ ps, goes {b = x ∷ b} {p = p} {ps = ps} some f s refl)

pub pieces_some : (b : List ℕ) → (ps : List Piece) × Salvages b ps
pieces_some b = pieces_by (length b) b (le_refl _)
