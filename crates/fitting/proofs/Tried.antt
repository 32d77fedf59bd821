-- What fits at one set of columns: at most one array, the one that is filled in from the other columns.
--
--   is_code              what reading answers says whether an array is a code array
--   flags_twice          flags turned into marks and back
--   filled_fits          what fits at the set W is the array with the columns of W filled in, struck
--   fits_struck          and the reverse, where that is a code array that is wrong in just these columns
--   one_turn, no_turn    so what comes in turn for W alone is that array, or nothing
-- Assumes nothing.
use mathlib.Core.Path.{◌≡◌, refl, sym, ap, ◌∙◌}
use mathlib.Core.Logic.{◌↔◌}
use mathlib.Core.List.{List, [], ◌∷◌}
use Prim.Native.Nat.{ℕ, zero, suc, ◌+◌, ◌≤◌, ◌<◌}
use native.Mathlib.Omega.{arith}
use lib.ListN.{length, get_or}
use Rattle.refusal.specs.Refusal.{first}
use Rattle.poly.specs.Poly.{All}
use Rattle.codes.specs.Code.{Code, rows, columns, total, largest, encoded, CodeArray, differs_at, flags_of}
use Rattle.codes.specs.Factors.{Description, multiplied, plain}
use Rattle.codes.proofs.Passed.{code_passes}
use Rattle.codes.proofs.Limits.{Room, room}
use Rattle.codes.proofs.Flags.{flag-right}
use Rattle.codes.proofs.Columns.{agree_exactly}
use Rattle.codes.proofs.Messages.{encoded_array, code_array}
use Rattle.codes.proofs.Factors.{flags_multiplied, ones_factors}
use Rattle.mark.specs.Promises.{success, Left, Reads}
use Rattle.mark.proofs.Demand2.{read_done, array_passes}
use Rattle.mark.proofs.Plain.{struck_ones}
use Rattle.ending.proofs.Model.{filled}
use Rattle.ending.proofs.ModelFilled.{filled_code}
use Rattle.finish.specs.Working.{zeros_in}
use Rattle.fitting.specs.Fitting.{FitsAt, InTurn}
use Rattle.fitting.specs.Working.{Checked, Flags, PlainFit, Quotient}

pub is_code : {c : Code} → Checked c → (a lent : List ℕ) (x : Left) → length lent ≡ total c.lengths → Reads (plain c) a lent x
    → (x.outcome ≡ success) ↔ CodeArray c a
unfolding first
is_code {c} h a lent x e r = let is = read_done (plain c) a lent x r in (
  λ d. let (m, i, w) = (is.0 d).1 in (m, i, sym (struck_ones h.proper i) ∙ w),
  λ (m, i, w). is.1 (
    array_passes (plain c) a lent h.proper (ones_factors c h.proper) (sym (code_passes c [] h.counts h.checked))
        (code_array h.proper (m, i, w)) e,
    (m, i, struck_ones h.proper i ∙ w),
  ),
)

pub flags_twice : (W : List ℕ) → All (λ (f : ℕ). f < 2) W → zeros_in (zeros_in W) ≡ W
unfolding zeros_in
flags_twice [] h = refl
flags_twice (zero ∷ W) h = ap (◌∷◌ 0) (flags_twice W h.1)
flags_twice (suc zero ∷ W) h = ap (◌∷◌ 1) (flags_twice W h.1)
flags_twice (suc (suc f) ∷ W) h = absurd (omega (arith, h.0))

pub room_for : {c : Code} → Checked c → (W : List ℕ) → total W + largest c.lengths ≤ columns c
    → Room (columns c) (total W) c.lengths
room_for h W r = room h.proper (omega arith)

module _ {D : Description} {z : List ℕ} (q : Quotient D z) {W : List ℕ} (set : Flags (columns D.code) W)
    (space : total W + largest D.code.lengths ≤ columns D.code) where
  abbrev c : Code
  c = D.code

  abbrev y : List ℕ
  y = multiplied D z

  -- the array with the columns of W filled in from the others
  abbrev own : List ℕ
  own = filled c z W

  pub fits_struck : {a : List ℕ} → PlainFit c z W a → FitsAt D y W (multiplied D a)
  fits_struck {a} h = let (m, i, e) = h.code in let p = q.checked.proper in record {
    code = (m, i, ap (multiplied D) e);
    wrong = flags_multiplied D p q.factors q.received (code_array p h.code) ∙ h.wrong;
  }

  pub filled_fits : (b : List ℕ) → FitsAt D y W b → (b ≡ multiplied D own) × PlainFit c z W own
  filled_fits b h =
      let (m, i, e) = h.code in
      let p = q.checked.proper in
      let wrong : flags_of c z (encoded c m) ≡ W =
      sym (flags_multiplied D p q.factors q.received (encoded_array p i)) ∙ ap (flags_of c y) e ∙ h.wrong in
      let is : own ≡ encoded c m = filled_code p q.received i W set.sized (room_for q.checked W space)
      (λ j l f. (agree_exactly (rows c) (columns c) j z (encoded c m)).0
      (flag-right (differs_at c z (encoded c m)) (columns c) j l (ap (λ (fs : List ℕ). get_or fs j 0) wrong ∙ f))) in
      (sym e ∙ ap (multiplied D) (sym is), record { code = (m, i, sym is); wrong = ap (flags_of c z) is ∙ wrong })

  pub one_turn : PlainFit c z W own → InTurn (FitsAt D y) (W ∷ []) (multiplied D own ∷ [])
  one_turn h = InTurn.one (fits_struck h) (λ b f. (filled_fits b f).0) InTurn.end

  pub no_turn : ¬ PlainFit c z W own → InTurn (FitsAt D y) (W ∷ []) []
  no_turn n = InTurn.none (λ b f. n (filled_fits b f).1) InTurn.end
