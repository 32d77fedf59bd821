-- The table of endings of the powers, and what the calls inside make of it.
--
--   power_unique      the table tells endings and buffers apart
--   power_others      unless the ending is 'corrected', the buffers are as lent
--   corrected_row     the first row of a corrected answer is a row of symbols
--   joint_ended       joint decoding of the powers ends by the table, with the space cleared
--   joint_ready       below its checks it is ready; struck_ended, and ends by the table
--   power_ends        so does the decoding of the row, with the first row given back
-- Assumes nothing.
use mathlib.Core.Path.{◌≡◌, refl, sym, ap, ap₂, ◌∙◌, subst}
use mathlib.Core.List.{List, [], ◌∷◌}
use Prim.Native.Nat.{ℕ, ◌≤◌}
use native.Mathlib.Omega.{arith}
use lib.ListN.{length, take}
use Rattle.refusal.specs.Numbers.{named}
use Rattle.refusal.proofs.Keeping.{told}
use Rattle.field.specs.Symbols.{times}
use Rattle.codes.specs.Code.{Code, IsArray, joint_limit}
use Rattle.codes.specs.Factors.{description_of, with_factors, divided, plain}
use Rattle.codes.specs.Checks as Mark
use Rattle.ending.specs.Endings.{Buffers, Corrects, Ends}
use Rattle.ending.specs.declared.Ending.{Ending}
use Rattle.ending.specs.declared.Ending.TheVariants.{Refused, Corrected, Nothing, Several, Hollow}
use Rattle.ending.proofs.Unique as endings
use Rattle.ending.proofs.Demands.{corrected_code}
use Rattle.codes.proofs.Messages.{code_array}
use Rattle.finish.specs.Working.{released}
use Rattle.joint.specs.Promises.{Left, buffers, cleared, on_corrected}
use Rattle.joint.specs.Promises as Joint
use Rattle.joint.specs.Lost.{LostEnds}
use Rattle.joint.specs.Working.{ReadyLost, StruckEnds}
use Rattle.joint.proofs.Struck.{kept_else, ones_struck}
use Rattle.joint.proofs.Lost.{whole_ready, none_ends, corrected_array}
use Rattle.power_checks.specs.Powers.{power_rows, power_code}
use Rattle.powers.specs.Promises.{PowerEnds, EndsAs}
use Rattle.powers.specs.Working.{Row, Shape, Ready}
use Rattle.powers.proofs.Rows.{rows_array}
use Rattle.powers.proofs.Corrected.{word_row, corrected-first, corrected-word}
use Rattle.powers.proofs.Passed.{joint_passes}

-- unless the ending is 'corrected', the buffers are as lent
ends_others : (c : Code) (y : List ℕ) (τ : ℕ) (lent : Buffers) (e : Ending) (b : Buffers) → Ends c y τ lent e b
    → ((w : ℕ) → ¬ (e ≡ Corrected w)) → b ≡ lent
ends_others c y τ lent (Refused r) b h n = absurd h
ends_others c y τ lent (Corrected w) b h n = absurd (n w refl)
ends_others c y τ lent Nothing b h n = h.1
ends_others c y τ lent (Several t) b h n = h.2
ends_others c y τ lent (Hollow t) b h n = h.2

pub power_others : {d : ℕ} {xs : List ℕ} {k s : ℕ} {z : List ℕ} {τ : ℕ} (lent : Buffers) (e : Ending) (b : Buffers)
    → PowerEnds d xs k s z τ lent e b → ((w : ℕ) → ¬ (e ≡ Corrected w)) → b ≡ lent
power_others {d} {xs} {k} {s} {z} {τ} lent e b h n = h.back ∙ kept_else (take (length xs)) e h.answer n
    ∙ ends_others (power_code d xs k s) (power_rows d s z) τ lent e h.answer h.ends n

module _ {d : ℕ} {xs : List ℕ} {k s : ℕ} (h : Shape d xs k s) {z : List ℕ} (row : Row d (length xs) z) {τ : ℕ}
    (limit : τ ≤ joint_limit (power_code d xs k s)) where
  pub ends_unique : (lent : Buffers) (e e' : Ending) (b b' : Buffers)
      → Ends (power_code d xs k s) (power_rows d s z) τ lent e b → Ends (power_code d xs k s) (power_rows d s z) τ lent e' b'
      → (e ≡ e') × (b ≡ b')
  ends_unique lent e e' b b' = endings.unique h.proper (rows_array d h.proper.field xs k s row) τ limit e e' lent b b'

  pub power_unique : (lent : Buffers) (e e' : Ending) (b b' : Buffers) → PowerEnds d xs k s z τ lent e b → PowerEnds d xs k s z τ lent e' b'
      → (e ≡ e') × (b ≡ b')
  power_unique lent e e' b b' p q =
      let same = ends_unique lent e e' p.answer q.answer p.ends q.ends in
      (same.0, p.back ∙ ap₂ (on_corrected (take (length xs))) same.0 same.1 ∙ sym q.back)

  pub corrected_row : {w : ℕ} {left : Buffers} → Corrects (power_code d xs k s) (power_rows d s z) τ w left
      → Row d (length xs) (take (length xs) left.array)
  corrected_row c = subst (Row d (length xs)) (sym (corrected-first h row limit c)) (word_row h (corrected-word h row limit c))

module _ {d k s : ℕ} {xs : List ℕ} {τ : ℕ} {z a f w : List ℕ} (h : Ready d k s xs τ z a f w) where
  abbrev Table : Ending → Buffers → Type 0
  Table = Ends (power_code d xs k s) (power_rows d s z) τ (buffers a f)

  abbrev Plain : Ending → Buffers → Type 0
  Plain = Joint.Struck (plain (power_code d xs k s)) (power_rows d s z) (λ y. Ends (power_code d xs k s) y τ (buffers a f))

  array : IsArray (power_code d xs k s) (power_rows d s z)
  array = rows_array d h.shape.proper.field xs k s h.row

  pub joint_ended : (l : Left) → Joint.Decodes (Joint.given (plain (power_code d xs k s)) τ (power_rows d s z) (buffers a f) w) l
      → Table l.ending l.buffers × (l.space ≡ cleared w)
  joint_ended l p = told (Mark.decode_checks (plain (power_code d xs k s)) τ (power_rows d s z) a f w)
      (λ n. Joint.left (Refused (named n)) (buffers a f) w) (λ l. Plain l.ending l.buffers × (l.space ≡ cleared w)) l p
      (λ e (t, c). (
        (ones_struck (power_code d xs k s) h.shape.proper array (λ y. Ends (power_code d xs k s) y τ (buffers a f))
            (λ m b q. code_array h.shape.proper (corrected_code h.shape.proper array τ q)) l.ending l.buffers).0 t,
        c,
      ))
      (λ n e d. absurd (omega (arith, joint_passes h)))

  -- and below its checks
  pub joint_ready : ReadyLost (power_code d xs k s) τ [] (power_rows d s z)
  joint_ready = whole_ready h.counts h.shape.proper array h.limit

  pub struck_ended : (e : Ending) (b : Buffers) → StruckEnds (plain (power_code d xs k s)) [] (power_rows d s z) τ (buffers a f) e b
      → Table e b
  struck_ended e b t = (none_ends (power_code d xs k s) array τ (buffers a f) b e).0
      ((ones_struck (power_code d xs k s) h.shape.proper array (λ y. LostEnds (power_code d xs k s) [] y τ (buffers a f))
      (λ m b q. corrected_array (power_code d xs k s) [] h.shape.proper q) e b).0 t)

-- the first row given back: unless the ending is 'corrected', the buffers stay as lent
module _ (d k s : ℕ) (xs fs : List ℕ) (τ : ℕ) (y a f : List ℕ) {z : List ℕ} (quotient : z ≡ divided (description_of d xs fs (k ∷ [])) y)
    (b b' f' a' : List ℕ) where
  abbrev Back : Ending → Type 0
  Back e = buffers a' f' ≡ released e (buffers (with_factors (times d) fs 1 (take (length xs) b')) f') (buffers a f')

  abbrev Powers : List ℕ → Ending → Type 0
  Powers z e = Ends (power_code d xs k s) (power_rows d s z) τ (buffers b f) e (buffers b' f')

  as_lent : buffers b' f' ≡ buffers b f → buffers a' f' ≡ buffers a f' → buffers a' f' ≡ buffers a f
  as_lent e k = k ∙ ap (λ (l : Buffers). buffers a l.flags) e

  ends_by : (e : Ending) → Powers (divided (description_of d xs fs (k ∷ [])) y) e → Back e
      → EndsAs d k s xs fs τ y (buffers a f) e (buffers a' f')
  ends_by (Refused r) h back = absurd h
  ends_by (Corrected t) h back = record {
    answer = buffers (take (length xs) b') f';
    ends = record { answer = buffers b' f'; ends = h; back = refl };
    back = back;
  }
  ends_by Nothing h back = record {
    answer = buffers a f;
    ends = record { answer = buffers a f; ends = (h.0, refl); back = refl };
    back = as_lent h.1 back;
  }
  ends_by (Several t) h back = record {
    answer = buffers a f;
    ends = record { answer = buffers a f; ends = (h.0, h.1, refl); back = refl };
    back = as_lent h.2 back;
  }
  ends_by (Hollow t) h back = record {
    answer = buffers a f;
    ends = record { answer = buffers a f; ends = (h.0, h.1, refl); back = refl };
    back = as_lent h.2 back;
  }

  pub power_ends : (e : Ending) → Powers z e → Back e → EndsAs d k s xs fs τ y (buffers a f) e (buffers a' f')
  power_ends e h = ends_by e (subst (λ (z : List ℕ). Powers z e) quotient h)
