-- A received array that is a code array: the decoder's short cut.
--
--   none_wrong   an array differs from itself in no column
--   code_ends    where the reduced values are all zero the ending is 'corrected', 0, with the array as received and no flag set
-- Assumes nothing.
use mathlib.Core.Path.{◌≡◌, refl, sym, ap, ◌∙◌}
use mathlib.Core.Bool.{false}
use mathlib.Core.List.{List, ◌∷◌}
use Prim.Native.Nat.{ℕ, zero, suc, ◌≤◌}
use native.Mathlib.Omega.{arith}
use lib.ListN.{replicate}
use Rattle.codes.specs.Code.{Code, rows, columns, total, IsArray, encoded, differs_at, flags_from, flags_of, wrong_count}
use Rattle.codes.proofs.Proper.{Proper}
use Rattle.codes.proofs.Messages.{message_of, Reduced, array_message, its_message}
use Rattle.codes.proofs.Flags.{flags_same}
use Rattle.codes.proofs.Columns.{differs_exactly}
use Rattle.ending.specs.Endings.{Buffers, Ends}
use Rattle.ending.specs.declared.Ending.TheVariants.{Corrected}
use Rattle.ending.proofs.Demands.{near_corrects}

no_flags : (i n : ℕ) → flags_from (λ j. false) i n ≡ replicate n 0
unfolding flags_from
no_flags i zero = refl
no_flags i (suc n) = ap (◌∷◌ 0) (no_flags (suc i) n)

total-zeros : (n : ℕ) → total (replicate n 0) ≡ 0
unfolding total
total-zeros zero = refl
total-zeros (suc n) = omega (arith, total-zeros n)

module _ (c : Code) (y : List ℕ) where
  none_wrong : flags_of c y y ≡ replicate (columns c) 0
  none_wrong =
      flags_same (differs_at c y y) (λ i. false) (columns c) (λ i q. (differs_exactly (rows c) (columns c) i y y).1 (λ l s. refl))
      ∙ no_flags 0 (columns c)

  none_counted : wrong_count c y y ≡ 0
  none_counted = ap total none_wrong ∙ total-zeros (columns c)

module _ {c : Code} (p : Proper c) {y : List ℕ} (received : IsArray c y) (zeros : Reduced c y) where
  itself : encoded c (message_of c y) ≡ y
  itself = its_message p received zeros

  pub code_ends : (τ : ℕ) (lent : Buffers) → Ends c y τ lent (Corrected 0) (record { array = y; flags = replicate (columns c) 0 })
  code_ends τ lent =
      let near : wrong_count c y (encoded c (message_of c y)) ≤ 0 = omega (arith, ap (wrong_count c y) itself, none_counted c y) in
      let h = near_corrects p received 0 (omega arith) (array_message p received) near in
      record {
        t = h.t;
        least = record { within = omega (arith, h.least.within); exists = h.least.exists; none_below = h.least.none_below };
        E = h.E;
        only = h.only;
        m = h.m;
        message = h.message;
        divides = h.divides;
        array = sym itself ∙ h.array;
        flags = sym (none_wrong c y);
        detail = sym (none_counted c y);
      }
