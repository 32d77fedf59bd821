-- The model's outcome is an ending of the table.
--
--   least_of      the size of the lowest line is the least at which a locator exists
--   only_of       where the next lead is beyond that size, all locators are multiples of the lowest line's
--   two_of        where it is not, that line's locator and the next one's are apart
--   model_ends    so the decoding of every array, up to the joint limit, ends as the model decides
-- Assumes nothing.
use mathlib.Core.Path.{◌≡◌, refl, sym, ap, ◌∙◌, subst}
use mathlib.Core.List.{List}
use mathlib.Core.Option.{Option, none, some}
use Prim.Native.Nat.{ℕ, suc, ◌*◌, ◌≤◌, ◌<◌}
use native.Mathlib.Decide.{ℕ_discrete, dec_le}
use native.Mathlib.Omega.{arith}
use lib.ListN.{length}
use Rattle.field.specs.Arithmetic.{Arithmetic, gf}
use Rattle.codes.specs.Code.{Code, rows, columns, IsMessage, IsArray, encoded, flags_of, wrong_count, joint_limit}
use Rattle.codes.proofs.Proper.{Proper}
use Rattle.codes.proofs.Limits.{Room, joint_room}
use Rattle.codes.proofs.Flags.{flags-length, flag-right}
use Rattle.basis.proofs.Lines.{Line, least, another, size, locator_of_lem}
use Rattle.basis.proofs.Interleaved.{Plain}
use Rattle.basis.proofs.Solved.{LeastLocator, least_found, least_size, one_locator, two_locators}
use Rattle.ending.specs.Locators.{Locator, Least, OnlyOne, Divides}
use Rattle.ending.specs.Endings.{Buffers, Corrects, TwoApart, Ends}
use Rattle.ending.proofs.WrongColumns.{root_at, root_flags, root_count, wrong_number, wrong_columns, right-columns, divides_roots}
use Rattle.ending.proofs.Model.{rows_of, lines_of, filled, Outcome, Beyond, beyond, divided, alone, within, lowest, decided}
use Rattle.ending.proofs.ModelRows.{rows-count, rows_symbols, rows-plain, locator_exactly}
use Rattle.ending.proofs.ModelFilled.{filled_code}

module _ {c : Code} (p : Proper c) {y : List ℕ} (received : IsArray c y) (τ : ℕ) (limit : τ ≤ joint_limit c) (lent : Buffers) where
  abbrev A : Arithmetic ℕ
  A = gf c.degree

  -- the decoding ends so
  abbrev EndsAs : Outcome → Type 0
  EndsAs o = Ends c y τ lent o.0 o.1

  corrects : {t : ℕ} {E m : List ℕ} → Least c y τ t → OnlyOne c y t E → root_count c E ≡ t → IsMessage c m → Divides c y t E m
      → Corrects c y τ t (record { array = filled c y (root_flags c E); flags = root_flags c E })
  corrects {t} {E} {m} l o count i d = record {
    t = t;
    least = l;
    E = E;
    only = o;
    m = m;
    message = i;
    divides = d;
    array = answer;
    flags = sym (wrong_columns p received i o.one d l.none_below) ∙ ap (flags_of c y) (sym answer);
    detail = sym (wrong_number p received i o.one d l.none_below) ∙ ap (wrong_count c y) (sym answer);
  }
    where
      room : Room (columns c) (root_count c E) c.lengths
      room = joint_room p (omega (arith, l.within))

      answer : filled c y (root_flags c E) ≡ encoded c m
      answer = filled_code p received i (root_flags c E) (flags-length (root_at c E) 0 (columns c)) room
          (λ j q e. right-columns p received i o.one d j q (flag-right (root_at c E) (columns c) j q e))

  divided_ends : {t : ℕ} {E : List ℕ} → Least c y τ t → OnlyOne c y t E → (d : Dec (root_count c E ≡ t))
      → EndsAs (divided c y lent t E d)
  unfolding divided
  divided_ends l o (yes e) = let (m, i, d) = (divides_roots p received l o.one).1 e in corrects l o e i d
  divided_ends {t} {E} l o (no h) =
      (l, record { E = E; only = o; not = λ m i d. h ((divides_roots p received l o.one).0 (m, i, d)) }, refl)

  module _ (g : Line ℕ) (first : least (lines_of c y) ≡ some g) where
    abbrev t : ℕ
    t = size (rows c) g.lead

    abbrev E : List ℕ
    E = locator_of_lem A t g

    same_size : t ≡ size (length (rows_of c y)) g.lead
    same_size = ap (λ (r : ℕ). size r g.lead) (sym (rows-count c y))

    sized : LeastLocator A (rows_of c y) t E
    sized = least_size A p.field ℕ_discrete (rows_of c y) (rows_symbols p received) g first t same_size

    none-smaller : (u : ℕ) (F : List ℕ) → u < t → ¬ Locator c y u F
    none-smaller u F q f = f.nonzero (sized.below u q F ((locator_exactly p received u).0 f).0)

    module _ (small : t ≤ τ) where
      plain : Plain A t (rows_of c y)
      plain = rows-plain p received t (joint_room p (omega arith))

      located : Locator c y t E
      located = (locator_exactly p received t).1 (sized.locates, sized.nonzero plain)

      least_of : Least c y τ t
      least_of = record { within = small; exists = (E, located); none_below = none-smaller }

      only_of : Beyond (t * suc (rows c)) (another g.lead (lines_of c y)) → OnlyOne c y t E
      only_of h = record {
        one = located;
        multiples = λ F f. one_locator A p.field ℕ_discrete (rows_of c y) (rows_symbols p received) g first t same_size
            (rw (rows-count c y) h)
            F
            ((locator_exactly p received t).0 f).0;
      }

      two_of : (q : Line ℕ) → another g.lead (lines_of c y) ≡ some q → q.lead ≤ t * suc (rows c) → TwoApart c y t
      two_of q next h =
          let two = two_locators A p.field ℕ_discrete (rows_of c y) (rows_symbols p received) g first t same_size q next
          (rw (rows-count c y) h)
          plain in
          record {
            E = E;
            F = locator_of_lem A t q;
            first = located;
            second = (locator_exactly p received t).1 (two.locates, two.nonzero);
            apart = λ (a, i, e). two.not_of_first a e;
            apart' = λ (a, i, e). two.not_of_second a e;
          }

      alone_ends : (o : Option (Line ℕ)) → another g.lead (lines_of c y) ≡ o → (d : Dec (Beyond (t * suc (rows c)) o))
          → EndsAs (alone c y lent t g o d)
      unfolding alone
      alone_ends o e (yes h) =
          divided_ends least_of (only_of (subst (Beyond (t * suc (rows c))) (sym e) h)) (ℕ_discrete (root_count c E) t)
      alone_ends none e (no h) = absurd (h tt)
      alone_ends (some q) e (no h) = (least_of, two_of q e (omega arith), refl)

    within_ends : (d : Dec (t ≤ τ)) → EndsAs (within c y lent τ t g d)
    unfolding within
    within_ends (yes h) = alone_ends h (another g.lead (lines_of c y)) refl (beyond (t * suc (rows c)) (another g.lead (lines_of c y)))
    within_ends (no h) = (λ u F q. none-smaller u F (omega arith), refl)

  lowest_ends : (o : Option (Line ℕ)) → least (lines_of c y) ≡ o → EndsAs (lowest c y lent τ o)
  unfolding lowest
  lowest_ends none e = absurd (least_found A p.field ℕ_discrete (rows_of c y) (rows_symbols p received) e)
  lowest_ends (some g) e = within_ends g e (dec_le (size (rows c) g.lead) τ)

  pub model_ends : Ends c y τ lent (decided c y τ lent).0 (decided c y τ lent).1
  unfolding decided
  model_ends = lowest_ends (least (lines_of c y)) refl
