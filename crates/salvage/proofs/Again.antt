-- The clean file salvaged again.
--
--   corrected-again    a corrected array decodes as 'corrected' with nothing wrong, and to itself
--   KeptAt b old new   a record that is kept decodes as 'corrected'; kept_at, so it is; new_long, old_long, it keeps its length
--   kept_again         the record that is written is kept as it stands, whatever follows
-- Assumes nothing.
use mathlib.Core.Path.{◌≡◌, refl, sym, ap, ap₂, ◌∙◌, subst}
use mathlib.Core.List.{List, ◌++◌, append_assoc}
use Prim.Native.Nat.{ℕ, ◌+◌, ◌*◌, ◌≤◌}
use native.Mathlib.Omega.{arith}
use lib.ListN.{length, take, replicate, length-append, length-replicate}
use lib.Seq.{take_at, take-append_seam}
use Rattle.refusal.specs.Refusal.{first}
use Rattle.refusal.specs.Meaning.{number_of}
use Rattle.refusal.proofs.Keeping.{told, does}
use Rattle.codes.specs.Code.{columns, IsArray}
use Rattle.codes.specs.Factors.{Description, divided, CodeArrayBy}
use Rattle.codes.proofs.Proper.{Proper}
use Rattle.codes.proofs.Passed.{PassedArray, PassedDecoding, decoding, checked, decoding_passes}
use Rattle.codes.proofs.Factors.{Factors, struck_array, is_divided, code_divided, multiplied-divided}
use Rattle.codes.proofs.Messages.{code_array_exactly}
use Rattle.ending.specs.Endings.{Buffers, meaning}
use Rattle.ending.specs.declared.Ending.{Ending}
use Rattle.ending.specs.declared.Ending.TheVariants.{Refused, Corrected, Nothing, Several, Hollow}
use Rattle.ending.proofs.ModelCode.{code_ends}
use Rattle.joint.specs.Promises.{Given, Left, Decodes, given, buffers, left, cleared, checks_of}
use Rattle.joint.proofs.Promised.{leaves}
use Rattle.joint.proofs.Demands as demands
use Rattle.record.specs.Records.{no_mark, out_of_range, rows_in, columns_in, code_in, described_in, limit_in, size_in, stop_checks, stop_of}
use Rattle.record.specs.Promises.{record_in, fresh}
use Rattle.record.proofs.Wholes.{Whole, whole_of, whole_goes}
use Rattle.record.proofs.Enough as enough
use Rattle.salvage.specs.Pieces.{kept, skipped, rewritten, piece_of, Ended, AtFront}
use Rattle.salvage.proofs.Rewritten.{front, back, fronted, rewritten_is, record_with_lem, record_with, all, rows_front}
use Rattle.salvage.proofs.Rewritten.{columns_front, length_with, size_long}

module _ (D : Description) (τ : ℕ) (lent : Buffers) (w y a f s : List ℕ) (k : ℕ)
    (h : Decodes (given D τ y lent w) (left (Corrected k) (buffers a f) s)) where
  none : 0 ≡ first (checks_of (given D τ y lent w))
  none = told (checks_of (given D τ y lent w)) _ _ _ h (λ none d. none)
      (λ j e d. absurd (let z : ◌≡◌ {A = ℕ} 1 0 = ap (λ (x : Left). number_of (meaning x.ending)) d in omega arith))

  abbrev Passed : Type 0
  Passed = PassedDecoding D.code τ y lent.array lent.flags w × Factors D

  passed : Passed
  passed = decoding D τ y lent.array lent.flags w none

  abbrev proper : Proper D.code
  proper = passed.0.array.proper

  code : CodeArrayBy D a
  code = (demands.corrected_nearest (given D τ y lent w) (left (Corrected k) (buffers a f) s) h k refl).0.code

  array : IsArray D.code a
  array = struck_array D proper passed.1 code

  pub corrected_long : length a ≡ length lent.array
  corrected_long = array.count ∙ sym passed.0.array.answer

  pub corrected-again :
      Decodes (given D τ a lent w) (left (Corrected 0) (buffers a (replicate (columns D.code) 0)) (cleared w))
  corrected-again =
      let p = passed.0.array in
      let q : PassedArray D.code a lent.array lent.flags w = record {
        counts = p.counts;
        proper = p.proper;
        received = array;
        answer = p.answer;
        flags = p.flags;
        space = p.space;
      } in
      let quotient : IsArray D.code (divided D a) = is_divided D proper passed.1 array in
      let reduced = (code_array_exactly proper quotient).0 ((code_divided D proper passed.1 array).0 code) in
      leaves (checks_of (given D τ a lent w)) lent w _
      (sym (decoding_passes D passed.1 q (checked D.code _ none) passed.0.limit)) (Corrected 0) _ _
      (record {
        answer = buffers (divided D a) (replicate (columns D.code) 0);
        ends = code_ends proper quotient reduced τ lent;
        back =
            ap (λ (b : List ℕ). buffers b (replicate (columns D.code) 0)) (sym (multiplied-divided D proper passed.1 array));
      })
      refl

-- a record that is kept
pub record KeptAt (b old new : List ℕ) : Type 0 where
  pub whole : stop_of b ≡ 0
  pub wrong : ℕ
  pub array : List ℕ
  pub flags : List ℕ
  pub space : List ℕ
  pub decodes : Decodes (record_in fresh b) (left (Corrected wrong) (buffers array flags) space)
  pub old_is : old ≡ take (size_in b) b
  pub new_is : new ≡ rewritten b array

never : {old new : List ℕ} {n : ℕ} → kept old new ≡ skipped n → ⊥
never e = let z : ◌≡◌ {A = ℕ} 0 1 = cc in omega arith

kept_by : (b old new : List ℕ) (e : Ending) (a : List ℕ) → Ended b (e, a) → kept old new ≡ piece_of b e a → KeptAt b old new
unfolding stop_of
kept_by b old new (Refused r) a h is = absurd (never is)
kept_by b old new (Corrected w) a h is = told (stop_checks b) _ _ (Corrected w, a) h
    (λ none (f, s, d). record {
      whole = sym none;
      wrong = w;
      array = a;
      flags = f;
      space = s;
      decodes = d;
      old_is = cc;
      new_is = cc;
    })
    (λ j e d. absurd (let z : ◌≡◌ {A = ℕ} 1 0 = ap (λ (x : Ending × List ℕ). number_of (meaning x.0)) d in omega arith))
kept_by b old new Nothing a h is = absurd (never is)
kept_by b old new (Several t) a h is = absurd (never is)
kept_by b old new (Hollow t) a h is = absurd (never is)

pub kept_at : {b old new : List ℕ} → AtFront b (kept old new) → KeptAt b old new
kept_at {b} {old} {new} h = kept_by b old new h.ending h.array h.ended h.is

module _ (b : List ℕ) {old new : List ℕ} (k : KeptAt b old new) where
  abbrev h : List ℕ
  h = front b

  abbrev y : List ℕ
  y = take (rows_in h * columns_in h) (back b)

  decodes_with : Decodes (record_with_lem fresh h y) (left (Corrected k.wrong) (buffers k.array k.flags) k.space)
  decodes_with = subst (λ (g : Given). Decodes g (left (Corrected k.wrong) (buffers k.array k.flags) k.space))
      (ap (record_in fresh) (sym (all b k.whole)) ∙ record_with h (fronted b k.whole) (back b) fresh) k.decodes

  abbrev lent : Buffers
  lent = buffers (replicate (rows_in h * columns_in h) 0) (replicate (columns_in h) 0)

  pub array_long : length k.array ≡ rows_in h * columns_in h
  array_long = corrected_long (described_in h) (limit_in h) lent fresh y k.array k.flags k.space k.wrong decodes_with
      ∙ length-replicate (rows_in h * columns_in h) 0

  pub new_is_front : new ≡ h ++ k.array
  new_is_front = k.new_is ∙ rewritten_is b k.whole k.array

  pub new_long : length new ≡ size_in b
  new_long = ap length new_is_front
      ∙ length_with b k.whole k.array (array_long ∙ ap₂ ◌*◌ (rows_front b k.whole) (columns_front b k.whole))

  pub old_long : length old ≡ size_in b
  old_long = ap length k.old_is ∙ size_long b k.whole

  module _ (rest : List ℕ) where
    abbrev x : List ℕ
    x = k.array ++ rest

    five : 5 ≤ length h
    five = (fronted b k.whole).five

    size_new : size_in (h ++ x) ≡ size_in b
    size_new = enough.same_size h x five ∙ sym (ap size_in (sym (all b k.whole)) ∙ enough.same_size h (back b) five)

    whole_new : Whole (h ++ x)
    whole_new = let w = whole_of b k.whole in record {
      marked =
          enough.same_mark h x (omega (arith, five))
          ∙ sym (ap no_mark (sym (all b k.whole)) ∙ enough.same_mark h (back b) (omega (arith, five))) ∙ w.marked;
      five = omega (arith, five, length-append h x);
      inside =
          enough.same_range h x five
          ∙ sym (ap out_of_range (sym (all b k.whole)) ∙ enough.same_range h (back b) five) ∙ w.inside;
      complete = omega (
        arith,
        size_new,
        new_long,
        ap length new_is_front,
        length-append h x,
        length-append h k.array,
        length-append k.array rest,
      );
    }

    record_new : record_in fresh (h ++ x) ≡ record_with_lem fresh h k.array
    record_new = record_with h (fronted b k.whole) x fresh
        ∙ ap (record_with_lem fresh h) (take_at k.array rest (rows_in h * columns_in h) array_long)

    front_new : front (h ++ x) ≡ h
    front_new =
        ap₂ (λ (r n : ℕ). take (6 + r + n) (h ++ x)) (enough.at h x five 3 (omega arith)) (enough.at h x five 4 (omega arith))
        ∙ take_at h x (6 + rows_in h + columns_in h) (fronted b k.whole).long

    at_new : AtFront (h ++ x) (kept (h ++ k.array) (h ++ k.array))
    unfolding stop_of
    at_new = let z = whole_goes (h ++ x) whole_new in record {
      ending = Corrected 0;
      array = k.array;
      ended = does (stop_checks (h ++ x)) _ _ (Corrected 0, k.array) (sym z) (
        replicate (columns (code_in h)) 0,
        cleared fresh,
        subst (λ (g : Given). Decodes g (left (Corrected 0) (buffers k.array (replicate (columns (code_in h)) 0)) (cleared fresh)))
            (sym record_new)
            (corrected-again (described_in h) (limit_in h) lent fresh y k.array k.flags k.space k.wrong decodes_with),
      );
      is = ap₂ kept
          (sym (ap₂ take (size_new ∙ sym new_long ∙ ap length new_is_front) (sym (append_assoc h k.array rest))
          ∙ take-append_seam (h ++ k.array) rest))
          (sym (rewritten_is (h ++ x) z k.array ∙ ap (λ (v : List ℕ). v ++ k.array) front_new));
    }

    pub kept_again : AtFront (new ++ rest) (kept new new)
    kept_again = rw new_is_front (rw append_assoc at_new)
