-- What the calls on the array are lent, and what becomes of it.
--
--   Front n r v, lent    the first n numbers of r are v; they are n
--   lengths_front        the message lengths
--   Shape q m n ks xs, shape    ks begin with the message lengths, xs with the points of the columns, and sixteen ones with its factors;
--                        n is q as a count
--   array_front          the array of a ring
--   blank                the array that is lent from, as it begins
--   given_back           a part that was lent, and the rest of its list behind it
-- Assumes nothing.
use mathlib.Core.Path.{◌≡◌, refl, sym, ap, ◌∙◌}
use mathlib.Core.Bool.{false}
use mathlib.Core.List.{List, ◌++◌}
use Prim.Native.Nat.{ℕ, ◌*◌, ◌≤◌}
use native.Mathlib.Omega.{arith}
use lib.ListN.{length, take, replicate, length-take, length-replicate}
use Rattle.codes.specs.Code.{columns}
use Rattle.codes.specs.Factors.{ones}
use Rattle.codes.proofs.Parts.{take-replicate}
use lib.Seq.{take_at}
use Rattle.hermitian.specs.Ring.{numbers, ring_lengths, ring_code, IsRing, ArrayOf}
use Rattle.hermitian.specs.Checks.{bad_size}
use Rattle.hermitian.proofs.Numbers.{length-numbers}
use Rattle.hermitian.proofs.Sizes.{Sides, sides, ring_rows}

pub record Front (n : ℕ) (r v : List ℕ) : Type 0 where
  pub room : n ≤ length r
  pub is : take n r ≡ v
  pub count : length v ≡ n

pub lent : {n : ℕ} {r v : List ℕ} → Front n r v → n ≡ length (take n r)
lent h = sym (ap length h.is ∙ h.count)

front : (n : ℕ) (r v : List ℕ) → take n r ≡ v → length v ≡ n → Front n r v
front n r v e k = record { room = omega (arith, length-take n r, ap length e); is = e; count = k }

pub lengths_front : (q m : ℕ) {n : ℕ} {r : List ℕ} → n ≡ q → take q r ≡ ring_lengths q m → Front n r (ring_lengths q m)
lengths_front q m {r = r} e h = rw e (front q r (ring_lengths q m) h (ring_rows q m))

pub record Shape (q m n : ℕ) (ks xs : List ℕ) : Type 0 where
  pub counts : Sides q n
  pub lengths : Front n ks (ring_lengths q m)
  pub points : Front (n * n) xs (numbers (q * q))
  pub factors : Front (n * n) (ones 16) (ones (columns (ring_code q m)))

pub shape : {q m n : ℕ} {ks xs : List ℕ} → bad_size q ≡ false → n ≡ q → take q ks ≡ ring_lengths q m → take (q * q) xs ≡ numbers (q * q)
    → Shape q m n ks xs
shape {q} {m} {n} {ks} {xs} size e lengths points = rw e (record {
  counts = sides q q size refl;
  lengths = lengths_front q m refl lengths;
  points = front (q * q) xs (numbers (q * q)) points (length-numbers (q * q));
  factors = front (q * q) (ones 16) (ones (columns (ring_code q m)))
      (take-replicate (q * q) 16 1 (sides q q size refl).columns ∙ ap ones (sym (length-numbers (q * q))))
      (length-replicate (columns (ring_code q m)) 1 ∙ length-numbers (q * q));
})

-- the array of a ring, as long as the ring
pub array_front : {q : ℕ} {w r : List ℕ} → IsRing q w → ArrayOf q w (take (length w) r) → Front (length w) r (take (length w) r)
array_front {w = w} {r = r} h is = front (length w) r (take (length w) r) refl (is.array.count ∙ sym h.count)

-- the array for it, as it begins
abbrev pub blank : List ℕ
blank = replicate 64 0

pub given_back : (n : ℕ) {p v : List ℕ} (r : List ℕ) → p ≡ v → length v ≡ n → Front n (p ++ r) v
given_back n {p} {v} r e k = rw e (front n (v ++ r) v (take_at v r n k) k)
