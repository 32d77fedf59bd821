-- What the limits leave: every row has its k coefficients and t more among the n points.
--
--   Room n t ks     every k of ks has k + t ≤ n
--   room            so it is for t up to n − k_max
--   joint_room      so it is up to the joint limit
--   safe_room       and for the sum of two sizes up to the safe limit
--   room_largest    and then the largest k is at most n − t
--   joint_less      the joint limit is below n
--   safe_joint      the safe limit is at most the joint limit
-- Assumes nothing.
use mathlib.Core.List.{List, [], ◌∷◌}
use Prim.Native.Nat.{ℕ, suc, ◌+◌, ◌-◌, ◌*◌, ◌/◌, ◌≤◌, ◌<◌, max}
use native.Mathlib.Nat.{le_refl, suc-mul, mul-suc, mul_comm, mul-add, mul-sub, mul-le-mul_left, mul-le-mul_right, le-div_iff_mul-le}
use native.Mathlib.Omega.{arith}
use lib.ListN.{length}
use Rattle.poly.specs.Poly.{All}
use Rattle.codes.specs.Code.{Code, rows, columns, total, largest, joint_limit, safe_limit}
use Rattle.codes.proofs.Proper.{Within, Proper}
use Rattle.codes.proofs.Passed.{Counts}

abbrev pub Room : ℕ → ℕ → List ℕ → Type 0
Room n t ks = All (λ (k : ℕ). k + t ≤ n) ks

below : (n t b : ℕ) (ks : List ℕ) → largest ks ≤ b → t ≤ n - b → Within 1 n ks → Room n t ks
unfolding largest
below n t b [] h l w = tt
below n t b (k ∷ ks) h l w = (here (omega arith) l w.0.1, below n t b ks (omega arith) l w.1)
  where
    here : k ≤ b → t ≤ n - b → k ≤ n → k + t ≤ n
    here p q s = omega arith

pub room_largest : (n t : ℕ) (ks : List ℕ) → Room n t ks → largest ks ≤ n - t
unfolding largest
room_largest n t [] r = omega arith
room_largest n t (k ∷ ks) r = omega (arith, r.0, room_largest n t ks r.1)

module _ {c : Code} (p : Proper c) where
  pub room : {t : ℕ} → t ≤ columns c - largest c.lengths → Room (columns c) t c.lengths
  room {t} l = below (columns c) t (largest c.lengths) c.lengths (omega arith) l p.lengths

  pub joint_room : {t : ℕ} → t ≤ joint_limit c → Room (columns c) t c.lengths
  unfolding joint_limit
  joint_room {t} l = room (omega arith)

  pub safe_room : {u w : ℕ} → u ≤ safe_limit c → w ≤ safe_limit c → Room (columns c) (u + w) c.lengths
  unfolding safe_limit
  safe_room {u} {w} l q = room (omega arith)

  pub joint_less : Counts c → joint_limit c < columns c
  joint_less h = go c.lengths (joint_room (le_refl (joint_limit c))) h.lengths h.some_rows
    where
      go : (ks : List ℕ) → Room (columns c) (joint_limit c) ks → Within 1 (columns c) ks → 1 ≤ length ks → joint_limit c < columns c
      go [] r w q = absurd (omega arith)
      go (k ∷ ks) r w q = omega (arith, r.0, w.0.0)

-- the sum of the lengths is at most the largest for each
total-largest : (ks : List ℕ) → total ks ≤ length ks * largest ks
unfolding total largest
total-largest [] = omega arith
total-largest (k ∷ ks) =
    let m : ℕ = max k (largest ks) in
    let more : length ks * largest ks ≤ length ks * m = mul-le-mul_left (length ks) (omega arith) in
    omega (arith, suc-mul (length ks) m, total-largest ks)

-- a guarantee is never emptied by refusal 8: half of n − k_max is at most r parts of it in r + 1
pub safe_joint : (c : Code) → 1 ≤ rows c → safe_limit c ≤ joint_limit c
unfolding safe_limit joint_limit
safe_joint c some =
    let r : ℕ = rows c in
    let n : ℕ = columns c in
    let k : ℕ = largest c.lengths in
    let t : ℕ = (n - k) / 2 in
    let twice : t * 2 ≤ n - k = (le-div_iff_mul-le {k = 2} {x = t} {y = n - k} (omega arith)).0 (le_refl t) in
    let wide : t * suc r ≤ r * (n - k) = fits t r (n - k) some (omega arith) in
    let room : r * (n - k) ≤ r * n - total c.lengths = spare r n k (total c.lengths) (total-largest c.lengths) in
    let part : t ≤ (r * n - total c.lengths) / suc r =
    (le-div_iff_mul-le {k = suc r} {x = t} {y = r * n - total c.lengths} (omega arith)).1 (omega arith) in
    omega arith
  where
    fits : (t r d : ℕ) → 1 ≤ r → t + t ≤ d → t * suc r ≤ r * d
    fits t r d some twice =
        let more : r * (t + t) ≤ r * d = mul-le-mul_left r twice in
        let once : 1 * t ≤ r * t = mul-le-mul_right t some in
        omega (arith, mul-suc t r, mul_comm t r, mul-add r t t)

    spare : (r n k K : ℕ) → K ≤ r * k → r * (n - k) ≤ r * n - K
    spare r n k K h = omega (arith, mul-sub r n k)
