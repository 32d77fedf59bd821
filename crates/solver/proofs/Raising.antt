-- The slots of the pivot, when it is multiplied in whole sixteens: its values, its locator, and nothing behind them.
--
--   Rounded         what is multiplied and added, and that it is nothing where neither values nor locator are
--   raised_whole    the product, and the locator one place up added to it, are the raised line
--   raised_only     to write both is that change of the line alone
--   rounded         what raising is given is that
--   padded, pointed the points, and zeros behind them
--   points_behind   the points behind a place, as they stand in the list with zeros behind them
--   between_same, between_raisable    when the pivot was mixed into the others, its slots are what they were
-- Assumes nothing.
use mathlib.Core.Path.{◌≡◌, refl, sym, ap, ap₂, ◌∙◌}
use mathlib.Core.List.{List, ◌∷◌}
use mathlib.Core.Bool.{false}
use Prim.Native.Nat.{ℕ, zero, suc, ◌+◌, ◌-◌, ◌*◌, ◌^◌, ◌≤◌, ◌<◌}
use native.Mathlib.Nat.{add_assoc, zero-add}
use native.Mathlib.Decide.{dec_lt}
use native.Mathlib.Omega.{arith}
use lib.ListN.{length, get_or, drop, replicate, length-drop, length-replicate, get_or-eq_default}
use lib.Seq.{ext_get_or, get_or-take, get_or-drop}
use lib.Pow.{pow_pos}
use Rattle.patch.specs.Patch.{patch}
use Rattle.patch.specs.Parts.{part, lay}
use Rattle.patch.proofs.Laws.{length-patch, get_or-patch, get_or-patch_below, get_or-patch_above, patch_cong}
use Rattle.patch.proofs.Parts.{length_part, get_d_part, length-lay, get_or-lay, get_or-lay_below, get_or-lay_above}
use Rattle.refusal.specs.Refusal.{bad_degree}
use Rattle.field.specs.Symbols.{IsSymbol, plus, times}
use Rattle.field.specs.Arithmetic.{gf}
use Rattle.lists.specs.Working.Lists.{summed, multiplied}
use Rattle.field.proofs.Instance.{field}
use Rattle.poly.specs.Poly.{All}
use Rattle.poly.proofs.Forms.{lin}
use Rattle.poly.proofs.Ring.{plus-zero, zero_plus, plus_comm, times_zero}
use Rattle.poly.proofs.Division.{length_lin}
use Rattle.rows.proofs.Symbols.{symbol_at}
use Rattle.rows.proofs.Newton.{get_or_lin, get_or-zeros}
use Rattle.solver.specs.Working.Slots.{slots, Only, Each}
use Rattle.solver.specs.Working.Turns.{Padded, Pointed, Raisable, Copied, mixed, valued, located, raised}
use Rattle.solver.proofs.Slots.{slots_length, slots_at, only_cong, only_patch}
use Rattle.solver.proofs.Mixing.{mixed_pivot}

-- of the slots l of a line, m from at on are multiplied by xs, which begins with the points ys; then v of the locator's slots, q, are
-- added one place up
pub record Rounded (xs ys : List ℕ) (at later width m v : ℕ) (q l : List ℕ) : Type 0 where
  pub size : length l ≡ 768
  pub count : length ys ≡ later
  pub points : (k : ℕ) → k < later → get_or xs k 0 ≡ get_or ys k 0
  pub zeros : (k : ℕ) → later ≤ k → get_or xs k 0 ≡ 0
  pub copy : (n : ℕ) → n < v → get_or q n 0 ≡ get_or l (at + later + n) 0
  pub behind : (n : ℕ) → width ≤ n → get_or l (at + later + n) 0 ≡ 0
  pub enough : later + width ≤ m
  pub fits : at + m ≤ 768
  pub wide : width ≤ v
  pub room : at + later + 1 + v ≤ 768

module _ (d : ℕ) (good : bad_degree d ≡ false) (xs ys : List ℕ) (x at later width m v : ℕ) (q l : List ℕ)
    (g : Rounded xs ys at later width m v q l) where
  abbrev multiple : List ℕ
  multiple = patch at m (multiplied d xs x l at 0) l

  abbrev sum : List ℕ
  sum = patch (at + later + 1) v (summed q multiple (at + later + 1)) multiple

  -- the values, and the locator's coefficients
  abbrev valued_slots : List ℕ
  valued_slots = patch at (length ys) (multiplied d ys x l at 0) l

  abbrev coefficient : ℕ → ℕ
  coefficient n = get_or l (at + later + n) 0

  abbrev taken : List ℕ
  taken = part (at + length ys) width valued_slots

  -- what comes of the locator at place n
  up : ℕ → ℕ
  up zero = 0
  up (suc n) = coefficient n

  long : length multiple ≡ 768
  long = length-patch at _ l m ∙ g.size

  valued_long : length valued_slots ≡ 768
  valued_long = length-patch at _ l (length ys) ∙ g.size

  values_at : (k : ℕ) → k < later → get_or sum (at + k) 0 ≡ get_or valued_slots (at + k) 0
  unfolding multiplied
  values_at k h =
      get_or-patch_below (at + later + 1) _ multiple v (at + k) 0 (omega arith)
      ∙ get_or-patch at _ l m k 0 (omega (arith, g.enough)) (omega (arith, g.size, g.fits))
      ∙ ap (λ (y : ℕ). times d (plus y x) (plus (get_or l (at + k) 0) 0)) (g.points k h)
      ∙ sym (get_or-patch at _ l (length ys) k 0 (omega (arith, g.count)) (omega (arith, g.size, g.fits, g.enough, g.count)))

  multiple_at : (n : ℕ) → get_or multiple (at + later + n) 0 ≡ times d x (coefficient n)
  unfolding multiplied
  multiple_at n = by (dec_lt (later + n) m)
    where
      by : Dec (later + n < m) → get_or multiple (at + later + n) 0 ≡ times d x (coefficient n)
      by (yes h) =
          rw (add_assoc at later n)
          (get_or-patch at _ l m (later + n) 0 h (omega (arith, g.size, g.fits))
          ∙ ap₂ (times d) (ap (λ (y : ℕ). plus y x) (g.zeros (later + n) (omega arith)) ∙ zero_plus (gf d) (field d good) x)
          (plus-zero (gf d) (field d good) _))
      by (no h) =
          let none : coefficient n ≡ 0 = g.behind n (omega (arith, g.enough)) in
          get_or-patch_above at _ l m (at + later + n) 0 (omega arith) ∙ none ∙ sym (rw none (times_zero (gf d) (field d good) x))

  multiple_next : (n : ℕ) → get_or multiple (at + later + 1 + n) 0 ≡ times d x (get_or l (at + later + 1 + n) 0)
  multiple_next n = let e : at + later + 1 + n ≡ at + later + suc n = omega arith in rw e (multiple_at (suc n))

  sum_at : (n : ℕ) → get_or sum (at + later + n) 0 ≡ plus (up n) (times d x (coefficient n))
  unfolding summed up
  sum_at zero =
      get_or-patch_below (at + later + 1) _ multiple v (at + later + 0) 0 (omega arith) ∙ multiple_at 0
      ∙ sym (zero_plus (gf d) (field d good) _)
  sum_at (suc n) = let e : at + later + suc n ≡ at + later + 1 + n = omega arith in rw e (by (dec_lt n v))
    where
      by : Dec (n < v) → get_or sum (at + later + 1 + n) 0 ≡ plus (coefficient n) (times d x (get_or l (at + later + 1 + n) 0))
      by (yes h) =
          get_or-patch (at + later + 1) _ multiple v n 0 h (omega (arith, long, g.room))
          ∙ ap₂ plus (multiple_next n) (g.copy n h) ∙ plus_comm (gf d) (field d good) _ _
      by (no h) =
          let none : coefficient n ≡ 0 = g.behind n (omega (arith, g.wide)) in
          get_or-patch_above (at + later + 1) _ multiple v (at + later + 1 + n) 0 (omega arith) ∙ multiple_next n
          ∙ sym (rw none (zero_plus (gf d) (field d good) _))

  taken_at : (n : ℕ) → get_or taken n 0 ≡ coefficient n
  taken_at n = by (dec_lt n width)
    where
      by : Dec (n < width) → get_or taken n 0 ≡ coefficient n
      by (yes h) =
          get_d_part (at + length ys) width valued_slots n h ∙ get_or-patch_above at _ l (length ys) (at + length ys + n) 0 (omega arith)
          ∙ rw g.count
      by (no h) =
          get_or-eq_default taken 0 (omega (
            arith,
            length_part (at + length ys) width valued_slots
                (omega (arith, valued_long, g.count, g.fits, g.enough)),
          ))
          ∙ sym (g.behind n (omega arith))

  located_at : (n : ℕ) → at + later + n < 768 → get_or (raised d ys x at width l) (at + later + n) 0 ≡ plus (up n) (times d x (coefficient n))
  unfolding raised located valued up
  located_at n lt = by (dec_lt n (suc width))
    where
      product : List ℕ
      product = lin (gf d) x 0 taken

      size : length product ≡ suc width
      size = length_lin (gf d) (field d good) x 0 taken
          ∙ ap suc (length_part (at + length ys) width valued_slots (omega (arith, valued_long, g.count, g.fits, g.enough)))

      first : (n : ℕ) → get_or (0 ∷ taken) n 0 ≡ up n
      first zero = refl
      first (suc n) = taken_at n

      above : (n : ℕ) → width < n → up n ≡ 0
      above zero h = absurd (let z : width < 0 = h in omega arith)
      above (suc n) h = g.behind n (omega arith)

      by : Dec (n < suc width) → get_or (lay (at + length ys) product valued_slots) (at + later + n) 0
          ≡ plus (up n) (times d x (coefficient n))
      by (yes h) =
          rw (← g.count)
          (get_or-lay (at + length ys) product valued_slots n (omega (arith, size))
          (omega (arith, size, valued_long, g.count, g.fits, g.enough)))
          ∙ get_or_lin d good x 0 taken n ∙ ap₂ plus (first n) (ap (times d x) (taken_at n))
      by (no h) =
          let none : coefficient n ≡ 0 = g.behind n (omega arith) in
          get_or-lay_above (at + length ys) product valued_slots (at + later + n) (omega (arith, size, g.count))
          ∙ get_or-patch_above at _ l (length ys) (at + later + n) 0 (omega (arith, g.count)) ∙ none
          ∙ sym (rw (none, above n (omega arith), times_zero (gf d) (field d good) x) (plus-zero (gf d) (field d good) 0))

  raised-length : length (raised d ys x at width l) ≡ 768
  unfolding raised located valued
  raised-length = length-lay (at + length ys) _ valued_slots ∙ valued_long

  pub raised_whole : sum ≡ raised d ys x at width l
  unfolding raised located valued
  raised_whole =
      let summed_long : length sum ≡ 768 = length-patch (at + later + 1) _ multiple v ∙ long in
      ext_get_or 0 sum (raised d ys x at width l) (summed_long ∙ sym raised-length)
      (λ i h. by i (omega (arith, summed_long)) (dec_lt i at) (dec_lt i (at + later)))
    where
      by : (i : ℕ) → i < 768 → Dec (i < at) → Dec (i < at + later) → get_or sum i 0 ≡ get_or (raised d ys x at width l) i 0
      by i lt (yes h) k =
          get_or-patch_below (at + later + 1) _ multiple v i 0 (omega arith) ∙ get_or-patch_below at _ l m i 0 h
          ∙ sym (get_or-lay_below (at + length ys) _ valued_slots i (omega arith) ∙ get_or-patch_below at _ l (length ys) i 0 h)
      by i lt (no h) (yes k) =
          let e : i ≡ at + (i - at) = omega arith in
          rw e (values_at (i - at) (omega arith) ∙ sym (get_or-lay_below (at + length ys) _ valued_slots (at + (i - at))
          (omega (arith, g.count))))
      by i lt (no h) (no k) =
          let e : i ≡ at + later + (i - (at + later)) = omega arith in
          rw e (sum_at (i - (at + later)) ∙ sym (located_at (i - (at + later)) (omega arith)))

pub raised_only : (d : ℕ) → bad_degree d ≡ false → (xs ys : List ℕ) (x p at later width m v : ℕ) (q l : List ℕ) {s t : List ℕ}
    → Rounded xs ys at later width m v q (slots p l) → length xs ≡ m → length q ≡ v → 768 * p + 768 ≤ length l
    → s ≡ patch (768 * p + at) (length xs) (multiplied d xs x l (768 * p + at) 0) l
    → t ≡ patch (768 * p + (at + later + 1)) (length q) (summed q s (768 * p + (at + later + 1))) s → Only p (raised d ys x at width) l t
unfolding multiplied summed
raised_only d good xs ys x p at later width m v q l {s} {t} g taken added line one two =
    let a : ℕ = at + later + 1 in
    let first : Only p (patch at m (multiplied d xs x (slots p l) at 0)) l s =
    only_cong p _ _ l s (only_patch p at m _ l g.fits (rw taken at one) line)
    (patch_cong at m _ _ (slots p l) (λ k h. ap (λ (y : ℕ). times d (plus (get_or xs k 0) x) (plus y 0)) (slot l at k
    (omega (arith, g.fits))))) in
    let second : Only p (patch a v (summed q (slots p s) a)) s t =
    only_cong p _ _ s t (only_patch p a v _ s g.room (rw added at two) (omega (arith, first.long)))
    (patch_cong a v _ _ (slots p s) (λ k h. ap (λ (y : ℕ). plus y (get_or q k 0)) (slot s a k (omega (arith, g.room))))) in
    record {
      long = second.long ∙ first.long;
      changed = second.changed ∙ ap (λ (z : List ℕ). patch a v (summed q z a) z) first.changed
          ∙ raised_whole d good xs ys x at later width m v q (slots p l) g;
      others = λ k other. second.others k other ∙ first.others k other;
    }
  where
    slot : (l : List ℕ) (at k : ℕ) → at + k < 768 → get_or l (768 * p + at + k) 0 ≡ get_or (slots p l) (at + k) 0
    slot l at k h = rw add_assoc (sym (slots_at p l (at + k) h))

pub rounded : (d later width p at m v : ℕ) (xs l w : List ℕ) → Pointed d (at + later) xs → Raisable d later width p at l → 784 ≤ length w
    → Copied (part at (later + width) (slots p l)) w → (later + width ≤ m) × (m ≤ later + width + 16) × (at + m ≤ 768)
    → (width ≤ v) × (v ≤ width + 16) × (at + later + 1 + v ≤ 768)
    → Rounded (part at m xs) (part at later xs) at later width m v (part later v w) (slots p l)
rounded d later width p at m v xs l w points given long copy taken added =
    let line : length (slots p l) ≡ 768 = slots_length p l given.line in
    let size : length (part at (later + width) (slots p l)) ≡ later + width =
    length_part at (later + width) (slots p l) (omega (arith, given.within)) in
    record {
      size = line;
      count = length_part at later xs (omega (arith, points.long, given.within));
      points = λ k h. get_d_part at m xs k (omega (arith, taken)) ∙ sym (get_d_part at later xs k h);
      zeros = λ k h. none k h (dec_lt k m);
      copy = λ n h. get_d_part later v w n h ∙ copied size n (omega (arith, added)) (dec_lt n width);
      behind = given.behind;
      enough = taken.0;
      fits = taken.2;
      wide = added.0;
      room = added.2;
    }
  where
    none : (k : ℕ) → later ≤ k → Dec (k < m) → get_or (part at m xs) k 0 ≡ 0
    none k h (yes b) = get_d_part at m xs k b ∙ points.zeros (at + k) (omega arith)
    none k h (no b) =
        get_or-eq_default (part at m xs) 0 (omega (arith, length_part at m xs (omega (arith, points.long, taken))))

    copied : length (part at (later + width) (slots p l)) ≡ later + width → (n : ℕ) → n < width + 16 → Dec (n < width)
        → get_or w (later + n) 0 ≡ get_or (slots p l) (at + later + n) 0
    copied size n h (yes b) =
        sym (get_or-take (later + width) w (later + n) 0 (omega arith))
        ∙ ap (λ (z : List ℕ). get_or z (later + n) 0) (rw size at copy.front)
        ∙ get_d_part at (later + width) (slots p l) (later + n) (omega arith) ∙ rw add_assoc
    copied size n h (no b) =
        let e : later + n ≡ later + width + (n - width) = omega arith in
        rw e (rw size at (copy.zeros (n - width) (omega arith))) ∙ sym (given.behind n (omega arith))

pub padded : (xs : List ℕ) {ys : List ℕ} → length xs ≤ 784 → ys ≡ lay 0 xs (replicate 784 0) → Padded xs ys
padded xs {ys} fits is = record {
  long = ap length is ∙ length-lay 0 xs (replicate 784 0) ∙ size;
  same = λ k. rw is (by k size (dec_lt k (length xs)));
}
  where
    size : length (replicate {A = ℕ} 784 0) ≡ 784
    size = length-replicate {A = ℕ} 784 0

    by : (k : ℕ) → length (replicate {A = ℕ} 784 0) ≡ 784 → Dec (k < length xs) → get_or (lay 0 xs (replicate 784 0)) k 0 ≡ get_or xs k 0
    by k long (yes h) = rw zero-add at (get_or-lay 0 xs (replicate 784 0) k h (omega arith))
    by k long (no h) = get_or-lay_above 0 xs (replicate 784 0) k (omega arith) ∙ get_or-zeros 784 k
        ∙ sym (get_or-eq_default xs 0 (omega arith))

pub pointed : (d : ℕ) {xs ys : List ℕ} → All (IsSymbol d) xs → Padded xs ys → Pointed d (length xs) ys
pointed d {xs} all p = record {
  long = p.long;
  symbols = λ k. rw (p.same k) (by k (dec_lt k (length xs)));
  zeros = λ k h. p.same k ∙ get_or-eq_default xs 0 h;
}
  where
    by : (k : ℕ) → Dec (k < length xs) → get_or xs k 0 < 2 ^ d
    by k (yes h) = symbol_at d xs k all h
    by k (no h) = rw (get_or-eq_default xs 0 {n = k} (omega arith)) (pow_pos d)

pub points_behind : {xs ys : List ℕ} (a : ℕ) → Padded xs ys → length xs ≤ 380 → a ≤ length xs → drop a xs ≡ part a (length xs - a) ys
points_behind {xs} {ys} a p few fits =
    let size : length (part a (length xs - a) ys) ≡ length xs - a = length_part a (length xs - a) ys (omega (arith, p.long)) in
    ext_get_or 0 (drop a xs) (part a (length xs - a) ys) (length-drop a xs ∙ sym size)
    (λ k h. get_or-drop a xs k 0 ∙ sym (get_d_part a (length xs - a) ys k (omega (arith, length-drop a xs)) ∙ p.same (a + k)))

module _ (d : ℕ) (ds : List ℕ) (s p : ℕ) (v : List ℕ) (at : ℕ) (l l' : List ℕ) (lt : p < s) (mixes : Each s (mixed d ds p v at) l l') where
  pub between_same : slots p l' ≡ slots p l
  between_same = mixes.changed p lt ∙ mixed_pivot d ds p v at p (slots p l) refl

  pub between_raisable : {later width a : ℕ} → Raisable d later width p a l → Raisable d later width p a l'
  between_raisable g = record {
    within = g.within;
    line = omega (arith, g.line, mixes.long);
    symbols = λ k. rw between_same (g.symbols k);
    behind = λ n h. rw between_same (g.behind n h);
  }
