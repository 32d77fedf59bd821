-- `work` leaves what the decoding of the quotient's powers leaves, with the first row multiplied back.
use Rattle.std.proofs.Common.{◌≡◌, ◌-◌, ◌*◌, ◌≤◌, ◌∙◌, List, [], ◌∷◌, ◌++◌, ℕ, sym, ap, subst, arith, length, take, drop, replicate}
use native.Mathlib.Nat.{mul-le-mul, mul-le-mul_right, one-mul}
use lib.ListN.{length-append}
use lib.Seq.{length-take-le}
use Rattle.codes.specs.Factors.{description_of, divided}
use Rattle.codes.proofs.Factors.{is_divided}
use Rattle.factors.specs.Working.{Striking}
use Rattle.factors.proofs.Rows.{striking}
use Rattle.ending.specs.Endings.{Ends}
use Rattle.ending.specs.declared.Ending.{Ending}
use Rattle.ending.specs.declared.Ending.TheVariants.{Corrected}
use Rattle.joint.specs.Promises.{buffers}
use Rattle.power_checks.specs.Powers.{power_rows, power_code}
use Rattle.power_checks.proofs.Passed.{power_counts, power_checked, row_counts}
use Rattle.powers.specs.Working.{Row, Ready}
use Rattle.powers.proofs.Lent.{first_part}
use Rattle.powers.proofs.Corrected.{row_proper, row_array}
use Rattle.powers.proofs.Passed.{Passed, passed}
use Rattle.powers.proofs.Ended.{corrected_row, power_ends}
use Rattle.powers.proofs.work.Goals.{After-divide, After-decode_rows-ending}
use Rattle.powers.proofs.work.Goals as goal

module _ {d k s τ : ℕ} {xs fs y a f w : List ℕ} (p : Passed d k s xs fs τ y a f w) where
  few : length xs ≤ 96
  few = p.sizes.counted.most_columns

  cells : s * length xs ≤ 384
  cells = mul-le-mul {n₂ = 4} p.sizes.counted.most_powers few

  -- the first row is in the answer of all rows
  first_in : length xs ≤ s * length xs
  first_in = omega (arith, one-mul (length xs), mul-le-mul_right (length xs) p.sizes.counted.powers)

  struck : {v : List ℕ} → Row d (length xs) v → Striking d fs 1 v
  struck r = striking {D = description_of d xs fs (k ∷ [])} (row_counts xs p.sizes) p.factors ((row_array p.shape).1 r)

  abbrev blank : List ℕ
  blank = take (s * length xs) (replicate 384 0)

  blank-size : length blank ≡ s * length xs
  blank-size = length-take-le _ (replicate 384 0) cells

  -- where the row is divided
  module _ (v : List ℕ) (e : v ≡ divided (description_of d xs fs (k ∷ [])) y) where
    quotient : Row d (length xs) v
    quotient = subst (Row d (length xs)) (sym e)
        ((row_array p.shape).0 (is_divided (description_of d xs fs (k ∷ [])) (row_proper p.shape) p.factors ((row_array p.shape).1 p.received)))

    ready : Ready d k s xs τ v blank f w
    ready = record {
      shape = p.shape;
      counts = power_counts xs p.sizes;
      checked = power_checked xs p.sizes;
      longest = omega (arith, p.sizes.below);
      limit = p.limit;
      row = quotient;
      answer = blank-size;
      flags = p.flags;
      space = p.space;
    }

module _ (c : After-divide) where
  allowed : Passed c.args.degree c.args.k c.args.powers c.args.points.now c.args.factors.now c.args.limit c.args.received.now
      c.args.answer.now c.args.flags.now c.args.space.now
  allowed = passed _ _ _ _ _ _ _ _ _ _ c.requires

  is_quotient : take (length c.args.points.now) c.divide.new.s
      ≡ divided (description_of c.args.degree c.args.points.now c.args.factors.now (c.args.k ∷ [])) c.args.received.now
  is_quotient = ap (λ (m : ℕ). take m c.divide.new.s) (sym allowed.received.count) ∙ c.divide.ensures

-- where the powers are decoded
module _ (c : After-decode_rows-ending) where
  abbrev n : ℕ
  n = length c.args.points.now

  abbrev z : List ℕ
  z = take n c.divide.new.s

  granted : Passed c.args.degree c.args.k c.args.powers c.args.points.now c.args.factors.now c.args.limit c.args.received.now
      c.args.answer.now c.args.flags.now c.args.space.now
  granted = passed _ _ _ _ _ _ _ _ _ _ c.requires

  is_z : z ≡ divided (description_of c.args.degree c.args.points.now c.args.factors.now (c.args.k ∷ [])) c.args.received.now
  is_z = ap (λ (m : ℕ). take m c.divide.new.s) (sym granted.received.count) ∙ c.divide.ensures

  abbrev own : List ℕ
  own = c.decode_rows-ending.new.own

  abbrev flags : List ℕ
  flags = c.decode_rows-ending.new.flags

  own_size : length own ≡ c.args.powers * n
  own_size = c.decode_rows-ending.auto.own ∙ blank-size granted

  enough : n ≤ length own
  enough = omega (arith, own_size, first_in granted)

  abbrev behind : List ℕ
  behind = drop (c.args.powers * n) (replicate 384 0)

  first : take (n - 0) (own ++ behind) ≡ take n own
  first = first_part n own behind enough

  ends : Ends (power_code c.args.degree c.args.points.now c.args.k c.args.powers)
      (power_rows c.args.degree c.args.powers z) c.args.limit
      (buffers (blank granted) c.args.flags.now) c.decode_rows-ending.result (buffers own flags)
  ends = c.decode_rows-ending.ensures.0

  first_row : (w : ℕ) → c.decode_rows-ending.result ≡ Corrected w → Row c.args.degree n (take n own)
  first_row w is = corrected_row granted.shape (quotient granted z is_z) granted.limit {left = buffers own flags}
      (subst (λ (e : Ending). Ends (power_code c.args.degree c.args.points.now c.args.k c.args.powers)
      (power_rows c.args.degree c.args.powers z) c.args.limit
      (buffers (blank granted) c.args.flags.now) e (buffers own flags)) is ends)

pub overflow_mul-cells : goal.overflow_mul-cells
overflow_mul-cells c = omega (arith, cells (passed _ _ _ _ _ _ _ _ _ _ c.requires))

pub divide-requires-clause-striking : goal.divide-requires-clause-striking
divide-requires-clause-striking c = let p = passed _ _ _ _ _ _ _ _ _ _ c.requires in struck p p.received

pub divide-requires-clause-array_in_bounds : goal.divide-requires-clause-array_in_bounds
divide-requires-clause-array_in_bounds c = let p = passed _ _ _ _ _ _ _ _ _ _ c.requires in omega (arith, p.received.count, few p)

pub slice_bounds-row-end : goal.slice_bounds-row-end
slice_bounds-row-end c = omega (arith, few (allowed (goal.at.slice_bounds-row-end c).After-divide), c.divide.auto.s)

pub slice_bounds-decode_rows-end : goal.slice_bounds-decode_rows-end
slice_bounds-decode_rows-end c = let d = (goal.at.slice_bounds-decode_rows-end c).After-divide in sym (quotient (allowed d) _ (is_quotient d)).count

pub slice_bounds-own-end : goal.slice_bounds-own-end
slice_bounds-own-end c = cells (allowed (goal.at.slice_bounds-own-end c).After-divide)

pub slice_bounds-decode_rows-end-2 : goal.slice_bounds-decode_rows-end-2
slice_bounds-decode_rows-end-2 c = sym (blank-size (allowed (goal.at.slice_bounds-decode_rows-end-2 c).After-divide))

pub decode_rows-ending-requires : goal.decode_rows-ending-requires
decode_rows-ending-requires c = let d = (goal.at.decode_rows-ending-requires c).After-divide in ready (allowed d) _ (is_quotient d)

pub slice_bounds-give-end : goal.slice_bounds-give-end
slice_bounds-give-end c = let d = (goal.at.slice_bounds-give-end c).After-decode_rows-ending in omega (arith, enough d, length-append (own d) (behind d))

pub give-requires : goal.give-requires
give-requires c =
    let d = (goal.at.give-requires c).After-decode_rows-ending in
    let p = granted d in
    record {
      same = ap length (first d) ∙ length-take-le (n d) (own d) (enough d) ∙ sym p.answer;
      striking = λ w is. rw (first d) (struck p (first_row d w is));
    }

pub returns : goal.returns
returns c =
    let d = (goal.at.returns c).After-decode_rows-ending in
    let a = c.args in (
      power_ends a.degree a.k a.powers a.points.now a.factors.now a.limit a.received.now a.answer.now a.flags.now (is_z d)
          (blank (granted d)) (own d) (flags d) c.give.new.answer c.decode_rows-ending.result (ends d)
          (rw (first d) at (c.give.ensures (flags d))),
      c.decode_rows-ending.ensures.1,
    )
