-- `list` tries the sets size by size.
use Rattle.std.proofs.Common.{◌≡◌, ◌+◌, ◌-◌, ◌*◌, ◌≤◌, ◌∙◌, List, [], ◌++◌, ℕ, refl, sym, ap, subst, arith, length, replicate}
use mathlib.Core.List.{flat_map}
use native.Mathlib.Nat.{le_trans, pow-le-pow_right}
use native.Mathlib.Numerals.{add-one}
use lib.ListN.{length-map}
use Rattle.codes.specs.Code.{columns, up_from}
use Rattle.codes.specs.Factors.{Description, description_of}
use Rattle.fitting.specs.Fitting.{sets_of, sets, InTurn}
use Rattle.fitting.specs.Working.{Turned, Choosing, under}
use Rattle.fitting.proofs.Sets.{sets_from, more_sets, few_sets, no_columns}
use Rattle.fitting.proofs.Placed.{turned-append, turned_few, placed_none}
use Rattle.fitting.proofs.Chosen.{under_none}
use Rattle.fitting.proofs.list.Goals.{In-loop-size, After-choose-count}
use Rattle.fitting.proofs.list.Goals as goal

-- at first no set was tried; then those of one size more; and last all
at_first : (D : Description) (z : List ℕ) (n : ℕ) (room : List ℕ) → Turned D z (sets_from 0 0 n) 0 room 0 room
unfolding up_from flat_map
at_first D z n room = record { arrays = []; turns = InTurn.end; total = refl; left = sym (placed_none 0 room) }

module _ {D : Description} {z : List ℕ} (n size : ℕ) {r : ℕ} {room room' : List ℕ} (t : Turned D z (sets_from 0 size n) 0 room r room') where
  then : {s : ℕ} {room'' : List ℕ} → Turned D z (under [] (sets_of size (n - 0))) r room' s room''
      → Turned D z (sets_from 0 (size + 1) n) 0 room s room''
  then {s} {room''} u =
      let e : n - 0 ≡ n = omega arith in
      subst (λ (l : List (List ℕ)). Turned D z l 0 room s room'')
      (ap (λ (l : List (List ℕ)). sets_from 0 size n ++ l) (under_none (sets_of size (n - 0)) ∙ ap (sets_of size) e) ∙ more_sets size n)
      (turned-append t u)

  at_last : (τ : ℕ) → size ≡ τ + 1 → Turned D z (sets τ n) 0 room r room'
  at_last τ e = subst (λ (i : ℕ). Turned D z (sets_from 0 i n) 0 room r room') (e ∙ add-one τ) t

few : (size n : ℕ) → n ≤ 16 → length (sets_of size (n - 0)) ≤ 65536
few size n h = let most : n - 0 ≤ 16 = omega arith in le_trans (few_sets size (n - 0)) (pow-le-pow_right {n = 2} (omega arith) most)

module _ (c : In-loop-size) where
  abbrev D : Description
  D = description_of c.args.degree c.args.points.now c.args.factors.now c.args.lengths.now

  choosing : (none : List ℕ) → none ≡ replicate 16 0
      → Choosing D c.args.array.now none 0 c.loop-size.size c.loop-size.count
  choosing none e = rw e (record {
    quotient = c.requires.quotient;
    few = c.requires.few;
    set = record { sized = refl; small = (no_columns 16).flags };
    next = omega arith;
    rest = refl;
    room = omega (arith, (no_columns 16).many, c.loop-size-test.true, c.requires.limit);
    before = omega (
      arith,
      few c.loop-size.size (columns D.code) c.requires.few,
      c.loop-size-test.true,
      c.requires.limit,
      c.requires.few,
      c.loop-size.invariant.0,
    );
  })

-- the sets of one size more are tried
tried : (c : After-choose-count) → (c.choose-count.result ≤ (c.loop-size.size + 1) * 65536)
    × Turned (description_of c.args.degree c.args.points.now c.args.factors.now c.args.lengths.now) c.args.array.now
    (sets_from 0 (c.loop-size.size + 1) (length c.args.points.now)) 0 c.args.room.now c.choose-count.result c.choose-count.new.room
tried c = let turned = rw c.new-field.ensures at c.choose-count.ensures in (
  omega (
    arith,
    turned_few turned,
    length-map (sets_of c.loop-size.size (length c.args.points.now - 0)) (◌++◌ []),
    few c.loop-size.size (length c.args.points.now) c.requires.few,
  ),
  then (length c.args.points.now) c.loop-size.size c.loop-size.invariant.1 turned,
)

pub loop-size-init : goal.loop-size-init
loop-size-init c = (omega arith, at_first _ _ _ _)

pub choose-count-requires : goal.choose-count-requires
choose-count-requires c = rw c.new-field.ensures (choosing (goal.at.choose-count-requires c).In-loop-size _ refl)

pub loop-size-preserved : goal.loop-size-preserved
loop-size-preserved c = tried (goal.at.loop-size-preserved c).After-choose-count

pub returns-2 : goal.returns-2
returns-2 c =
    let t = tried (goal.at.returns-2 c).After-choose-count in
    (at_last (length c.args.points.now) (c.loop-size.size + 1) t.1 c.args.limit (omega arith), omega (arith, t.0, c.requires.limit, c.requires.few))
