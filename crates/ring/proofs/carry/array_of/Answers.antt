-- A ring has at most 64 symbols, and the array of the sums is its array.
use Rattle.std.proofs.Common.{◌≤◌, ◌*◌, length, sym, refl, arith}
use lib.Seq.{length-take-le}
use Rattle.hermitian.proofs.Sizes.{sides, tested}
use Rattle.hermitian.proofs.Kernel.{summed_array}
use Rattle.ring.proofs.Summing.{cut_summed}
use Rattle.ring.proofs.carry.array_of.Goals.{Start}
use Rattle.ring.proofs.carry.array_of.Goals as goal

few : (c : Start) → length c.args.ring.now ≤ 64
few c = omega (arith, c.requires.ring.count, sides c.args.q c.args.q c.requires.size refl)

pub new-field-requires : goal.new-field-requires
new-field-requires c = (tested c.args.q c.requires.size).degree

pub slice_bounds-held-end : goal.slice_bounds-held-end
slice_bounds-held-end c = few (goal.at.slice_bounds-held-end c).Start

pub slice_bounds-copy_from_slice-end : goal.slice_bounds-copy_from_slice-end
slice_bounds-copy_from_slice-end c = sym (length-take-le _ _ (few (goal.at.slice_bounds-copy_from_slice-end c).Start))

pub copy_from_slice-requires : goal.copy_from_slice-requires
copy_from_slice-requires c = length-take-le _ _ (few (goal.at.copy_from_slice-requires c).Start)

pub returns : goal.returns
returns c =
    let q = c.args.q in
    let size = c.requires.size in
    let most = sides q q size refl in
    rw c.requires.ring.count
    (summed_array q size c.requires.ring (length-take-le (q * q * q) _ (omega (arith, most.most, c.carry_sums.auto)))
    (cut_summed size (rw c.new-field.ensures at c.carry_sums.ensures)))
