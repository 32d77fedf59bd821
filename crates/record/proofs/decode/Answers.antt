-- `decode` lends the parts of a whole record to the decoder.
use Rattle.std.proofs.Common.{◌≡◌, ℕ, ◌≤◌, ◌*◌, List, length, sym, ap, arith}
use lib.Seq.{length-take-le}
use Rattle.codes.specs.Factors.{ones}
use Rattle.record.specs.Records.{rows_in, columns_in}
use Rattle.record.specs.Working.{Decodable}
use Rattle.record.proofs.Heads.{Sizes, sizes_of}
use Rattle.record.proofs.Wholes.{whole_of, parts_decoded}
use Rattle.record.proofs.decode.Goals as goal

sizes : {b array flags : List ℕ} {r n : ℕ} → Decodable b array flags → r ≡ rows_in b → n ≡ columns_in b → Sizes b r n
sizes h p q = sizes_of (whole_of _ h.whole).inside p q

module _ {b array flags : List ℕ} (h : Decodable b array flags) {r n : ℕ} (s : Sizes b r n) where
  array_room : r * n ≤ length array
  array_room = omega (arith, s, ap length h.array_zero)

  flags_room : n ≤ length flags
  flags_room = omega (arith, s, ap length h.flags_zero)

pub bounds-bytes-3 : goal.bounds-bytes-3
bounds-bytes-3 c = omega (arith, whole_of _ c.requires.whole)

pub bounds-bytes-4 : goal.bounds-bytes-4
bounds-bytes-4 c = omega (arith, whole_of _ c.requires.whole)

pub bounds-bytes-2 : goal.bounds-bytes-2
bounds-bytes-2 c = omega (arith, whole_of _ c.requires.whole)

pub slice_bounds-decode-end : goal.slice_bounds-decode-end
slice_bounds-decode-end c = omega (arith, sizes c.requires c.from-r.ensures c.from-n.ensures, whole_of _ c.requires.whole)

pub slice_bounds-decode-end-2 : goal.slice_bounds-decode-end-2
slice_bounds-decode-end-2 c = omega (arith, sizes c.requires c.from-r.ensures c.from-n.ensures, whole_of _ c.requires.whole)

pub slice_bounds-ones-end : goal.slice_bounds-ones-end
slice_bounds-ones-end c = (sizes c.requires c.from-r.ensures c.from-n.ensures).columns

pub slice_bounds-decode-end-3 : goal.slice_bounds-decode-end-3
slice_bounds-decode-end-3 c = sym (length-take-le _ (ones 96) (sizes c.requires c.from-r.ensures c.from-n.ensures).columns)

pub bounds-bytes-r : goal.bounds-bytes-r
bounds-bytes-r c = omega (arith, sizes c.requires c.from-r.ensures c.from-n.ensures, whole_of _ c.requires.whole)

pub slice_bounds-decode-end-4 : goal.slice_bounds-decode-end-4
slice_bounds-decode-end-4 c = omega (arith, sizes c.requires c.from-r.ensures c.from-n.ensures, whole_of _ c.requires.whole)

pub slice_bounds-decode-end-5 : goal.slice_bounds-decode-end-5
slice_bounds-decode-end-5 c = array_room c.requires (sizes c.requires c.from-r.ensures c.from-n.ensures)

pub slice_bounds-decode-end-6 : goal.slice_bounds-decode-end-6
slice_bounds-decode-end-6 c = sym (length-take-le _ _ (array_room c.requires (sizes c.requires c.from-r.ensures c.from-n.ensures)))

pub slice_bounds-decode-end-7 : goal.slice_bounds-decode-end-7
slice_bounds-decode-end-7 c = flags_room c.requires (sizes c.requires c.from-r.ensures c.from-n.ensures)

pub slice_bounds-decode-end-8 : goal.slice_bounds-decode-end-8
slice_bounds-decode-end-8 c = sym (length-take-le _ _ (flags_room c.requires (sizes c.requires c.from-r.ensures c.from-n.ensures)))

pub returns : goal.returns
returns c = let s = sizes c.requires c.from-r.ensures c.from-n.ensures in
    parts_decoded c.from-r.result c.from-n.result c.args.space.now c.args.bytes.now c.from-r.ensures c.from-n.ensures s c.requires
    c.decode.result c.decode.new.answer c.decode.new.flags _
    (omega (arith, c.decode.auto, length-take-le _ c.args.array.now (array_room c.requires s)))
    (omega (arith, c.decode.auto, length-take-le _ c.args.flags.now (flags_room c.requires s)))
    (rw (c.from.ensures, c.from-2.ensures) at c.decode.ensures)
