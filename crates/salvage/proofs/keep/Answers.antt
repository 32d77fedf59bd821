-- `keep` writes the record with the symbols of the array, and its line.
use Rattle.std.proofs.Common.{◌≡◌, ℕ, ◌+◌, ◌-◌, ◌*◌, ◌≤◌, List, length, take, drop, length-drop, sym, ◌∙◌, arith}
use lib.Seq.{length-take-le}
use Rattle.record.specs.Records.{rows_in, columns_in}
use Rattle.record.proofs.Heads.{Sizes, sizes_of, columns-most}
use Rattle.record.proofs.Wholes.{Whole, whole_of}
use Rattle.salvage.specs.Promises.{Rooms}
use Rattle.salvage.specs.Working.{Keepable}
use Rattle.salvage.proofs.Told.{keep_told, size-most}
use Rattle.salvage.proofs.keep.Goals as goal

-- where the counts are read
module _ {b array : List ℕ} {lent : Rooms} (h : Keepable b array lent) where
  whole : Whole b
  whole = whole_of b h.of.whole

  module _ {r n : ℕ} (p : r ≡ rows_in b) (q : n ≡ columns_in b) where
    sizes : Sizes b r n
    sizes = sizes_of whole.inside p q

    cells : r * n ≤ length array
    cells = omega (arith, sizes.cells, h.symbols)

    new_long : length (take (r * n) array) ≡ r * n
    new_long = length-take-le (r * n) array cells

    old_long : length (take (6 + r + n + r * n - (6 + r + n)) (drop (6 + r + n) b)) ≡ r * n
    old_long =
        let e : 6 + r + n + r * n - (6 + r + n) ≡ r * n = omega arith in
        rw e (length-take-le (r * n) (drop (6 + r + n) b)
        (omega (arith, length-drop (6 + r + n) b, sizes.total, whole.complete)))

    head_long : length (take (6 + r + n - 2) (drop 2 b)) ≡ 4 + r + n
    head_long =
        let e : 6 + r + n - 2 ≡ 4 + r + n = omega arith in
        rw e (length-take-le (4 + r + n) (drop 2 b) (omega (arith, length-drop 2 b, sizes.total, whole.complete)))

pub bounds-bytes-3 : goal.bounds-bytes-3
bounds-bytes-3 c = omega (arith, whole c.requires)

pub bounds-bytes-4 : goal.bounds-bytes-4
bounds-bytes-4 c = omega (arith, whole c.requires)

pub slice_bounds-old-end : goal.slice_bounds-old-end
slice_bounds-old-end c = omega (arith, sizes c.requires c.from-r.ensures c.from-n.ensures, whole c.requires)

pub slice_bounds-new-end : goal.slice_bounds-new-end
slice_bounds-new-end c = sym (new_long c.requires c.from-r.ensures c.from-n.ensures)

pub slice_bounds-rewrite-end : goal.slice_bounds-rewrite-end
slice_bounds-rewrite-end c = omega (arith, sizes c.requires c.from-r.ensures c.from-n.ensures, whole c.requires)

pub rewrite-length-requires : goal.rewrite-length-requires
rewrite-length-requires c = omega (
  arith,
  head_long c.requires c.from-r.ensures c.from-n.ensures,
  new_long c.requires c.from-r.ensures c.from-n.ensures,
  sizes c.requires c.from-r.ensures c.from-n.ensures,
  size-most c.args.bytes.now (whole c.requires).inside,
  c.requires.of.record_room,
)

pub put_kept-requires-clause-symbols : goal.put_kept-requires-clause-symbols
put_kept-requires-clause-symbols c =
    let old = old_long c.requires c.from-r.ensures c.from-n.ensures in
    record {
      columns = omega (arith, c.from-n.ensures, (columns-most c.args.bytes.now (whole c.requires).inside).0);
      same = new_long c.requires c.from-r.ensures c.from-n.ensures ∙ sym old;
      few = omega (arith, old, (sizes c.requires c.from-r.ensures c.from-n.ensures).cells);
    }

pub returns : goal.returns
returns c =
    keep_told c.args.offset c.args.bytes.now c.args.array.now _ c.requires c.from-r.result c.from-n.result c.from-r.ensures
    c.from-n.ensures c.rewrite-length.ensures c.put_kept.ensures
