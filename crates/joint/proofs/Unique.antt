-- No two distinct outcomes satisfy the promise of a decoding.
--
--   unique    what a decoding leaves is fixed by what it is given: ending and detail, array, flags and working space
-- Assumes nothing.
use mathlib.Core.Path.{◌≡◌}
use Rattle.codes.proofs.Passed.{decoding}
use Rattle.codes.proofs.Factors.{is_divided}
use Rattle.ending.proofs.Unique as endings
use Rattle.joint.specs.Promises.{Given, Left, Decodes, checks_of}
use Rattle.joint.proofs.Promised as promised
use Rattle.joint.proofs.Struck.{struck_unique}

pub unique : (g : Given) (l l' : Left) → Decodes g l → Decodes g l' → l ≡ l'
unique g = promised.unique (checks_of g) g.lent g.space _
    (λ none.
    let D = g.description in
    let (q, factors) = decoding D g.limit g.received g.lent.array g.lent.flags g.space none in
    struck_unique D g.received _ (λ e e' b b'. endings.unique q.array.proper
    (is_divided D q.array.proper factors q.array.received) g.limit q.limit e e' g.lent b b'))
