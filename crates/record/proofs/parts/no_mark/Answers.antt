-- `parts::no_mark` compares the first two bytes with the mark.
use Rattle.std.proofs.Common.{sym, ap, ◌∙◌}
use mathlib.Core.Bool.{not}
use borrow.Author.Tests.{lt-leb}
use Rattle.record.proofs.Heads.{few_bytes, two_bytes}
use Rattle.record.proofs.parts.no_mark.Goals as goal

pub returns-then-bytes-ge2 : goal.returns-then-bytes-ge2
returns-then-bytes-ge2 c = ap not c.starts_with.ensures.value ∙ two_bytes _ c.if-bytes-ge2.true

pub returns-else-bytes-ge2 : goal.returns-else-bytes-ge2
returns-else-bytes-ge2 c = lt-leb _ _ c.if-bytes-ge2.false ∙ sym (few_bytes _ c.if-bytes-ge2.false)
