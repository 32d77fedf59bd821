-- `sizes_of`: what the checks of a code leave of its lengths and points.
-- Assumes nothing.
use Rattle.codes.specs.Code.{Code}
use Rattle.codes.proofs.Passed.{Counts}
use Rattle.array_checks.specs.Working.{Sizes}

pub sizes_of : {c : Code} → Counts c → Sizes c.lengths c.points
sizes_of h = record { most_rows = h.most_rows; most_columns = h.most_columns; lengths = h.lengths }
