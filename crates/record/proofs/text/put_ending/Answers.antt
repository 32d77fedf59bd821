-- `text::put_ending` writes the fields of each ending.
use Rattle.std.proofs.Common.{refl, arith}
use Rattle.record.proofs.Fields.{ended, ended_plain, ended_none}
use Rattle.record.proofs.text.put_ending.Goals as goal

pub returns-in-Refused : goal.returns-in-Refused
returns-in-Refused c =
    ended_plain c.requires _ c.in-Refused.is refl (rw c.number.ensures at c.put_field-end.ensures) (omega arith) c.put_text.ensures

pub returns-in-Corrected : goal.returns-in-Corrected
returns-in-Corrected c =
    ended c.requires _ c.in-Corrected.is c.put_field-end-in-Corrected.ensures (omega arith) c.put_columns.ensures

pub returns-in-Nothing : goal.returns-in-Nothing
returns-in-Nothing c = ended_none c.requires c.in-Nothing.is c.put_text-in-Nothing.ensures

pub returns-in-Several : goal.returns-in-Several
returns-in-Several c =
    ended_plain c.requires _ c.in-Several.is refl c.put_field-end-in-Several.ensures (omega arith) c.put_text-in-Several.ensures

pub returns-in-Hollow : goal.returns-in-Hollow
returns-in-Hollow c =
    ended_plain c.requires _ c.in-Hollow.is refl c.put_field-end-in-Hollow.ensures (omega arith) c.put_text-in-Hollow.ensures
