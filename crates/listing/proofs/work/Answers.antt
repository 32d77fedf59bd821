-- `work` lists what fits the quotient, struck with the factors.
use Rattle.std.proofs.Common.{◌≡◌, List, ℕ, length, take}
use Rattle.codes.specs.Factors.{Description, description_of, divided}
use Rattle.codes.specs.Code.{IsArray}
use Rattle.codes.proofs.Factors.{is_divided}
use Rattle.listing.proofs.Listed.{limit_room, listed}
use Rattle.listing.proofs.work.Goals.{Start, After-divide}
use Rattle.listing.proofs.work.Goals as goal

module _ (c : After-divide) where
  abbrev D : Description
  D = description_of c.args.degree c.args.points.now c.args.factors.now c.args.lengths.now

  abbrev y : List ℕ
  y = c.args.received.now

  is_quotient : take (length y) c.divide.new.s ≡ divided D y
  is_quotient = c.divide.ensures

  quotient : IsArray D.code (take (length y) c.divide.new.s)
  quotient = let p = c.requires in rw is_quotient (is_divided D p.checked.proper p.factors p.received)

pub list-requires : goal.list-requires
list-requires c = let p = c.requires in record {
  quotient = record { checked = p.checked; factors = p.factors; received = quotient (goal.at.list-requires c).After-divide };
  few = p.few;
  limit = limit_room p;
}

pub returns : goal.returns
returns c = (listed c.requires (is_quotient (goal.at.returns c).After-divide) c.list.ensures.0, c.list.ensures.1)
