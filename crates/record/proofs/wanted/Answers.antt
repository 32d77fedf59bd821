-- `wanted` asks for the mark, the head and the rest, one after the other.
use Rattle.std.proofs.Common.{sym, ◌∙◌, rules}
use Rattle.record.proofs.Heads.{wants_mark, wants_no_more, wants_head, wants_head-alone, wants_all}
use Rattle.record.proofs.wanted.Goals.{Else-no_mark}
use Rattle.record.proofs.wanted.Goals as goal

pub returns-then-bytes-lt2 : goal.returns-then-bytes-lt2
returns-then-bytes-lt2 c = record { is = sym (wants_mark _ c.if-bytes-lt2.true); most = search rules }

pub returns-then-no_mark : goal.returns-then-no_mark
returns-then-no_mark c = record {
  is = sym (wants_no_more _ c.if-bytes-lt2.false (sym c.no_mark.ensures ∙ c.if-no_mark.true));
  most = search rules;
}

pub returns-then-bytes-lt5 : goal.returns-then-bytes-lt5
returns-then-bytes-lt5 c = record {
  is = sym (wants_head _ c.if-bytes-lt2.false (sym c.no_mark.ensures ∙ c.if-no_mark.false) c.if-bytes-lt5.true);
  most = search rules;
}

pub returns-then-out_of_range : goal.returns-then-out_of_range
returns-then-out_of_range c = record {
  is = sym (wants_head-alone _ (sym c.no_mark.ensures ∙ c.if-no_mark.false) c.if-bytes-lt5.false
      (sym c.out_of_range.ensures ∙ c.if-out_of_range.true));
  most = search rules;
}

pub returns : goal.returns
returns c = record {
  is = c.size.ensures.is ∙ sym (wants_all _ (sym c.no_mark.ensures ∙ c.if-no_mark.false) c.if-bytes-lt5.false
      (sym c.out_of_range.ensures ∙ c.if-out_of_range.false));
  most = c.size.ensures.most;
}
