use Rattle.std.proofs.Common.{List, map, ap, ◌∙◌}
use Rattle.srp_build.specs.declared.lone.Mark.{Mark}
use Rattle.srp_build.proofs.lone.lone_of.Goals as goal

pub returns : goal.returns
returns c = record {
  marks = c.in_ok-marks.marks.items;
  are = c.in_ok-marks.ensures;
  read = c.in_ok-lone.ensures ∙ ap (λ (l : List Mark). map (λ (mark : Mark). mark.lone) l) c.deref.ensures.value;
}
