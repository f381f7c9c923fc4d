use Rattle.std.proofs.Common.{rules}
use Rattle.cut_certificate.proofs.Movers.{course_total, course_more, course_same, none_by, some_by}
use Rattle.cut_certificate.proofs.course.with_split.Goals.{then-is_none+in_ok-push, else-is_none}
use Rattle.cut_certificate.proofs.course.with_split.Goals as goal

pub split_by-requires-clause-total : goal.split_by-requires-clause-total
split_by-requires-clause-total c = course_total _ _ _ c.requires.course

pub returns : goal.returns
returns c = elim c.if-is_none.branch [
  | then-is_none+in_ok-push w ↦ rw w.splits-is (course_more _ _ _ _ _ c.args.split _ c.requires.course (search rules) c.in_ok-blocks.ensures
      (none_by _ w.if-is_none.ensures) w.in_ok-push.ensures.ok)
  | else-is_none w ↦ rw w.splits-is (course_same _ _ _ _ c.args.split _ c.requires.course c.in_ok-blocks.ensures (some_by _ w.if-is_none.ensures))
]
