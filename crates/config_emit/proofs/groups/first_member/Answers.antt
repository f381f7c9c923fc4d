use Rattle.std.proofs.Common.{◌∙◌, ap, arith, length}
use Rattle.std.specs.Prelude.{slice_index}
use Rattle.config_emit.proofs.Members.{first_is}
use Rattle.config_emit.proofs.groups.first_member.Goals as goal

pub bounds-members-0 : goal.bounds-members-0
bounds-members-0 c = let first = first_is c.args.groups.now c.args.group c.requires in omega (arith, first.some, ap length c.members.ensures)

pub returns : goal.returns
returns c = ap (λ ks. slice_index ks 0) c.members.ensures ∙ (first_is c.args.groups.now c.args.group c.requires).first
