use Rattle.std.proofs.Common.{ℕ, List, ap, ◌∙◌}
use Rattle.std.specs.Prelude.{slice_get}
use Rattle.std.proofs.lemmas.Option.{slice_get_within, get_or_from_slice_get}
use Rattle.srp_quotient.specs.Groups.{first_member}
use Rattle.solution_lift.proofs.MemberLists.{first_of_members}
use Rattle.solution_lift.proofs.tables.first_member.Goals as goal

pub bounds-members-0 : goal.bounds-members-0
bounds-members-0 c =
    slice_get_within c.members.result.now 0 (first_member c.args.p.now c.args.group)
    (ap (λ (ms : List ℕ). slice_get ms 0) c.members.ensures ∙ first_of_members c.args.p.now c.args.group c.requires)

pub returns : goal.returns
returns c =
    get_or_from_slice_get c.members.result.now 0 (first_member c.args.p.now c.args.group) 0
    (ap (λ (ms : List ℕ). slice_get ms 0) c.members.ensures ∙ first_of_members c.args.p.now c.args.group c.requires)
