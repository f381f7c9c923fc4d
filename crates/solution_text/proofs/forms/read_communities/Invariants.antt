use Rattle.std.proofs.Common.{◌≡◌, length}
use Rattle.base_kit.specs.Sets.{IsAscending}
use Rattle.cfg_ast.specs.text.Lines.{words_of}
use Rattle.solution_text.specs.Forms.{communities_above}
use Rattle.solution_text.proofs.PathWords.{behind_set, EndsBelow}
use Rattle.solution_text.proofs.forms.read_communities.Given as goal

-- the communities so far, and what the rest gives
abbrev pub invariant-loop-word : goal.invariant-loop-word
invariant-loop-word l = record {
  found : behind_set l.comms.items (communities_above l.bound (words_of l.rest)) ≡ communities_above 0 (words_of l.line);
  ascends : IsAscending l.comms.items;
  below : EndsBelow l.bound l.comms.items;
}

abbrev pub decreases-loop-word : goal.decreases-loop-word
decreases-loop-word l = length l.rest
