use Rattle.std.proofs.Common.{◌≡◌, length}
use Rattle.std.specs.List.{list_all}
use Rattle.cfg_ast.specs.text.Lines.{words_of}
use Rattle.cfg_ast.specs.text.Words.{is_router_name}
use Rattle.cut_certificate.proofs.forms.are_names.Given as goal

abbrev pub invariant-loop-word : goal.invariant-loop-word
invariant-loop-word l = list_all is_router_name (words_of l.rest) ≡ list_all is_router_name (words_of l.line)

abbrev pub decreases-loop-word : goal.decreases-loop-word
decreases-loop-word l = length l.rest
