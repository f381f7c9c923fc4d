use Rattle.std.proofs.Common.{◌≡◌, drop}
use Rattle.std.specs.List.{list_any}
use Rattle.cfg_ast.specs.meaning.Policy.{prefixes_permitted_by}
use Rattle.specialize.specs.Answers.{AreAnswers}
use Rattle.specialize.proofs.answers.any_list_permits.Given as goal

abbrev pub invariant-loop-name : goal.invariant-loop-name
invariant-loop-name l = record {
  known : AreAnswers l.router l.p l.known;
  rest : list_any (prefixes_permitted_by l.router l.p) (drop l.name-index l.names) ≡ list_any (prefixes_permitted_by l.router l.p) l.names;
}
