use Rattle.std.proofs.Common.{◌≡◌, ◌++◌, drop}
use Rattle.specialize.specs.Answers.{AreAnswers}
use Rattle.specialize.specs.OnePrefix.{plain_entries}
use Rattle.specialize.proofs.maps.plain_entries.Given as goal

abbrev pub invariant-loop-entry : goal.invariant-loop-entry
invariant-loop-entry l = record {
  known : AreAnswers l.router l.p l.known;
  plain : l.plain ++ plain_entries l.router l.own l.p (drop l.entry-index l.entries) ≡ plain_entries l.router l.own l.p l.entries;
}
