use Rattle.std.specs.Prelude.{Some}
use Rattle.library_uses.specs.Asked.{has_one_preference}
use Rattle.library_uses.proofs.laws.questions.one_preference_carries.Given as goal

abbrev pub ghosts-each_question_carries : goal.ghosts-each_question_carries
ghosts-each_question_carries a = record {
  asks = has_one_preference;
  one_answer = λ first second same asked g h key other held also. asked g h key other (same.held g (Some key) held) (same.held h (Some other) also);
}
