-- The exit status of a program that does not get its words.
use Rattle.std.specs.Prelude.{ℕ}
use Rattle.adapters.specs.declared.process_words.NoWords.{NoWords}
use Rattle.adapters.specs.declared.process_words.NoWords.TheVariants.{NotGiven, Memory}

-- the exit status that stands for it
abbrev pub no_words_code : NoWords → ℕ
no_words_code NotGiven = 7
no_words_code Memory = 5
