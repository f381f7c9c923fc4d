-- What the words allow over the contents of the files.
use Rattle.std.specs.Prelude.{◌≡◌, ◌≤◌, ◌<◌, ◌⊎◌, ℕ, List, length, codes, Option, Some, None, IfSome}
use Rattle.cfg_ast.specs.declared.network.Network.{Network}
use Rattle.endings.specs.Telling.{Telling, misuse, refused}
use Rattle.network_files.specs.NetworkFiles.{IsOfFile}
use Rattle.ask_words.specs.Commands.{command_of, file_of, class_word_of, second_of}
use Rattle.ask_words.specs.declared.request.Command.{Command}
use Rattle.ask_words.specs.declared.request.Command.TheVariants as command
use Rattle.ask_answers.specs.Questions.{IsOfQuestions}
use Rattle.ask_answers.specs.Reports.{IsOfRequest}

-- the line for words of no form
abbrev pub ask_usage : List ℕ
ask_usage = codes "usage: bonsai-ask F questions S, or F N [without DOWN] count | solutions | forwards | [failing links|routers] QUESTION; QUESTION: route R, isolated R, hops H R, through W R, avoids W R, carries C R, lacks C R\n"

-- a file of questions has at most this many bytes
abbrev pub questions_limit : ℕ
questions_limit = 16777216

abbrev pub long_questions : List ℕ
long_questions = codes "questions FileTooLong"

-- what is allowed of the text of a file of questions, or its refusal
abbrev pub IsOfQuestionText : Network → List ℕ → Telling → Type 0
IsOfQuestionText network text o = ((questions_limit < length text) × (o ≡ refused long_questions))
    ⊎ ((length text ≤ questions_limit) × IsOfQuestions network text o)

-- The same of the file of questions. Where it is not known, anything is allowed.
abbrev pub IsOfQuestionFile : Option (List ℕ) → Network → Telling → Type 0
IsOfQuestionFile second network o = IfSome second (λ text. IsOfQuestionText network text o)

-- what is asked, with the word for the classes and the second file
abbrev pub IsOfCommand : Command → List ℕ → Option (List ℕ) → Network → Telling → Type 0
IsOfCommand (command.One request) word second network o = IsOfRequest word network request o
IsOfCommand command.Questions word second network o = IsOfQuestionFile second network o

abbrev pub IsOfWords : Option Command → List ℕ → Option (List ℕ) → Option (List ℕ) → Telling → Type 0
IsOfWords None word first second o = o ≡ misuse ask_usage
IsOfWords (Some command) word first second o = IsOfFile (IsOfCommand command word second) first o

-- What the words allow over the contents of the files, as far as these are known.
unfoldable pub IsAskOutcome : List (List ℕ) → (List ℕ → Option (List ℕ)) → Telling → Type 0
IsAskOutcome words contents o = IsOfWords (command_of words) (class_word_of words) (contents (file_of words)) (contents (second_of words)) o
