-- The words of a task, and of a request: classes, what is down, and the task.
use Rattle.std.specs.Prelude.{ℕ, List, [], ◌∷◌, codes, bytes_eq, if◌then◌else◌, Option, Some, None}
use Rattle.std.specs.Option.{option_map, option_and_then}
use Rattle.ask_words.specs.ClassWords.{classes_of_word}
use Rattle.ask_words.specs.NameLists.{down_of}
use Rattle.ask_words.specs.Questions.{question_of}
use Rattle.ask_words.specs.declared.request.Classes.{Classes}
use Rattle.ask_words.specs.declared.request.Lost.{Lost}
use Rattle.ask_words.specs.declared.request.Request.{Request}
use Rattle.ask_words.specs.declared.request.Task.{Task}
use Rattle.ask_words.specs.declared.request.Task.TheVariants as task

-- a task of one word
abbrev pub plain_task_of : List ℕ → Option Task
plain_task_of word =
    if bytes_eq word (codes "count") then Some task.Count
    else (if bytes_eq word (codes "solutions") then Some task.Solutions
    else (if bytes_eq word (codes "forwards") then Some task.Forwards else None))

-- a question that is asked also without each one link or router more
abbrev pub failing_task_of : List ℕ → List (List ℕ) → Option Task
failing_task_of what words =
    if bytes_eq what (codes "links") then option_map task.FailingLinks (question_of words)
    else (if bytes_eq what (codes "routers") then option_map task.FailingRouters (question_of words) else None)

-- a question, by itself or behind `failing`
abbrev pub asking_task_of : List ℕ → List ℕ → List (List ℕ) → Option Task
asking_task_of first second words =
    if bytes_eq first (codes "failing") then failing_task_of second words
    else option_map task.Answer (question_of (first ∷ second ∷ words))

-- the task that the words ask
unfoldable pub task_of : List (List ℕ) → Option Task
task_of [] = None
task_of (word ∷ []) = plain_task_of word
task_of (first ∷ second ∷ words) = asking_task_of first second words

abbrev pub request_for : Classes → List Lost → Task → Request
request_for classes down task = record { classes = classes; down = down; task = task }

-- a task for these classes, with these items down
unfoldable pub request_with : Option Classes → Option (List Lost) → List (List ℕ) → Option Request
request_with classes down words =
    option_and_then (λ (some : Classes). option_and_then (λ (items : List Lost). option_map (request_for some items) (task_of words)) down) classes

-- behind the word for the classes: `without` and what is down, if that is asked, and the task
abbrev pub request_behind : List ℕ → List (List ℕ) → Option Request
request_behind class [] = None
request_behind class (word ∷ []) = request_with (classes_of_word class) (Some []) (word ∷ [])
request_behind class (word ∷ second ∷ words) =
    if bytes_eq word (codes "without") then request_with (classes_of_word class) (down_of second) words
    else request_with (classes_of_word class) (Some []) (word ∷ second ∷ words)

-- what the words behind the file ask
unfoldable pub request_of : List (List ℕ) → Option Request
request_of [] = None
request_of (class ∷ words) = request_behind class words
