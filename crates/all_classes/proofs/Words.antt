-- What words that ask for something say, and the words by which `bonsai` does the same for one class.
use Rattle.std.proofs.Common.{◌≡◌, ◌≤◌, ℕ, Bool, true, false, List, [], ◌∷◌, refl, sym, ap, ◌∙◌, subst, arith, Option, Some, None, if◌then◌else◌}
use Rattle.std.specs.Prelude.{decimal, nat_le}
use Rattle.std.specs.Option.{option_map, option_and_then}
use Rattle.std.proofs.lemmas.Bool.Decides.{nat_tests}
use Rattle.base_kit.specs.Numbers.{number_of}
use Rattle.cfg_round_trip.proofs.WordsBack.{up_to_back}
use Rattle.bonsai_top.specs.Commands.{class_command, command_of}
use Rattle.bonsai_top.specs.Words.{short, short_number_of}
use Rattle.bonsai_top.specs.declared.command.ClassCommand.{ClassCommand}
use Rattle.bonsai_top.specs.declared.command.Command.TheVariants.{OnClass}
use Rattle.all_classes.specs.declared.request.Asked.{Asked}
use Rattle.all_classes.specs.declared.request.Asked.TheVariants.{All, Range}
use Rattle.all_classes.specs.declared.request.Request.{Request}
use Rattle.all_classes.specs.Requests.{class_words, file_of, last_of, name_of, range, range_of, request_of, request_of_all, request_of_range}

-- ---- numbers

short_read : (n : ℕ) → n ≤ 999999999 → short_number_of (decimal n) ≡ Some n
short_read n small =
    let within : nat_le n 999999999 ≡ true = grind (arith, nat_tests) in
    let read : number_of (decimal n) ≡ Some n = up_to_back 4294967295 n (omega arith) (omega arith) in
    ap (option_and_then short) read ∙ ap (λ (b : Bool). if b then Some n else None) within

short_if : (b : Bool) (n m : ℕ) → nat_le n 999999999 ≡ b → (if b then Some n else None) ≡ Some m → m ≤ 999999999
short_if true n m within is = (let same : n ≡ m = cc in let small : n ≤ 999999999 = grind (arith, nat_tests) in omega (arith, same, small))
short_if false n m within is = cc

short_of : (o : Option ℕ) (m : ℕ) → option_and_then short o ≡ Some m → m ≤ 999999999
short_of None m is = cc
short_of (Some n) m is = short_if (nat_le n 999999999) n m refl is

-- ---- words

-- the last number that is asked has at most nine digits
abbrev IsShortAsked : Asked → Type 0
IsShortAsked All = Unit {0}
IsShortAsked (Range from to) = to ≤ 999999999

short_range_if : (b : Bool) (from to : ℕ) (asked : Asked) → to ≤ 999999999 → (if b then Some (Range from to) else None) ≡ Some asked → IsShortAsked asked
short_range_if true from to asked small is = (let same : Range from to ≡ asked = cc in subst IsShortAsked same small)
short_range_if false from to asked small is = cc

short_range : (from to : ℕ) (asked : Asked) → to ≤ 999999999 → range from to ≡ Some asked → IsShortAsked asked
short_range from to asked small is = short_range_if (nat_le from to) from to asked small is

short_to : (from : ℕ) (to : Option ℕ) (asked : Asked) → ((m : ℕ) → to ≡ Some m → m ≤ 999999999) → option_and_then (range from) to ≡ Some asked
    → IsShortAsked asked
short_to from None asked small is = cc
short_to from (Some to) asked small is = short_range from to asked (small to refl) is

short_from : (from : Option ℕ) (to : List ℕ) (asked : Asked) → option_and_then (λ a. option_and_then (range a) (short_number_of to)) from ≡ Some asked
    → IsShortAsked asked
short_from None to asked is = cc
short_from (Some from) to asked is = short_to from (short_number_of to) asked (λ m. short_of (number_of to) m) is

-- what a request has
record IsRequest (name : List ℕ) (request : Request) : Type 0 where
  named : class_command name ≡ Some request.command
  short : IsShortAsked request.asked

of_all : (name : List ℕ) (command : Option ClassCommand) (request : Request) → class_command name ≡ command
    → option_map (λ of. record { command = of; asked = All }) command ≡ Some request → IsRequest name request
of_all name None request named is = cc
of_all name (Some of) request named is =
    let same : record { command = of; asked = All } ≡ request = cc in
    subst (IsRequest name) same (record { named = named; short = tt })

of_asked : (name : List ℕ) (of : ClassCommand) (asked : Option Asked) (request : Request) → class_command name ≡ Some of
    → ((a : Asked) → asked ≡ Some a → IsShortAsked a) → option_map (λ a. record { command = of; asked = a }) asked ≡ Some request → IsRequest name request
of_asked name of None request named small is = cc
of_asked name of (Some a) request named small is =
    let same : record { command = of; asked = a } ≡ request = cc in
    subst (IsRequest name) same (record { named = named; short = small a refl })

of_range : (name from to : List ℕ) (command : Option ClassCommand) (request : Request) → class_command name ≡ command
    → option_and_then (λ of. option_map (λ a. record { command = of; asked = a }) (range_of from to)) command ≡ Some request → IsRequest name request
of_range name from to None request named is = cc
of_range name from to (Some of) request named is =
    of_asked name of (range_of from to) request named (λ a. short_from (short_number_of from) to a) is

of_words : (words : List (List ℕ)) (request : Request) → request_of words ≡ Some request → IsRequest (name_of words) request
unfolding request_of
of_words [] request is = cc
of_words (file ∷ []) request is = cc
of_words (file ∷ name ∷ []) request is = of_all name (class_command name) request refl is
of_words (file ∷ name ∷ from ∷ []) request is = cc
of_words (file ∷ name ∷ from ∷ to ∷ []) request is = of_range name from to (class_command name) request refl is
of_words (file ∷ name ∷ from ∷ to ∷ more ∷ words) request is = cc

short_last : (asked : Asked) (classes : ℕ) → classes ≤ 999999999 → IsShortAsked asked → last_of asked classes ≤ 999999999
short_last All classes few is = few
short_last (Range from to) classes few is = is

-- the last number that is asked of so many classes
pub last_is_short : (words : List (List ℕ)) (request : Request) → request_of words ≡ Some request → (classes : ℕ) → classes ≤ 999999999
    → last_of request.asked classes ≤ 999999999
last_is_short words request is classes few = short_last request.asked classes few (of_words words request is).short

-- the words for one class name the command
pub names_class : (words : List (List ℕ)) (request : Request) → request_of words ≡ Some request → (number : ℕ) → number ≤ 999999999
    → command_of (class_words words number) ≡ Some (OnClass request.command number)
unfolding command_of
names_class words request is number small =
    let named = (of_words words request is).named in
    ap (option_and_then (λ (c : ClassCommand). option_map (OnClass c) (short_number_of (decimal number)))) named
    ∙ ap (option_map (OnClass request.command)) (short_read number small)
