-- The words of a question.
use Rattle.std.specs.Prelude.{ℕ, List, [], ◌∷◌, codes, bytes_eq, if◌then◌else◌, Option, Some, None}
use Rattle.std.specs.Option.{option_map, option_and_then}
use Rattle.cfg_ast.specs.text.Words.{community_word, is_reserved}
use Rattle.ask_words.specs.Words.{short_number}
use Rattle.ask_words.specs.NameLists.{routers_of}
use Rattle.ask_words.specs.declared.request.AskedOf.{AskedOf}
use Rattle.ask_words.specs.declared.request.AskedOf.TheVariants as asked
use Rattle.ask_words.specs.declared.request.Routers.{Routers}

abbrev pub unless_reserved : ℕ → Option ℕ
unless_reserved community = if is_reserved community then None else Some community

-- a community that is not well known (RFC 1997)
unfoldable pub plain_community : List ℕ → Option ℕ
plain_community word = option_and_then unless_reserved (community_word word)

-- a question about routers
abbrev pub about_routers : (Routers → AskedOf) → List ℕ → Option AskedOf
about_routers asks word = option_map asks (routers_of word)

-- a question about a number and routers
abbrev pub about_number : (ℕ → Routers → AskedOf) → Option ℕ → List ℕ → Option AskedOf
about_number asks number word = option_and_then (λ n. about_routers (asks n) word) number

-- a question about a way and routers
abbrev pub about_way : (Routers → Routers → AskedOf) → List ℕ → List ℕ → Option AskedOf
about_way asks way word = option_and_then (λ w. about_routers (asks w) word) (routers_of way)

abbrev pub question_of_two : List ℕ → List ℕ → Option AskedOf
question_of_two what word =
    if bytes_eq what (codes "route") then about_routers asked.Route word
    else (if bytes_eq what (codes "isolated") then about_routers asked.Isolated word else None)

abbrev pub question_of_three : List ℕ → List ℕ → List ℕ → Option AskedOf
question_of_three what by word =
    if bytes_eq what (codes "hops") then about_number asked.Hops (short_number by) word
    else (if bytes_eq what (codes "through") then about_way asked.Through by word
    else (if bytes_eq what (codes "avoids") then about_way asked.Avoids by word
    else (if bytes_eq what (codes "carries") then about_number asked.Carries (plain_community by) word
    else (if bytes_eq what (codes "lacks") then about_number asked.Lacks (plain_community by) word else None))))

-- the question that the words ask
unfoldable pub question_of : List (List ℕ) → Option AskedOf
question_of (what ∷ word ∷ []) = question_of_two what word
question_of (what ∷ by ∷ word ∷ []) = question_of_three what by word
question_of words = None
