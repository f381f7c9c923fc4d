-- The routers and links that names stand for, and questions with them.
use Rattle.std.specs.Prelude.{ℕ, Bool, true, false, not, ◌&&◌, ◌||◌, List, [], ◌∷◌, ◌++◌, length, map, filter, flat_map, find, bytes_eq, slice_index_or, Option}
use Rattle.std.specs.List.{list_any, range_with_len}
use Rattle.cfg_ast.specs.declared.topology.Link.{Link}
use Rattle.srp_core.specs.Without.{Down, marked_down}
use Rattle.srp_questions.specs.declared.question.Question.{Question}
use Rattle.srp_questions.specs.declared.question.Question.TheVariants as question
use Rattle.ask_words.specs.NameLists.{is_among}
use Rattle.ask_words.specs.declared.request.AskedOf.{AskedOf}
use Rattle.ask_words.specs.declared.request.AskedOf.TheVariants as asked
use Rattle.ask_words.specs.declared.request.Lost.{Lost}
use Rattle.ask_words.specs.declared.request.Lost.TheVariants as lost
use Rattle.ask_words.specs.declared.request.Request.{Request}
use Rattle.ask_words.specs.declared.request.Routers.{Routers}
use Rattle.ask_words.specs.declared.request.Routers.TheVariants as routers
use Rattle.ask_words.specs.declared.request.Task.{Task}
use Rattle.ask_words.specs.declared.request.Task.TheVariants as task

-- the name of a router
abbrev pub name_at : List (List ℕ) → ℕ → List ℕ
name_at names u = slice_index_or names u []

-- ---- the names in a request, in the order in which they are looked up

abbrev pub names_in : Routers → List (List ℕ)
names_in routers.Every = []
names_in (routers.Named names) = names

-- those of which something is asked, and then those of the way
abbrev pub names_in_question : AskedOf → List (List ℕ)
names_in_question (asked.Route of) = names_in of
names_in_question (asked.Isolated of) = names_in of
names_in_question (asked.Hops most of) = names_in of
names_in_question (asked.Through way of) = names_in of ++ names_in way
names_in_question (asked.Avoids way of) = names_in of ++ names_in way
names_in_question (asked.Carries community of) = names_in of
names_in_question (asked.Lacks community of) = names_in of

abbrev pub names_in_task : Task → List (List ℕ)
names_in_task task.Count = []
names_in_task task.Solutions = []
names_in_task task.Forwards = []
names_in_task (task.Answer asks) = names_in_question asks
names_in_task (task.FailingLinks asks) = names_in_question asks
names_in_task (task.FailingRouters asks) = names_in_question asks

abbrev pub names_in_lost : Lost → List (List ℕ)
names_in_lost (lost.Router name) = name ∷ []
names_in_lost (lost.Links first second) = first ∷ second ∷ []

-- behind those of the task, those of what is down
abbrev pub names_in_request : Request → List (List ℕ)
names_in_request request = names_in_task request.task ++ flat_map names_in_lost request.down

-- the first of these names that no router has
abbrev pub unknown_in : List (List ℕ) → List (List ℕ) → Option (List ℕ)
unknown_in names wanted = find (λ name. not (is_among names name)) wanted

-- the first name in the request that no router has
unfoldable pub unknown_name : List (List ℕ) → Request → Option (List ℕ)
unknown_name names request = unknown_in names (names_in_request request)

-- ---- what is down

-- the router of that name is down
abbrev pub is_router_lost : List ℕ → Lost → Bool
is_router_lost name (lost.Router down) = bytes_eq down name
is_router_lost name (lost.Links first second) = false

-- the link joins routers of these two names
abbrev pub joins_names : List (List ℕ) → List ℕ → List ℕ → Link → Bool
joins_names names first second link =
    bytes_eq first (name_at names link.low) && bytes_eq second (name_at names link.high)
    || bytes_eq second (name_at names link.low) && bytes_eq first (name_at names link.high)

-- the link is one of those that are down
abbrev pub is_link_lost : List (List ℕ) → Link → Lost → Bool
is_link_lost names link (lost.Router down) = false
is_link_lost names link (lost.Links first second) = joins_names names first second link

-- the item names this pair of routers, in this order
abbrev pub names_pair : List ℕ → List ℕ → Lost → Bool
names_pair first second (lost.Router down) = false
names_pair first second (lost.Links one other) = bytes_eq one first && bytes_eq other second

-- for each router, whether it is down
unfoldable pub routers_lost : List (List ℕ) → List Lost → List Bool
routers_lost names items = map (λ name. list_any (is_router_lost name) items) names

-- for each link, whether it is down
unfoldable pub links_lost : List (List ℕ) → List Link → List Lost → List Bool
links_lost names links items = map (λ link. list_any (is_link_lost names link) items) links

-- what is down
abbrev pub down_for : List (List ℕ) → List Link → List Lost → Down
down_for names links items = marked_down (routers_lost names items) (links_lost names links items)

-- a pair that no link joins
abbrev pub is_unjoined : List (List ℕ) → List Link → Lost → Bool
is_unjoined names links (lost.Router down) = false
is_unjoined names links (lost.Links first second) = not (list_any (joins_names names first second) links)

-- the first pair that no link joins
unfoldable pub unjoined : List (List ℕ) → List Link → List Lost → Option Lost
unjoined names links items = find (is_unjoined names links) items

-- ---- questions

abbrev pub is_named : Routers → List ℕ → Bool
is_named routers.Every name = true
is_named (routers.Named names) name = is_among names name

-- the routers that are named, but those that are down
unfoldable pub routers_for : List (List ℕ) → Down → Routers → List ℕ
routers_for names down of = filter (λ u. is_named of (name_at names u) && not (down.routers u)) (range_with_len 0 (length names))

-- the question about the routers that these names stand for, but those that are down
abbrev pub question_for : List (List ℕ) → Down → AskedOf → Question
question_for names down (asked.Route of) = question.Route (routers_for names down of)
question_for names down (asked.Isolated of) = question.Isolated (routers_for names down of)
question_for names down (asked.Hops most of) = question.Hops most (routers_for names down of)
question_for names down (asked.Through way of) = question.Through (routers_for names down way) (routers_for names down of)
question_for names down (asked.Avoids way of) = question.Avoids (routers_for names down way) (routers_for names down of)
question_for names down (asked.Carries community of) = question.Carries community (routers_for names down of)
question_for names down (asked.Lacks community of) = question.Lacks community (routers_for names down of)
