-- Lists with commas: names of routers, and what is down.
use Rattle.std.specs.Prelude.{ℕ, Bool, ◌||◌, List, [], ◌∷◌, ◌++◌, codes, bytes_eq, map, ◌==◌, if◌then◌else◌, Option, Some, None}
use Rattle.std.specs.Option.{option_map}
use Rattle.std.specs.List.{list_any, slice_split, before_first, after_first}
use Rattle.cfg_ast.specs.text.Words.{is_colon, is_router_name}
use Rattle.ask_words.specs.declared.request.Lost.{Lost}
use Rattle.ask_words.specs.declared.request.Lost.TheVariants as lost
use Rattle.ask_words.specs.declared.request.Routers.{Routers}
use Rattle.ask_words.specs.declared.request.Routers.TheVariants as routers

abbrev pub is_comma : ℕ → Bool
is_comma b = b == 44

-- the parts between commas
abbrev pub parts_of : List ℕ → List (List ℕ)
parts_of word = slice_split is_comma word

abbrev pub is_among : List (List ℕ) → List ℕ → Bool
is_among names name = list_any (bytes_eq name) names

-- ---- names

-- the name of a router
abbrev pub name_of : List ℕ → Option (List ℕ)
name_of word = if is_router_name word then Some word else None

-- these names, and one more that none of them is
abbrev pub with_new : List (List ℕ) → List ℕ → Option (List (List ℕ))
with_new names name = if is_among names name then None else Some (names ++ name ∷ [])

abbrev pub with_name : List (List ℕ) → Option (List ℕ) → Option (List (List ℕ))
with_name names None = None
with_name names (Some name) = with_new names name

-- the names so far, if there are any, with each of these parts as one more name
abbrev pub names_from : Option (List (List ℕ)) → List (List ℕ) → Option (List (List ℕ))
names_from names [] = names
names_from None (part ∷ parts) = None
names_from (Some names) (part ∷ parts) = names_from (with_name names (name_of part)) parts

-- names with commas between them, none of them twice
unfoldable pub names_of : List ℕ → Option (List (List ℕ))
names_of word = names_from (Some []) (parts_of word)

-- names, or `*` for all routers
unfoldable pub routers_of : List ℕ → Option Routers
routers_of word = if bytes_eq word (codes "*") then Some routers.Every else option_map routers.Named (names_of word)

-- ---- what is down

-- all links between two different routers
abbrev pub links_between : Option (List ℕ) → Option (List ℕ) → Option Lost
links_between None second = None
links_between (Some first) None = None
links_between (Some first) (Some second) = if bytes_eq first second then None else Some (lost.Links first second)

-- a router `A`, or a pair `A:B`
abbrev pub lost_of : List ℕ → Option Lost
lost_of part =
    if list_any is_colon part then links_between (name_of (before_first is_colon part)) (name_of (after_first is_colon part))
    else option_map lost.Router (name_of part)

-- an item as its word
abbrev pub word_of_lost : Lost → List ℕ
word_of_lost (lost.Router name) = name
word_of_lost (lost.Links first second) = first ++ (58 ∷ second)

-- an item as its word in the other order
abbrev pub turned_word_of : Lost → List ℕ
turned_word_of (lost.Router name) = name
turned_word_of (lost.Links first second) = second ++ (58 ∷ first)

-- the item, in one order or the other, is one of these
abbrev pub is_repeated : List Lost → Lost → Bool
is_repeated items item = is_among (map word_of_lost items) (word_of_lost item) || is_among (map word_of_lost items) (turned_word_of item)

-- these items, and one more that none of them is
abbrev pub with_lost : List Lost → Option Lost → Option (List Lost)
with_lost items None = None
with_lost items (Some item) = if is_repeated items item then None else Some (items ++ item ∷ [])

-- the items so far, if there are any, with what each of these parts says as one more
abbrev pub down_from : Option (List Lost) → List (List ℕ) → Option (List Lost)
down_from items [] = items
down_from None (part ∷ parts) = None
down_from (Some items) (part ∷ parts) = down_from (with_lost items (lost_of part)) parts

-- routers and pairs with commas between them, none of them twice in either order
unfoldable pub down_of : List ℕ → Option (List Lost)
down_of word = down_from (Some []) (parts_of word)
