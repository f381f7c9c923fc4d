-- What a line of a solution says: the name of a router and the router's label. A word `AS*N` stands for
-- N times that number, as a router writes it when its number is put before a path several times (RFC 4271
-- section 5.1.2); communities are those of RFC 1997, none of them well-known.
use Rattle.std.specs.Prelude.{ℕ, Bool, ◌++◌, ◌&&◌, List, [], ◌∷◌, ◌==◌, nat_lt, replicate, if◌then◌else◌, Option, Some, None, codes, bytes_eq}
use Rattle.std.specs.Option.{option_map, option_and_then}
use Rattle.std.specs.List.{list_any, before_first, after_first}
use Rattle.cfg_ast.specs.text.Words.{is_router_name, number_word, number_between, as_number_word, community_word}
use Rattle.srp_core.specs.declared.route.Route.{Route}
use Rattle.srp_core.specs.declared.route.Route.TheVariants.{Bgp, Ospf}

-- ---- paths

abbrev pub is_star : ℕ → Bool
is_star b = b == 42

-- an AS number as often as the number says
abbrev pub several_times : List ℕ → List ℕ → Option (List ℕ)
several_times word times =
    option_and_then (λ number. option_map (λ count. replicate count number) (number_between 2 11 times)) (as_number_word word)

-- a word of a path: an AS number, or `AS*N` with N from 2 to 11
unfoldable pub piece_of : List ℕ → Option (List ℕ)
piece_of word =
    if list_any is_star word then several_times (before_first is_star word) (after_first is_star word)
    else option_map (λ number. number ∷ []) (as_number_word word)

abbrev pub is_comms : List ℕ → Bool
is_comms word = bytes_eq word (codes "comms")

abbrev pub behind : List ℕ → List ℕ × List (List ℕ) → List ℕ × List (List ℕ)
behind piece (path, rest) = (piece ++ path, rest)

-- the numbers of a path, up to the word `comms`, and the words behind it
unfoldable pub path_of_words : List (List ℕ) → Option (List ℕ × List (List ℕ))
path_of_words [] = None
path_of_words (word ∷ words) =
    if is_comms word then Some ([], words)
    else option_and_then (λ piece. option_map (behind piece) (path_of_words words)) (piece_of word)

-- ---- communities

-- a community above the bound that is not well-known
abbrev pub above : ℕ → ℕ → Option ℕ
above bound community = if nat_lt bound community && nat_lt community 4294901760 then Some community else None

unfoldable pub community_above : ℕ → List ℕ → Option ℕ
community_above bound word = option_and_then (above bound) (community_word word)

-- communities in ascending order, all above the bound
unfoldable pub communities_above : ℕ → List (List ℕ) → Option (List ℕ)
communities_above bound [] = Some []
communities_above bound (word ∷ words) =
    option_and_then (λ community. option_map (λ rest. community ∷ rest) (communities_above community words)) (community_above bound word)

-- ---- labels

abbrev pub bgp_route : ℕ → List ℕ × List (List ℕ) → Option Route
bgp_route preference (path, words) = option_map (λ comms. Bgp preference path comms) (communities_above 0 words)

-- LP path AS .. comms C ..
unfoldable pub bgp_label_form : List (List ℕ) → Option Route
bgp_label_form (preference ∷ mark ∷ words) =
    if bytes_eq mark (codes "path") then option_and_then (λ lp. option_and_then (bgp_route lp) (path_of_words words)) (number_word preference)
    else None
bgp_label_form _ = None

-- C
abbrev pub ospf_label_form : List (List ℕ) → Option Route
ospf_label_form (cost ∷ []) = option_map (λ c. Ospf c) (number_word cost)
ospf_label_form _ = None

-- no word more
abbrev pub none_form : List (List ℕ) → Option (Option Route)
none_form [] = Some None
none_form _ = None

-- none, or cost C, or bgp LP path AS .. comms C ..
unfoldable pub label_form : List ℕ → List (List ℕ) → Option (Option Route)
label_form word words =
    if bytes_eq word (codes "none") then none_form words
    else (if bytes_eq word (codes "cost") then option_map (λ r. Some r) (ospf_label_form words)
    else (if bytes_eq word (codes "bgp") then option_map (λ r. Some r) (bgp_label_form words)
    else None))

-- ---- lines

-- a router's name and its label
pub record NamedLabel : Type 0 where
  pub name : List ℕ
  pub label : Option Route

abbrev pub saying : List ℕ → Option Route → NamedLabel
saying name label = record { name = name; label = label }

-- what the words of a line say, if they are of one of the forms
unfoldable pub named_label_of : List (List ℕ) → Option NamedLabel
named_label_of (name ∷ word ∷ words) = if is_router_name name then option_map (saying name) (label_form word words) else None
named_label_of _ = None
