-- Names that have a place, and the first of several names that has none.
use Rattle.std.proofs.Common.{◌≡◌, ℕ, Bool, not, ◌||◌, List, [], ◌∷◌, ◌++◌, map, refl, sym, ap, ◌∙◌, Option, Some, None, bytes_eq}
use Rattle.std.specs.List.{list_any}
use Rattle.std.specs.Option.{is_some, option_or}
use Rattle.std.proofs.lemmas.List.Folds.{find-append}
use Rattle.cfg_ast.specs.declared.network.Router.{Router}
use Rattle.numbered_names.proofs.Firsts.{any_some}
use Rattle.numbered_names.specs.NamePlaces.{ArePlacesOf, place_in}
use Rattle.numbered_names.specs.declared.places.NamePlaces.{NamePlaces}
use Rattle.ask_words.specs.NameLists.{is_among}
use Rattle.ask_names.specs.Routers.{unknown_in}

any_map : {X : Type 0} (f : X → List ℕ) (p : List ℕ → Bool) (xs : List X) → list_any p (map f xs) ≡ list_any (λ x. p (f x)) xs
any_map f p [] = refl
any_map f p (x ∷ xs) = ap (λ (b : Bool). p (f x) || b) (any_map f p xs)

-- a name has a place where it is that of a router
pub placed_among : (places : NamePlaces) (routers : List Router) (name : List ℕ) → ArePlacesOf (λ (router : Router). router.name) places routers
    → is_some (place_in places name) ≡ is_among (map (λ (router : Router). router.name) routers) name
placed_among places routers name are = ap (λ (o : Option ℕ). is_some o) (are.each name)
    ∙ sym (any_some (λ (router : Router). bytes_eq name router.name) routers)
    ∙ sym (any_map (λ (router : Router). router.name) (bytes_eq name) routers)

-- the same of a list of names
pub placed_name : (places : NamePlaces) (names : List (List ℕ)) (name : List ℕ) → ArePlacesOf (λ (text : List ℕ). text) places names
    → is_some (place_in places name) ≡ is_among names name
placed_name places names name are = ap (λ (o : Option ℕ). is_some o) (are.each name) ∙ sym (any_some (bytes_eq name) names)

-- an unknown name of the first list is that of both, and else one of the second is
pub unknown_first : (names xs ys : List (List ℕ)) (name : List ℕ) → unknown_in names xs ≡ Some name → unknown_in names (xs ++ ys) ≡ Some name
unknown_first names xs ys name e = find-append (λ n. not (is_among names n)) xs ys
    ∙ ap (λ (o : Option (List ℕ)). option_or o (unknown_in names ys)) e

pub unknown_second : (names xs ys : List (List ℕ)) → unknown_in names xs ≡ None → unknown_in names (xs ++ ys) ≡ unknown_in names ys
unknown_second names xs ys e = find-append (λ n. not (is_among names n)) xs ys
    ∙ ap (λ (o : Option (List ℕ)). option_or o (unknown_in names ys)) e
