-- The compact text of the values of a report is its line of JSON.
use Rattle.std.proofs.Common.{◌≡◌, ◌+◌, arith, ℕ, Bool, true, false, List, [], ◌∷◌, ◌++◌, ◌||◌, codes, decimal, map, length, refl, sym, ap, ◌∙◌, append_assoc}
use Rattle.std.specs.List.{join_with_byte, range_with_len}
use Rattle.std.proofs.lemmas.List.{map-append}
use Rattle.std.proofs.lemmas.List.FromFn.{map-range_with_len_more}
use Rattle.json.specs.Print.{quoted, escape_byte}
use Rattle.base_kit.specs.Partition.{members_of}
use Rattle.cfg_ast.specs.declared.topology.Unmatched.{Unmatched}
use Rattle.cfg_ast.specs.printing.Printed.{address_text}
use Rattle.srp_core.specs.Problem.{Problem, count, is_lone}
use Rattle.serde_json.specs.Data.{Data, boolean}
use Rattle.serde_json.specs.View.{items_of, view}
use Rattle.serde_json.specs.declared.value.Value.{Value}
use Rattle.serde_json.specs.Written.{compact_text, items_text, comma_if, has_float, items_have_float}
use Rattle.group_report.specs.GroupLines.{originates}
use Rattle.group_report.specs.Reports.{Report}
use Rattle.group_report.specs.JsonText.{boolean_text, json_list, name_string, member_that_names, group_object, object_of_group, group_objects, counts_object, unmatched_object, json_object, json_text}
use Rattle.group_report.specs.JsonData.{list_data, name_data, group_data, data_of_group, groups_data, counts_data, unmatched_data, report_data}

-- ---- lists

map_map : {X Y Z : Type 0} (f : Y → Z) (g : X → Y) (h : X → Z) (xs : List X) → ((x : X) → f (g x) ≡ h x) → map f (map g xs) ≡ map h xs
map_map f g h [] same = refl
map_map f g h (x ∷ xs) same = λ j. same x j ∷ map_map f g h xs same j

-- items, the first of which has no comma before it
items_from : (d : Data) (ds : List Data) → compact_text d ++ items_text true (items_of ds) ≡ join_with_byte 44 (map compact_text (d ∷ ds)) ++ 93 ∷ []
items_from d [] = refl
items_from d (e ∷ ds) =
    ap (λ (t : List ℕ). compact_text d ++ 44 ∷ t) (items_from e ds)
    ∙ sym (append_assoc (compact_text d) (44 ∷ join_with_byte 44 (map compact_text (e ∷ ds))) (93 ∷ []))

list_text : (ds : List Data) → compact_text (list_data ds) ≡ json_list (map compact_text ds)
list_text [] = refl
list_text (d ∷ ds) = ap (λ (t : List ℕ). 91 ∷ t) (items_from d ds)

-- a list of values that have these texts
list_of : {X : Type 0} (value : X → Data) (text : X → List ℕ) (xs : List X) → ((x : X) → compact_text (value x) ≡ text x) →
    compact_text (list_data (map value xs)) ≡ json_list (map text xs)
list_of value text xs same = list_text (map value xs) ∙ ap json_list (map_map compact_text value text xs same)

-- ---- objects

-- the members of an object, by their keys and texts
abbrev member_texts : Bool → List (List ℕ × List ℕ) → List ℕ
member_texts later [] = 125 ∷ []
member_texts later ((k, t) ∷ ms) = comma_if later ++ (quoted k ++ 58 ∷ (t ++ member_texts true ms))

abbrev object_text : List (List ℕ × List ℕ) → List ℕ
object_text ms = 123 ∷ member_texts false ms

boolean_is : (b : Bool) → compact_text (boolean b) ≡ boolean_text b
boolean_is true = refl
boolean_is false = refl

group_shape : (lone members name origin : List ℕ)
    → object_text ((codes "lone", lone) ∷ (codes "members", members) ∷ (codes "name", name) ∷ (codes "origin", origin) ∷ [])
    ≡ codes "{\"lone\":" ++ lone ++ codes ",\"members\":" ++ members ++ codes ",\"name\":" ++ name ++ codes ",\"origin\":" ++ origin ++ codes "}"
unfolding escape_byte
group_shape lone members name origin = simp append_assoc

counts_shape : (after before : List ℕ)
    → object_text ((codes "after", after) ∷ (codes "before", before) ∷ [])
    ≡ codes "{\"after\":" ++ after ++ codes ",\"before\":" ++ before ++ codes "}"
unfolding escape_byte
counts_shape after before = simp append_assoc

unmatched_shape : (address router : List ℕ)
    → object_text ((codes "address", address) ∷ (codes "router", router) ∷ [])
    ≡ codes "{\"address\":" ++ address ++ codes ",\"router\":" ++ router ++ codes "}"
unfolding escape_byte
unmatched_shape address router = simp append_assoc

report_shape : (class groups links routers unmatched : List ℕ)
    → object_text ((codes "class", class) ∷ (codes "groups", groups) ∷ (codes "links", links) ∷ (codes "routers", routers) ∷ (codes "unmatched", unmatched)
    ∷ [])
    ≡ codes "{\"class\":" ++ class ++ codes ",\"groups\":" ++ groups ++ codes ",\"links\":" ++ links ++ codes ",\"routers\":" ++ routers
    ++ codes ",\"unmatched\":" ++ unmatched ++ codes "}"
unfolding escape_byte
report_shape class groups links routers unmatched = simp append_assoc

group_text : (problem : Problem) (members : List ℕ) → compact_text (group_data problem members) ≡ group_object problem members
group_text problem members =
    let first = member_that_names members in
    let texts : object_text ((codes "lone", compact_text (boolean (is_lone problem first)))
    ∷ (codes "members", compact_text (list_data (map (name_data problem) members))) ∷ (codes "name", name_string problem first)
    ∷ (codes "origin", compact_text (boolean (originates problem first))) ∷ [])
    ≡ object_text ((codes "lone", boolean_text (is_lone problem first)) ∷ (codes "members", json_list (map (name_string problem) members))
    ∷ (codes "name", name_string problem first) ∷ (codes "origin", boolean_text (originates problem first)) ∷ []) =
    λ j. object_text ((codes "lone", boolean_is (is_lone problem first) j)
    ∷ (codes "members", list_of (name_data problem) (name_string problem) members (λ x. refl) j) ∷ (codes "name", name_string problem first)
    ∷ (codes "origin", boolean_is (originates problem first) j) ∷ []) in
    texts ∙ group_shape (boolean_text (is_lone problem first)) (json_list (map (name_string problem) members)) (name_string problem first)
    (boolean_text (originates problem first))

counts_text : (after before : ℕ) → compact_text (counts_data after before) ≡ counts_object after before
counts_text after before = counts_shape (decimal after) (decimal before)

unmatched_text : (problem : Problem) (neighbor : Unmatched) → compact_text (unmatched_data problem neighbor) ≡ unmatched_object problem neighbor
unmatched_text problem neighbor = unmatched_shape (quoted (address_text neighbor.addr)) (name_string problem neighbor.router)

groups_text : (problem : Problem) (groups : List ℕ) (count : ℕ) →
    compact_text (list_data (groups_data problem groups count)) ≡ group_objects problem groups count
groups_text problem groups count = list_of (data_of_group problem groups) (object_of_group problem groups) (range_with_len 0 count)
    (λ group. group_text problem (members_of groups group))

module _ (r : Report) where
  texts : compact_text (report_data r) ≡ object_text ((codes "class", decimal r.class_number) ∷ (codes "groups", group_objects r.problem r.groups r.group_count)
      ∷ (codes "links", counts_object (length r.links) r.links_before) ∷ (codes "routers", counts_object r.group_count (count r.problem))
      ∷ (codes "unmatched", json_list (map (unmatched_object r.problem) r.unmatched)) ∷ [])
  texts = λ j. object_text ((codes "class", decimal r.class_number) ∷ (codes "groups", groups_text r.problem r.groups r.group_count j)
      ∷ (codes "links", counts_text (length r.links) r.links_before j) ∷ (codes "routers", counts_text r.group_count (count r.problem) j)
      ∷ (codes "unmatched", list_of (unmatched_data r.problem) (unmatched_object r.problem) r.unmatched (unmatched_text r.problem) j) ∷ [])

  pub report_object : compact_text (report_data r) ≡ json_object r
  report_object = texts ∙ report_shape (decimal r.class_number) (group_objects r.problem r.groups r.group_count) (counts_object (length r.links) r.links_before)
      (counts_object r.group_count (count r.problem)) (json_list (map (unmatched_object r.problem) r.unmatched))

-- ---- no floats

no_floats : {X : Type 0} (value : X → Data) (xs : List X) → ((x : X) → has_float (value x) ≡ false) → items_have_float (items_of (map value xs)) ≡ false
no_floats value [] none = refl
no_floats value (x ∷ xs) none = λ j. none x j || no_floats value xs none j

group_has_none : (problem : Problem) (members : List ℕ) → has_float (group_data problem members) ≡ false
group_has_none problem members = λ j. no_floats (name_data problem) members (λ x. refl) j || false

pub has_none : (r : Report) → has_float (report_data r) ≡ false
has_none r = λ j. no_floats (data_of_group r.problem r.groups) (range_with_len 0 r.group_count) (λ group. group_has_none r.problem (members_of r.groups group))
    j || (no_floats (unmatched_data r.problem) r.unmatched (λ x. refl) j || false)

-- the line of values that are those of a report
pub line_of_report : (r : Report) (d : Data) (bytes : List ℕ) → (has_float d ≡ false → bytes ≡ compact_text d ++ codes "\n") → d ≡ report_data r
    → bytes ≡ json_text r
line_of_report r d bytes line same =
    let none : has_float d ≡ false = ap has_float same ∙ has_none r in
    let text : compact_text d ≡ json_object r = ap compact_text same ∙ report_object r in
    line none ∙ ap (λ (t : List ℕ). t ++ codes "\n") text

-- ---- lists of values

-- one value more
pub one_more_value : (make : ℕ → Data) (old new : List Value) (value : Value) (n : ℕ) → new ≡ old ++ value ∷ [] → view value ≡ make n →
    map view old ≡ map make (range_with_len 0 n) → map view new ≡ map make (range_with_len 0 (n + 1))
one_more_value make old new value n step is before =
    let at : 0 + n ≡ n = omega arith in
    ap (map view) step ∙ map-append view old (value ∷ []) ∙ (λ j. before j ++ is j ∷ []) ∙ sym (map-range_with_len_more make 0 n n at)
