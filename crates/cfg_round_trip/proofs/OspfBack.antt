-- The printed lines of an OSPF process are read back as the process.
use Rattle.std.proofs.Common.{◌≡◌, ℕ, Bool, true, false, List, [], ◌∷◌, ◌++◌, map, Ok, refl, sym, ap, ◌∙◌}
use Rattle.std.specs.Prelude.{bytes_eq}
use Rattle.std.specs.List.{AllByRecursion, IsDistinct, list_any}
use Rattle.std.proofs.lemmas.List.{append-nil}
use Rattle.cfg_ast.specs.declared.ospf.AreaLine.{AreaLine}
use Rattle.cfg_ast.specs.declared.ospf.OspfProcess.{OspfProcess}
use Rattle.cfg_ast.specs.declared.items.Scope.TheVariants as scope
use Rattle.cfg_ast.specs.declared.items.RouterItem.{RouterItem}
use Rattle.cfg_ast.specs.text.TextLines.{TextLine}
use Rattle.cfg_ast.specs.text.RouterForms.{router_item_of}
use Rattle.cfg_ast.specs.text.Stanzas.{with_text, same_area_line, with_area, set_ospf}
use Rattle.cfg_ast.specs.text.Reading.{in_ospf, take_inner}
use Rattle.cfg_ast.specs.printing.Printed.{line_if, closing, passive_default_line, passive_line, not_passive_line, network_area_line}
use Rattle.cfg_ast.specs.printing.Bare.{bare_area, bare_ospf}
use Rattle.cfg_ast.specs.printing.WellFormed.{IsInterfaceName, IsWellFormedArea, IsWellFormedOspf}
use Rattle.given_laws.proofs.Each.{all_weaker}
use Rattle.given_laws.proofs.StanzaSteps.{bytes_other, area_swap}
use Rattle.cfg_round_trip.proofs.ItemsBack.{passive_default_item, passive_item, not_passive_item, area_item}
use Rattle.cfg_round_trip.proofs.ReadBack.{at_stanza, Inner, inner_none, inner_then, inner_line, inner_closing, AreNew, new_to_none, new_to_more, grown}

taken : (l : TextLine) (o p : OspfProcess) (said : RouterItem) → router_item_of scope.Ospf l.number l.words ≡ Ok said → set_ospf said o ≡ p →
    take_inner l (in_ospf o) ≡ Ok (in_ospf p)
unfolding take_inner
taken l o p said read set = rw (read, set) refl

abbrev process_with : ℕ → Bool → List (List ℕ) → List (List ℕ) → List AreaLine → OspfProcess
process_with number default passive other areas =
    record { number = number; line = 0; passive_default = default; passive = passive; not_passive = other; areas = areas }

default_stage : (number : ℕ) (default : Bool) →
    Inner (line_if default passive_default_line) (in_ospf (process_with number false [] [] [])) (in_ospf (process_with number default [] [] []))
unfolding set_ospf
default_stage number false = inner_none _
default_stage number true = inner_line passive_default_line _ _ refl refl (taken passive_default_line _ _ _ passive_default_item refl)

-- ---- names

-- a later name is compared with the earlier ones
abbrev same_name : List ℕ → List ℕ → Bool
same_name earlier later = bytes_eq later earlier

name_is_new : (done : List (List ℕ)) (name : List ℕ) → list_any (λ earlier. same_name earlier name) done ≡ false → with_text done name ≡ done ++ name ∷ []
unfolding with_text
name_is_new done name new = rw new refl

names_swap : (name : List ℕ) (names : List (List ℕ)) → AllByRecursion (λ other. bytes_eq name other ≡ false) names →
    AllByRecursion (λ other. same_name name other ≡ false) names
names_swap name names differ = all_weaker (λ other. bytes_eq name other ≡ false) (λ other. same_name name other ≡ false)
    (λ other apart. bytes_other name other apart) names differ

passive_stage : (number : ℕ) (default : Bool) (done names : List (List ℕ)) → AllByRecursion IsInterfaceName names → IsDistinct bytes_eq names →
    AreNew same_name done names
    → Inner (map passive_line names) (in_ospf (process_with number default done [] [])) (in_ospf (process_with number default (done ++ names) [] []))
unfolding set_ospf IsDistinct
passive_stage number default done [] are once new rs d =
    inner_none _ rs d ∙ ap (λ (names : List (List ℕ)). Ok (at_stanza rs d (in_ospf (process_with number default names [] [])))) (sym (append-nil done))
passive_stage number default done (name ∷ names) are once new rs d =
    inner_then (passive_line name ∷ []) (map passive_line names) _ (in_ospf (process_with number default (done ++ name ∷ []) [] [])) _
    (inner_line (passive_line name) _ _ refl refl
    (taken (passive_line name) _ _ _ (passive_item name are.0)
    (ap (λ (ns : List (List ℕ)). process_with number default ns [] []) (name_is_new done name new.0))))
    (passive_stage number default (done ++ name ∷ []) names are.1 once.1 (new_to_more same_name done name names new.1 (names_swap name names once.0))) rs d
    ∙ ap (λ (ns : List (List ℕ)). Ok (at_stanza rs d (in_ospf (process_with number default ns [] [])))) (grown done name names)

other_stage : (number : ℕ) (default : Bool) (passive done names : List (List ℕ)) → AllByRecursion IsInterfaceName names → IsDistinct bytes_eq names →
    AreNew same_name done names
    → Inner (map not_passive_line names) (in_ospf (process_with number default passive done []))
    (in_ospf (process_with number default passive (done ++ names) []))
unfolding set_ospf IsDistinct
other_stage number default passive done [] are once new rs d =
    inner_none _ rs d ∙ ap (λ (names : List (List ℕ)). Ok (at_stanza rs d (in_ospf (process_with number default passive names [])))) (sym (append-nil done))
other_stage number default passive done (name ∷ names) are once new rs d =
    inner_then (not_passive_line name ∷ []) (map not_passive_line names) _ (in_ospf (process_with number default passive (done ++ name ∷ []) [])) _
    (inner_line (not_passive_line name) _ _ refl refl
    (taken (not_passive_line name) _ _ _ (not_passive_item name are.0)
    (ap (λ (ns : List (List ℕ)). process_with number default passive ns []) (name_is_new done name new.0))))
    (other_stage number default passive (done ++ name ∷ []) names are.1 once.1 (new_to_more same_name done name names new.1 (names_swap name names once.0))) rs
    d
    ∙ ap (λ (ns : List (List ℕ)). Ok (at_stanza rs d (in_ospf (process_with number default passive ns [])))) (grown done name names)

-- ---- areas

abbrev later_area : AreaLine → AreaLine → Bool
later_area earlier later = same_area_line later earlier

area_is_new : (done : List AreaLine) (area : AreaLine) → list_any (λ earlier. later_area earlier area) done ≡ false → with_area done (bare_area area) ≡ done
    ++ bare_area area ∷ []
unfolding with_area
area_is_new done area new = rw new refl

areas_swap : (area : AreaLine) (areas : List AreaLine) → AllByRecursion (λ other. same_area_line area other ≡ false) areas →
    AllByRecursion (λ other. later_area (bare_area area) other ≡ false) areas
areas_swap area areas differ = all_weaker (λ other. same_area_line area other ≡ false) (λ other. later_area (bare_area area) other ≡ false)
    (λ other apart. area_swap other area ∙ apart) areas differ

areas_stage : (number : ℕ) (default : Bool) (passive other : List (List ℕ)) (done areas : List AreaLine) → AllByRecursion IsWellFormedArea areas →
    IsDistinct same_area_line areas → AreNew later_area done areas
    → Inner (map network_area_line areas) (in_ospf (process_with number default passive other done))
    (in_ospf (process_with number default passive other (done ++ map bare_area areas)))
unfolding set_ospf network_area_line IsDistinct
areas_stage number default passive other done [] are once new rs d =
    inner_none _ rs d ∙ ap (λ (areas : List AreaLine). Ok (at_stanza rs d (in_ospf (process_with number default passive other areas)))) (sym (append-nil done))
areas_stage number default passive other done (area ∷ areas) are once new rs d =
    inner_then (network_area_line area ∷ []) (map network_area_line areas) _ (in_ospf (process_with number default passive other (done ++ bare_area area ∷ [])))
    _
    (inner_line (network_area_line area) _ _ refl refl
    (taken (network_area_line area) _ _ _ (area_item area are.0)
    (ap (λ (ns : List AreaLine). process_with number default passive other ns) (area_is_new done area new.0))))
    (areas_stage number default passive other (done ++ bare_area area ∷ []) areas are.1 once.1
    (new_to_more later_area done (bare_area area) areas new.1 (areas_swap area areas once.0))) rs d
    ∙ ap (λ (ns : List AreaLine). Ok (at_stanza rs d (in_ospf (process_with number default passive other ns))))
    (grown done (bare_area area) (map bare_area areas))

-- ---- the process

-- the lines behind the first
abbrev pub ospf_rest : OspfProcess → List TextLine
ospf_rest o = line_if o.passive_default passive_default_line ++ map passive_line o.passive ++ map not_passive_line o.not_passive
    ++ map network_area_line o.areas ++ closing ∷ []

pub ospf_inner : (o : OspfProcess) → IsWellFormedOspf o → Inner (ospf_rest o) (in_ospf (process_with o.number false [] [] [])) (in_ospf (bare_ospf o))
ospf_inner o is =
    let one = line_if o.passive_default passive_default_line in
    let two = map passive_line o.passive in
    let three = map not_passive_line o.not_passive in
    let four = map network_area_line o.areas in
    inner_then (one ++ two ++ three ++ four) (closing ∷ []) _ _ _
    (inner_then (one ++ two ++ three) four _ _ _
    (inner_then (one ++ two) three _ _ _
    (inner_then one two _ _ _ (default_stage o.number o.passive_default)
    (passive_stage o.number o.passive_default [] o.passive is.passive is.passive_once (new_to_none same_name o.passive)))
    (other_stage o.number o.passive_default o.passive [] o.not_passive is.not_passive is.not_passive_once (new_to_none same_name o.not_passive)))
    (areas_stage o.number o.passive_default o.passive o.not_passive [] o.areas is.areas is.areas_once (new_to_none later_area o.areas)))
    (inner_closing (in_ospf (bare_ospf o)))
