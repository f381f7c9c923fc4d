-- The lines of an interface, of an OSPF process and of an entry of a route map keep what is well formed.
use Rattle.std.proofs.Common.{◌≡◌, ℕ, Bool, true, false, List, [], ◌∷◌, ◌++◌, refl, sym, ◌∙◌, inl, inr}
use Rattle.std.specs.Prelude.{IfOk, bytes_eq, is_some, ◌==◌, if◌then◌else◌}
use Rattle.std.specs.List.{AllByRecursion, IsDistinct, list_any}
use Rattle.std.proofs.lemmas.Bool.{eqb-true, eqb-false, eq-eqb, ne_eqb, cases_Bool}
use Rattle.std.proofs.lemmas.Slice.Eq.{bytes_eq-Decides}
use Rattle.cfg_ast.specs.declared.interface.Interface.{Interface}
use Rattle.cfg_ast.specs.declared.ospf.AreaLine.{AreaLine}
use Rattle.cfg_ast.specs.declared.ospf.OspfProcess.{OspfProcess}
use Rattle.cfg_ast.specs.declared.policy.MapEntry.{MapEntry}
use Rattle.cfg_ast.specs.declared.items.RouterItem.{RouterItem}
use Rattle.cfg_ast.specs.declared.items.RouterItem.TheVariants as item
use Rattle.cfg_ast.specs.declared.items.PolicyItem.{PolicyItem}
use Rattle.cfg_ast.specs.declared.items.PolicyItem.TheVariants as policy
use Rattle.cfg_ast.specs.text.Stanzas.{set_interface, with_text, same_area_line, with_area, set_ospf}
use Rattle.cfg_ast.specs.text.PolicyLines.{set_entry}
use Rattle.cfg_ast.specs.printing.WellFormed.{IsInterfaceName, IsWellFormedInterface, IsWellFormedArea, IsWellFormedOspf, IsWellFormedMapEntry}
use Rattle.given_laws.proofs.Given.{stands_once}
use Rattle.given_laws.proofs.Each.{all_push, distinct_push, none_pass, all_weaker}
use Rattle.given_laws.proofs.RouterItems.{IsRouterItem}
use Rattle.given_laws.proofs.PolicyItems.{IsPolicyItem}

-- ---- an interface

-- well formed, and of the same name
abbrev pub IsInterfaceOf : Interface → Interface → Type 0
IsInterfaceOf i j = IsWellFormedInterface j × (j.name ≡ i.name)

pub interface_step : (n : ℕ) (said : RouterItem) (i : Interface) → IsRouterItem said → IsWellFormedInterface i → IfOk (set_interface n said i) (IsInterfaceOf i)
unfolding set_interface
interface_step n (item.IpAddress address) i said is =
    stands_once (IsInterfaceOf i) n (is_some i.address) _ (λ e. (record { name = is.name; address = said; cost = is.cost }, refl))
interface_step n (item.Cost cost) i said is =
    stands_once (IsInterfaceOf i) n (is_some i.cost) _ (λ e. (record { name = is.name; address = is.address; cost = said }, refl))
interface_step n item.Shutdown i said is = (record { name = is.name; address = is.address; cost = is.cost }, refl)
interface_step n _ i said is = (is, refl)

-- ---- an OSPF process

pub bytes_other : (m n : List ℕ) → bytes_eq m n ≡ false → bytes_eq n m ≡ false
bytes_other m n other = elim (cases_Bool (bytes_eq n m)) [
  | inl same ↦ let back : bytes_eq m n ≡ true = (bytes_eq-Decides m n).1 (sym ((bytes_eq-Decides n m).0 same)) in absurd cc
  | inr not ↦ not
]

abbrev AreOnce : List (List ℕ) → Type 0
AreOnce names = AllByRecursion IsInterfaceName names × IsDistinct bytes_eq names

text_step : (names : List (List ℕ)) (name : List ℕ) → AreOnce names → IsInterfaceName name → AreOnce (with_text names name)
unfolding with_text
text_step names name are is = by (list_any (bytes_eq name) names) refl
  where
    by : (b : Bool) → list_any (bytes_eq name) names ≡ b → AreOnce (if b then names else names ++ name ∷ [])
    by true some = are
    by false none = (
      all_push IsInterfaceName names name are.0 is,
      distinct_push bytes_eq names name are.1 (all_weaker (λ other. bytes_eq name other ≡ false) (λ other. bytes_eq other name ≡ false)
          (λ other. bytes_other name other) names (none_pass (bytes_eq name) names none)),
    )

number_swap : (m n : ℕ) → (m == n) ≡ (n == m)
number_swap m n = elim (cases_Bool (m == n)) [
  | inl same ↦ same ∙ sym (eq-eqb n m (sym (eqb-true m n same)))
  | inr other ↦ other ∙ sym (ne_eqb n m (λ e. eqb-false m n other (sym e)))
]

pub area_swap : (a b : AreaLine) → same_area_line a b ≡ same_area_line b a
area_swap a b = rw (number_swap a.addr b.addr, number_swap a.wild b.wild, number_swap a.area b.area) refl

abbrev AreAreas : List AreaLine → Type 0
AreAreas areas = AllByRecursion IsWellFormedArea areas × IsDistinct same_area_line areas

area_step : (areas : List AreaLine) (area : AreaLine) → AreAreas areas → IsWellFormedArea area → AreAreas (with_area areas area)
unfolding with_area
area_step areas area are is = by (list_any (same_area_line area) areas) refl
  where
    by : (b : Bool) → list_any (same_area_line area) areas ≡ b → AreAreas (if b then areas else areas ++ area ∷ [])
    by true some = are
    by false none = (
      all_push IsWellFormedArea areas area are.0 is,
      distinct_push same_area_line areas area are.1
          (all_weaker (λ other. same_area_line area other ≡ false) (λ other. same_area_line other area ≡ false) (λ other apart. area_swap other area ∙ apart)
          areas (none_pass (same_area_line area) areas none)),
    )

pub ospf_step : (said : RouterItem) (o : OspfProcess) → IsRouterItem said → IsWellFormedOspf o → IsWellFormedOspf (set_ospf said o)
unfolding set_ospf
ospf_step (item.Area area) o said is =
    let more = area_step o.areas area (is.areas, is.areas_once) said in
    record {
      number = is.number;
      passive = is.passive;
      passive_once = is.passive_once;
      not_passive = is.not_passive;
      not_passive_once = is.not_passive_once;
      areas = more.0;
      areas_once = more.1;
    }
ospf_step item.PassiveDefault o said is =
    record {
      number = is.number;
      passive = is.passive;
      passive_once = is.passive_once;
      not_passive = is.not_passive;
      not_passive_once = is.not_passive_once;
      areas = is.areas;
      areas_once = is.areas_once;
    }
ospf_step (item.Passive name) o said is =
    let more = text_step o.passive name (is.passive, is.passive_once) said in
    record {
      number = is.number;
      passive = more.0;
      passive_once = more.1;
      not_passive = is.not_passive;
      not_passive_once = is.not_passive_once;
      areas =
          is.areas;
      areas_once = is.areas_once;
    }
ospf_step (item.NotPassive name) o said is =
    let more = text_step o.not_passive name (is.not_passive, is.not_passive_once) said in
    record {
      number = is.number;
      passive = is.passive;
      passive_once = is.passive_once;
      not_passive = more.0;
      not_passive_once = more.1;
      areas = is.areas;
      areas_once = is.areas_once;
    }
ospf_step _ o said is = is

-- ---- an entry of a route map

-- well formed, and of the same sequence number
abbrev pub IsEntryOf : MapEntry → MapEntry → Type 0
IsEntryOf e f = IsWellFormedMapEntry f × (f.seq ≡ e.seq)

pub entry_step : (n : ℕ) (said : PolicyItem) (e : MapEntry) → IsPolicyItem said → IsWellFormedMapEntry e → IfOk (set_entry n said e) (IsEntryOf e)
unfolding set_entry
entry_step n (policy.MatchPrefixes names) e said is =
    stands_once (IsEntryOf e) n (is_some e.prefixes) _
    (λ b. (
      record {
        seq = is.seq;
        prefixes = said;
        comms = is.comms;
        exact = is.exact;
        lp = is.lp;
        change = is.change;
        delete = is.delete;
        prepend =
            is.prepend;
      },
      refl,
    ))
entry_step n (policy.MatchComms names exact) e said is =
    stands_once (IsEntryOf e) n (is_some e.comms) _
    (λ b. (
      record {
        seq = is.seq;
        prefixes = is.prefixes;
        comms = said.0;
        exact = said.1;
        lp = is.lp;
        change = is.change;
        delete = is.delete;
        prepend =
            is.prepend;
      },
      refl,
    ))
entry_step n (policy.Lp lp) e said is =
    stands_once (IsEntryOf e) n (is_some e.lp) _
    (λ b. (
      record {
        seq = is.seq;
        prefixes = is.prefixes;
        comms = is.comms;
        exact = is.exact;
        lp = said;
        change = is.change;
        delete = is.delete;
        prepend =
            is.prepend;
      },
      refl,
    ))
entry_step n (policy.Comms change) e said is =
    stands_once (IsEntryOf e) n (is_some e.change) _
    (λ b. (
      record {
        seq = is.seq;
        prefixes = is.prefixes;
        comms = is.comms;
        exact = is.exact;
        lp = is.lp;
        change = said;
        delete = is.delete;
        prepend =
            is.prepend;
      },
      refl,
    ))
entry_step n (policy.Delete list) e said is =
    stands_once (IsEntryOf e) n (is_some e.delete) _
    (λ b. (
      record {
        seq = is.seq;
        prefixes = is.prefixes;
        comms = is.comms;
        exact = is.exact;
        lp = is.lp;
        change = is.change;
        delete = said;
        prepend =
            is.prepend;
      },
      refl,
    ))
entry_step n (policy.Prepend prepend) e said is =
    stands_once (IsEntryOf e) n (is_some e.prepend) _
    (λ b. (
      record {
        seq = is.seq;
        prefixes = is.prefixes;
        comms = is.comms;
        exact = is.exact;
        lp = is.lp;
        change = is.change;
        delete = is.delete;
        prepend =
            said;
      },
      refl,
    ))
entry_step n _ e said is = (is, refl)
