-- What holds of the maps at the ends of sessions holds of the acts of a problem.
use Rattle.std.proofs.Common.{◌≡◌, ◌≢◌, ℕ, zero, suc, ◌<◌, true, false, List, [], ◌∷◌, Some, refl, sym, ◌∙◌, ap, subst, arith, inl, inr}
use Rattle.std.specs.Prelude.{Contains, slice_get, slice_index_or}
use Rattle.std.specs.List.{AllByRecursion}
use Rattle.std.proofs.lemmas.Bool.{cases_eq}
use Rattle.base_kit.specs.declared.act_graph.Edge.{Edge}
use Rattle.base_kit.specs.Prefixes.{Prefix}
use Rattle.base_kit.proofs.Elements.{contains_in, get_in}
use Rattle.cfg_ast.specs.declared.network.Network.{Network}
use Rattle.cfg_ast.specs.declared.network.Router.{Router}
use Rattle.cfg_ast.specs.meaning.PolicyFaults.{communities_of}
use Rattle.cfg_ast.specs.meaning.Policy.{name_of}
use Rattle.route_maps.specs.Printable.{IsPrintable}
use Rattle.route_maps.specs.Within.{IsMapWithin}
use Rattle.specialize.proofs.Printable.{printable_plain, printable_maps}
use Rattle.specialize.proofs.Within.{maps_stay_within}
use Rattle.srp_core.specs.declared.route.Act.{Act}
use Rattle.srp_core.specs.declared.route.Act.TheVariants.{Import, Cost}
use Rattle.srp_core.specs.ActMaps.{IsPrintableAct, IsActWithin}
use Rattle.srp_core.specs.Problem.{Problem, act_of}
use Rattle.srp_core.specs.ProblemOf.{Direction}
use Rattle.srp_build.specs.ActOrder.{AreActsByFirstUse}
use Rattle.srp_build.specs.FirstActs.{IsActOfLines, IsFirstWith, HasFirstActs}
use Rattle.srp_build.specs.Laws.{ActsPrint, ActsStayWithin}
use Rattle.srp_build.proofs.FirstUse.{within_get}

-- the first edge with an act
record FirstAt (edges : List Edge) (act : ℕ) : Type 0 where
  place : ℕ
  edge : Edge
  at : slice_get edges place ≡ Some edge
  same : edge.act ≡ act
  first : IsFirstWith edges place act

find_first : (edges : List Edge) (act k : ℕ) (edge : Edge) → slice_get edges k ≡ Some edge → edge.act ≡ act → FirstAt edges act
find_first [] act k edge at same = absurd cc
find_first (x ∷ xs) act zero edge at same =
    record { place = zero; edge = edge; at = at; same = same; first = record { first = λ earlier other less there. absurd (omega arith) } }
find_first (x ∷ xs) act (suc k) edge at same = elim (cases_eq x.act act) [
  | inl here ↦ record { place = zero; edge = x; at = refl; same = here; first = record { first = λ earlier other less there. absurd (omega arith) } }
  | inr not_here ↦ (
      let later = find_first xs act k edge at same in
      record {
        place = suc later.place;
        edge = later.edge;
        at = later.at;
        same = later.same;
        first =
            record { first = before x xs act later.place not_here later.first };
      })
]
  where
    before : (x : Edge) (xs : List Edge) (act place : ℕ) → x.act ≢ act → IsFirstWith xs place act → (earlier : ℕ) (other : Edge) → earlier < suc place →
        slice_get (x ∷ xs) earlier ≡ Some other → other.act ≢ act
    before x xs act place not_here later zero other less there = λ e. not_here (ap (λ (y : Edge). y.act) (let one : x ≡ other = cc in one) ∙ e)
    before x xs act place not_here later (suc earlier) other less there = later.first earlier other (omega arith) there

all_by : {X : Type 0} (P : X → Type 0) (xs : List X) → ((k : ℕ) (x : X) → slice_get xs k ≡ Some x → P x) → AllByRecursion P xs
all_by P [] each = tt
all_by P (x ∷ xs) each = (each zero x refl, all_by P xs (λ k y at. each (suc k) y at))

read_at : (acts : List Act) (k : ℕ) (act : Act) → slice_get acts k ≡ Some act → slice_index_or acts k (Cost 0) ≡ act
read_at [] k act at = absurd cc
read_at (x ∷ xs) zero act at = cc
read_at (x ∷ xs) (suc k) act at = read_at xs k act at

-- an act of a problem is that of the lines at the ends of an edge
of_lines : (n : Network) (p : Prefix) (problem : Problem) → AreActsByFirstUse problem → HasFirstActs n p problem → (P : Act → Type 0) →
    ((d : Direction) (act : Act) → IsActOfLines n p d act → P act) → AllByRecursion P problem.acts
of_lines n p problem order firsts P of_lines_there = all_by P problem.acts (λ k act at. (
    let used = order.used k (within_get problem.acts k act at) in
    let first = find_first problem.edges k used.earlier used.edge used.at used.same in
    let written = firsts.each first.place first.edge first.at (subst (λ (a : ℕ). IsFirstWith problem.edges first.place a) (sym first.same) first.first) in
    let read : act_of problem first.edge ≡ act = ap (λ (a : ℕ). slice_index_or problem.acts a (Cost 0)) first.same ∙ read_at problem.acts k act at in
    subst P read (of_lines_there written.d (act_of problem first.edge) written.act)))

router_in : (n : Network) (place : ℕ) (router : Router) → slice_get n.routers place ≡ Some router → Contains n.routers router
router_in n place router at = contains_in n.routers router (get_in n.routers place router at)

pub acts_print : ActsPrint
acts_print n p problem form defined single order firsts = of_lines n p problem order firsts IsPrintableAct print
  where
    print : (d : Direction) (act : Act) → IsActOfLines n p d act → IsPrintableAct act
    print d (Import out sends into) of = (
      subst IsPrintable (sym of.out_is) (printable_plain of.ends.exporter (name_of of.ends.exporter_line.map_out) (name_of of.ends.exporter_line.list_out) p
          false (printable_maps n of.ends.exporter form defined single (router_in n d.exporter of.ends.exporter of.ends.exporter_at))),
      subst IsPrintable (sym of.into_is) (printable_plain of.ends.importer (name_of of.ends.importer_line.map_in) (name_of of.ends.importer_line.list_in) p true
          (printable_maps n of.ends.importer form defined single (router_in n d.importer of.ends.importer of.ends.importer_at))),
    )
    print d (Cost cost) of = tt

pub acts_stay_within : ActsStayWithin
acts_stay_within n p problem order firsts = of_lines n p problem order firsts (IsActWithin (communities_of n)) within
  where
    within : (d : Direction) (act : Act) → IsActOfLines n p d act → IsActWithin (communities_of n) act
    within d (Import out sends into) of = (
      subst (IsMapWithin (communities_of n)) (sym of.out_is)
          (maps_stay_within n of.ends.exporter (router_in n d.exporter of.ends.exporter of.ends.exporter_at) (name_of of.ends.exporter_line.map_out)
          (name_of of.ends.exporter_line.list_out) p false),
      subst (IsMapWithin (communities_of n)) (sym of.into_is)
          (maps_stay_within n of.ends.importer (router_in n d.importer of.ends.importer of.ends.importer_at) (name_of of.ends.importer_line.map_in)
          (name_of of.ends.importer_line.list_in) p true),
    )
    within d (Cost cost) of = tt
