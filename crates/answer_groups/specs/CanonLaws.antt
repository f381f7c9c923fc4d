-- What `canon` writes for an edge depends only on what the edge imports.
use Rattle.std.specs.Prelude.{◌≡◌, ℕ, List, [], Contains, map}
use Rattle.std.specs.Option.{option_map}
use Rattle.base_kit.specs.declared.act_graph.Edge.{Edge}
use Rattle.canon_policy.specs.CanonicalProblem.{IsCanonicalProblem}
use Rattle.cfg_ast.specs.declared.classes.DestClass.{DestClass}
use Rattle.cfg_ast.specs.declared.network.Named.{Named}
use Rattle.cfg_ast.specs.declared.network.Network.{Network}
use Rattle.cfg_ast.specs.declared.policy.CommunityLine.{CommunityLine}
use Rattle.cfg_ast.specs.declared.policy.CommunityList.{CommunityList}
use Rattle.cfg_ast.specs.declared.policy.MapEntry.{MapEntry}
use Rattle.cfg_ast.specs.declared.policy.NameLine.{NameLine}
use Rattle.cfg_ast.specs.declared.policy.Prepend.{Prepend}
use Rattle.cfg_ast.specs.meaning.Classes.{classes_of}
use Rattle.cfg_ast.specs.text.Reading.{IsGiven}
use Rattle.cfg_check.specs.Faultless.{IsFaultless}
use Rattle.compress_laws.specs.Laws.{FitsClass}
use Rattle.config_emit.specs.Maps.{lists_of_map, written_entries}
use Rattle.route_maps.specs.declared.plain.Plain.{Plain}
use Rattle.srp_core.specs.Acts.{ActsAlike}
use Rattle.srp_core.specs.Problem.{Problem, act_of}
use Rattle.answer_groups.specs.CanonText.{IsCanonicalFor}

-- Edges of two problems that act alike have one act in the canonical problems: equal maps at both ends, and communities sent.
abbrev pub AlikeEdgesHaveOneAct : Type 0
AlikeEdgesHaveOneAct = (universe : List ℕ) (first second one other : Problem) → IsCanonicalProblem universe first one → IsCanonicalProblem universe second other
    → (e f : Edge) → Contains first.edges e → Contains second.edges f → ActsAlike (act_of first e) (act_of second f) → act_of one e ≡ act_of other f

-- a class of a network that may be used, and its problem with canonical acts
pub record IsCanonicalOf (network : Network) (class : DestClass) (canonical : Problem) : Type 0 where
  pub given : ∥ IsGiven network ∥₁
  pub faultless : IsFaultless network
  pub class_in : Contains (classes_of network) class
  pub is : IsCanonicalFor network class canonical

-- That problem is one of every prefix of the class, and its maps can be printed and name only communities that the network names.
abbrev pub CanonicalFits : Type 0
CanonicalFits = (network : Network) (class : DestClass) (canonical : Problem) → IsCanonicalOf network class canonical → FitsClass network class canonical

-- Edges of two networks that act alike have one act too, whatever communities each network names.
abbrev pub AlikeEdgesAcrossNetworks : Type 0
AlikeEdgesAcrossNetworks = (network other : Network) (class lower : DestClass) (first second : Problem)
    → (a : IsCanonicalOf network class first) (b : IsCanonicalOf other lower second)
    → (e f : Edge) → Contains a.is.original.edges e → Contains b.is.original.edges f → ActsAlike (act_of a.is.original e) (act_of b.is.original f)
    → act_of first e ≡ act_of second f

-- ---- the lines

-- an entry without the names of its lists, and without the AS numbers that it puts before the path
abbrev pub unnamed : MapEntry → MapEntry
unnamed entry = record entry {
  comms = option_map (λ (line : NameLine). record line { names = map (λ (name : List ℕ). []) line.names }) entry.comms;
  delete = option_map (λ (named : Named). record named { name = [] }) entry.delete;
  prepend = option_map (λ (prepend : Prepend). record prepend { numbers = map (λ (number : ℕ). 0) prepend.numbers }) entry.prepend;
}

abbrev pub lines_of_lists : List CommunityList → List (List CommunityLine)
lines_of_lists lists = map (λ (list : CommunityList). list.lines) lists

-- One map, as two routers write it, each with its own AS number and under its own number of the map.
pub record HasSameLines (m : Plain) (number other k l : ℕ) : Type 0 where
  pub entries : map unnamed (written_entries number k m.entries) ≡ map unnamed (written_entries other l m.entries)
  pub lists : lines_of_lists (lists_of_map (k, m)) ≡ lines_of_lists (lists_of_map (l, m))

-- The entries are equal except for names of lists and AS numbers, and so are the lists except for their names.
abbrev pub MapsAreWrittenAlike : Type 0
MapsAreWrittenAlike = (m : Plain) (number other k l : ℕ) → HasSameLines m number other k l
