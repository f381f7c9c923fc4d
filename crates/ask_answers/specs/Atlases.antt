-- What all classes of a network share.
use Rattle.std.specs.Prelude.{◌≡◌, Contains}
use Rattle.cfg_ast.specs.declared.classes.DestClass.{DestClass}
use Rattle.cfg_ast.specs.declared.network.Network.{Network}
use Rattle.cfg_ast.specs.declared.network.Router.{Router}
use Rattle.cfg_ast.specs.meaning.Classes.{classes_of}
use Rattle.driver.specs.Steps.{IsSharedOf}
use Rattle.numbered_names.specs.NamePlaces.{ArePlacesOf}
use Rattle.srp_build.specs.Built.{IsBuiltFor}
use Rattle.srp_core.specs.Problem.{Problem}
use Rattle.srp_without.specs.Accepting.{Serves}
use Rattle.ask_answers.specs.declared.atlas.Atlas.{Atlas}
use Rattle.ask_answers.specs.declared.problems.KnownProblem.{KnownProblem}

-- its classes, what their problems share, and the places of its routers' names
pub record IsAtlasOf (network : Network) (atlas : Atlas) : Type 0 where
  pub classes : atlas.classes ≡ classes_of network
  pub shared : IsSharedOf network atlas.shared
  pub places : ArePlacesOf (λ (router : Router). router.name) atlas.places network.routers

-- the problem of some class of the network
abbrev pub IsBuiltForSome : Network → Problem → Type 0
IsBuiltForSome network problem = (class : DestClass) × Contains (classes_of network) class × IsBuiltFor network class problem

-- the problem of the class, and what serves its failures
pub record IsKnownFor (network : Network) (class : DestClass) (known : KnownProblem) : Type 0 where
  pub built : IsBuiltFor network class known.whole
  pub serves : Serves known.whole known.failures
