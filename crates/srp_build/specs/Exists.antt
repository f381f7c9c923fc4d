-- Each class has a problem, where finitely many sets of communities decide what sessions import.
use Rattle.std.specs.Prelude.{◌≡◌, ℕ, Bool, List, Option, Contains}
use Rattle.std.specs.Option.{option_map}
use Rattle.base_kit.specs.Sets.{IsAscending}
use Rattle.cfg_ast.specs.declared.classes.DestClass.{DestClass}
use Rattle.cfg_ast.specs.declared.network.Network.{Network}
use Rattle.cfg_ast.specs.meaning.Classes.{classes_of}
use Rattle.cfg_ast.specs.text.Reading.{IsGiven}
use Rattle.cfg_check.specs.Faultless.{IsFaultless}
use Rattle.policy_dd.specs.Imports.{AreOneImport}
use Rattle.route_maps.specs.declared.plain.Imported.{Imported}
use Rattle.route_maps.specs.declared.plain.Plain.{Plain}
use Rattle.route_maps.specs.Maps.{import_of}
use Rattle.route_maps.specs.Printable.{IsPrintable}
use Rattle.route_maps.specs.Within.{IsMapWithin}
use Rattle.srp_core.specs.Problem.{Problem}
use Rattle.srp_build.specs.Built.{IsBuiltFor}

-- both maps of a session can be printed, and name only communities of the universe
pub record AreSessionMaps (universe : List ℕ) (out into : Plain) : Type 0 where
  pub out_is : IsPrintable out
  pub into_is : IsPrintable into
  pub out_within : IsMapWithin universe out
  pub into_within : IsMapWithin universe into

-- one of the sets is imported with the same preference, or is not imported either
pub record HasSampleLike (samples : List (List ℕ)) (f : List ℕ → Option Imported) (set : List ℕ) : Type 0 where
  pub sample : List ℕ
  pub inside : Contains samples sample
  pub same : option_map (λ (i : Imported). i.lp) (f sample) ≡ option_map (λ (i : Imported). i.lp) (f set)

-- Finitely many sets decide what sessions over these communities import: sessions that import each of them alike import every
-- set alike, and each set has one of them with the same preference.
pub record HasSamples (universe : List ℕ) : Type 0 where
  pub samples : List (List ℕ)
  pub ascending : (set : List ℕ) → Contains samples set → IsAscending set
  pub one : (out into other_out other_into : Plain) (sends other_sends : Bool) → AreSessionMaps universe out into → AreSessionMaps universe other_out other_into
      → ((set : List ℕ) → Contains samples set → import_of out sends into set ≡ import_of other_out other_sends other_into set)
      → AreOneImport (import_of out sends into) (import_of other_out other_sends other_into)
  pub like : (out into : Plain) (sends : Bool) → AreSessionMaps universe out into → (set : List ℕ) → IsAscending set → HasSampleLike samples (import_of out sends into) set

-- the problem that is built for a class
pub record HasProblem (network : Network) (class : DestClass) : Type 0 where
  pub problem : Problem
  pub built : IsBuiltFor network class problem

-- If finitely many sets decide, each class of a network that some text gives and that has no fault has a
-- problem.
abbrev pub SamplesGiveProblems : Type 0
SamplesGiveProblems = ((universe : List ℕ) → HasSamples universe)
    → (network : Network) → ∥ IsGiven network ∥₁ → IsFaultless network → (class : DestClass) → Contains (classes_of network) class → HasProblem network class
