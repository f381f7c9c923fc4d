-- Acts that act alike are written alike.
use Rattle.std.proofs.Common.{◌≡◌, ℕ, Bool, List, Some, ap}
use Rattle.std.specs.Option.{option_map}
use Rattle.base_kit.specs.Sets.{IsAscending}
use Rattle.policy_dd.specs.Imports.{AreOneImport}
use Rattle.route_maps.specs.Maps.{import_of}
use Rattle.srp_core.specs.declared.route.Act.{Act}
use Rattle.srp_core.specs.declared.route.Act.TheVariants.{Import, Cost}
use Rattle.srp_core.specs.Acts.{ActsAlike, ImportsAlike, import_by}
use Rattle.route_maps.specs.declared.plain.Plain.{Plain}
use Rattle.canon_policy.specs.CanonicalProblem.{session_with, canonical_act}
use Rattle.srp_core.specs.ActMaps.{IsPrintableAct, IsActWithin}
use Rattle.canon_policy.proofs.ListLaws.{two_universes}
use Rattle.canon_policy.proofs.MapsUniform.{import_uniform}

one_import : (out : Plain) (sends : Bool) (into : Plain) (out' : Plain) (sends' : Bool) (into' : Plain)
    → ImportsAlike (Import out sends into) (Import out' sends' into')
    → AreOneImport (import_of out sends into) (import_of out' sends' into')
unfolding import_by
one_import out sends into out' sends' into' alike = record { same = λ set up. alike.same set up }

pub written_alike : (universe other : List ℕ) (first second : Act) → IsAscending universe → IsAscending other → IsPrintableAct first → IsPrintableAct second
    → IsActWithin universe first → IsActWithin other second → ActsAlike first second → canonical_act universe first ≡ canonical_act other second
unfolding canonical_act
written_alike universe other (Import out sends into) (Import out' sends' into') up up' printable printable' within within' alike =
    ap (option_map session_with) (two_universes universe other (import_of out sends into) (import_of out' sends' into') up up'
    (import_uniform universe out sends into printable.0 printable.1 within.0 within.1)
    (import_uniform other out' sends' into' printable'.0 printable'.1 within'.0 within'.1)
    (one_import out sends into out' sends' into' alike))
written_alike universe other (Import out sends into) (Cost cost) up up' printable printable' within within' alike = absurd alike
written_alike universe other (Cost cost) (Import out sends into) up up' printable printable' within within' alike = absurd alike
written_alike universe other (Cost cost) (Cost cost') up up' printable printable' within within' alike = ap (λ (c : ℕ). Some (Cost c)) alike
