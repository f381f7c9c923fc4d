-- The plain maps of both ends of a session import what the session does.
use Rattle.std.proofs.Common.{◌≡◌, ℕ, Bool, true, false, cond, not, [], Option, Some, None, refl, ◌∙◌, ap, arith}
use Rattle.std.specs.Prelude.{nat_eq, unwrap_or, option_map}
use Rattle.std.specs.Option.{option_and_then, option_or}
use Rattle.std.proofs.lemmas.Bool.Decides.{nat_tests}
use Rattle.base_kit.specs.Prefixes.{Prefix}
use Rattle.cfg_ast.specs.declared.bgp.Neighbor.{Neighbor}
use Rattle.cfg_ast.specs.declared.network.Router.{Router}
use Rattle.cfg_ast.specs.meaning.Policy.{Permitted, passed_by, default_preference, name_of, received_as, received_by}
use Rattle.cfg_ast.specs.printing.WellFormed.{IsWellFormedRouter}
use Rattle.route_maps.specs.Maps.{accepted, received}
use Rattle.route_maps.specs.Sessions.{imported_as}
use Rattle.specialize.specs.OnePrefix.{own_preference, verdict_with}
use Rattle.specialize.specs.Sessions.{in_map, ImportAsSession}
use Rattle.specialize.proofs.Verdicts.{verdict_kept, prepends_few}

-- the default preference is 100 where it is not written into the map
default_written : (default : ℕ) → unwrap_or (cond (not (nat_eq default 100)) (Some default) None) 100 ≡ default
default_written default = step (nat_eq default 100) refl where
  step : (b : Bool) → nat_eq default 100 ≡ b → unwrap_or (cond (not b) (Some default) None) 100 ≡ default
  step true is = grind (arith, nat_tests)
  step false is = refl

own_or_default : (router : Router) (lp : Option ℕ) → unwrap_or (option_or lp (own_preference router true)) 100 ≡ unwrap_or lp (default_preference router)
own_or_default router (Some lp) = refl
own_or_default router None = default_written (default_preference router)

-- what the importer makes of what was sent
accepted_as : (importer : Router) (adds : ℕ) (passed : Option Permitted) →
    accepted adds (verdict_with (own_preference importer true) passed) ≡ option_map imported_as (option_map (received_as importer adds) passed)
accepted_as importer adds None = refl
accepted_as importer adds (Some permitted) = ap (λ lp. Some (record { lp = lp; comms = permitted.comms; adds = adds })) (own_or_default importer permitted.lp)

pub imports_as_session : (p : Prefix) (exporter : Router) (out : Neighbor) (importer : Router) (into : Neighbor) → IsWellFormedRouter exporter →
    IsWellFormedRouter importer → ImportAsSession p exporter out importer into
imports_as_session p exporter out importer into well other comms =
    ap (received out.sends (in_map p importer into).entries)
    (verdict_kept exporter (name_of out.map_out) (name_of out.list_out) p false (prepends_few exporter (name_of out.map_out) well) comms)
    ∙ step (passed_by exporter p (name_of out.list_out) (name_of out.map_out) comms) where
      step : (passed : Option Permitted) → received out.sends (in_map p importer into).entries (verdict_with None passed) ≡ option_map imported_as
          (option_and_then (received_by importer into p out.sends) passed)
      step None = refl
      step (Some sent) =
          let arrived = cond out.sends sent.comms [] in
          ap (accepted sent.adds) (verdict_kept importer (name_of into.map_in) (name_of into.list_in) p true (prepends_few importer (name_of into.map_in) other)
          arrived)
          ∙ accepted_as importer sent.adds (passed_by importer p (name_of into.list_in) (name_of into.map_in) arrived)
