-- What a link with its acts gives the routers at its ends.
use Rattle.std.specs.Prelude.{ℕ, ◌++◌, false, List, Some, nat_eq, codes, decimal, slice_index_or, if◌then◌else◌}
use Rattle.std.specs.Option.{option_map, option_and_then}
use Rattle.cfg_ast.specs.declared.interface.Interface.{Interface}
use Rattle.srp_core.specs.declared.route.Act.{Act}
use Rattle.srp_core.specs.declared.route.Act.TheVariants.{Cost}
use Rattle.config_emit.specs.ActLinks.{act_to}
use Rattle.config_emit.specs.Interfaces.{link_address, cost_by}
use Rattle.config_emit.specs.declared.act_links.ActLink.{ActLink}

abbrev pub act_by : List Act → ℕ → Act
act_by acts k = slice_index_or acts k (Cost 0)

abbrev pub side_on : ℕ → ActLink → ℕ
side_on g x = if nat_eq x.low g then 0 else 1

-- the interface of the k-th link of g
abbrev pub interface_of_link : List Act → ℕ → ℕ × ActLink → Interface
interface_of_link acts g (k, x) = record {
  name = codes "GigabitEthernet0/" ++ decimal k;
  line = 0;
  address = Some (link_address x.number (side_on g x));
  cost = option_and_then cost_by (option_map (act_by acts) (act_to g x));
  shut = false;
}
