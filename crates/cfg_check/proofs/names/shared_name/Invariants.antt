use Rattle.std.proofs.Common.{◌≡◌, ℕ, List, take, map}
use Rattle.std.specs.Prelude.{bytes_eq}
use Rattle.std.specs.List.{list_any}
use Rattle.cfg_ast.specs.declared.network.Router.{Router}
use Rattle.cfg_ast.specs.meaning.RouterFaults.{repeats}
use Rattle.cfg_check.specs.Items.{router_line, same_name}
use Rattle.cfg_check.specs.LeastLine.{least_line}
use Rattle.numbered_names.specs.NameSets.{has_name}
use Rattle.cfg_check.proofs.names.shared_name.Given as goal

abbrev pub invariant-loop-router : goal.invariant-loop-router
invariant-loop-router l =
    (l.least ≡ least_line (map router_line (repeats same_name (take l.router-index l.routers))))
    × ((q : List ℕ) → has_name l.seen q ≡ list_any (λ (r : Router). bytes_eq q r.name) (take l.router-index l.routers))
