use Rattle.std.proofs.Common.{◌≡◌, ◌++◌, drop}
use Rattle.std.specs.Prelude.{filter_map}
use Rattle.cfg_ast.specs.meaning.Policy.{community_list_named}
use Rattle.specialize.proofs.maps.copies_named.Given as goal

abbrev pub invariant-loop-name : goal.invariant-loop-name
invariant-loop-name l = l.lists ++ filter_map (community_list_named l.router) (drop l.name-index l.names) ≡ filter_map (community_list_named l.router) l.names
