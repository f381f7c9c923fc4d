use Rattle.std.proofs.Common.{◌≤◌, length, rules}
use Rattle.cfg_ast.specs.meaning.Topology.{links_of}
use Rattle.driver.proofs.shared.Shared.link_count.Goals as goal

pub overflow_cast-result : goal.overflow_cast-result
overflow_cast-result c =
    let n = c.args.checked.now.network in
    let few : length (links_of n) ≤ 1048576 = c.few_links.ensures n (c.given_is_well_formed.ensures n c.args.checked.now.given) c.args.checked.now.faultless in
    search rules
