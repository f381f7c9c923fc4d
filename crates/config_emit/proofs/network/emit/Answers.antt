use Rattle.std.proofs.Common.{◌∙◌, sym}
use Rattle.config_emit.proofs.Emission.{sound, few_between, emission}
use Rattle.config_emit.proofs.network.emit.Goals as goal

pub network_of-requires-clause-source : goal.network_of-requires-clause-source
network_of-requires-clause-source c =
    let class = c.args.class.now in
    let problem = c.args.srp.now in
    let net = c.args.net.now in
    let count = c.groups.result in
    let links = c.as_slice.result.now in
    let formed = c.given_is_well_formed.ensures net.network net.given in
    let links_are = c.as_slice.ensures ∙ c.requires.links count c.groups.ensures in
    sound class problem c.args.p.now net.network c.network-network.result.now count links c.network-network.ensures.same c.groups.ensures c.requires.problem
    (few_between c.no_more_links.ensures c.few_links.ensures class problem c.args.p.now net.network count links formed net.faultless c.requires.class
    c.requires.problem links_are)
    links_are

pub notes_of-requires : goal.notes_of-requires
notes_of-requires c =
    let class = c.args.class.now in
    let problem = c.args.srp.now in
    let net = c.args.net.now in
    let count = c.groups.result in
    let links = c.as_slice.result.now in
    let formed = c.given_is_well_formed.ensures net.network net.given in
    let links_are = c.as_slice.ensures ∙ c.requires.links count c.groups.ensures in
    record {
      source = sound class problem c.args.p.now net.network c.network-network.result.now count links c.network-network.ensures.same c.groups.ensures
          c.requires.problem
          (few_between c.no_more_links.ensures c.few_links.ensures class problem c.args.p.now net.network count links formed net.faultless c.requires.class
          c.requires.problem links_are)
          links_are;
    }

pub returns : goal.returns
returns c = record {
  emits = λ count numbered.
      let lent = c.network-network.result.now in
      let links = c.as_slice.result.now in
      emission c.args.class.now c.args.srp.now c.args.p.now c.args.net.now.network lent c.groups.result count c.args.q.now.links links
      c.in_ok-emitted.emitted c.in_ok-notes.notes c.network-network.ensures.same c.as_slice.ensures c.groups.ensures numbered
      (sym c.pool_line.ensures ∙ c.in_default.is) c.in_ok-emitted.ensures c.in_ok-notes.ensures;
}
