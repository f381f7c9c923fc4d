use Rattle.shutdown_laws.proofs.OneSession.{one_link}
use Rattle.shutdown_laws.proofs.neighbor_ends_one_link.Goals as goal

pub returns : goal.returns
returns c n router item number other_number link other given faultless bgp at also ends too =
    one_link n faultless (c.given_routers_are_well_formed.ensures n given) bgp (c.given_links_are_in_order.ensures n given) router item number other_number
    link other at also ends too
