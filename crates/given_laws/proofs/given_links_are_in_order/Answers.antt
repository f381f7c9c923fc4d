use Rattle.given_laws.proofs.LinkOrder.{given_links_are_in_order}
use Rattle.given_laws.proofs.given_links_are_in_order.Goals as goal

pub returns : goal.returns
returns c = given_links_are_in_order
