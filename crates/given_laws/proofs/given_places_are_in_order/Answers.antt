use Rattle.given_laws.proofs.PlaceOrder.{given_places_are_in_order}
use Rattle.given_laws.proofs.given_places_are_in_order.Goals as goal

pub returns : goal.returns
returns c = given_places_are_in_order
