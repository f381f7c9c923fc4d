use Rattle.route_run.proofs.Reaching.{order_reaches}
use Rattle.route_run.proofs.laws.orders_reach.Goals as goal

pub returns : goal.returns
returns c = λ problem labels run rules stable order. order_reaches problem rules labels stable run order
