use Rattle.ask_names.proofs.Items.{with_router, with_no_router}
use Rattle.ask_names.proofs.lost.put_router.Goals as goal

pub returns-in_ok-insert-in-Router : goal.returns-in_ok-insert-in-Router
returns-in_ok-insert-in-Router c = with_router _ _ _ _ _ c.in_ok-insert-in-Router.ensures.adds c.in-Router.is c.as_str.ensures

pub returns-in-Links : goal.returns-in-Links
returns-in-Links c = with_no_router c.args.routers.now _ _ _ c.in-Links.is
