use Rattle.ask_names.proofs.Items.{with_pair, with_no_pair}
use Rattle.ask_names.proofs.lost.put_pair.Goals as goal

pub returns-in_ok-insert-in-Links : goal.returns-in_ok-insert-in-Links
returns-in_ok-insert-in-Links c = with_pair _ _ _ _ _ _ _ c.in_ok-insert-in-Links.ensures c.in-Links.is c.as_str-one.ensures c.as_str-other.ensures

pub returns-in-Router : goal.returns-in-Router
returns-in-Router c = with_no_pair c.args.pairs.now _ _ c.in-Router.is
