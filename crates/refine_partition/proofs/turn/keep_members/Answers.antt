use Rattle.std.proofs.Common.{rules}
use Rattle.std.proofs.lemmas.Fn.{filter_same}
use Rattle.std.proofs.Math.ListN.{length-set}
use Rattle.refine_partition.proofs.StayingLemmas.{routers_of, listed_set, members_kept, members_in}
use Rattle.refine_partition.proofs.turn.keep_members.Goals as goal

pub returns : goal.returns
returns c =
    let filtered = filter_same _ _ _ (λ x b f' k. search rules) _ _ c.retain.ensures.filtered in
    let read = c.index_mut.ensures.value in
    record {
      total = length-set _ _ _;
      listed = listed_set _ _ _ _ _ c.requires.listed c.requires.known read
          (members_kept _ _ _ _ (routers_of _ _ _ _ c.requires.listed c.requires.known read) filtered).0;
      members = members_in _ _ _ _ _ c.requires.listed c.requires.known read filtered;
    }
