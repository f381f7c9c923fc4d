use Rattle.cfg_stanzas.proofs.neighbors.set_neighbor.Goals as goal

pub returns-in-PeerList-clause-set : goal.returns-in-PeerList-clause-set
returns-in-PeerList-clause-set c = rw c.in-PeerList.is (c.set_list.ensures.set c.in-PeerList.addr)

pub returns-in-PeerMap-clause-set : goal.returns-in-PeerMap-clause-set
returns-in-PeerMap-clause-set c = rw c.in-PeerMap.is (c.set_map.ensures.set c.in-PeerMap.addr)
