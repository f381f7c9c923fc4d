-- A network without faults of any kind is accepted. Public: crates above may cite it.
use Rattle.std.proofs.Common.{◌≡◌, [], refl, ap}
use Rattle.cfg_ast.specs.declared.network.Network.{Network}
use Rattle.cfg_ast.specs.meaning.Meaning.{meaning_faults, least_fault, refused_by, judged}
use Rattle.cfg_check.specs.Faultless.{IsFaultless}
use Rattle.cfg_check.specs.Laws.{FaultlessIsAccepted}

-- no fault of any kind is no fault at all
no_faults : (n : Network) → IsFaultless n → meaning_faults n ≡ []
unfolding meaning_faults
no_faults n is =
    rw (
      is.shared_name,
      is.shared_as,
      is.internal_peer,
      is.mixed_protocols,
      is.other_area,
      is.undefined_map,
      is.undefined_list,
      is.delete_list,
      is.shared_address,
      is.overlapping,
      is.loopback_mask,
      is.no_cost,
      is.too_many_routers,
      is.too_many_communities,
      is.too_many_neighbors,
      is.too_many_links,
      is.prepend_form,
      is.prepend_in,
    ) refl

pub faultless_is_accepted : FaultlessIsAccepted
unfolding judged
faultless_is_accepted n is = ap (λ faults. refused_by n (least_fault faults)) (no_faults n is)
