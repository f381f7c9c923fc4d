-- What the classes of a network share.
use Rattle.cfg_ast.specs.declared.network.Network.{Network}
use Rattle.answer_reports.specs.NetworkParts.{IsNetworkPart}
use Rattle.driver.specs.Steps.{IsSharedOf}
use Rattle.all_classes.specs.declared.shared_work.SharedWork.{SharedWork}

-- what the steps to each class share, and the part of each report
pub record IsWorkOf (network : Network) (work : SharedWork) : Type 0 where
  pub shared : IsSharedOf network work.shared
  pub part : IsNetworkPart network work.part
