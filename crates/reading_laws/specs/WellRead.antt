-- What is known of a network that is read, whatever reads it.
use Rattle.std.specs.Prelude.{◌≡◌, ℕ, List, Ok}
use Rattle.cfg_ast.specs.declared.network.Network.{Network}
use Rattle.cfg_ast.specs.text.Reading.{network_of_text, reading_of}
use Rattle.cfg_check.specs.Faultless.{IsFaultless}

-- the lines of the text give the network, and no fault stands in it
pub record IsRead (text : List ℕ) (network : Network) : Type 0 where
  pub given : network_of_text text ≡ Ok network
  pub faultless : IsFaultless network

abbrev pub WhatIsReadIsWell : Type 0
WhatIsReadIsWell = (text : List ℕ) (network : Network) → reading_of text ≡ Ok network → IsRead text network
