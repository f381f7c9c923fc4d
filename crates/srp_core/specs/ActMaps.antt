-- What the maps of an act are asked for.
use Rattle.std.specs.Prelude.{ℕ, List}
use Rattle.route_maps.specs.Printable.{IsPrintable}
use Rattle.route_maps.specs.Within.{IsMapWithin}
use Rattle.srp_core.specs.declared.route.Act.{Act}
use Rattle.srp_core.specs.declared.route.Act.TheVariants.{Import, Cost}

-- the maps of an act can be printed
abbrev pub IsPrintableAct : Act → Type 0
IsPrintableAct (Import out sends into) = IsPrintable out × IsPrintable into
IsPrintableAct (Cost cost) = Unit {0}

-- the maps of an act name only communities of the set
abbrev pub IsActWithin : List ℕ → Act → Type 0
IsActWithin set (Import out sends into) = IsMapWithin set out × IsMapWithin set into
IsActWithin set (Cost cost) = Unit {0}
