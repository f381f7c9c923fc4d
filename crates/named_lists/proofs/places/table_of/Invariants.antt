use Rattle.std.proofs.Common.{◌≤◌, ◌-◌, ℕ, List, length, take}
use Rattle.numbered_names.specs.NamePlaces.{ArePlacesOf}
use Rattle.named_lists.proofs.places.table_of.Given as goal

-- the items before this place have their places
abbrev pub invariant-loop-place : goal.invariant-loop-place
invariant-loop-place g l = record {
  inside : l.place ≤ length l.items;
  noted : ArePlacesOf g.T.HasName.name l.table (take l.place l.items);
}

abbrev pub decreases-loop-place : goal.decreases-loop-place
decreases-loop-place g l = length l.items - l.place
