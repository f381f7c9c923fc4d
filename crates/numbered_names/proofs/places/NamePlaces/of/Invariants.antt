use Rattle.std.proofs.Common.{◌≡◌, ◌≤◌, ℕ, List, length, drop}
use Rattle.std.specs.Prelude.{bytes_eq}
use Rattle.std.specs.HashMap.{get_by_text}
use Rattle.std.specs.List.{position}
use Rattle.numbered_names.proofs.Positions.{moved}
use Rattle.numbered_names.proofs.places.NamePlaces.of.Given as goal

-- the items from here on have their places
abbrev pub invariant-loop-place : goal.invariant-loop-place
invariant-loop-place g l = record {
  inside : l.place ≤ length l.items;
  each : (wanted : List ℕ) → get_by_text l.places wanted ≡ moved l.place (position (λ x. bytes_eq wanted (g.T.HasName.name x)) (drop l.place l.items));
}

abbrev pub decreases-loop-place : goal.decreases-loop-place
decreases-loop-place g l = l.place
