use Rattle.std.proofs.Common.{◌≡◌, map, drop, Some, [], ℕ, List}
use Rattle.numbered_names.specs.NamePlaces.{ArePlacesOf}
use Rattle.ask_words.specs.NameLists.{names_from}
use Rattle.ask_words.proofs.names.names_among.Given as goal

abbrev pub invariant-loop-part : goal.invariant-loop-part
invariant-loop-part l = record {
  places : ArePlacesOf (λ (text : List ℕ). text) l.places l.names;
  names : names_from (Some l.names) (map (λ part. part.now) (drop l.part-index l.parts)) ≡ names_from (Some []) (map (λ part. part.now) l.parts);
}
