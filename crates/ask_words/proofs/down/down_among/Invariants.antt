use Rattle.std.proofs.Common.{◌≡◌, map, drop, Some, [], ℕ, List}
use Rattle.numbered_names.specs.NamePlaces.{ArePlacesOf}
use Rattle.ask_words.specs.NameLists.{down_from, word_of_lost}
use Rattle.ask_words.proofs.down.down_among.Given as goal

abbrev pub invariant-loop-part : goal.invariant-loop-part
invariant-loop-part l = record {
  words : l.words ≡ map word_of_lost l.items;
  places : ArePlacesOf (λ (text : List ℕ). text) l.places l.words;
  items : down_from (Some l.items) (map (λ part. part.now) (drop l.part-index l.parts)) ≡ down_from (Some []) (map (λ part. part.now) l.parts);
}
