-- Pairs that are looked up among those that links join.
use Rattle.std.proofs.Common.{◌≡◌, ◌<◌, ◌+◌, ℕ, Bool, not, ◌&&◌, ◌||◌, List, [], ◌∷◌, get_or, length, take, refl, sym, ap, ◌∙◌}
use Rattle.std.specs.Prelude.{bytes_eq, find}
use Rattle.std.specs.List.{list_any}
use Rattle.std.proofs.lemmas.List.Folds.{list_any_more}
use Rattle.cfg_ast.specs.declared.topology.Link.{Link}
use Rattle.numbered_names.proofs.Firsts.{bytes_eq-sym}
use Rattle.ask_words.specs.declared.request.Lost.{Lost}
use Rattle.ask_words.specs.declared.request.Lost.TheVariants as lost
use Rattle.ask_names.proofs.Items.{any_or}
use Rattle.ask_names.specs.NamePairs.{has_pair, AddsPair}
use Rattle.ask_names.specs.Routers.{name_at, is_unjoined, unjoined}
use Rattle.ask_names.specs.declared.pairs.NamePairs.{NamePairs}
use Rattle.ask_requests.specs.Joined.{ArePairsOf, is_apart, is_between}

module _ (names : List (List ℕ)) (links : List Link) where
  -- one more link
  pub with_link : (i : ℕ) (d : Link) (old new : NamePairs) (low high : List ℕ) → i < length links → ArePairsOf names (take i links) old →
      low ≡ name_at names (get_or links i d).low → high ≡ name_at names (get_or links i d).high → AddsPair old new low high
      → ArePairsOf names (take (i + 1) links) new
  with_link i d old new low high inside are is_low is_high adds = record {
    each = λ first second.
        let before = list_any (is_between names first second) (take i links) in
        adds.each first second
        ∙ ap (λ (b : Bool). b || bytes_eq low first && bytes_eq high second) (are.each first second)
        ∙ ap (λ (b : Bool). before || b && bytes_eq high second) (bytes_eq-sym low first)
        ∙ ap (λ (b : Bool). before || bytes_eq first low && b) (bytes_eq-sym high second)
        ∙ ap (λ (name : List ℕ). before || bytes_eq first name && bytes_eq second high) is_low
        ∙ ap (λ (name : List ℕ). before || bytes_eq first (name_at names (get_or links i d).low) && bytes_eq second name) is_high
        ∙ sym (list_any_more (is_between names first second) links i d inside);
  }

  same_item : (pairs : NamePairs) → ArePairsOf names links pairs → (item : Lost) → is_apart pairs item ≡ is_unjoined names links item
  same_item pairs are (lost.Router down) = refl
  same_item pairs are (lost.Links first second) =
      ap (λ (b : Bool). not (b || has_pair pairs second first)) (are.each first second)
      ∙ ap (λ (b : Bool). not (list_any (is_between names first second) links || b)) (are.each second first)
      ∙ ap not (sym (any_or (is_between names first second) (is_between names second first) links))

  find_same : (p q : Lost → Bool) → ((item : Lost) → p item ≡ q item) → (items : List Lost) → find p items ≡ find q items
  find_same p q same [] = refl
  find_same p q same (item ∷ items) = rw (same item, find_same p q same items) refl

  -- the first pair that is not in the set is the first that no link joins
  pub first_unjoined : (pairs : NamePairs) → ArePairsOf names links pairs → (items : List Lost) → find (is_apart pairs) items ≡ unjoined names links items
  unfolding unjoined
  first_unjoined pairs are items = find_same (is_apart pairs) (is_unjoined names links) (same_item pairs are) items
