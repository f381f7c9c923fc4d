-- Lists under names, after a change of the entries of one.
use Rattle.std.proofs.Common.{◌≡◌, ℕ, zero, suc, ◌<◌, Bool, true, false, List, [], ◌∷◌, ◌++◌, length, get_or, Some, None, refl, ap, arith}
use Rattle.std.specs.Prelude.{bytes_eq}
use Rattle.std.proofs.Math.ListN.{set}
use Rattle.std.specs.List.{position}
use Rattle.std.proofs.lemmas.List.Quantifiers.{position-Some}
use Rattle.std.proofs.lemmas.List.Sums.{fails_before_first}
use Rattle.named_lists.specs.declared.named.NamedList.{NamedList}
use Rattle.named_lists.specs.NamedLists.{in_named}
use Rattle.numbered_names.proofs.Firsts.{all_of}

module _ {E : Type 0} (name : List ℕ) (change : List E → List E) where
  abbrev changed : NamedList E → NamedList E
  changed l = record { name = l.name; entries = change l.entries }

  abbrev test : NamedList E → Bool
  test l = bytes_eq l.name name

  at_place : (ls : List (NamedList E)) (i : ℕ) (d : NamedList E) → i < length ls → test (get_or ls i d) ≡ true →
      ((k : ℕ) → k < i → test (get_or ls k d) ≡ false) → in_named name change ls ≡ set ls i (changed (get_or ls i d))
  unfolding in_named
  at_place [] i d lt here none = absurd (omega arith)
  at_place (l ∷ ls) zero d lt here none = rw here refl
  at_place (l ∷ ls) (suc i) d lt here none =
      rw (none zero (omega arith)) (ap (λ ms. l ∷ ms) (at_place ls i d (omega arith) here (λ k h. none (suc k) (omega arith))))

  pub in_named_at : (ls : List (NamedList E)) (i : ℕ) (d : NamedList E) → position (λ l. bytes_eq l.name name) ls ≡ Some i →
      in_named name change ls ≡ set ls i (record { name = (get_or ls i d).name; entries = change (get_or ls i d).entries })
  in_named_at ls i d found =
      let there = position-Some test ls i d found in
      at_place ls i d there.0 there.1 there.2

  none_of : (ls : List (NamedList E)) → ((k : ℕ) (d : NamedList E) → k < length ls → test (get_or ls k d) ≡ false) → in_named name change ls ≡ ls
      ++ record { name = name; entries = change [] } ∷ []
  unfolding in_named
  none_of [] none = refl
  none_of (l ∷ ls) none = rw (none zero l (omega arith)) (ap (λ ms. l ∷ ms) (none_of ls (λ k d lt. none (suc k) d (omega arith))))

  pub in_named_new : (ls : List (NamedList E)) → position (λ l. bytes_eq l.name name) ls ≡ None → in_named name change ls ≡ ls
      ++ record { name = name; entries = change [] } ∷ []
  in_named_new ls absent = none_of ls (λ k d lt. fails_before_first test ls k d (omega (arith, lt, all_of test ls absent)))
