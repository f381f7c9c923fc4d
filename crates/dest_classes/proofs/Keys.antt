-- The entries of a map by prefix, as an ascending list.
use Rattle.std.proofs.Common.{◌≡◌, Bool, true, false, cond, List, [], ◌∷◌, map, Option, Some, None, inl, inr, refl, sym, ◌∙◌, ap, true≢false, unwrap_or, ◌||◌}
use Rattle.std.specs.Prelude.{is_some}
use Rattle.std.specs.Map.{lookup, keys_of}
use Rattle.std.specs.BTreeMap.{BTreeMap, get, is_at, IsOrdered}
use Rattle.std.specs.List.{AllByRecursion}
use Rattle.std.specs.List.Sorted.{IsStrictlySortedBy}
use Rattle.std.specs.Ordering.{is_lt}
use Rattle.std.specs.declared.cmp.Ordering.TheVariants.{Less}
use Rattle.base_kit.specs.Prefixes.{Prefix, same_prefix}
use Rattle.cfg_ast.specs.declared.classes.Origin.{Origin}
use Rattle.cfg_ast.specs.declared.network.Network.{Network}
use Rattle.cfg_ast.specs.meaning.Classes.{is_before, has_prefix, AllAfter, AreAscending, originated, origins_of}
use Rattle.cfg_ast.proofs.PrefixSets.{one_prefix, same_prefix-self, not_same_before, cases_prefix, has_not_before, AllAfter-trans}
use Rattle.cfg_ast.proofs.ClassFacts.{originated_ascends}
use Rattle.dest_classes.specs.Routes.{prefix_cmp}
use Rattle.dest_classes.proofs.Noted.{some_of}
use Rattle.dest_classes.proofs.Order.{is_eq-prefix_cmp, is_lt-prefix_cmp}
use Rattle.dest_classes.proofs.Originated.{has_originated}

abbrev Entries : Type 0
Entries = List (Prefix × List Origin)

before_less : (p q : Prefix) → prefix_cmp p q ≡ Less → is_before p q ≡ true
before_less p q less = sym (is_lt-prefix_cmp p q) ∙ ap is_lt less

all_after : (p : Prefix) (es : Entries) → AllByRecursion (λ q. prefix_cmp p q ≡ Less) (keys_of es) → AllAfter p (keys_of es)
all_after p [] all = tt
all_after p (e ∷ es) all = (before_less p e.0 all.0, all_after p es all.1)

ascending_keys : (es : Entries) → IsStrictlySortedBy prefix_cmp (keys_of es) → AreAscending (keys_of es)
unfolding IsStrictlySortedBy
ascending_keys [] sorted = tt
ascending_keys (e ∷ es) sorted = (all_after e.0 es sorted.0, ascending_keys es sorted.1)

abbrev found_at : Prefix → Entries → Option (List Origin)
found_at p es = lookup (same_prefix p) es

looked_up : (p : Prefix) (es : Entries) → lookup (is_at (prefix_cmp p)) es ≡ found_at p es
looked_up p [] = refl
looked_up p (e ∷ es) = ap (λ b. cond b (Some e.1) (lookup (is_at (prefix_cmp p)) es)) (is_eq-prefix_cmp p e.0)
    ∙ ap (cond (same_prefix p e.0) (Some e.1)) (looked_up p es)

-- a key before all others is not among them
found_not : (q p : Prefix) (es : Entries) → AllAfter q (keys_of es) → same_prefix p q ≡ true → found_at p es ≡ None
found_not q p [] all same = refl
found_not q p (e ∷ es) all same =
    let other : same_prefix p e.0 ≡ false = ap (λ r. same_prefix r e.0) (one_prefix p q same) ∙ not_same_before q e.0 all.0 in
    ap (λ b. cond b (Some e.1) (found_at p es)) other ∙ found_not q p es all.1 same

abbrev with_value : (Prefix → List Origin) → Prefix → Prefix × List Origin
with_value g p = (p, g p)

some_one : (xs ys : List Origin) → Some xs ≡ Some ys → xs ≡ ys
some_one xs ys e = ap (λ o. unwrap_or o xs) e

not_none : (xs : List Origin) → None ≡ Some xs → ⊥
not_none xs e = true≢false (sym (ap is_some e))

some_if : (xs : List Origin) → some_of xs ≡ cond (is_some (some_of xs)) (Some xs) None
some_if [] = refl
some_if (x ∷ xs) = refl

rest_found : (g : Prefix → List Origin) (e : Prefix × List Origin) (es : Entries) (p : Prefix) (ps : List Prefix) (q : Prefix) (s : Bool) → e.0 ≡ p →
    same_prefix q e.0 ≡ s → AreAscending (keys_of (e ∷ es)) → AreAscending (p ∷ ps)
    → found_at q (e ∷ es) ≡ cond (has_prefix (p ∷ ps) q) (Some (g q)) None → found_at q es ≡ cond (has_prefix ps q) (Some (g q)) None
rest_found g e es p ps q true first same up ascends found =
    found_not e.0 q es up.0 same ∙ sym (ap (λ b. cond b (Some (g q)) None) (has_not_before p ps q ascends.0 (ap (same_prefix q) (sym first) ∙ same)))
rest_found g e es p ps q false first same up ascends found =
    ap (λ b. cond b (Some e.1) (found_at q es)) (sym same) ∙ found
    ∙ ap (λ b. cond (b || has_prefix ps q) (Some (g q)) None) (ap (same_prefix q) (sym first) ∙ same)

-- the entries are those of an ascending list of the same keys
one_entries : (g : Prefix → List Origin) (es : Entries) (ps : List Prefix) → AreAscending (keys_of es) → AreAscending ps →
    ((p : Prefix) → found_at p es ≡ cond (has_prefix ps p) (Some (g p)) None) → es ≡ map (with_value g) ps
one_entries g [] [] up ascends found = refl
one_entries g [] (p ∷ ps) up ascends found = absurd (not_none (g p) (found p ∙ ap (λ b. cond (b || has_prefix ps p) (Some (g p)) None) (same_prefix-self p)))
one_entries g (e ∷ es) [] up ascends found = absurd (not_none e.1 (sym (found e.0) ∙ ap (λ b. cond b (Some e.1) (found_at e.0 es)) (same_prefix-self e.0)))
one_entries g (e ∷ es) (p ∷ ps) up ascends found = elim (cases_prefix e.0 p) [
  | inl same ↦
      let value : e.1 ≡ g e.0 =
      some_one e.1 (g e.0) (ap (λ b. cond b (Some e.1) (found_at e.0 es)) (sym (same_prefix-self e.0)) ∙ found e.0
      ∙ ap (λ b. cond (b || has_prefix ps e.0) (Some (g e.0)) None) (ap (same_prefix e.0) (sym same) ∙ same_prefix-self e.0)) in
      let rest : (q : Prefix) → found_at q es ≡ cond (has_prefix ps q) (Some (g q)) None =
      λ q. rest_found g e es p ps q (same_prefix q e.0) same refl up ascends (found q) in
      ap (λ v. let first : Prefix × List Origin = (e.0, v) in first ∷ es) value ∙ ap (λ k. with_value g k ∷ es) same
      ∙ ap (λ more. with_value g p ∷ more) (one_entries g es ps up.1 ascends.1 rest)
  | inr (inl before) ↦
      absurd (not_none e.1 (sym (ap (λ b. cond b (Some e.1) (found_at e.0 es)) (sym (same_prefix-self e.0)) ∙ found e.0
      ∙ ap (λ b. cond b (Some (g e.0)) None) (has_not_before e.0 (p ∷ ps) e.0 (before, AllAfter-trans e.0 p ps before ascends.0) (same_prefix-self e.0)))))
  | inr (inr back) ↦
      absurd (not_none (g p) (sym (found_not p p (e ∷ es) (back, AllAfter-trans p e.0 (keys_of es) back up.0) (same_prefix-self p)) ∙ found p
      ∙ ap (λ b. cond (b || has_prefix ps p) (Some (g p)) None) (same_prefix-self p)))
]

-- the entries of a map from each originated prefix to its originators
pub entries_are : (network : Network) (m : BTreeMap Prefix (List Origin)) → IsOrdered prefix_cmp m →
    ((p : Prefix) → get prefix_cmp m p ≡ some_of (origins_of network p)) → m.entries ≡ map (with_value (origins_of network)) (originated network)
entries_are network m ordered has =
    one_entries (origins_of network) m.entries (originated network) (ascending_keys m.entries ordered) (originated_ascends network)
    (λ p. sym (looked_up p m.entries) ∙ has p ∙ some_if (origins_of network p)
    ∙ ap (λ b. cond b (Some (origins_of network p)) None) (sym (has_originated network p)))
