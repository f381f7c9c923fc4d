-- What keeping and recalling do to the entries.
use Rattle.std.proofs.Common.{◌≡◌, ℕ, zero, suc, ◌+◌, ◌-◌, ◌<◌, ◌≤◌, true, false, List, [], ◌∷◌, length, take, Contains, Option, Some, None, ◌⊎◌, if◌then◌else◌, inl, inr, refl, sym, ◌∙◌, ap, subst, arith, rules}
use Rattle.std.specs.Option.{option_map, option_map_or}
use Rattle.std.specs.Map.{lookup_entry}
use Rattle.std.specs.Cmp.{IsEquivalence}
use Rattle.std.proofs.lemmas.List.{take_all}
use Rattle.lru.specs.LruCache.{promoted}
use Rattle.lru.proofs.CallerLemmas.{Contains-take, Contains-lookup, Contains-lookup_entry, Contains-remove_entry}
use Rattle.lru.proofs.Splits.{Contains-cons, Contains-nil}
use Rattle.dd_cache.specs.declared.cache.OpKey.{OpKey}
use Rattle.dd_cache.specs.Memory.{same_key, found, without, brought, recalled, kept}

pub same_key_laws : IsEquivalence same_key
same_key_laws = search rules

pub key_from_same : (key other : OpKey) → same_key key other ≡ true → other ≡ key
key_from_same key other same = search rules

module _ (key : OpKey) where
  lookup-lookup_entry : (es : List (OpKey × ℕ)) → option_map (λ e. e.1) (lookup_entry (same_key key) es) ≡ found key es
  lookup-lookup_entry [] = refl
  lookup-lookup_entry (e ∷ es) = elim (same_key key e.0) as
      (λ y. option_map (λ (f : OpKey × ℕ). f.1) (if y then Some e else lookup_entry (same_key key) es) ≡ (if y then Some e.1 else found key es)) [
        | true ↦ refl
        | false ↦ lookup-lookup_entry es
      ]

  first_key : (es : List (OpKey × ℕ)) (e : OpKey × ℕ) → lookup_entry (same_key key) es ≡ Some e → e.0 ≡ key
  first_key es e is = key_from_same key e.0 (Contains-lookup_entry (same_key key) es e is).1

  promoted_by : (es : List (OpKey × ℕ)) (o : Option (OpKey × ℕ)) → lookup_entry (same_key key) es ≡ o →
      option_map_or (λ e. e ∷ without key es) o es ≡ brought key (option_map (λ e. e.1) o) es
  promoted_by es None none = refl
  promoted_by es (Some e) is = ap (λ (k : OpKey). (k, e.1) ∷ without key es) (first_key es e is)

  pub promoted_recalled : (es : List (OpKey × ℕ)) → promoted (same_key key) es ≡ recalled key es
  promoted_recalled es = promoted_by es (lookup_entry (same_key key) es) refl ∙ ap (λ o. brought key o es) (lookup-lookup_entry es)

  without_missing : (es : List (OpKey × ℕ)) → lookup_entry (same_key key) es ≡ None → without key es ≡ es
  without_missing [] none = refl
  without_missing (e ∷ es) none = (elim (same_key key e.0) as (λ y. same_key key e.0 ≡ y → without key (e ∷ es) ≡ e ∷ es) [
    | true ↦ λ t. let some = rw t at none in absurd cc
    | false ↦ λ t. rw t (ap (λ (l : List (OpKey × ℕ)). e ∷ l) (without_missing es (rw t at none)))
  ]) refl

  length-without : (es : List (OpKey × ℕ)) (f : OpKey × ℕ) → lookup_entry (same_key key) es ≡ Some f → length (without key es) + 1 ≡ length es
  length-without [] f is = absurd cc
  length-without (e ∷ es) f is = (elim (same_key key e.0) as (λ y. same_key key e.0 ≡ y → length (without key (e ∷ es)) + 1 ≡ length (e ∷ es)) [
    | true ↦ λ t. rw t (omega arith)
    | false ↦ λ t. let rest = length-without es f (rw t at is) in rw t (omega arith)
  ]) refl

  take_first : (n node : ℕ) (es : List (OpKey × ℕ)) → 0 < n → (key, node) ∷ take (n - 1) es ≡ take n ((key, node) ∷ es)
  take_first zero node es some = absurd (omega arith)
  take_first (suc n) node es some = let e : suc n - 1 ≡ n = omega arith in rw e refl

  put_by : (capacity node : ℕ) (es : List (OpKey × ℕ)) (o : Option (OpKey × ℕ)) → 0 < capacity → length es ≤ capacity → lookup_entry (same_key key) es ≡ o
      → option_map_or (λ e. (e.0, node) ∷ without key es) o ((key, node) ∷ take (capacity - 1) es) ≡ kept capacity key node es
  put_by capacity node es None some fits none = rw (without_missing es none) (take_first capacity node es some)
  put_by capacity node es (Some e) some fits is =
      let less = length-without es e is in
      let all : kept capacity key node es ≡ (key, node) ∷ without key es = take_all capacity ((key, node) ∷ without key es) (omega arith) in
      ap (λ (k : OpKey). (k, node) ∷ without key es) (first_key es e is) ∙ sym all

  pub put_kept : (capacity node : ℕ) (es : List (OpKey × ℕ)) → 0 < capacity → length es ≤ capacity
      → option_map_or (λ e. (e.0, node) ∷ without key es) (lookup_entry (same_key key) es) ((key, node) ∷ take (capacity - 1) es) ≡ kept capacity key node es
  put_kept capacity node es some fits = put_by capacity node es (lookup_entry (same_key key) es) some fits refl

  found_first : (node : ℕ) (es : List (OpKey × ℕ)) → found key ((key, node) ∷ es) ≡ Some node
  found_first node es = rw (same_key_laws.refl key) refl

  -- an entry brought to the front is found again
  pub found-recalled : (es : List (OpKey × ℕ)) → found key (recalled key es) ≡ found key es
  found-recalled es = by (found key es) refl
    where
      by : (o : Option ℕ) → found key es ≡ o → found key (brought key o es) ≡ o
      by None none = none
      by (Some node) is = found_first node (without key es)

  pub found-kept : (capacity node : ℕ) (es : List (OpKey × ℕ)) → 0 < capacity → found key (kept capacity key node es) ≡ Some node
  found-kept capacity node es some = rw (sym (take_first capacity node (without key es) some)) (found_first node (take (capacity - 1) (without key es)))

  -- what is found is kept under this very key
  pub found_there : (es : List (OpKey × ℕ)) (node : ℕ) → found key es ≡ Some node → Contains es (key, node)
  found_there es node is =
      let (k, there, same) = Contains-lookup (same_key key) es node is in
      subst (λ (q : OpKey). Contains es (q, node)) (key_from_same key k same) there

  -- recalling keeps nothing new
  pub Contains-recalled : (es : List (OpKey × ℕ)) (e : OpKey × ℕ) → Contains (recalled key es) e → Contains es e
  Contains-recalled es e = by (found key es) refl
    where
      by : (o : Option ℕ) → found key es ≡ o → Contains (brought key o es) e → Contains es e
      by None none there = there
      by (Some node) is there = elim (Contains-cons (key, node) (without key es) e there) [
        | inl same ↦ subst (Contains es) same (found_there es node is)
        | inr rest ↦ Contains-remove_entry (same_key key) es e rest
      ]

  -- each entry kept was there before, or is the new one
  pub Contains-kept : (capacity node : ℕ) (es : List (OpKey × ℕ)) (e : OpKey × ℕ) → Contains (kept capacity key node es) e → Contains es e ⊎ ((key, node) ≡ e)
  Contains-kept capacity node es e there = elim (Contains-cons (key, node) (without key es) e (Contains-take capacity ((key, node) ∷ without key es) e there)) [
    | inl same ↦ inr same
    | inr rest ↦ inl (Contains-remove_entry (same_key key) es e rest)
  ]

pub Contains-none : (e : OpKey × ℕ) → Contains [] e → ⊥
Contains-none e there = Contains-nil e there
