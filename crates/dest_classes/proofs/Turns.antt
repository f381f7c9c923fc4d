-- Some more of the lists are asked at each turn.
use Rattle.std.proofs.Common.{◌≡◌, ℕ, ◌+◌, ◌-◌, ◌≤◌, List, [], ◌++◌, map, take, drop, length, sym, ◌∙◌, ap, subst, arith}
use Rattle.std.specs.Prelude.{slice_range}
use Rattle.std.proofs.lemmas.List.{take-append-drop, take-take, drop-take, take-map, drop-map, take_all}
use Rattle.base_kit.specs.Prefixes.{Prefix}
use Rattle.cfg_ast.specs.declared.classes.Origin.{Origin}
use Rattle.cfg_ast.specs.declared.policy.PrefixList.{PrefixList}
use Rattle.dest_classes.specs.declared.cells.Member.{Member}
use Rattle.dest_classes.specs.Cells.{asked, AreMembers}
use Rattle.dest_classes.proofs.Asked.{asked_told}

take_further : {X : Type 0} (i j : ℕ) (xs : List X) → i ≤ j → take i xs ++ take (j - i) (drop i xs) ≡ take j xs
take_further i j xs within =
    let whole : i + (j - i) ≡ j = omega arith in
    ap (λ ys. ys ++ take (j - i) (drop i xs)) (sym (take-take i j xs within))
    ∙ ap (λ ys. take i (take j xs) ++ ys) (sym (drop-take i (j - i) xs) ∙ ap (λ n. drop i (take n xs)) whole) ∙ take-append-drop i (take j xs)

range_of : {X : Type 0} (f : X → PrefixList) (i j : ℕ) (xs : List X) → map f (slice_range xs i j) ≡ take (j - i) (drop i (map f xs))
range_of f i j xs = sym (take-map f (j - i) (drop i xs)) ∙ ap (take (j - i)) (sym (drop-map f i xs))

-- the lists from i up to j are asked
pub one_turn : {X : Type 0} (f : X → PrefixList) (xs first : List X) (i j : ℕ) (entries : List (Prefix × List Origin)) (old new : List Member) → i ≤ j →
    first ≡ slice_range xs i j → new ≡ asked (map f first) [] old
    → AreMembers entries (take i (map f xs)) old → AreMembers entries (take j (map f xs)) new
one_turn f xs first i j entries old new within cut was are =
    subst (λ (lists : List PrefixList). AreMembers entries lists new) (ap (λ more. take i (map f xs) ++ more) (ap (map f) cut ∙ range_of f i j xs)
    ∙ take_further i j (map f xs) within)
    (subst (AreMembers entries (take i (map f xs) ++ map f first)) (sym was) (asked_told (take i (map f xs)) (map f first) entries old are))

pub all_turns : (lists : List PrefixList) (n : ℕ) (entries : List (Prefix × List Origin)) (members : List Member) → length lists ≤ n →
    AreMembers entries (take n lists) members → AreMembers entries lists members
all_turns lists n entries members within are = subst (λ (ls : List PrefixList). AreMembers entries ls members) (take_all n lists within) are
