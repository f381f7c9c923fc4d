-- Groups by cells are those by what the lists answer.
use Rattle.std.proofs.Common.{◌≡◌, Bool, true, false, cond, ◌&&◌, List, [], ◌∷◌, ◌++◌, map, refl, sym, ◌∙◌, ap, true≢false}
use Rattle.std.specs.Prelude.{nat_eq}
use Rattle.std.specs.Bool.{beq}
use Rattle.std.specs.List.{AllByRecursion}
use Rattle.base_kit.specs.Prefixes.{Prefix}
use Rattle.cfg_ast.specs.declared.classes.DestClass.{DestClass}
use Rattle.cfg_ast.specs.declared.classes.Origin.{Origin}
use Rattle.cfg_ast.specs.declared.policy.PrefixList.{PrefixList}
use Rattle.cfg_ast.specs.meaning.Classes.{same_items, same_origin}
use Rattle.dest_classes.specs.declared.cells.Member.{Member}
use Rattle.dest_classes.specs.Lists.{answers_to}
use Rattle.dest_classes.specs.Cells.{entries_of, IsCellTold, AreAllTold, AreMembers}
use Rattle.dest_classes.specs.Groups.{Group, belongs, grouped_with, grouped_with_all, class_from}
use Rattle.dest_classes.proofs.Traits.{Traits, same_traits, Likes, with_like, with_likes, class_of_likes}

module _ (lists : List PrefixList) where
  abbrev traits_at : Member → Traits
  traits_at m = record { origins = m.origins; answers = answers_to lists m.prefix }

  -- a member is of the cell of one group exactly if the lists answer it as they answer the members of
  -- the other
  record IsAlike (group : Group) (likes : Likes) (m : Member) : Type 0 where
    alike : nat_eq m.cell group.cell ≡ same_items beq (answers_to lists m.prefix) likes.traits.answers

  -- the groups have the same members so far, and will have the same of those that are left
  record IsOne (left : List Member) (group : Group) (likes : Likes) : Type 0 where
    origins : group.origins ≡ likes.traits.origins
    prefixes : group.prefixes ≡ likes.prefixes
    later : AllByRecursion (IsAlike group likes) left

  abbrev AreOne : List Member → List Group → List Likes → Type 0
  AreOne left [] [] = Unit {0}
  AreOne left [] (like ∷ likes) = ⊥
  AreOne left (group ∷ groups) [] = ⊥
  AreOne left (group ∷ groups) (like ∷ likes) = IsOne left group like × AreOne left groups likes

  new_later : (m : Member) (left : List Member) (prefixes : List Prefix) → AllByRecursion (IsCellTold lists m) left
      → AllByRecursion (IsAlike (record { origins = m.origins; cell = m.cell; prefixes = prefixes }) (record { traits = traits_at m; prefixes = prefixes }))
      left
  new_later m [] prefixes told = tt
  new_later m (n ∷ left) prefixes told = (record { alike = told.0.alike }, new_later m left prefixes told.1)

  with_more : (left : List Member) (group : Group) (like : Likes) (prefixes others : List Prefix) → AllByRecursion (IsAlike group like) left
      → AllByRecursion (IsAlike (record group { prefixes = prefixes }) (record like { prefixes = others })) left
  with_more [] group like prefixes others later = tt
  with_more (n ∷ left) group like prefixes others later = (record { alike = later.0.alike }, with_more left group like prefixes others later.1)

  belongs_alike : (m : Member) (left : List Member) (group : Group) (like : Likes) → IsOne (m ∷ left) group like →
      belongs m group ≡ same_traits (traits_at m) like.traits
  belongs_alike m left group like one = ap (λ origins. same_items same_origin m.origins origins && nat_eq m.cell group.cell) one.origins
      ∙ ap (λ b. same_items same_origin m.origins like.traits.origins && b) one.later.0.alike

  fewer : (m : Member) (left : List Member) (groups : List Group) (likes : List Likes) → AreOne (m ∷ left) groups likes → AreOne left groups likes
  fewer m left [] [] are = tt
  fewer m left [] (like ∷ likes) are = are
  fewer m left (group ∷ groups) [] are = are
  fewer m left (group ∷ groups) (like ∷ likes) are =
      (record { origins = are.0.origins; prefixes = are.0.prefixes; later = are.0.later.1 }, fewer m left groups likes are.1)

  one_more : (m : Member) (left : List Member) (groups : List Group) (likes : List Likes) → AllByRecursion (IsCellTold lists m) left →
      AreOne (m ∷ left) groups likes → AreOne left (grouped_with m groups) (with_like (traits_at m) m.prefix likes)
  one_more m left [] [] told are = (record { origins = refl; prefixes = refl; later = new_later m left (m.prefix ∷ []) told }, tt)
  one_more m left [] (like ∷ likes) told are = absurd are
  one_more m left (group ∷ groups) [] told are = absurd are
  one_more m left (group ∷ groups) (like ∷ likes) told are =
      step (belongs m group) (same_traits (traits_at m) like.traits) (belongs_alike m left group like are.0) (one_more m left groups likes told are.1) where
        step : (b c : Bool) → b ≡ c → AreOne left (grouped_with m groups) (with_like (traits_at m) m.prefix likes)
            → AreOne left (cond b (record group { prefixes = group.prefixes ++ m.prefix ∷ [] } ∷ groups) (group ∷ grouped_with m groups))
            (cond c (record like { prefixes = like.prefixes ++ m.prefix ∷ [] } ∷ likes) (like ∷ with_like (traits_at m) m.prefix likes))
        step true true same rest = (
          record {
            origins = are.0.origins;
            prefixes = ap (λ ps. ps ++ m.prefix ∷ []) are.0.prefixes;
            later =
                with_more left group like _ _ are.0.later.1;
          },
          fewer m left groups likes are.1,
        )
        step true false same rest = absurd (true≢false same)
        step false true same rest = absurd (true≢false (sym same))
        step false false same rest = (record { origins = are.0.origins; prefixes = are.0.prefixes; later = are.0.later.1 }, rest)

  all_one : (ms : List Member) (groups : List Group) (likes : List Likes) → AreAllTold lists ms → AreOne ms groups likes →
      AreOne [] (grouped_with_all ms groups) (with_likes lists (entries_of ms) likes)
  all_one [] groups likes told are = are
  all_one (m ∷ ms) groups likes told are =
      all_one ms (grouped_with m groups) (with_like (traits_at m) m.prefix likes) told.1 (one_more m ms groups likes told.0 are)

  classes_one : (groups : List Group) (likes : List Likes) → AreOne [] groups likes → map class_from groups ≡ map class_of_likes likes
  classes_one [] [] are = refl
  classes_one [] (like ∷ likes) are = absurd are
  classes_one (group ∷ groups) [] are = absurd are
  classes_one (group ∷ groups) (like ∷ likes) are =
      ap (λ ps. let c : DestClass = record { prefixes = ps; origins = group.origins } in c ∷ map class_from groups) are.0.prefixes
      ∙ ap (λ os. let c : DestClass = record { prefixes = like.prefixes; origins = os } in c ∷ map class_from groups) are.0.origins
      ∙ ap (λ cs. class_of_likes like ∷ cs) (classes_one groups likes are.1)

-- the classes from groups by cells are those from groups by answers
pub cells_do : (lists : List PrefixList) (entries : List (Prefix × List Origin)) (ms : List Member) → AreMembers entries lists ms →
    map class_from (grouped_with_all ms []) ≡ map class_of_likes (with_likes lists entries [])
cells_do lists entries ms are = classes_one lists (grouped_with_all ms []) (with_likes lists (entries_of ms) []) (all_one lists ms [] [] are.told tt)
    ∙ ap (λ es. map class_of_likes (with_likes lists es [])) are.entries_are
