-- The lines of the groups of a class are determined.
use Rattle.std.proofs.Common.{◌≡◌, ℕ, ◌+◌, false, List, [], ◌∷◌, ◌++◌, refl, sym, ap, ◌∙◌, subst, codes, is_some, flat_map}
use Rattle.std.specs.Prelude.{Contains, slice_index_or, decimal}
use Rattle.std.specs.List.{range_with_len}
use Rattle.base_kit.specs.Partition.{IsNumbered, members_of}
use Rattle.cfg_ast.specs.declared.network.Network.{Network}
use Rattle.cfg_ast.specs.declared.classes.DestClass.{DestClass}
use Rattle.cfg_ast.specs.meaning.Classes.{classes_of}
use Rattle.srp_core.specs.Alike.{ProblemsAlike}
use Rattle.srp_core.specs.Problem.{Problem}
use Rattle.srp_core.specs.Quotient.{IsCoarsest}
use Rattle.srp_core.proofs.Alike.{one_start}
use Rattle.srp_core.proofs.AlikeOf.{one_problem}
use Rattle.answer_groups.specs.GroupLines.{AreGroupLines}
use Rattle.group_report.specs.GroupLines.{mark_by, mark_of, group_mark, member_word, group_line, line_of_group, group_lines, HasGroupLines}
use Rattle.answer_kit.proofs.NumberedOnce.{one_count_of_groups}
use Rattle.answer_kit.proofs.OneClass.{some_prefix, one_list_of_groups}

flat_map_same : {X : Type 0} (f g : X → List ℕ) (xs : List X) → ((x : X) → f x ≡ g x) → flat_map f xs ≡ flat_map g xs
flat_map_same f g [] same = refl
flat_map_same f g (x ∷ xs) same = λ j. same x j ++ flat_map_same f g xs same j

module _ (P Q : Problem) (same : ProblemsAlike P Q) where
  same_mark : (u : ℕ) → mark_of P u ≡ mark_of Q u
  same_mark u = λ j. mark_by (is_some (one_start P Q same u j)) (slice_index_or (same.lone j) u false)

  same_group_mark : (members : List ℕ) → group_mark P members ≡ group_mark Q members
  same_group_mark [] = refl
  same_group_mark (u ∷ more) = same_mark u

  same_word : (u : ℕ) → member_word P u ≡ member_word Q u
  same_word u = ap (λ (names : List (List ℕ)). codes " " ++ slice_index_or names u []) same.names

  same_line : (number : ℕ) (members : List ℕ) → group_line P number members ≡ group_line Q number members
  same_line number members = λ j. codes "group " ++ decimal number ++ same_group_mark members j ++ codes ":"
      ++ flat_map_same (member_word P) (member_word Q) members same_word j ++ codes "\n"

  same_lines : (groups : List ℕ) (count : ℕ) → group_lines P groups count ≡ group_lines Q groups count
  same_lines groups count = flat_map_same (line_of_group P groups) (line_of_group Q groups) (range_with_len 0 count)
      (λ group. same_line (group + 1) (members_of groups group))

  one_text_of : (gs hs bs cs : List ℕ) → IsCoarsest P gs → IsCoarsest Q hs → HasGroupLines P gs bs → HasGroupLines Q hs cs → bs ≡ cs
  one_text_of gs hs bs cs c d x y =
      let groups = one_list_of_groups P Q same gs hs x.count y.count c d x.numbered y.numbered in
      let counts = one_count_of_groups hs x.count y.count (subst (λ (g : List ℕ). IsNumbered g x.count) groups x.numbered) y.numbered in
      x.lines ∙ same_lines gs x.count ∙ (λ j. group_lines Q (groups j) (counts j)) ∙ sym y.lines

pub one_text : (n : Network) (class : DestClass) → Contains (classes_of n) class → (bs cs : List ℕ) → AreGroupLines n class bs → AreGroupLines n class cs
    → bs ≡ cs
one_text n class c bs cs x y =
    let p = some_prefix n class c in
    one_text_of x.problem y.problem (one_problem n p.0 x.problem y.problem (x.are.of_class p.0 p.1) (y.are.of_class p.0 p.1)) x.groups y.groups bs cs
    x.are.coarsest y.are.coarsest x.lines y.lines
