-- Plain maps that are the same except for the names of their lists and line numbers. A route map of IOS
-- matches communities by what its lists say, and not by the names of the lists.
use Rattle.std.specs.Prelude.{Bool, true, false, ◌&&◌, List, Option, Some, None, nat_eq, bytes_eq}
use Rattle.std.specs.Bool.{beq}
use Rattle.std.specs.Option.{option_eq}
use Rattle.cfg_ast.specs.meaning.Classes.{same_items}
use Rattle.cfg_ast.specs.declared.policy.Change.{Change}
use Rattle.cfg_ast.specs.declared.policy.Change.TheVariants.{Clear, Replace, Append}
use Rattle.cfg_ast.specs.declared.policy.CommunityLine.{CommunityLine}
use Rattle.cfg_ast.specs.declared.policy.CommunityList.{CommunityList}
use Rattle.route_maps.specs.declared.plain.Plain.{Plain}
use Rattle.route_maps.specs.declared.plain.PlainEntry.{PlainEntry}

-- the line permits or denies the same communities
abbrev pub same_line : CommunityLine → CommunityLine → Bool
same_line a b = beq a.permit b.permit && bytes_eq a.comms b.comms

-- the same lines, in order
abbrev pub same_list : CommunityList → CommunityList → Bool
same_list a b = same_items same_line a.lines b.lines

-- lists that are matched, exactly or not; without lists the mark says nothing
abbrev pub same_match : Bool → Bool → Option (List CommunityList) → Option (List CommunityList) → Bool
same_match e f None None = true
same_match e f None (Some ys) = false
same_match e f (Some xs) None = false
same_match e f (Some xs) (Some ys) = beq e f && same_items same_list xs ys

-- the same change by the same communities
abbrev pub same_change : Change → Change → Bool
same_change Clear Clear = true
same_change (Replace a) (Replace b) = bytes_eq a b
same_change (Append a) (Append b) = bytes_eq a b
same_change _ _ = false

-- all that an entry has, except those names and numbers
abbrev pub same_entry : PlainEntry → PlainEntry → Bool
same_entry a b =
    nat_eq a.seq b.seq && (beq a.permit b.permit && (same_match a.exact b.exact a.lists b.lists
    && (option_eq nat_eq a.lp b.lp && (option_eq same_change a.change b.change && (option_eq same_list a.delete b.delete && nat_eq a.adds b.adds)))))

-- the same entries, in order
unfoldable pub same_map : Plain → Plain → Bool
same_map a b = same_items same_entry a.entries b.entries
