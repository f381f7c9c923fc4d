-- The members of a printed text are the names that were printed.
use Rattle.std.proofs.Common.{◌≡◌, ℕ, ◌+◌, Bool, true, false, List, [], ◌∷◌, ◌++◌, length, map, flat_map, refl, sym, ap, ◌∙◌, arith, append_assoc, codes, count_by, Some}
use Rattle.std.specs.List.{AllByRecursion, slice_split, onto_first, cons_option}
use Rattle.std.proofs.lemmas.List.{append-nil}
use Rattle.std.proofs.lemmas.List.Elements.{All-from_recursion, filter_map-append}
use Rattle.std.proofs.lemmas.List.Splits.{slice_split_at, length-slice_split}
use Rattle.cfg_ast.specs.text.TextLines.{TextLine, text_line}
use Rattle.cfg_ast.specs.declared.network.Router.{Router}
use Rattle.cfg_ast.specs.text.Members.{all_lines_of, is_end_line, member_on, members_on, before_last, members_in, members_of_text}
use Rattle.cfg_ast.specs.printing.Bare.{bare_line}
use Rattle.cfg_ast.specs.printing.Printed.{line, closing, interface_lines, lines_of_some, bgp_lines, ospf_lines, prefix_list_lines, community_list_lines, route_map_lines, member_line, router_lines, routers_lines, printed_lines, lines_text, printed}
use Rattle.cfg_round_trip.specs.Notes.{IsRouterName}
use Rattle.cfg_round_trip.specs.MemberLaws.{MembersAreReadBack}
use Rattle.cfg_round_trip.proofs.LineBytes.{each_append}
use Rattle.cfg_round_trip.proofs.TextLines.{all_lines_back}
use Rattle.cfg_round_trip.proofs.PrintedNetwork.{printed_lines_are_lines}
use Rattle.cfg_round_trip.proofs.OtherLines.{AreOthers, closing_other, top_other, all_flat_map, some_others, interface_others, bgp_others, ospf_others, prefix_list_others, community_list_others, route_map_others}

-- ---- the numbers of lines are aside

abbrev bares : List TextLine → List TextLine
bares ls = map bare_line ls

bare_front : (l : TextLine) (parts : List (List TextLine)) → onto_first (bare_line l) (map bares parts) ≡ map bares (onto_first l parts)
bare_front l [] = refl
bare_front l (p ∷ ps) = refl

bare_case : (b : Bool) (l : TextLine) (ls : List TextLine) → is_end_line l ≡ b → slice_split is_end_line (bares ls) ≡ map bares (slice_split is_end_line ls) →
    slice_split is_end_line (bares (l ∷ ls)) ≡ map bares (slice_split is_end_line (l ∷ ls))
bare_case true l ls e rest = rw e (ap (λ (ps : List (List TextLine)). [] ∷ ps) rest)
bare_case false l ls e rest = rw e (ap (onto_first (bare_line l)) rest ∙ bare_front l (slice_split is_end_line ls))

bare_parts : (ls : List TextLine) → slice_split is_end_line (bares ls) ≡ map bares (slice_split is_end_line ls)
bare_parts [] = refl
bare_parts (l ∷ ls) = bare_case (is_end_line l) l ls refl (bare_parts ls)

bare_ended : (ps : List (List TextLine)) → before_last (map bares ps) ≡ map bares (before_last ps)
bare_ended [] = refl
bare_ended (p ∷ []) = refl
bare_ended (p ∷ q ∷ ps) = ap (λ (xs : List (List TextLine)). bares p ∷ xs) (bare_ended (q ∷ ps))

bare_names : (ls : List TextLine) → members_on (bares ls) ≡ members_on ls
bare_names [] = refl
bare_names (l ∷ ls) = ap (cons_option (member_on l.words)) (bare_names ls)

bare_all : (ps : List (List TextLine)) → map members_on (map bares ps) ≡ map members_on ps
bare_all [] = refl
bare_all (p ∷ ps) = ap (λ (ns : List (List ℕ)). ns ∷ map members_on (map bares ps)) (bare_names p)
    ∙ ap (λ (xs : List (List (List ℕ))). members_on p ∷ xs) (bare_all ps)

bare_members : (ls : List TextLine) → members_in (bares ls) ≡ members_in ls
bare_members ls = ap (λ (ps : List (List TextLine)). map members_on (before_last ps)) (bare_parts ls)
    ∙ ap (map members_on) (bare_ended (slice_split is_end_line ls)) ∙ bare_all (before_last (slice_split is_end_line ls))

-- ---- the lines of a router before its end

abbrev IsNoEnd : TextLine → Type 0
IsNoEnd l = is_end_line l ≡ false

-- lines that end no router, and the names on them
record Body (names : List (List ℕ)) (ls : List TextLine) : Type 0 where
  ends_none : AllByRecursion IsNoEnd ls
  members : members_on ls ≡ names

others_end_none : (ls : List TextLine) → AreOthers ls → AllByRecursion IsNoEnd ls
others_end_none [] each = tt
others_end_none (l ∷ ls) each = (each.0.ends_none, others_end_none ls each.1)

others_name_none : (ls : List TextLine) → AreOthers ls → members_on ls ≡ []
others_name_none [] each = refl
others_name_none (l ∷ ls) each = rw each.0.names_none (others_name_none ls each.1)

with_others : (names : List (List ℕ)) (xs ys : List TextLine) → Body names xs → AreOthers ys → Body names (xs ++ ys)
with_others names xs ys body others = record {
  ends_none = each_append IsNoEnd xs ys body.ends_none (others_end_none ys others);
  members = filter_map-append (λ (l : TextLine). member_on l.words) xs ys ∙ ap (λ (ns : List (List ℕ)). members_on xs ++ ns) (others_name_none ys others)
      ∙ append-nil (members_on xs) ∙ body.members;
}

member_found : (name : List ℕ) → IsRouterName name → member_on (codes "!" ∷ codes "member" ∷ name ∷ []) ≡ Some name
unfolding member_on
member_found name is = rw is refl

member_lines : (names : List (List ℕ)) → AllByRecursion IsRouterName names → Body names (map member_line names)
unfolding member_line
member_lines [] are = record { ends_none = tt; members = refl }
member_lines (name ∷ names) are =
    let rest = member_lines names are.1 in
    record {
      ends_none = (refl, rest.ends_none);
      members = rw (member_found name are.0) (ap (λ (ns : List (List ℕ)). name ∷ ns) rest.members);
    }

with_host : (name : List ℕ) (names : List (List ℕ)) (ls : List TextLine) → Body names ls → Body names (line 0 (codes "hostname" ∷ name ∷ []) ∷ ls)
with_host name names ls body =
    let host = top_other (codes "hostname") name [] refl in
    record { ends_none = (host.ends_none, body.ends_none); members = rw host.names_none body.members }

abbrev end_line : TextLine
end_line = line 0 (codes "end" ∷ [])

-- what is printed of a router before its end
abbrev router_body : Router → List (List ℕ) → List TextLine
router_body r names =
    line 0 (codes "hostname" ∷ r.name ∷ [])
    ∷ map member_line names ++ closing
    ∷ flat_map interface_lines r.interfaces
    ++ lines_of_some bgp_lines r.bgp
    ++ lines_of_some ospf_lines r.ospf
    ++ prefix_list_lines r.prefix_lists
    ++ community_list_lines r.community_lists
    ++ flat_map route_map_lines r.route_maps

body_is : (r : Router) (names : List (List ℕ)) → AllByRecursion IsRouterName names → Body names (router_body r names)
body_is r names are =
    let a = line 0 (codes "hostname" ∷ r.name ∷ []) ∷ map member_line names in
    let b = flat_map interface_lines r.interfaces in
    let c = lines_of_some bgp_lines r.bgp in
    let d = lines_of_some ospf_lines r.ospf in
    let e = prefix_list_lines r.prefix_lists in
    let f = community_list_lines r.community_lists in
    let one = with_host r.name names (map member_line names) (member_lines names are) in
    let two = with_others names a (closing ∷ b) one (closing_other, all_flat_map interface_lines interface_others r.interfaces) in
    let three = with_others names (a ++ closing ∷ b) c two (some_others bgp_lines bgp_others r.bgp) in
    let four = with_others names (a ++ closing ∷ b ++ c) d three (some_others ospf_lines ospf_others r.ospf) in
    let five = with_others names (a ++ closing ∷ b ++ c ++ d) e four (prefix_list_others r.prefix_lists) in
    let six = with_others names (a ++ closing ∷ b ++ c ++ d ++ e) f five (community_list_others r.community_lists) in
    with_others names (a ++ closing ∷ b ++ c ++ d ++ e ++ f) (flat_map route_map_lines r.route_maps) six
    (all_flat_map route_map_lines route_map_others r.route_maps)

-- ---- all routers

ended_first : (p : List TextLine) (parts : List (List TextLine)) (n : ℕ) → length parts ≡ n + 1 → before_last (p ∷ parts) ≡ p ∷ before_last parts
ended_first p [] n e = absurd (omega arith)
ended_first p (q ∷ parts) n e = refl

-- a router in front of others
router_first : (names : List (List ℕ)) (body rest : List TextLine) → Body names body → members_in (body ++ end_line ∷ rest) ≡ names ∷ members_in rest
router_first names body rest is =
    let parts = slice_split is_end_line rest in
    ap (λ (ps : List (List TextLine)). map members_on (before_last ps))
    (slice_split_at is_end_line body end_line rest (All-from_recursion IsNoEnd body is.ends_none) refl)
    ∙ ap (map members_on) (ended_first body parts (count_by is_end_line rest) (length-slice_split is_end_line rest))
    ∙ ap (λ (ns : List (List ℕ)). ns ∷ members_in rest) is.members

router_ends : (r : Router) (names : List (List ℕ)) (rest : List TextLine) → router_lines r names ++ rest ≡ router_body r names ++ end_line ∷ rest
unfolding router_lines
router_ends r names rest = append_assoc (router_body r names) (end_line ∷ []) rest

routers_back : (rs : List Router) (members : List (List (List ℕ))) → length members ≡ length rs → AllByRecursion (AllByRecursion IsRouterName) members →
    members_in (routers_lines rs members) ≡ members
routers_back [] [] e are = refl
routers_back [] (m ∷ ms) e are = absurd (omega arith)
routers_back (r ∷ rs) [] e are = absurd (omega arith)
routers_back (r ∷ rs) (m ∷ ms) e are =
    ap members_in (router_ends r m (routers_lines rs ms)) ∙ router_first m (router_body r m) (routers_lines rs ms) (body_is r m are.0)
    ∙ ap (λ (ns : List (List (List ℕ))). m ∷ ns) (routers_back rs ms (omega arith) are.1)

pub members_back : MembersAreReadBack
unfolding members_of_text printed
members_back network notes is are =
    let ls = printed_lines network notes in
    let bs = lines_text ls in
    sym (bare_members (map (text_line bs) (all_lines_of bs))) ∙ ap members_in (all_lines_back ls (printed_lines_are_lines network notes is are))
    ∙ bare_members ls ∙ routers_back network.routers notes.members are.total are.names
