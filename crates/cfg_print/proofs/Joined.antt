-- Words in a row, closed lines, and the lines of routers taken from the front.
use Rattle.std.proofs.Common.{◌≡◌, ℕ, zero, suc, ◌+◌, ◌<◌, List, [], ◌∷◌, ◌++◌, length, drop, get_or, map, codes, Bool, refl, sym, ap, ◌∙◌, arith, append_assoc, length-append}
use Rattle.std.specs.Prelude.{if◌then◌else◌, replicate}
use Rattle.std.specs.Fmt.{decimal}
use Rattle.std.specs.List.{join_with_byte}
use Rattle.std.proofs.lemmas.List.{append-nil, drop_more, drop_all}
use Rattle.std.proofs.lemmas.Grind.{flat_map-append}
use Rattle.cfg_ast.specs.text.TextLines.{TextLine}
use Rattle.cfg_ast.specs.declared.network.Router.{Router}
use Rattle.cfg_ast.specs.declared.network.Named.{Named}
use Rattle.cfg_ast.specs.declared.policy.NameLine.{NameLine}
use Rattle.cfg_ast.specs.declared.policy.Prepend.{Prepend}
use Rattle.cfg_ast.specs.declared.policy.MapEntry.{MapEntry}
use Rattle.cfg_ast.specs.declared.policy.CommunityLine.{CommunityLine}
use Rattle.cfg_ast.specs.declared.policy.PrefixEntry.{PrefixEntry}
use Rattle.cfg_ast.specs.declared.policy.Change.TheVariants.{Clear, Replace, Append}
use Rattle.cfg_ast.specs.printing.Printed.{line_text, lines_text, closing, closed, router_lines, routers_lines, match_prefixes_line, match_comms_line, change_line, prepend_line, lp_line, map_head_line, delete_line, peer_sends_line, address_text, community_text, community_list_name, community_list_line, act_text, bound_words, prefix_text, prefix_entry_line}
use Rattle.printed_words.specs.Spaced.{spaced, spaced_words}
use Rattle.printed_words.proofs.Joined.{joined, spaced_both}
use Rattle.cfg_print.specs.Fronts.{prefix_words}

-- ---- lines with as many words as there are

regroup_head : (n a d : List ℕ) → codes "route-map " ++ (n ++ 32 ∷ (a ++ 32 ∷ d)) ++ 10 ∷ [] ≡ codes "route-map " ++ n
    ++ (spaced a ++ codes " " ++ d ++ codes "\n")
regroup_head n a d = simp append_assoc

pub match_prefixes_text : (l : NameLine) → line_text (match_prefixes_line l) ≡ codes " match ip address prefix-list" ++ spaced_words l.names ++ 10 ∷ []
unfolding match_prefixes_line
match_prefixes_text l = ap (λ (xs : List ℕ). codes " match ip address " ++ xs ++ 10 ∷ []) (joined (codes "prefix-list") l.names)

pub match_comms_text : (exact : Bool) (l : NameLine) → line_text (match_comms_line exact l) ≡ codes " match community" ++ spaced_words l.names
    ++ spaced_words (if exact then codes "exact-match" ∷ [] else []) ++ 10 ∷ []
unfolding match_comms_line
match_comms_text exact l =
    let mark : List (List ℕ) = if exact then codes "exact-match" ∷ [] else [] in
    ap (λ (xs : List ℕ). codes " match " ++ xs ++ 10 ∷ []) (joined (codes "community") (l.names ++ mark))
    ∙ ap (λ (xs : List ℕ). codes " match community" ++ xs ++ 10 ∷ []) (spaced_both l.names mark)
    ∙ ap (λ (xs : List ℕ). xs ++ 10 ∷ []) (sym (append_assoc (codes " match community") (spaced_words l.names) (spaced_words mark)))

pub clear_text : line_text (change_line Clear) ≡ codes " set community none\n"
unfolding change_line
clear_text = refl

pub replace_text : (comms : List ℕ) → line_text (change_line (Replace comms)) ≡ codes " set community" ++ spaced_words (map community_text comms) ++ 10 ∷ []
unfolding change_line
replace_text comms = ap (λ (xs : List ℕ). codes " set " ++ xs ++ 10 ∷ []) (joined (codes "community") (map community_text comms))

pub append_text : (comms : List ℕ) → line_text (change_line (Append comms)) ≡ codes " set community" ++ spaced_words (map community_text comms)
    ++ codes " additive\n"
unfolding change_line
append_text comms =
    let words = map community_text comms in
    let mark : List (List ℕ) = codes "additive" ∷ [] in
    ap (λ (xs : List ℕ). codes " set " ++ xs ++ 10 ∷ []) (joined (codes "community") (words ++ mark))
    ∙ ap (λ (xs : List ℕ). codes " set community" ++ xs ++ 10 ∷ []) (spaced_both words mark)
    ∙ ap (λ (xs : List ℕ). codes " set community" ++ xs) (append_assoc (spaced_words words) (codes " additive") (10 ∷ []))

pub prepend_text : (p : Prepend) → line_text (prepend_line p) ≡ codes " set as-path prepend" ++ spaced_words (map decimal p.numbers) ++ 10 ∷ []
unfolding prepend_line
prepend_text p = ap (λ (xs : List ℕ). codes " set as-path " ++ xs ++ 10 ∷ []) (joined (codes "prepend") (map decimal p.numbers))

pub community_line_text : (name : List ℕ) (c : CommunityLine)
    → line_text (community_list_line name c) ≡ codes "ip community-list" ++ spaced_words (community_list_name name) ++ spaced (act_text c.permit)
    ++ spaced_words (map community_text c.comms) ++ 10 ∷ []
unfolding community_list_line
community_line_text name c =
    let words = map community_text c.comms in
    let names = community_list_name name in
    ap (λ (xs : List ℕ). codes "ip " ++ xs ++ 10 ∷ []) (joined (codes "community-list") (names ++ act_text c.permit ∷ words))
    ∙ ap (λ (xs : List ℕ). codes "ip community-list" ++ xs ++ 10 ∷ []) (spaced_both names (act_text c.permit ∷ words))
    ∙ ap (λ (xs : List ℕ). xs ++ 10 ∷ []) (sym (append_assoc (codes "ip community-list") (spaced_words names)
    (spaced (act_text c.permit) ++ spaced_words words)) ∙ sym
    (append_assoc (codes "ip community-list" ++ spaced_words names) (spaced (act_text c.permit)) (spaced_words words)))

regroup : (n d a p g l : List ℕ)
    → codes "ip prefix-list " ++ (n ++ 32 ∷ (codes "seq" ++ 32 ∷ (d ++ 32 ∷ (a ++ 32 ∷ (p ++ (g ++ l)))))) ++ 10 ∷ [] ≡ codes "ip prefix-list " ++ n
    ++ (codes " seq " ++ d ++ spaced a ++ codes " " ++ p ++ g ++ l ++ 10 ∷ [])
regroup n d a p g l = simp append_assoc

pub prefix_entry_text : (name : List ℕ) (e : PrefixEntry) → line_text (prefix_entry_line name e) ≡ codes "ip prefix-list " ++ name
    ++ (prefix_words e ++ spaced_words (bound_words (codes "ge") e.ge) ++ spaced_words (bound_words (codes "le") e.le) ++ 10 ∷ [])
unfolding prefix_entry_line prefix_words
prefix_entry_text name e =
    let ge = bound_words (codes "ge") e.ge in
    let le = bound_words (codes "le") e.le in
    ap (λ (xs : List ℕ). codes "ip prefix-list " ++ (name ++ 32 ∷ (codes "seq" ++ 32 ∷ (decimal e.seq ++ 32 ∷ (act_text e.permit ++ 32 ∷ xs)))) ++ 10 ∷ [])
    (joined (prefix_text e.prefix) (ge ++ le) ∙ ap (λ (ys : List ℕ). prefix_text e.prefix ++ ys) (spaced_both ge le))
    ∙ regroup name (decimal e.seq) (act_text e.permit) (prefix_text e.prefix) (spaced_words ge) (spaced_words le)

pub map_head_text : (name : List ℕ) (e : MapEntry) → lines_text (map_head_line name e ∷ []) ≡ codes "route-map " ++ name
    ++ (spaced (act_text e.permit) ++ codes " " ++ decimal e.seq ++ codes "\n")
unfolding map_head_line
map_head_text name e = append-nil (line_text (map_head_line name e)) ∙ regroup_head name (act_text e.permit) (decimal e.seq)

pub lp_text : (lp : ℕ) → line_text (lp_line lp) ≡ codes " set local-preference" ++ spaced (decimal lp) ++ 10 ∷ []
unfolding lp_line
lp_text lp = refl

pub delete_text : (list : Named) → line_text (delete_line list) ≡ codes " set comm-list" ++ spaced list.name ++ codes " delete\n"
unfolding delete_line
delete_text list = ap (λ (xs : List ℕ). codes " set comm-list " ++ xs) (append_assoc list.name (codes " delete") (10 ∷ []))

pub sends_text : (addr : ℕ) → line_text (peer_sends_line addr) ≡ codes " neighbor " ++ address_text addr ++ codes " send-community\n"
unfolding peer_sends_line
sends_text addr = ap (λ (xs : List ℕ). codes " neighbor " ++ xs) (append_assoc (address_text addr) (codes " send-community") (10 ∷ []))

-- ---- closed lines

line_front : (xs ys : List ℕ) → length (xs ++ 10 ∷ [] ++ ys) ≡ 0 → ⊥
line_front xs ys none = omega (arith, length-append (xs ++ 10 ∷ []) ys, length-append xs (10 ∷ []))

-- lines that have bytes are some, and are closed
pub closed_some : (ls : List TextLine) → 0 < length (lines_text ls) → lines_text (closed ls) ≡ lines_text ls ++ line_text closing
closed_some [] some = absurd (omega arith)
closed_some (l ∷ ls) some = flat_map-append line_text (l ∷ ls) (closing ∷ []) ∙ ap (λ (xs : List ℕ). lines_text (l ∷ ls) ++ xs) (append-nil (line_text closing))

pub closed_none : (ls : List TextLine) → length (lines_text ls) ≡ 0 → lines_text (closed ls) ≡ lines_text ls
closed_none [] none = refl
closed_none (l ∷ ls) none = absurd (line_front (replicate l.indent 32 ++ join_with_byte 32 l.words) (lines_text ls) none)

abbrev first_names : List (List (List ℕ)) → List (List ℕ)
first_names [] = []
first_names (m ∷ ms) = m

abbrev other_names : List (List (List ℕ)) → List (List (List ℕ))
other_names [] = []
other_names (m ∷ ms) = ms

head_of : (ms : List (List (List ℕ))) (i : ℕ) → (first_names (drop i ms) ≡ get_or ms i []) × (other_names (drop i ms) ≡ drop (i + 1) ms)
head_of [] zero = (refl, refl)
head_of (m ∷ ms) zero = (refl, refl)
head_of [] (suc i) = (refl, rw (drop_all {X = List (List ℕ)} (suc i + 1) [] (omega arith)) refl)
head_of (m ∷ ms) (suc i) =
    let rest = head_of ms i in
    let next : suc (i + 1) ≡ suc i + 1 = omega arith in
    (rest.0, rest.1 ∙ ap (λ (k : ℕ). drop k (m ∷ ms)) next)

first_case : (r : Router) (rs : List Router) (ms others : List (List (List ℕ))) (names : List (List ℕ)) → (first_names ms ≡ names) × (other_names ms ≡ others) →
    lines_text (routers_lines (r ∷ rs) ms) ≡ lines_text (router_lines r names) ++ lines_text (routers_lines rs others)
first_case r rs [] others names is = flat_map-append line_text (router_lines r []) (routers_lines rs [])
    ∙ ap (λ (ns : List (List ℕ)). lines_text (router_lines r ns) ++ lines_text (routers_lines rs [])) is.0
    ∙ ap (λ (os : List (List (List ℕ))). lines_text (router_lines r names) ++ lines_text (routers_lines rs os)) is.1
first_case r rs (m ∷ ms) others names is = flat_map-append line_text (router_lines r m) (routers_lines rs ms)
    ∙ ap (λ (ns : List (List ℕ)). lines_text (router_lines r ns) ++ lines_text (routers_lines rs ms)) is.0
    ∙ ap (λ (os : List (List (List ℕ))). lines_text (router_lines r names) ++ lines_text (routers_lines rs os)) is.1

-- the first of the routers that are left, and the others
pub routers_next : (rs : List Router) (ms : List (List (List ℕ))) (i : ℕ) (r : Router) → i < length rs → r ≡ get_or rs i r
    → lines_text (routers_lines (drop i rs) (drop i ms)) ≡ lines_text (router_lines r (get_or ms i []))
    ++ lines_text (routers_lines (drop (i + 1) rs) (drop (i + 1) ms))
routers_next rs ms i r lt e =
    ap (λ (xs : List Router). lines_text (routers_lines xs (drop i ms))) (drop_more rs i r lt ∙ ap (λ (s : Router). s ∷ drop (i + 1) rs) (sym e))
    ∙ first_case r (drop (i + 1) rs) (drop i ms) (drop (i + 1) ms) (get_or ms i []) (head_of ms i)
