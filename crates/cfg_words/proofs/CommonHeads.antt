-- What the most common heads say of the lines that they begin.
use Rattle.std.proofs.Common.{◌≡◌, ℕ, ◌+◌, ◌<◌, ◌≤◌, Bool, true, false, List, [], ◌∷◌, ◌++◌, length, take, drop, slice_index, codes, Some, refl, sym, ap₂, ◌∙◌, zero, suc, arith}
use Rattle.std.proofs.lemmas.List.{take_more, take_all}
use Rattle.cfg_ast.specs.declared.line.Span.{Span}
use Rattle.cfg_ast.specs.declared.heads.HeadClass.{HeadClass}
use Rattle.cfg_ast.specs.declared.heads.HeadClass.TheVariants.{Router, Policy}
use Rattle.cfg_ast.specs.declared.heads.RouterForm.TheVariants as router_form
use Rattle.cfg_ast.specs.declared.heads.PolicyForm.TheVariants as policy_form
use Rattle.cfg_ast.specs.text.Heads.{Row, class_in, top_heads, interface_heads, bgp_heads, ospf_heads, entry_heads}
use Rattle.cfg_ast.specs.text.Lines.{words_of, text_of, texts}
use Rattle.cfg_ast.specs.text.Words.{number_between, number_word}
use Rattle.cfg_words.specs.Rows.{first_word}

-- words that are alike before a place and at it are alike before the next
pub alike_more : (word letters : List ℕ) (place : ℕ) → place < length word → place < length letters
    → slice_index word place ≡ slice_index letters place → take place word ≡ take place letters → take (place + 1) word ≡ take (place + 1) letters
alike_more word letters place in_word in_letters here before =
    take_more word place 0 in_word ∙ ap₂ (λ (xs : List ℕ) (x : ℕ). xs ++ x ∷ []) before here ∙ sym (take_more letters place 0 in_letters)

pub alike_all : (word letters : List ℕ) (place : ℕ) → length word ≡ length letters → length letters ≤ place → take place word ≡ take place letters
    → word ≡ letters
alike_all word letters place long whole alike =
    let long_word : length word ≤ place = omega (arith, long, whole) in
    sym (take_all place word long_word) ∙ alike ∙ take_all place letters whole

pub drop_all : (n : ℕ) (spans : List Span) → length spans ≤ n → drop n spans ≡ []
drop_all zero [] short = refl
drop_all (suc n) [] short = refl
drop_all zero (span ∷ spans) short = absurd (omega arith)
drop_all (suc n) (span ∷ spans) short = drop_all n spans (omega arith)

abbrev has_bytes : List ℕ → Bool
has_bytes [] = false
has_bytes (b ∷ word) = true

-- ---- a head by its first word, by two, and by others

by_first : (heads : List Row) (word : List ℕ) (class : HeadClass) → has_bytes word ≡ true
    → ((rest : List (List ℕ)) → class_in heads (word ∷ rest) ≡ Some class)
    → (words : List (List ℕ)) → first_word words ≡ word → class_in heads words ≡ Some class
by_first heads [] class some told words is_first = absurd cc
by_first heads (b ∷ word) class some told [] is_first = absurd cc
by_first heads (b ∷ word) class some told (a ∷ rest) is_first = rw is_first (told rest)

by_two : (heads : List Row) (word second : List ℕ) (class : HeadClass) → has_bytes second ≡ true
    → ((rest : List (List ℕ)) → class_in heads (word ∷ second ∷ rest) ≡ Some class)
    → (words : List (List ℕ)) → first_word words ≡ word → first_word (drop 1 words) ≡ second → class_in heads words ≡ Some class
by_two heads word [] class some told words is_first is_second = absurd cc
by_two heads word (b ∷ second) class some told [] is_first is_second = absurd cc
by_two heads word (b ∷ second) class some told (a ∷ []) is_first is_second = absurd cc
by_two heads word (b ∷ second) class some told (a ∷ c ∷ rest) is_first is_second = rw (is_first, is_second) (told rest)

by_third : (heads : List Row) (word third : List ℕ) (class : HeadClass) → has_bytes third ≡ true
    → ((second : List ℕ) (rest : List (List ℕ)) → class_in heads (word ∷ second ∷ third ∷ rest) ≡ Some class)
    → (words : List (List ℕ)) → first_word words ≡ word → first_word (drop 2 words) ≡ third → class_in heads words ≡ Some class
by_third heads word [] class some told words is_first is_third = absurd cc
by_third heads word (b ∷ third) class some told [] is_first is_third = absurd cc
by_third heads word (b ∷ third) class some told (a ∷ []) is_first is_third = absurd cc
by_third heads word (b ∷ third) class some told (a ∷ c ∷ []) is_first is_third = absurd cc
by_third heads word (b ∷ third) class some told (a ∷ c ∷ d ∷ rest) is_first is_third = rw (is_first, is_third) (told c rest)

by_three : (heads : List Row) (word second third : List ℕ) (class : HeadClass) → has_bytes third ≡ true
    → ((rest : List (List ℕ)) → class_in heads (word ∷ second ∷ third ∷ rest) ≡ Some class)
    → (words : List (List ℕ)) → first_word words ≡ word → first_word (drop 1 words) ≡ second → first_word (drop 2 words) ≡ third
    → class_in heads words ≡ Some class
by_three heads word second [] class some told words is_first is_second is_third = absurd cc
by_three heads word second (b ∷ third) class some told [] is_first is_second is_third = absurd cc
by_three heads word second (b ∷ third) class some told (a ∷ []) is_first is_second is_third = absurd cc
by_three heads word second (b ∷ third) class some told (a ∷ c ∷ []) is_first is_second is_third = absurd cc
by_three heads word second (b ∷ third) class some told (a ∷ c ∷ d ∷ rest) is_first is_second is_third = rw (is_first, is_second, is_third) (told rest)

-- ---- top lines

pub interface_line : (words : List (List ℕ)) → first_word words ≡ codes "interface"
    → class_in top_heads words ≡ Some (Router router_form.Interface)
unfolding top_heads words_of
interface_line words is_first = by_first top_heads (codes "interface") (Router router_form.Interface) refl (λ rest. refl) words is_first

pub hostname_line : (words : List (List ℕ)) → first_word words ≡ codes "hostname"
    → class_in top_heads words ≡ Some (Router router_form.Hostname)
unfolding top_heads words_of
hostname_line words is_first = by_first top_heads (codes "hostname") (Router router_form.Hostname) refl (λ rest. refl) words is_first

pub end_line : (words : List (List ℕ)) → first_word words ≡ codes "end"
    → class_in top_heads words ≡ Some (Router router_form.End)
unfolding top_heads words_of
end_line words is_first = by_first top_heads (codes "end") (Router router_form.End) refl (λ rest. refl) words is_first

pub map_line : (words : List (List ℕ)) → first_word words ≡ codes "route-map"
    → class_in top_heads words ≡ Some (Policy policy_form.MapHead)
unfolding top_heads words_of
map_line words is_first = by_first top_heads (codes "route-map") (Policy policy_form.MapHead) refl (λ rest. refl) words is_first

pub bgp_line : (words : List (List ℕ)) → first_word words ≡ codes "router" → first_word (drop 1 words) ≡ codes "bgp"
    → class_in top_heads words ≡ Some (Router router_form.Bgp)
unfolding top_heads words_of
bgp_line words is_first is_second = by_two top_heads (codes "router") (codes "bgp") (Router router_form.Bgp)
    refl (λ rest. refl) words is_first is_second

pub ospf_line : (words : List (List ℕ)) → first_word words ≡ codes "router" → first_word (drop 1 words) ≡ codes "ospf"
    → class_in top_heads words ≡ Some (Router router_form.Ospf)
unfolding top_heads words_of
ospf_line words is_first is_second = by_two top_heads (codes "router") (codes "ospf") (Router router_form.Ospf)
    refl (λ rest. refl) words is_first is_second

pub community_line : (words : List (List ℕ)) → first_word words ≡ codes "ip" → first_word (drop 1 words) ≡ codes "community-list"
    → first_word (drop 2 words) ≡ codes "standard"
    → class_in top_heads words ≡ Some (Policy policy_form.CommunityLine)
unfolding top_heads words_of number_between number_word
community_line words is_first is_second is_third = by_three top_heads (codes "ip") (codes "community-list") (codes "standard")
    (Policy policy_form.CommunityLine) refl (λ rest. refl) words is_first is_second is_third

prefix_words : (name : List ℕ) (rest : List (List ℕ)) →
    class_in top_heads (codes "ip" ∷ codes "prefix-list" ∷ name ∷ codes "seq" ∷ rest) ≡ Some (Policy policy_form.PrefixEntry)
unfolding top_heads words_of
prefix_words name rest = refl

pub prefix_line : (words : List (List ℕ)) → first_word words ≡ codes "ip"
    → first_word (drop 1 words) ≡ codes "prefix-list" →
    first_word (drop 3 words) ≡ codes "seq" → class_in top_heads words ≡ Some (Policy policy_form.PrefixEntry)
prefix_line [] is_first is_second is_fourth = absurd cc
prefix_line (a ∷ []) is_first is_second is_fourth = absurd cc
prefix_line (a ∷ b ∷ []) is_first is_second is_fourth = absurd cc
prefix_line (a ∷ b ∷ c ∷ []) is_first is_second is_fourth = absurd cc
prefix_line (a ∷ b ∷ c ∷ d ∷ words) is_first is_second is_fourth = rw (is_first, is_second, is_fourth) (prefix_words c words)

-- ---- lines of an interface, a process and an entry

pub address_line : (words : List (List ℕ)) → first_word words ≡ codes "ip" → first_word (drop 1 words) ≡ codes "address"
    → class_in interface_heads words ≡ Some (Router router_form.IpAddress)
unfolding interface_heads words_of
address_line words is_first is_second = by_two interface_heads (codes "ip") (codes "address") (Router router_form.IpAddress)
    refl (λ rest. refl) words is_first is_second

pub cost_line : (words : List (List ℕ)) → first_word words ≡ codes "ip" → first_word (drop 1 words) ≡ codes "ospf"
    → first_word (drop 2 words) ≡ codes "cost"
    → class_in interface_heads words ≡ Some (Router router_form.Cost)
unfolding interface_heads words_of
cost_line words is_first is_second is_third = by_three interface_heads (codes "ip") (codes "ospf") (codes "cost") (Router router_form.Cost)
    refl (λ rest. refl) words is_first is_second is_third

pub network_line : (words : List (List ℕ)) → first_word words ≡ codes "network"
    → class_in bgp_heads words ≡ Some (Router router_form.Network)
unfolding bgp_heads words_of
network_line words is_first = by_first bgp_heads (codes "network") (Router router_form.Network) refl (λ rest. refl) words is_first

pub remote_line : (words : List (List ℕ)) → first_word words ≡ codes "neighbor" → first_word (drop 2 words) ≡ codes "remote-as"
    → class_in bgp_heads words ≡ Some (Router router_form.RemoteAs)
unfolding bgp_heads words_of
remote_line words is_first is_third = by_third bgp_heads (codes "neighbor") (codes "remote-as") (Router router_form.RemoteAs)
    refl (λ second rest. refl) words is_first is_third

pub peer_map_line : (words : List (List ℕ)) → first_word words ≡ codes "neighbor" → first_word (drop 2 words) ≡ codes "route-map"
    → class_in bgp_heads words ≡ Some (Router router_form.PeerMap)
unfolding bgp_heads words_of
peer_map_line words is_first is_third = by_third bgp_heads (codes "neighbor") (codes "route-map") (Router router_form.PeerMap)
    refl (λ second rest. refl) words is_first is_third

pub peer_list_line : (words : List (List ℕ)) → first_word words ≡ codes "neighbor" → first_word (drop 2 words) ≡ codes "prefix-list"
    → class_in bgp_heads words ≡ Some (Router router_form.PeerList)
unfolding bgp_heads words_of
peer_list_line words is_first is_third = by_third bgp_heads (codes "neighbor") (codes "prefix-list") (Router router_form.PeerList)
    refl (λ second rest. refl) words is_first is_third

sends_words : (peer : List ℕ) → class_in bgp_heads (codes "neighbor" ∷ peer ∷ codes "send-community" ∷ []) ≡ Some (Router router_form.PeerSends)
unfolding bgp_heads words_of
sends_words peer = refl

-- the head with `extended` has a fourth word
pub sends_line : (bytes : List ℕ) (spans : List Span) → first_word (texts bytes spans) ≡ codes "neighbor" →
    first_word (drop 2 (texts bytes spans)) ≡ codes "send-community" → drop 3 spans ≡ [] →
    class_in bgp_heads (texts bytes spans) ≡ Some (Router router_form.PeerSends)
sends_line bytes [] is_first is_third no_fourth = absurd cc
sends_line bytes (a ∷ []) is_first is_third no_fourth = absurd cc
sends_line bytes (a ∷ b ∷ []) is_first is_third no_fourth = absurd cc
sends_line bytes (a ∷ b ∷ c ∷ []) is_first is_third no_fourth = rw (is_first, is_third) (sends_words (text_of bytes b))
sends_line bytes (a ∷ b ∷ c ∷ d ∷ spans) is_first is_third no_fourth = absurd cc

pub area_line : (words : List (List ℕ)) → first_word words ≡ codes "network"
    → class_in ospf_heads words ≡ Some (Router router_form.Area)
unfolding ospf_heads words_of
area_line words is_first = by_first ospf_heads (codes "network") (Router router_form.Area) refl (λ rest. refl) words is_first

pub match_line : (words : List (List ℕ)) → first_word words ≡ codes "match" → first_word (drop 1 words) ≡ codes "community"
    → class_in entry_heads words ≡ Some (Policy policy_form.MatchComms)
unfolding entry_heads words_of
match_line words is_first is_second = by_two entry_heads (codes "match") (codes "community") (Policy policy_form.MatchComms)
    refl (λ rest. refl) words is_first is_second

pub set_line : (words : List (List ℕ)) → first_word words ≡ codes "set" → first_word (drop 1 words) ≡ codes "community"
    → class_in entry_heads words ≡ Some (Policy policy_form.Comms)
unfolding entry_heads words_of
set_line words is_first is_second = by_two entry_heads (codes "set") (codes "community") (Policy policy_form.Comms)
    refl (λ rest. refl) words is_first is_second
