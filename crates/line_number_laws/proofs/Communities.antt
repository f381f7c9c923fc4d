-- The communities of a network do not depend on line numbers. If they are few, no line has one too many,
-- whatever its number.
use Rattle.std.proofs.Common.{◌≡◌, ◌≤◌, ℕ, Bool, true, false, cond, not, ◌&&◌, ◌||◌, List, [], ◌∷◌, map, filter, length, refl, sym, ap, ◌∙◌, arith}
use Rattle.std.specs.Prelude.{flat_map, nat_eq, nat_lt, nat_le}
use Rattle.std.proofs.lemmas.Bool.Decides.{nat_tests}
use Rattle.std.proofs.lemmas.List.{map-append}
use Rattle.std.proofs.lemmas.List.Filters.{length-filter_both}
use Rattle.base_kit.specs.Sets.{has, with_numbers, IsAscending}
use Rattle.base_kit.proofs.SetFacts.{has-with_numbers, ascending_with_numbers, ascending_filter, has-filter, one_list}
use Rattle.cfg_ast.specs.declared.network.Network.{Network}
use Rattle.cfg_ast.specs.declared.network.Router.{Router}
use Rattle.cfg_ast.specs.declared.policy.Mention.{Mention}
use Rattle.cfg_ast.specs.meaning.PolicyFaults.{mention_at, mentions_on, mentions_in_list, changed_by, mentions_in, mentions_in_map, mentions_of, mentions, community_of, communities_in, communities_of, first_exceeds, too_many_communities_lines}
use Rattle.cfg_check.specs.Items.{line_of_mention}
use Rattle.cfg_check.specs.Communities.{mentions_before, mentions_up_to}
use Rattle.cfg_ast.specs.printing.Bare.{bare_community_line, bare_community_list, bare_map_entry, bare_route_map, bare_router, bare}
use Rattle.line_number_laws.proofs.Mapped.{map_mapped, flat_mapped}

-- Communities without lines.

abbrev bare_mention : Mention → Mention
bare_mention m = record { community = m.community; line = 0 }

mentions_at : (line : ℕ) (comms : List ℕ) → map (mention_at 0) comms ≡ map bare_mention (map (mention_at line) comms)
mentions_at line [] = refl
mentions_at line (c ∷ comms) = ap (λ ms. mention_at 0 c ∷ ms) (mentions_at line comms)

in_lists_bare : (r : Router) → flat_map mentions_in_list (map bare_community_list r.community_lists) ≡ map bare_mention
    (flat_map mentions_in_list r.community_lists)
in_lists_bare r =
    flat_mapped bare_community_list bare_mention mentions_in_list mentions_in_list
    (λ list. flat_mapped bare_community_line bare_mention mentions_on mentions_on (λ line. mentions_at line.line line.comms) list.lines) r.community_lists

in_maps_bare : (r : Router) → flat_map mentions_in_map (map bare_route_map r.route_maps) ≡ map bare_mention (flat_map mentions_in_map r.route_maps)
in_maps_bare r =
    flat_mapped bare_route_map bare_mention mentions_in_map mentions_in_map
    (λ map. flat_mapped bare_map_entry bare_mention mentions_in mentions_in (λ entry. mentions_at entry.change_line (changed_by entry.change)) map.entries)
    r.route_maps

mentions_bare : (r : Router) → mentions_of (bare_router r) ≡ map bare_mention (mentions_of r)
mentions_bare r =
    rw (in_lists_bare r, in_maps_bare r) (sym (map-append bare_mention (flat_map mentions_in_list r.community_lists) (flat_map mentions_in_map r.route_maps)))

communities_bare : (n : Network) → communities_of (bare n) ≡ communities_of n
unfolding communities_of
communities_bare n =
    ap communities_in (flat_mapped bare_router bare_mention mentions_of mentions_of mentions_bare n.routers)
    ∙ ap (λ (cs : List ℕ). with_numbers cs []) (map_mapped bare_mention community_of community_of (λ m. refl) (mentions n))

pub communities_aside : (m n : Network) → bare m ≡ bare n → communities_of m ≡ communities_of n
communities_aside m n same = sym (communities_bare m) ∙ ap communities_of same ∙ communities_bare n

-- Few communities.

both_hold : (a b : Bool) → (a ≡ true → b ≡ true) → a ≡ (a && b)
both_hold true b inside = sym (inside refl)
both_hold false b inside = refl

-- a set within another one has no more numbers
no_more : (xs ys : List ℕ) → IsAscending xs → IsAscending ys → ((c : ℕ) → has xs c ≡ true → has ys c ≡ true) → length xs ≤ length ys
no_more xs ys up up' inside =
    let same : xs ≡ filter (has xs) ys = one_list xs (filter (has xs) ys) up (ascending_filter (has xs) ys up')
    (λ c. both_hold (has xs c) (has ys c) (inside c) ∙ sym (has-filter (has xs) ys c)) in
    omega (arith, ap length same, length-filter_both (has xs) (λ c. not (has xs c)) (λ c. refl) ys)

or_no : (a : Bool) → (a || false) ≡ a
or_no true = refl
or_no false = refl

has_set : (cs : List ℕ) (c : ℕ) → has (with_numbers cs []) c ≡ has cs c
has_set cs c = has-with_numbers cs [] c ∙ or_no (has cs c)

kept_has : (p : Mention → Bool) (ms : List Mention) (c : ℕ) → has (map community_of (filter p ms)) c ≡ true → has (map community_of ms) c ≡ true
kept_has p [] c inside = inside
kept_has p (m ∷ ms) c inside = step (p m) (nat_eq m.community c) refl (kept_has p ms c) inside
  where
    step : (kept here : Bool) → nat_eq m.community c ≡ here → (has (map community_of (filter p ms)) c ≡ true → has (map community_of ms) c ≡ true)
        → has (map community_of (cond kept (m ∷ filter p ms) (filter p ms))) c ≡ true → (here || has (map community_of ms) c) ≡ true
    step kept true is ih inside = refl
    step true false is ih inside = ih (ap (λ b. b || has (map community_of (filter p ms)) c) (sym is) ∙ inside)
    step false false is ih inside = ih inside

fewer : (p : Mention → Bool) (ms : List Mention) → length (communities_in (filter p ms)) ≤ length (communities_in ms)
fewer p ms =
    no_more (communities_in (filter p ms)) (communities_in ms) (ascending_with_numbers (map community_of (filter p ms)) [] tt)
    (ascending_with_numbers (map community_of ms) [] tt)
    (λ c inside. has_set (map community_of ms) c ∙ kept_has p ms c (sym (has_set (map community_of (filter p ms)) c) ∙ inside))

none_kept : (p : ℕ → Bool) → ((line : ℕ) → p line ≡ false) → (lines : List ℕ) → filter p lines ≡ []
none_kept p none [] = refl
none_kept p none (line ∷ lines) = rw (none line, none_kept p none lines) refl

and_no : (a : Bool) → (a && false) ≡ false
and_no true = refl
and_no false = refl

within : (limit count : ℕ) → count ≤ limit → nat_lt limit count ≡ false
within limit count few = grind (arith, nat_tests)

pub few_are_no_fault : (n : Network) → length (communities_of n) ≤ 1024 → too_many_communities_lines n ≡ []
unfolding communities_of too_many_communities_lines
few_are_no_fault n few =
    none_kept (first_exceeds 1024 (mentions n))
    (λ line. ap (λ b. nat_le (length (communities_in (mentions_before (mentions n) line))) 1024 && b)
    (within 1024 (length (communities_in (mentions_up_to (mentions n) line))) (let less = fewer (λ (m : Mention). nat_le m.line line) (mentions n) in
    omega arith))
    ∙ and_no (nat_le (length (communities_in (mentions_before (mentions n) line))) 1024))
    (map line_of_mention (mentions n))
