-- Links join groups that are there.
use Rattle.std.proofs.Common.{◌≡◌, ℕ, zero, suc, ◌+◌, ◌-◌, ◌≤◌, List, [], ◌∷◌, map, length, get_or, inl, inr, sym, ◌∙◌, ap, subst, arith}
use Rattle.std.specs.Prelude.{All, flat_map, max}
use Rattle.std.specs.List.{AllByRecursion, enumerate_from, range_with_len}
use Rattle.std.proofs.lemmas.List.{length-map}
use Rattle.std.proofs.lemmas.List.Elements.{All-from_recursion, Contains-get_or, recursion_from_All}
use Rattle.std.proofs.lemmas.List.FromFn.{length-enumerate_from}
use Rattle.base_kit.specs.declared.act_graph.Edge.{Edge}
use Rattle.base_kit.specs.declared.protocol.Protocol.{Protocol}
use Rattle.base_kit.proofs.Elements.{In, flat_map_in, in_contains, map_in, range_in}
use Rattle.abstract_net.specs.Carried.{IsBelow}
use Rattle.abstract_net.specs.Links.{group_link, acts_into, links_of_pair, group_links_from, quotient_links}
use Rattle.abstract_net.specs.declared.qlink.QLink.{QLink}
use Rattle.config_emit.specs.ActLinks.{act_link, act_links}
use Rattle.config_emit.specs.GroupLinks.{JoinsGroups}
use Rattle.config_emit.specs.declared.act_links.ActLink.{ActLink}

-- ---- the links between groups

range_from : (a n m : ℕ) → In (range_with_len a n) m → a ≤ m
range_from a zero m h = absurd h
range_from a (suc n) m (inl e) = omega arith
range_from a (suc n) m (inr h) = let r = range_from (a + 1) n m h in omega arith

pair_below : (es : List Edge) (groups : List ℕ) (count g : ℕ) (l : QLink) → In (group_links_from es groups count g) l → IsBelow count l
pair_below es groups count g l at =
    let pair = flat_map_in (links_of_pair es groups g) (range_with_len (g + 1) (count - (g + 1))) l at in
    let made = map_in (group_link g pair.0 (acts_into es groups g pair.0) (acts_into es groups pair.0 g))
    (range_with_len 0 (max (length (acts_into es groups g pair.0)) (length (acts_into es groups pair.0 g)))) l pair.2 in
    let low : g ≡ l.low = ap (λ (m : QLink). m.low) made.2 in
    let high : pair.0 ≡ l.high = ap (λ (m : QLink). m.high) made.2 in
    let more = range_from (g + 1) (count - (g + 1)) pair.0 pair.1 in
    let less = range_in (g + 1) (count - (g + 1)) pair.0 pair.1 in
    record { ordered = omega arith; inside = omega arith }

pub quotient_joins : (es : List Edge) (groups : List ℕ) (count : ℕ) → All (IsBelow count) (quotient_links es groups count)
unfolding quotient_links
quotient_joins es groups count = λ k d inside.
    let links = flat_map (group_links_from es groups count) (range_with_len 0 count) in
    let l = get_or links k d in
    let from = flat_map_in (group_links_from es groups count) (range_with_len 0 count) l (in_contains links l (Contains-get_or links k d inside)) in
    pair_below es groups count from.0 l from.2

-- ---- the links with their acts

drawn_join : (q : Protocol) (es : List Edge) (all : List QLink) (count n : ℕ) (ls : List QLink) → AllByRecursion (IsBelow count) ls →
    AllByRecursion (JoinsGroups count) (map (act_link q es all) (enumerate_from n ls))
drawn_join q es all count n [] below = tt
drawn_join q es all count n (l ∷ ls) (first, below) =
    (record { ordered = first.ordered; inside = first.inside }, drawn_join q es all count (n + 1) ls below)

pub act_links_join : (q : Protocol) (es : List Edge) (links : List QLink) (found : List ActLink) (count : ℕ) → found ≡ act_links q es links →
    All (IsBelow count) links → All (JoinsGroups count) found
unfolding act_links
act_links_join q es links found count are below =
    subst (All (JoinsGroups count)) (sym are)
    (All-from_recursion (JoinsGroups count) (map (act_link q es links) (enumerate_from 0 links))
    (drawn_join q es links count 0 links (recursion_from_All (IsBelow count) links below)))

pub act_links_few : (q : Protocol) (es : List Edge) (links : List QLink) (found : List ActLink) → found ≡ act_links q es links → length links ≤ 1048576 →
    length found ≤ 1048576
unfolding act_links
act_links_few q es links found are few =
    let size : length found ≡ length links = ap length are ∙ length-map (enumerate_from 0 links) (act_link q es links) ∙ length-enumerate_from 0 links in
    omega arith
