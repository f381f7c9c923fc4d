-- The edges of both ends of links, gathered by pairs of groups.
use Rattle.std.proofs.Common.{◌≡◌, ℕ, ◌+◌, ◌<◌, Bool, true, false, cond, ◌&&◌, nat_eq, List, [], ◌∷◌, ◌++◌, map, filter, length, get_or, take, Option, Some, None, refl, sym, ◌∙◌, ap}
use Rattle.std.specs.Prelude.{filter_map}
use Rattle.std.specs.HashMap.{get}
use Rattle.std.specs.List.{cons_option, enumerate_from}
use Rattle.std.specs.Option.{unwrap_or}
use Rattle.std.proofs.lemmas.List.{take_more}
use Rattle.std.proofs.lemmas.List.Elements.{filter-append, filter_map-append}
use Rattle.base_kit.specs.Pairs.{same_pair}
use Rattle.base_kit.specs.declared.act_graph.Edge.{Edge}
use Rattle.base_kit.specs.declared.protocol.Protocol.{Protocol}
use Rattle.base_kit.specs.declared.protocol.Protocol.TheVariants.{Bgp as OverBgp, Ospf as OverOspf}
use Rattle.abstract_net.specs.declared.qlink.QLink.{QLink}
use Rattle.abstract_net.specs.Carried.{side_of}
use Rattle.srp_quotient.specs.Groups.{or_else, last_of, edge_into}
use Rattle.config_emit.specs.ActLinks.{group_pair, joins_pair, own_sides, sides_or, last_sides, SidesByPair, no_sides, sides_at, AreLastSides, NotesSides, filling, FillsSides, drawn, act_link_by, full_sides, act_link, act_links}
use Rattle.config_emit.specs.declared.act_links.Sides.{Sides}
use Rattle.config_emit.proofs.ListSteps.{map_ext, same_numbers, same_either_way, both}

same_pairs : (p q : ℕ × ℕ) → same_pair p q ≡ true → p ≡ q
same_pairs p q e =
    let parts = both (nat_eq p.0 q.0) (nat_eq p.1 q.1) e in
    let first : p.0 ≡ q.0 = same_numbers p.0 q.0 parts.0 in
    let second : p.1 ≡ q.1 = same_numbers p.1 q.1 parts.1 in
    ap (λ m. (m, p.1)) first ∙ ap (λ n. (q.0, n)) second

same_turned : (p q : ℕ × ℕ) → same_pair p q ≡ same_pair q p
same_turned p q = ap (λ b. b && nat_eq p.1 q.1) (same_either_way p.0 q.0) ∙ ap (λ b. nat_eq q.0 p.0 && b) (same_either_way p.1 q.1)

-- ---- one link noted

noted_step : (link : QLink) (s : Sides) (old : SidesByPair) (q : ℕ × ℕ) (b : Bool) → s ≡ sides_or (own_sides link) (sides_at old (group_pair link)) →
    (b ≡ true → group_pair link ≡ q)
    → unwrap_or (cond b (Some s) (get same_pair old q)) no_sides ≡ cond b (sides_or (own_sides link) (sides_at old q)) (sides_at old q)
noted_step link s old q true is same = is ∙ ap (λ p. sides_or (own_sides link) (sides_at old p)) (same refl)
noted_step link s old q false is same = refl

pub noted : (old new : SidesByPair) (link : QLink) (s : Sides) →
    ((q : ℕ × ℕ) → get same_pair new q ≡ cond (same_pair (group_pair link) q) (Some s) (get same_pair old q))
    → s ≡ sides_or (own_sides link) (sides_at old (group_pair link)) → NotesSides old new link
noted old new link s put is = record {
  each = λ q. ap (λ o. unwrap_or o no_sides) (put q)
      ∙ noted_step link s old q (same_pair (group_pair link) q) is (same_pairs (group_pair link) q);
}

-- ---- the last sides of one link more

or_none : (o : Option ℕ) → or_else o None ≡ o
or_none None = refl
or_none (Some k) = refl

or_assoc : (a b c : Option ℕ) → or_else (or_else a b) c ≡ or_else a (or_else b c)
or_assoc None b c = refl
or_assoc (Some k) b c = refl

last_append : (ks js : List ℕ) → last_of (ks ++ js) ≡ or_else (last_of js) (last_of ks)
last_append [] js = sym (or_none (last_of js))
last_append (k ∷ ks) js = ap (λ o. or_else o (Some k)) (last_append ks js) ∙ or_assoc (last_of js) (last_of ks) (Some k)

last_single : (o : Option ℕ) → last_of (cons_option o []) ≡ o
last_single None = refl
last_single (Some k) = refl

last_more : (g : ℕ) (p : QLink → Bool) (links : List QLink) (x : QLink) →
    last_of (filter_map (side_of g) (filter p (links ++ x ∷ []))) ≡ cond (p x) (or_else (side_of g x) (last_of (filter_map (side_of g) (filter p links))))
    (last_of (filter_map (side_of g) (filter p links)))
last_more g p links x =
    ap (λ ls. last_of (filter_map (side_of g) ls)) (filter-append p links (x ∷ []))
    ∙ ap last_of (filter_map-append (side_of g) (filter p links) (filter p (x ∷ [])))
    ∙ last_append (filter_map (side_of g) (filter p links)) (filter_map (side_of g) (filter p (x ∷ [])))
    ∙ step (p x) where
      step : (b : Bool) → or_else (last_of (filter_map (side_of g) (cond b (x ∷ []) []))) (last_of (filter_map (side_of g) (filter p links))) ≡ cond b
          (or_else (side_of g x) (last_of (filter_map (side_of g) (filter p links)))) (last_of (filter_map (side_of g) (filter p links)))
      step true = ap (λ o. or_else o (last_of (filter_map (side_of g) (filter p links)))) (last_single (side_of g x))
      step false = refl

made : Option ℕ → Option ℕ → Sides
made a b = record { to_low = a; to_high = b }

grown_step : (x : QLink) (q : ℕ × ℕ) (low high : Option ℕ) (b : Bool) → (b ≡ true → q ≡ group_pair x)
    → made (cond b (or_else (side_of q.0 x) low) low) (cond b (or_else (side_of q.1 x) high) high) ≡ cond b (sides_or (own_sides x) (made low high))
    (made low high)
unfolding made
grown_step x q low high true same = ap (λ (p : ℕ × ℕ). made (or_else (side_of p.0 x) low) (or_else (side_of p.1 x) high)) (same refl)
grown_step x q low high false same = refl

sides_more : (links : List QLink) (x : QLink) (q : ℕ × ℕ) →
    last_sides (links ++ x ∷ []) q ≡ cond (joins_pair q x) (sides_or (own_sides x) (last_sides links q)) (last_sides links q)
unfolding made
sides_more links x q =
    let low = last_of (filter_map (side_of q.0) (filter (joins_pair q) links)) in
    let high = last_of (filter_map (side_of q.1) (filter (joins_pair q) links)) in
    ap (λ o. made o (last_of (filter_map (side_of q.1) (filter (joins_pair q) (links ++ x ∷ []))))) (last_more q.0 (joins_pair q) links x)
    ∙ ap (λ o. made (cond (joins_pair q x) (or_else (side_of q.0 x) low) low) o) (last_more q.1 (joins_pair q) links x)
    ∙ grown_step x q low high (joins_pair q x) (same_pairs q (group_pair x))

pub last_turn : (old new : SidesByPair) (links : List QLink) (i : ℕ) (x : QLink) → i < length links → x ≡ get_or links i x → NotesSides old new x →
    AreLastSides old (take i links) → AreLastSides new (take (i + 1) links)
last_turn old new links i x below here notes so_far = record {
  each = λ q.
      notes.each q
      ∙ ap (λ b. cond b (sides_or (own_sides x) (sides_at old q)) (sides_at old q)) (same_turned (group_pair x) q)
      ∙ ap (λ s. cond (joins_pair q x) (sides_or (own_sides x) s) s) (so_far.each q)
      ∙ sym (sides_more (take i links) x q)
      ∙ sym (ap (λ ls. last_sides ls q) (take_more links i x below ∙ ap (λ y. take i links ++ y ∷ []) (sym here)));
}

-- ---- the links with their acts

or_no_sides : (s : Sides) → sides_or s no_sides ≡ s
unfolding made
or_no_sides s = ap (λ o. made o (or_else s.to_high None)) (or_none s.to_low) ∙ ap (λ o. made s.to_low o) (or_none s.to_high)

full : (protocol : Protocol) (links : List QLink) (l : QLink) → sides_or (own_sides l) (filling protocol links (group_pair l)) ≡ full_sides protocol links l
unfolding edge_into
full OverBgp links l = or_no_sides (own_sides l)
full OverOspf links l = refl

pub act_links_are : (protocol : Protocol) (es : List Edge) (links : List QLink) (fill : SidesByPair) → FillsSides protocol links fill →
    map (act_link_by fill es) (enumerate_from 0 links) ≡ act_links protocol es links
unfolding act_links
act_links_are protocol es links fill fills = map_ext (act_link_by fill es) (act_link protocol es links) (enumerate_from 0 links) each where
  each : (x : ℕ × QLink) → act_link_by fill es x ≡ act_link protocol es links x
  each (t, l) = ap (λ s. drawn es t l (sides_or (own_sides l) s)) (fills.each (group_pair l)) ∙ ap (drawn es t l) (full protocol links l)
