-- The network of the groups names no communities but those of the network read.
use Rattle.std.proofs.Common.{◌≡◌, ℕ, ◌≤◌, Bool, true, false, not, ◌&&◌, ◌||◌, List, [], ◌∷◌, map, filter, length, inl, inr, Option, Some, None, refl, sym, ◌∙◌, ap, subst, arith, nat_eq}
use Rattle.std.specs.Prelude.{IfSome, flat_map}
use Rattle.std.specs.List.{enumerate_from}
use Rattle.std.proofs.lemmas.Bool.Decides.{nat_tests}
use Rattle.std.proofs.lemmas.List.Filters.{length-filter_both}
use Rattle.base_kit.specs.Sets.{has, IsAscending}
use Rattle.base_kit.proofs.Elements.{In, map_in, flat_map_in, append_in}
use Rattle.base_kit.proofs.SetFacts.{has-with_numbers, ascending_with_numbers, ascending_filter, has-filter, one_list}
use Rattle.cfg_ast.specs.declared.policy.Change.{Change}
use Rattle.cfg_ast.specs.declared.policy.Change.TheVariants.{Clear, Replace, Append}
use Rattle.cfg_ast.specs.declared.policy.CommunityLine.{CommunityLine}
use Rattle.cfg_ast.specs.declared.policy.CommunityList.{CommunityList}
use Rattle.cfg_ast.specs.declared.policy.Mention.{Mention}
use Rattle.cfg_ast.specs.meaning.PolicyFaults.{mention_at, mentions_on, mentions_in_list, changed_by, mentions_in, mentions_in_map, mentions_of, mentions, community_of, communities_in, communities_of}
use Rattle.cfg_ast.specs.printing.Bare.{bare_community_line}
use Rattle.cfg_check.specs.Laws.{FewCommunities}
use Rattle.route_maps.specs.Within.{AreWithin, IsLineWithin, IsListWithin, AreListsWithin, IsChangeWithin, IsEntryWithin, IsMapWithin}
use Rattle.route_maps.specs.declared.plain.Plain.{Plain}
use Rattle.srp_core.specs.declared.route.Act.{Act}
use Rattle.srp_core.specs.declared.route.Act.TheVariants.{Import, Cost}
use Rattle.config_emit.specs.Emitted.{emitted_router, emitted}
use Rattle.srp_core.specs.ActMaps.{IsActWithin}
use Rattle.config_emit.specs.Laws.{IsPlan}
use Rattle.config_emit.specs.Maps.{act_in_map, act_out_map, maps_of, match_lists, deletion_lists, lists_of_entry, lists_of_map}
use Rattle.config_emit.specs.Plan.{Plan, act_into}
use Rattle.emit_fault_laws.proofs.Policies.{of_entries}
use Rattle.emit_fault_laws.proofs.Routers.{of_routers}
use Rattle.emit_form_laws.proofs.Acts.{act_holds}
use Rattle.emit_form_laws.proofs.Origins.{some_holds}
use Rattle.emit_form_laws.proofs.Pairwise.{all_in}
use Rattle.emit_form_laws.proofs.Policies.{IsMapOf, map_holds, map_at, match_of, deletion_of}

-- ---- maps name only communities of the network read

map_within : (e : Plan) → IsPlan e → (g : ℕ) (m : Plain) → IsMapOf e g m → IsMapWithin (communities_of e.network) m
map_within e plan g m of =
    map_holds (IsMapWithin set) e tt (λ h l. step (act_into e h l) (act_holds (IsActWithin set) e tt plan.within h l)) g m of
  where
    set : List ℕ
    set = communities_of e.network

    step : (o : Option Act) → IfSome o (IsActWithin set) →
        IfSome o (λ act. IsMapWithin set (act_in_map (Some act)) × IfSome (act_out_map (Some act)) (IsMapWithin set))
    step None is = tt
    step (Some (Import out sends into)) is = (is.1, is.0)
    step (Some (Cost cost)) is = (tt, tt)

abbrev IsIn : List ℕ → Mention → Type 0
IsIn set mention = has set mention.community ≡ true

named_in : (set : List ℕ) (line : ℕ) (comms : List ℕ) (mention : Mention) → AreWithin set comms → In (map (mention_at line) comms) mention → IsIn set mention
named_in set line comms mention within h = let m = map_in (mention_at line) comms mention h in
    subst (IsIn set) m.2 (all_in (λ c. has set c ≡ true) comms m.0 within m.1)

in_list : (set : List ℕ) (list : CommunityList) (mention : Mention) → IsListWithin set list →
    In (flat_map mentions_on (map bare_community_line list.lines)) mention → IsIn set mention
in_list set list mention within h =
    let l = flat_map_in mentions_on (map bare_community_line list.lines) mention h in
    let m = map_in bare_community_line list.lines l.0 l.1 in
    named_in set 0 m.0.comms mention (all_in (IsLineWithin set) list.lines m.0 within m.1)
    (subst (λ (x : CommunityLine). In (mentions_on x) mention) (sym m.2) l.2)

in_lists : (e : Plan) → IsPlan e → length e.links ≤ 1048576 → (g : ℕ) (mention : Mention) →
    In (flat_map mentions_in_list (emitted_router e g).community_lists) mention → IsIn (communities_of e.network) mention
in_lists e plan few g mention h =
    let set = communities_of e.network in
    let c = flat_map_in mentions_in_list (emitted_router e g).community_lists mention h in
    let m = flat_map_in lists_of_map (enumerate_from 1 (maps_of e g)) c.0 c.1 in
    let at = map_at e few g m.0.0 m.0.1 m.1 in
    let x = flat_map_in (lists_of_entry m.0.0) m.0.1.entries c.0 m.2 in
    let within = all_in (IsEntryWithin set) m.0.1.entries x.0 (map_within e plan g m.0.1 at.of) x.1 in
    elim (append_in (match_lists m.0.0 x.0) (deletion_lists m.0.0 x.0) c.0 x.2) [
      | inl i ↦ (
          let l = match_of m.0.0 x.0 c.0 i in
          in_list set l.list mention (all_in (IsListWithin set) l.lists l.list (some_holds (AreListsWithin set) x.0.lists l.lists within.lists l.matched)
          l.list_in) (subst (λ (z : CommunityList). In (mentions_in_list z) mention) (sym l.is) c.2))
      | inr i ↦ (
          let d = deletion_of m.0.0 x.0 c.0 i in
          in_list set d.list mention (some_holds (IsListWithin set) x.0.delete d.list within.delete d.deleted)
          (subst (λ (z : CommunityList). In (mentions_in_list z) mention) (sym d.is) c.2))
    ]

changes_within : (set : List ℕ) (o : Option Change) → IfSome o (IsChangeWithin set) → AreWithin set (changed_by o)
changes_within set None is = tt
changes_within set (Some Clear) is = tt
changes_within set (Some (Replace by)) is = is
changes_within set (Some (Append more)) is = is

in_maps : (e : Plan) → IsPlan e → length e.links ≤ 1048576 → (g : ℕ) (mention : Mention) →
    In (flat_map mentions_in_map (emitted_router e g).route_maps) mention → IsIn (communities_of e.network) mention
in_maps e plan few g mention h =
    let set = communities_of e.network in
    let w = flat_map_in mentions_in_map (emitted_router e g).route_maps mention h in
    let entry = flat_map_in mentions_in w.0.entries mention w.2 in
    of_entries e g (λ x. In (mentions_in x) mention → IsIn set mention) (λ here. absurd here)
    (λ k m x at here i.
    let within = all_in (IsEntryWithin set) m.entries x (map_within e plan g m (map_at e few g k m at).of) here in
    named_in set 0 (changed_by x.change) mention (changes_within set x.change within.change) i)
    w.0 w.1 entry.0 entry.1 entry.2

all_within : (e : Plan) → IsPlan e → length e.links ≤ 1048576 → (mention : Mention) → In (mentions (emitted e)) mention →
    IsIn (communities_of e.network) mention
all_within e plan few mention h =
    let r = flat_map_in mentions_of (emitted e).routers mention h in
    of_routers e (λ x. In (mentions_of x) mention → IsIn (communities_of e.network) mention)
    (λ g below i. elim (append_in (flat_map mentions_in_list (emitted_router e g).community_lists) (flat_map mentions_in_map (emitted_router e g).route_maps)
    mention i) [
      | inl k ↦ in_lists e plan few g mention k
      | inr k ↦ in_maps e plan few g mention k
    ])
    r.0 r.1 r.2

-- ---- so they are no more

both_hold : (a b : Bool) → (a ≡ true → b ≡ true) → a ≡ (a && b)
both_hold true b inside = sym (inside refl)
both_hold false b inside = refl

-- a set within another one has no more numbers
no_more : (xs ys : List ℕ) → IsAscending xs → IsAscending ys → ((c : ℕ) → has xs c ≡ true → has ys c ≡ true) → length xs ≤ length ys
no_more xs ys up up' inside =
    let same : xs ≡ filter (has xs) ys = one_list xs (filter (has xs) ys) up (ascending_filter (has xs) ys up')
    (λ c. both_hold (has xs c) (has ys c) (inside c) ∙ sym (has-filter (has xs) ys c)) in
    omega (arith, ap length same, length-filter_both (has xs) (λ c. not (has xs c)) (λ c. refl) ys)

or_no : (a : Bool) → (a || false) ≡ a
or_no true = refl
or_no false = refl

has_some : (ms : List Mention) (c : ℕ) → has (map community_of ms) c ≡ true → (m : Mention) × In ms m × (m.community ≡ c)
has_some [] c e = absurd cc
has_some (m ∷ ms) c e = step (nat_eq m.community c) refl e (has_some ms c)
  where
    is_number : (a b : ℕ) → nat_eq a b ≡ true → a ≡ b
    is_number a b e = grind (arith, nat_tests)

    step : (b : Bool) → nat_eq m.community c ≡ b → (b || has (map community_of ms) c) ≡ true →
        (has (map community_of ms) c ≡ true → (x : Mention) × In ms x × (x.community ≡ c)) → (x : Mention) × In (m ∷ ms) x × (x.community ≡ c)
    step true is e rest = (m, inl refl, is_number m.community c is)
    step false is e rest = let r = rest e in (r.0, inr r.1, r.2)

pub few_communities : FewCommunities → (e : Plan) → IsPlan e → length e.links ≤ 1048576 → length (communities_of (emitted e)) ≤ 1024
unfolding communities_of
few_communities law e plan few =
    let less = no_more (communities_in (mentions (emitted e))) (communities_in (mentions e.network))
    (ascending_with_numbers (map community_of (mentions (emitted e))) [] tt) (ascending_with_numbers (map community_of (mentions e.network)) [] tt)
    (λ c inside.
    let m = has_some (mentions (emitted e)) c (sym (or_no (has (map community_of (mentions (emitted e))) c))
    ∙ sym (has-with_numbers (map community_of (mentions (emitted e))) [] c) ∙ inside) in
    subst (λ k. has (communities_in (mentions e.network)) k ≡ true) m.2 (all_within e plan few m.0 m.1)) in
    let most = law e.network plan.faultless in omega arith
