-- The routers of the network of the groups prepend only their own AS numbers, and only outbound.
use Rattle.std.proofs.Common.{◌≡◌, ◌≢◌, ℕ, zero, suc, ◌≤◌, Bool, true, false, cond, ◌&&◌, List, [], ◌∷◌, length, inl, inr, Option, Some, None, refl, sym, ◌∙◌, ap, subst, arith, nat_eq, bytes_eq}
use Rattle.std.specs.Prelude.{IfSome, is_some, replicate, slice_get, slice_index_or}
use Rattle.std.specs.Bool.{beq}
use Rattle.std.specs.Option.{option_map_or, option_eq}
use Rattle.std.specs.List.{AllByRecursion, list_all, enumerate_from}
use Rattle.std.proofs.lemmas.Bool.Decides.{nat_tests}
use Rattle.std.proofs.lemmas.List.Elements.{recursion_from_All}
use Rattle.base_kit.specs.declared.protocol.Protocol.TheVariants.{Bgp as OverBgp}
use Rattle.base_kit.proofs.Elements.{In, enumerate_in}
use Rattle.base_kit.proofs.SetFacts.{same_number, other_number}
use Rattle.cfg_ast.specs.declared.bgp.BgpProcess.{BgpProcess}
use Rattle.cfg_ast.specs.declared.bgp.Neighbor.{Neighbor}
use Rattle.cfg_ast.specs.declared.policy.MapEntry.{MapEntry}
use Rattle.cfg_ast.specs.declared.policy.RouteMap.{RouteMap}
use Rattle.cfg_ast.specs.meaning.Classes.{same_items}
use Rattle.cfg_ast.specs.meaning.PolicyFaults.{foreign_prepend, foreign_prepends_in_map, foreign_prepends_of, prepend_form_lines, prepends_in_map, has_prepending_map, prepending_maps_in_of, prepend_in_lines}
use Rattle.cfg_check.specs.Items.{foreign_prepend_in, map_in_naming}
use Rattle.cfg_ast.specs.meaning.Topology.{neighbors_of, has_number}
use Rattle.abstract_net.specs.Links.{QuotientCarries}
use Rattle.abstract_net.specs.declared.qlink.QLink.{QLink}
use Rattle.route_maps.specs.Same.{same_list, same_match, same_change, same_entry, same_map}
use Rattle.route_maps.specs.declared.plain.Plain.{Plain}
use Rattle.route_maps.specs.declared.plain.PlainEntry.{PlainEntry}
use Rattle.srp_core.specs.Acts.{IsActOf}
use Rattle.srp_core.specs.Problem.{number}
use Rattle.srp_core.specs.declared.route.Act.{Act}
use Rattle.srp_core.specs.declared.route.Act.TheVariants.{Import, Cost}
use Rattle.config_emit.specs.Emitted.{neighbor_at, process_of, written_bgp, emitted_router, emitted}
use Rattle.config_emit.specs.Laws.{IsPlan}
use Rattle.config_emit.specs.Maps.{act_in_map, maps_of, map_name, number_of_map, written_prepend, written_entries, written_map}
use Rattle.config_emit.specs.Plan.{Plan, small, act_into}
use Rattle.emit_fault_laws.proofs.Policies.{neighbor_of, written_of, of_entries, entry_of, no_line}
use Rattle.emit_fault_laws.proofs.Routers.{of_routers}
use Rattle.emit_fault_laws.proofs.Uses.{IsAtNumber, in_name}
use Rattle.emit_form_laws.proofs.Acts.{act_holds}
use Rattle.emit_form_laws.proofs.Groups.{problem_of, linked}
use Rattle.emit_form_laws.proofs.Names.{maps_apart}
use Rattle.emit_form_laws.proofs.Pairwise.{all_in, none_like, flat_none}
use Rattle.emit_form_laws.proofs.Policies.{map_at, number_few}

-- ---- own numbers

own_number : (e : Plan) (g : ℕ) → e.problem.protocol ≡ OverBgp → number (small e) g ≢ 0 → has_number (emitted_router e g) (number (small e) g) ≡ true
own_number e g bgp some =
    ap (λ q. option_map_or (λ (process : BgpProcess). nat_eq process.number (number (small e) g)) (written_bgp q e g) false) bgp
    ∙ ap (λ b. option_map_or (λ (process : BgpProcess). nat_eq process.number (number (small e) g)) (cond b None (Some (process_of e g))) false)
    (other_number (number (small e) g) 0 some)
    ∙ same_number (number (small e) g) (number (small e) g) refl

all_own : (e : Plan) (g : ℕ) → has_number (emitted_router e g) (number (small e) g) ≡ true → (n : ℕ) →
    list_all (has_number (emitted_router e g)) (replicate n (number (small e) g)) ≡ true
all_own e g own zero = refl
all_own e g own (suc n) = rw (own, all_own e g own n) refl

own_prepend : (e : Plan) (g adds : ℕ) → has_number (emitted_router e g) (number (small e) g) ≡ true →
    foreign_prepend (emitted_router e g) (written_prepend (number (small e) g) adds) ≡ []
own_prepend e g adds own = step (nat_eq adds 0)
  where
    step : (b : Bool) → foreign_prepend (emitted_router e g) (cond b None (Some (record { numbers = replicate adds (number (small e) g); line = 0 }))) ≡ []
    step true = refl
    step false = ap (λ b. cond b [] (0 ∷ [])) (all_own e g own adds)

pub no_foreign_prepend : (e : Plan) → IsPlan e → QuotientCarries → length e.links ≤ 1048576 → prepend_form_lines (emitted e) ≡ []
unfolding prepend_form_lines
no_foreign_prepend e plan law few =
    flat_none foreign_prepends_of (emitted e).routers
    (of_routers e (λ r. foreign_prepends_of r ≡ [])
    (λ g below.
    flat_none (foreign_prepends_in_map (emitted_router e g)) (emitted_router e g).route_maps
    (λ w h.
    flat_none (foreign_prepend_in (emitted_router e g)) w.entries
    (of_entries e g (λ entry. foreign_prepend_in (emitted_router e g) entry ≡ []) refl
    (λ k m x at here.
    let of = (map_at e few g k m at).of in
    own_prepend e g x.adds (own_number e g of.over (linked e plan law of.over g of.link of.link_in of.touched)))
    w h))))

-- ---- nothing inbound

abbrev AddsNothing : PlainEntry → Type 0
AddsNothing x = x.adds ≡ 0

abbrev AddsNoneIn : Act → Type 0
AddsNoneIn (Import out sends into) = AllByRecursion AddsNothing into.entries
AddsNoneIn (Cost cost) = Unit {0}

acts_add_nothing : (e : Plan) → IsPlan e → e.problem.protocol ≡ OverBgp → AllByRecursion AddsNoneIn e.problem.acts
acts_add_nothing e plan bgp =
    recursion_from_All AddsNoneIn e.problem.acts
    (λ k d below. fits (slice_index_or e.problem.acts k d)
    (subst (λ q. IsActOf q (slice_index_or e.problem.acts k d)) bgp ((problem_of e plan).of.rules.acts.fit k d below)))
  where
    fits : (act : Act) → IsActOf OverBgp act → AddsNoneIn act
    fits (Import out sends into) is = recursion_from_All AddsNothing into.entries is
    fits (Cost cost) is = tt

into_adds_nothing : (e : Plan) → IsPlan e → e.problem.protocol ≡ OverBgp → (g : ℕ) (l : QLink) →
    AllByRecursion AddsNothing (act_in_map (act_into e g l)).entries
into_adds_nothing e plan bgp g l = step (act_into e g l) (act_holds AddsNoneIn e tt (acts_add_nothing e plan bgp) g l)
  where
    step : (o : Option Act) → IfSome o AddsNoneIn → AllByRecursion AddsNothing (act_in_map o).entries
    step None is = tt
    step (Some (Import out sends into)) is = is
    step (Some (Cost cost)) is = tt

and_parts : (a b : Bool) → (a && b) ≡ true → (a ≡ true) × (b ≡ true)
and_parts true b e = (refl, e)
and_parts false b e = absurd cc

is_number : (m n : ℕ) → nat_eq m n ≡ true → m ≡ n
is_number m n e = grind (arith, nat_tests)

and_second : (a b : Bool) → (a && b) ≡ true → b ≡ true
and_second a b e = (and_parts a b e).1

same_adds : (x y : PlainEntry) → same_entry x y ≡ true → x.adds ≡ y.adds
same_adds x y same =
    let seq = and_second (nat_eq x.seq y.seq) _ same in
    let permit = and_second (beq x.permit y.permit) _ seq in
    let lists = and_second (same_match x.exact y.exact x.lists y.lists) _ permit in
    let lp = and_second (option_eq nat_eq x.lp y.lp) _ lists in
    let change = and_second (option_eq same_change x.change y.change) _ lp in
    is_number x.adds y.adds (and_second (option_eq same_list x.delete y.delete) (nat_eq x.adds y.adds) change)

entries_add_nothing : (xs ys : List PlainEntry) → same_items same_entry xs ys ≡ true → AllByRecursion AddsNothing xs → AllByRecursion AddsNothing ys
entries_add_nothing [] [] same none = tt
entries_add_nothing [] (y ∷ ys) same none = absurd cc
entries_add_nothing (x ∷ xs) [] same none = tt
entries_add_nothing (x ∷ xs) (y ∷ ys) same none = let parts = and_parts (same_entry x y) (same_items same_entry xs ys) same in
    (sym (same_adds x y parts.0) ∙ none.0, entries_add_nothing xs ys parts.1 none.1)

same_adds_nothing : (m w : Plain) → same_map m w ≡ true → AllByRecursion AddsNothing m.entries → AllByRecursion AddsNothing w.entries
unfolding same_map
same_adds_nothing m w same none = entries_add_nothing m.entries w.entries same none

no_prepends : (n k : ℕ) (m : Plain) → AllByRecursion AddsNothing m.entries → prepends_in_map (written_map n (k, m)) ≡ false
no_prepends n k m none =
    none_like (λ (entry : MapEntry). is_some entry.prepend) (written_entries n k m.entries)
    (λ entry h. elim (entry_of n k m.entries entry h) [
      | inl same ↦ ap (λ (x : MapEntry). is_some x.prepend) (sym same)
      | inr y ↦ ap (λ (x : MapEntry). is_some x.prepend) (sym y.2) ∙ ap (λ adds. is_some (written_prepend n adds)) (all_in AddsNothing m.entries y.0 none y.1)
    ])

-- numbered items with one number are one
one_at : {X : Type 0} (xs : List X) (n k j : ℕ) (x y : X) → In (enumerate_from n xs) (k, x) → In (enumerate_from n xs) (j, y) → k ≡ j → x ≡ y
one_at {X} xs n k j x y a b e =
    let p = enumerate_in xs n k x a in
    let q = enumerate_in xs n j y b in
    let same : p.0 ≡ q.0 = let u = p.1 in let v = q.1 in omega arith in
    let both : Some x ≡ Some y = sym p.2 ∙ ap (slice_get xs) same ∙ q.2 in cc

and_no : (a : Bool) → (a && false) ≡ false
and_no true = refl
and_no false = refl

not_prepending : (e : Plan) → length e.links ≤ 1048576 → (g : ℕ) (m : Plain) → IsAtNumber e g m → AllByRecursion AddsNothing m.entries →
    has_prepending_map (emitted_router e g) (map_name (number_of_map (maps_of e g) m)) ≡ false
not_prepending e few g m at none =
    none_like (λ (w : RouteMap). prepends_in_map w && bytes_eq (map_name j) w.name) (emitted_router e g).route_maps
    (λ w h.
    let of = written_of e g w h in
    subst (λ (z : RouteMap). (prepends_in_map z && bytes_eq (map_name j) z.name) ≡ false) of.is
    (step of.number_of of.plain of.numbered (nat_eq j of.number_of) refl))
  where
    j : ℕ
    j = number_of_map (maps_of e g) m

    step : (k : ℕ) (p : Plain) → In (enumerate_from 1 (maps_of e g)) (k, p) → (b : Bool) → nat_eq j k ≡ b →
        (prepends_in_map (written_map (number (small e) g) (k, p)) && bytes_eq (map_name j) (map_name k)) ≡ false
    step k p i true is =
        let one = one_at (maps_of e g) 1 j k at.written p at.at i (is_number j k is) in
        ap (λ b. b && bytes_eq (map_name j) (map_name k))
        (no_prepends (number (small e) g) k p (subst (λ (q : Plain). AllByRecursion AddsNothing q.entries) one
        (same_adds_nothing m at.written at.same none)))
    step k p i false is =
        let low = number_few e few g m in
        let high = (map_at e few g k p i).few in
        ap (λ b. prepends_in_map (written_map (number (small e) g) (k, p)) && b)
        (maps_apart j k (omega arith) (omega arith) (λ same. (let yes = same_number j k same in cc)))
        ∙ and_no (prepends_in_map (written_map (number (small e) g) (k, p)))

pub none_inbound : (e : Plan) → IsPlan e → length e.links ≤ 1048576 → prepend_in_lines (emitted e) ≡ []
unfolding prepend_in_lines
none_inbound e plan few =
    flat_none prepending_maps_in_of (emitted e).routers
    (of_routers e (λ r. prepending_maps_in_of r ≡ [])
    (λ g below.
    flat_none (map_in_naming (has_prepending_map (emitted_router e g))) (neighbors_of (emitted_router e g))
    (λ n h.
    let of = neighbor_of e g n h in
    subst (λ (x : Neighbor). map_in_naming (has_prepending_map (emitted_router e g)) x ≡ []) of.is
    (no_line (has_prepending_map (emitted_router e g)) (neighbor_at e g (of.place, of.link)).map_in
    (λ m made.
    let name = in_name e g of.link m of.over of.of.link_in of.of.touched made in
    ap (has_prepending_map (emitted_router e g)) name.is
    ∙ not_prepending e few g name.plain name.at
    (subst (λ (q : Plain). AllByRecursion AddsNothing q.entries) (one_some (act_in_map (act_into e g of.link)) name.plain name.of)
    (into_adds_nothing e plan of.over g of.link)))))))
  where
    one_some : (x y : Plain) → Some x ≡ Some y → x ≡ y
    one_some x y same = cc
