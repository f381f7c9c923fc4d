-- No two routers of the network of the groups have one name or one AS number, and no neighbour has its router's own.
use Rattle.std.proofs.Common.{◌≡◌, ◌≢◌, ℕ, suc, ◌<◌, Bool, true, false, cond, not, ◌&&◌, List, [], ◌∷◌, map, length, inl, inr, Option, Some, None, refl, sym, ◌∙◌, ap, subst, arith, nat_eq}
use Rattle.std.specs.Prelude.{filter_map, slice_index, slice_index_or}
use Rattle.std.proofs.lemmas.Bool.Decides.{nat_tests}
use Rattle.std.specs.Option.{option_map_or}
use Rattle.base_kit.specs.declared.protocol.Protocol.TheVariants.{Bgp as OverBgp}
use Rattle.base_kit.proofs.Elements.{map_in}
use Rattle.base_kit.proofs.SetFacts.{other_number}
use Rattle.cfg_ast.specs.declared.bgp.BgpProcess.{BgpProcess}
use Rattle.cfg_ast.specs.declared.bgp.Neighbor.{Neighbor}
use Rattle.cfg_ast.specs.declared.network.Router.{Router}
use Rattle.cfg_ast.specs.meaning.RouterFaults.{repeats, shared_name_lines, shared_as_lines, internal_peers, internal_peers_of, internal_peer_lines}
use Rattle.cfg_check.specs.Items.{router_line, process_line, neighbor_line, same_name, bgp_of as process_on, same_number as same_as}
use Rattle.abstract_net.specs.Links.{QuotientCarries}
use Rattle.srp_core.specs.Problem.{count, number}
use Rattle.srp_core.specs.Quotient.{first_number}
use Rattle.srp_quotient.specs.Groups.{first_member, is_used}
use Rattle.config_emit.specs.Emitted.{neighbor_at, written_bgp, emitted_router, emitted}
use Rattle.config_emit.specs.Interfaces.{links_at}
use Rattle.config_emit.specs.Laws.{IsPlan}
use Rattle.config_emit.specs.Plan.{Plan, small}
use Rattle.emit_fault_laws.proofs.Routers.{of_routers, router_pairs, firsts_differ, process_is}
use Rattle.emit_form_laws.proofs.Groups.{problem_of, first_of, name_is, number_at, end_of}
use Rattle.emit_form_laws.proofs.Interfaces.{link_of}
use Rattle.emit_form_laws.proofs.Names.{differ, apart}
use Rattle.emit_form_laws.proofs.Pairwise.{pairs_filter_map, no_repeats, pairs_repeats, pairs_either, flat_none, filter_none}

pub map_nil : {X Y : Type 0} (f : X → Y) (xs : List X) → map f xs ≡ [] → xs ≡ []
map_nil f [] e = refl
map_nil f (x ∷ xs) e = absurd cc

-- ---- names

names_apart : (e : Plan) → IsPlan e → (g h : ℕ) → g < e.count → h < e.count → g ≢ h → same_name (emitted_router e h) (emitted_router e g) ≡ false
unfolding shared_name_lines
names_apart e plan g h below lower other =
    let f = first_of e plan g below in
    let k = first_of e plan h lower in
    let pairs = pairs_repeats same_name e.network.routers (map_nil router_line (repeats same_name e.network.routers) plan.faultless.shared_name) in
    differ (slice_index_or (small e).names h []) (slice_index_or (small e).names g [])
    (λ same.
    let one : k.router.name ≡ f.router.name = sym (name_is e plan h lower k) ∙ same ∙ name_is e plan g below f in
    elim (pairs_either (λ (r s : Router). same_name s r ≡ false) e.network.routers (first_member e.groups g) (first_member e.groups h) f.router k.router pairs
    (firsts_differ e g h other f k) f.at k.at) [
      | inl clear ↦ apart k.router.name f.router.name clear one
      | inr clear ↦ apart f.router.name k.router.name clear (sym one)
    ])

pub no_shared_name : (e : Plan) → IsPlan e → shared_name_lines (emitted e) ≡ []
unfolding shared_name_lines
no_shared_name e plan = ap (map router_line)
    (no_repeats same_name (emitted e).routers (router_pairs e (λ (r s : Router). same_name s r ≡ false) (names_apart e plan)))

-- ---- AS numbers

-- a number that is not 0 is that of a member
record IsNumberOf (e : Plan) (g : ℕ) : Type 0 where
  member : ℕ
  inside : member < count e.problem
  group : slice_index e.groups member ≡ g
  same : number e.problem member ≡ number (small e) g

record HasNumber (numbers groups : List ℕ) (g value : ℕ) : Type 0 where
  place : ℕ
  inside : place < length numbers
  group : slice_index groups place ≡ g
  same : slice_index numbers place ≡ value

first_has : (numbers groups : List ℕ) (g : ℕ) → first_number numbers groups g ≢ 0 → HasNumber numbers groups g (first_number numbers groups g)
unfolding first_number
first_has [] groups g some = absurd (some refl)
first_has (i ∷ is) [] g some = absurd (some refl)
first_has (i ∷ is) (x ∷ xs) g some = step (nat_eq x g) (not (nat_eq i 0)) refl some (first_has is xs g)
  where
    is_group : (m n : ℕ) → nat_eq m n ≡ true → m ≡ n
    is_group m n e = grind (arith, nat_tests)

    later : HasNumber is xs g (first_number is xs g) → HasNumber (i ∷ is) (x ∷ xs) g (first_number is xs g)
    later h = record { place = suc h.place; inside = (let inside = h.inside in omega arith); group = h.group; same = h.same }

    step : (a b : Bool) → nat_eq x g ≡ a → cond (a && b) i (first_number is xs g) ≢ 0 → (first_number is xs g ≢ 0 → HasNumber is xs g (first_number is xs g)) →
        HasNumber (i ∷ is) (x ∷ xs) g (cond (a && b) i (first_number is xs g))
    step true true e some ih = record { place = 0; inside = omega arith; group = is_group x g e; same = refl }
    step true false e some ih = later (ih some)
    step false b e some ih = later (ih some)

number_of : (e : Plan) (g : ℕ) → g < e.count → number (small e) g ≢ 0 → IsNumberOf e g
number_of e g below some =
    let at = number_at e g below in
    step (is_used e.problem e.groups e.links g) (λ zero. some (at ∙ zero)) (at)
  where
    step : (b : Bool) → cond b (first_number e.problem.numbers e.groups g) 0 ≢ 0 → number (small e) g ≡ cond b (first_number e.problem.numbers e.groups g) 0 →
        IsNumberOf e g
    step false some at = absurd (some refl)
    step true some at = let h = first_has e.problem.numbers e.groups g some in
        record { member = h.place; inside = h.inside; group = h.group; same = h.same ∙ sym at }

-- groups with one AS number are one
pub numbers_tell : (e : Plan) → IsPlan e → e.problem.protocol ≡ OverBgp → (g h : ℕ) → g < e.count → h < e.count → number (small e) g ≢ 0 →
    number (small e) g ≡ number (small e) h → g ≡ h
numbers_tell e plan bgp g h below lower some same =
    let u = number_of e g below some in
    let v = number_of e h lower (λ zero. some (same ∙ zero)) in
    let one = ((problem_of e plan).of.rules.numbers bgp).distinct u.member v.member u.inside v.inside (u.same ∙ same ∙ sym v.same)
    (λ zero. some (sym u.same ∙ zero)) in
    sym u.group ∙ ap (slice_index e.groups) one ∙ v.group

pub no_shared_as : (e : Plan) → IsPlan e → shared_as_lines (emitted e) ≡ []
unfolding shared_as_lines
no_shared_as e plan =
    ap (map process_line)
    (no_repeats same_as (filter_map (λ (r : Router). r.bgp) (emitted e).routers)
    (pairs_filter_map process_on (λ (r s : Router). (b c : BgpProcess) → process_on r ≡ Some b → process_on s ≡ Some c → same_as c b ≡ false)
    (λ (b c : BgpProcess). same_as c b ≡ false) (emitted e).routers
    (λ r s b c i j given has has'. given b c has has')
    (router_pairs e (λ (r s : Router). (b c : BgpProcess) → process_on r ≡ Some b → process_on s ≡ Some c → same_as c b ≡ false)
    (λ g h below lower other b c has has'.
    let p = process_is e g b has in
    let q = process_is e h c has' in
    ap (λ (x : BgpProcess). same_as x b) (sym q.is) ∙ ap (λ (x : BgpProcess). nat_eq (number (small e) h) x.number) (sym p.is)
    ∙ other_number (number (small e) h) (number (small e) g) (λ same. other (numbers_tell e plan p.over g h below lower p.some (sym same)))))))

pub no_internal_peer : (e : Plan) → IsPlan e → QuotientCarries → internal_peer_lines (emitted e) ≡ []
unfolding internal_peer_lines
no_internal_peer e plan law =
    ap (map neighbor_line)
    (flat_none internal_peers_of (emitted e).routers
    (of_routers e (λ r. internal_peers_of r ≡ []) (λ g below. step g below (written_bgp e.problem.protocol e g) refl)))
  where
    step : (g : ℕ) → g < e.count → (o : Option BgpProcess) → written_bgp e.problem.protocol e g ≡ o → option_map_or internal_peers o [] ≡ []
    step g below None made = refl
    step g below (Some b) made =
        let p = process_is e g b made in
        subst (λ (x : BgpProcess). internal_peers x ≡ []) p.is
        (filter_none (λ (n : Neighbor). nat_eq n.remote (number (small e) g)) (map (neighbor_at e g) (links_at e g))
        (λ n h.
        let m = map_in (neighbor_at e g) (links_at e g) n h in
        let of = link_of e g m.0.0 m.0.1 m.1 in
        let end = end_of e plan law g m.0.1 of.link_in of.touched in
        ap (λ (x : Neighbor). nat_eq x.remote (number (small e) g)) (sym m.2) ∙ ap (λ k. nat_eq (number (small e) k) (number (small e) g)) end.1.other
        ∙ other_number (number (small e) end.0) (number (small e) g)
        (λ same. end.1.apart (numbers_tell e plan p.over g end.0 below end.1.there p.some (sym same)))))
