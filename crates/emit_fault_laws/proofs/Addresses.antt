-- No address of the network of the groups stands twice, and no two subnets of a router overlap.
use Rattle.std.proofs.Common.{◌≡◌, ◌≢◌, ℕ, ◌+◌, ◌*◌, ◌<◌, ◌≤◌, Bool, true, false, cond, [], ◌++◌, map, length, ◌⊎◌, inl, inr, Option, Some, refl, sym, ◌∙◌, ap, subst, arith, nat_eq}
use Rattle.std.specs.Prelude.{slice_get, flat_map}
use Rattle.std.proofs.lemmas.Bool.Decides.{nat_tests}
use Rattle.base_kit.proofs.Elements.{In, filter_map_in, append_in}
use Rattle.base_kit.proofs.SetFacts.{same_number, other_number}
use Rattle.cfg_ast.specs.meaning.Addresses.{Address}
use Rattle.cfg_ast.specs.declared.interface.Interface.{Interface}
use Rattle.cfg_ast.specs.declared.network.Router.{Router}
use Rattle.cfg_ast.specs.meaning.RouterFaults.{repeats, address_line, up_addresses_of, shared_address_lines, overlap, overlapping_lines}
use Rattle.cfg_check.specs.Items.{same_address, overlapping_in}
use Rattle.cfg_ast.specs.meaning.Topology.{up_address}
use Rattle.cfg_ast.specs.printing.Bare.{bare_address}
use Rattle.abstract_net.specs.declared.qlink.QLink.{QLink}
use Rattle.srp_quotient.specs.Groups.{first_member, touches}
use Rattle.config_emit.specs.Emitted.{emitted_router, emitted}
use Rattle.config_emit.specs.Interfaces.{class_interfaces, side_number, link_address, link_interfaces}
use Rattle.config_emit.specs.Laws.{IsPlan}
use Rattle.config_emit.specs.Plan.{Plan, first_router_of}
use Rattle.config_emit.specs.Pool.{meets_pool}
use Rattle.emit_fault_laws.proofs.Apart.{map_nil}
use Rattle.emit_fault_laws.proofs.Routers.{of_routers, router_pairs, firsts_differ}
use Rattle.emit_form_laws.proofs.Addresses.{AreApart, interfaces_apart, overlap_meets, outside_pool}
use Rattle.emit_form_laws.proofs.Groups.{first_of, touch_cases}
use Rattle.emit_form_laws.proofs.Interfaces.{IsClassAt, class_at, IsLinkAt, link_at, side_below}
use Rattle.emit_form_laws.proofs.Origins.{up_some}
use Rattle.emit_form_laws.proofs.Pairwise.{IsPairwise, weaker, pairs_filter_map, pairs_flat, no_repeats, pairs_repeats, pairs_either, flat_pairs, flat_none}
use Rattle.emit_form_laws.proofs.Processes.{same_overlap}

-- ---- subnets of one router

up_apart : (e : Plan) → IsPlan e → length e.links ≤ 1048576 → (g : ℕ) →
    IsPairwise (λ (a b : Address). overlap b a ≡ false) (up_addresses_of (emitted_router e g))
up_apart e plan few g =
    pairs_filter_map up_address AreApart (λ (a b : Address). overlap b a ≡ false) (class_interfaces e g ++ link_interfaces e g)
    (λ x y a b h i away is is'. away.apart a b (up_some x a is) (up_some y b is')) (interfaces_apart e plan few g)

pub no_overlapping : (e : Plan) → IsPlan e → length e.links ≤ 1048576 → overlapping_lines (emitted e) ≡ []
unfolding overlapping_lines
no_overlapping e plan few =
    ap (map address_line)
    (flat_none overlapping_in (emitted e).routers
    (of_routers e (λ r. overlapping_in r ≡ []) (λ g below. no_repeats overlap (up_addresses_of (emitted_router e g)) (up_apart e plan few g))))

-- ---- addresses of different routers

abbrev HaveOthers : Address → Address → Type 0
HaveOthers a b = same_address b a ≡ false

-- an address of a router of a group
record IsOfClass (e : Plan) (g : ℕ) (a : Address) : Type 0 where
  interface : Interface
  of : IsClassAt e g interface
  is : bare_address of.address ≡ a

record IsOfLink (e : Plan) (g : ℕ) (a : Address) : Type 0 where
  interface : Interface
  of : IsLinkAt e g interface
  is : link_address of.place (side_number g of.link) ≡ a

same_some : {X : Type 0} (o : Option X) (x y : X) → o ≡ Some x → o ≡ Some y → x ≡ y
same_some o x y e f = cc

address_of : (e : Plan) (g : ℕ) (a : Address) → In (up_addresses_of (emitted_router e g)) a → IsOfClass e g a ⊎ IsOfLink e g a
address_of e g a h =
    let f = filter_map_in up_address (class_interfaces e g ++ link_interfaces e g) a h in
    let given = up_some f.0 a f.2 in
    elim (append_in (class_interfaces e g) (link_interfaces e g) f.0 f.1) [
      | inl i ↦ (let c = class_at e g f.0 i in inl (record { interface = f.0; of = c; is = same_some f.0.address (bare_address c.address) a c.given given }))
      | inr i ↦ (let l = link_at e g f.0 i in inr
          (record { interface = f.0; of = l; is = same_some f.0.address (link_address l.place (side_number g l.link)) a l.given given }))
    ]

one_router : (o : Option Router) (r s : Router) → o ≡ Some r → o ≡ Some s → r ≡ s
one_router o r s e f = cc

turned : (a b : Address) → same_address a b ≡ same_address b a
turned a b = by_number a.addr b.addr
  where
    by_number : (m n : ℕ) → nat_eq m n ≡ nat_eq n m
    by_number m n = grind (arith, nat_tests)

class_class : (e : Plan) → IsPlan e → (g h : ℕ) → g ≢ h → g < e.count → h < e.count → (a b : Address) → IsOfClass e g a → IsOfClass e h b → HaveOthers a b
unfolding shared_address_lines
class_class e plan g h other below lower a b c d =
    let f = first_of e plan g below in
    let k = first_of e plan h lower in
    let here : In (up_addresses_of f.router) c.of.address =
    subst (λ (r : Router). In (up_addresses_of r) c.of.address) (one_router (first_router_of e g) c.of.router f.router c.of.at f.at) c.of.address_in in
    let there : In (up_addresses_of k.router) d.of.address =
    subst (λ (r : Router). In (up_addresses_of r) d.of.address) (one_router (first_router_of e h) d.of.router k.router d.of.at k.at) d.of.address_in in
    let pairs = flat_pairs up_addresses_of (λ (x y : Address). same_address y x ≡ false) e.network.routers
    (pairs_repeats same_address (flat_map up_addresses_of e.network.routers)
    (map_nil address_line (repeats same_address (flat_map up_addresses_of e.network.routers)) plan.faultless.shared_address)) in
    ap (λ (x : Address). same_address x a) (sym d.is) ∙ ap (λ (x : Address). same_address (bare_address d.of.address) x) (sym c.is)
    ∙ elim (pairs_either (λ (r s : Router). (x y : Address) → In (up_addresses_of r) x → In (up_addresses_of s) y → same_address y x ≡ false) e.network.routers
    (first_member e.groups g) (first_member e.groups h) f.router k.router pairs (firsts_differ e g h other f k) f.at k.at) [
      | inl clear ↦ clear c.of.address d.of.address here there
      | inr clear ↦ turned d.of.address c.of.address ∙ clear d.of.address c.of.address there here
    ]

class_link : (e : Plan) → IsPlan e → length e.links ≤ 1048576 → (g h : ℕ) (a b : Address) → IsOfClass e g a → IsOfLink e h b → a.addr ≢ b.addr
class_link e plan few g h a b c l same =
    (let within = l.of.of.within in
    let over = same_overlap (bare_address c.of.address) (link_address l.of.place (side_number h l.of.link))
    (ap (λ (x : Address). x.addr) c.is ∙ same ∙ ap (λ (x : Address). x.addr) (sym l.is)) in
    outside_pool e plan c.of.prefix c.of.prefix_in
    (ap meets_pool (sym c.of.subnet) ∙ overlap_meets (bare_address c.of.address) l.of.place (side_number h l.of.link) (side_below h l.of.link) (omega arith)
    over))

-- two ends of a link have different sides
sides_differ : (g h : ℕ) (l : QLink) → g ≢ h → touches g l ≡ true → touches h l ≡ true → side_number g l ≢ side_number h l
sides_differ g h l other at to = step (nat_eq l.low g) (nat_eq l.low h) refl refl
  where
    is_number : (m n : ℕ) → nat_eq m n ≡ true → m ≡ n
    is_number m n e = grind (arith, nat_tests)

    step : (b c : Bool) → nat_eq l.low g ≡ b → nat_eq l.low h ≡ c → ◌≢◌ {A = ℕ} (cond b 0 1) (cond c 0 1)
    step true true e f same = other (sym (is_number l.low g e) ∙ is_number l.low h f)
    step true false e f same = absurd (omega arith)
    step false true e f same = absurd (omega arith)
    step false false e f same = other (sym (high g e (touch_cases g l at)) ∙ high h f (touch_cases h l to))
      where
        high : (k : ℕ) → nat_eq l.low k ≡ false → (l.low ≡ k) ⊎ (l.high ≡ k) → l.high ≡ k
        high k e (inl low) = absurd (let f = same_number l.low k low in cc)
        high k e (inr top) = top

link_link : (e : Plan) (g h : ℕ) (a b : Address) → g ≢ h → IsOfLink e g a → IsOfLink e h b → a.addr ≢ b.addr
link_link e g h a b other c d same =
    (let low = side_below g c.of.link in
    let high = side_below h d.of.link in
    let numbers : 1681915904 + 2 * c.of.place + side_number g c.of.link ≡ 1681915904 + 2 * d.of.place + side_number h d.of.link =
    ap (λ (x : Address). x.addr) c.is ∙ same ∙ ap (λ (x : Address). x.addr) (sym d.is) in
    let parts = halves c.of.place (side_number g c.of.link) d.of.place (side_number h d.of.link) low high numbers in
    let one : c.of.link ≡ d.of.link = same_some (slice_get e.links d.of.place) c.of.link d.of.link
    (subst (λ k. slice_get e.links k ≡ Some c.of.link) parts.0 c.of.of.place) d.of.of.place in
    sides_differ g h d.of.link other (subst (λ (l : QLink). touches g l ≡ true) one c.of.of.touched) d.of.of.touched (ap (side_number g) (sym one) ∙ parts.1))
  where
    halves : (t s u z : ℕ) → s ≤ 1 → z ≤ 1 → 1681915904 + 2 * t + s ≡ 1681915904 + 2 * u + z → (t ≡ u) × (s ≡ z)
    halves t s u z low high same = (omega arith, omega arith)

routers_apart : (e : Plan) → IsPlan e → length e.links ≤ 1048576 → (g h : ℕ) → g < e.count → h < e.count → g ≢ h → (a b : Address) →
    In (up_addresses_of (emitted_router e g)) a → In (up_addresses_of (emitted_router e h)) b → HaveOthers a b
routers_apart e plan few g h below lower other a b i k = elim (address_of e g a i) [
  | inl c ↦ elim (address_of e h b k) [
    | inl d ↦ class_class e plan g h other below lower a b c d
    | inr d ↦ other_number b.addr a.addr (λ same. class_link e plan few g h a b c d (sym same))
  ]
  | inr c ↦ elim (address_of e h b k) [
    | inl d ↦ other_number b.addr a.addr (λ same. class_link e plan few h g b a d c same)
    | inr d ↦ other_number b.addr a.addr (λ same. link_link e g h a b other c d (sym same))
  ]
]

no_such : (a b : Address) → overlap b a ≡ false → same_address b a ≡ false
no_such a b clear = other_number b.addr a.addr (λ same. (let over = same_overlap b a same in cc))

pub no_shared_address : (e : Plan) → IsPlan e → length e.links ≤ 1048576 → shared_address_lines (emitted e) ≡ []
unfolding shared_address_lines
no_shared_address e plan few =
    ap (map address_line)
    (no_repeats same_address (flat_map up_addresses_of (emitted e).routers)
    (pairs_flat up_addresses_of (λ (r s : Router). (a b : Address) → In (up_addresses_of r) a → In (up_addresses_of s) b → HaveOthers a b) HaveOthers
    (emitted e).routers
    (of_routers e (λ r. IsPairwise HaveOthers (up_addresses_of r))
    (λ g below. weaker (λ (a b : Address). overlap b a ≡ false) HaveOthers (up_addresses_of (emitted_router e g)) (λ a b h i clear. no_such a b clear)
    (up_apart e plan few g)))
    (λ r s a b h i given k l. given a b k l)
    (router_pairs e (λ (r s : Router). (a b : Address) → In (up_addresses_of r) a → In (up_addresses_of s) b → HaveOthers a b) (routers_apart e plan few))))
