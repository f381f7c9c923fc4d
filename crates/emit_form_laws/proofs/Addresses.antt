-- The addresses of the router of a group: no two of its subnets overlap. Public: the crates above that speak of the
-- network of the groups use these lemmas too.
use Rattle.std.proofs.Common.{◌≡◌, ◌≢◌, ℕ, ◌+◌, ◌-◌, ◌*◌, ◌/◌, ◌^◌, ◌<◌, ◌≤◌, min, Bool, true, false, cond, List, [], ◌∷◌, ◌++◌, map, length, ◌⊎◌, inl, inr, Option, Some, None, refl, sym, ◌∙◌, ap, subst, arith, nat_eq, find}
use Rattle.std.specs.Prelude.{flat_map}
use Rattle.std.specs.Option.{option_map, option_map_or, unwrap_or}
use Rattle.std.specs.List.{enumerate_from}
use Rattle.std.proofs.lemmas.Bool.Decides.{nat_tests}
use Rattle.std.proofs.lemmas.Nat.{shr-shr, shl-shr}
use Rattle.base_kit.specs.Prefixes.{Prefix}
use Rattle.base_kit.proofs.Elements.{In}
use Rattle.base_kit.proofs.SetFacts.{same_number, other_number}
use Rattle.cfg_ast.specs.meaning.Addresses.{Address}
use Rattle.cfg_ast.specs.declared.interface.Interface.{Interface}
use Rattle.cfg_ast.specs.declared.network.Network.{Network}
use Rattle.cfg_ast.specs.declared.network.Router.{Router}
use Rattle.cfg_ast.specs.meaning.RouterFaults.{address_line, up_addresses_of, overlap, overlapping_lines}
use Rattle.cfg_check.specs.Items.{overlapping_in}
use Rattle.cfg_ast.specs.meaning.Topology.{subnet_of_address}
use Rattle.cfg_ast.specs.printing.Bare.{bare_address}
use Rattle.cfg_ast.proofs.PrefixSets.{not_before_self}
use Rattle.cfg_check.specs.Faultless.{IsFaultless}
use Rattle.abstract_net.specs.declared.qlink.QLink.{QLink}
use Rattle.config_emit.specs.Laws.{IsPlan}
use Rattle.config_emit.specs.Interfaces.{class_interface_in, class_interfaces_on, class_interfaces, is_at, links_at, side_number, link_address, link_interface, link_interfaces}
use Rattle.config_emit.specs.Plan.{Plan, first_router_of}
use Rattle.config_emit.specs.Pool.{meets_pool, line_at, pool_line}
use Rattle.emit_form_laws.proofs.Interfaces.{IsClassAt, class_of_entry, class_at, IsLinkAt, link_at, side_below}
use Rattle.emit_form_laws.proofs.Origins.{IsBefore, class_is, class_pairs}
use Rattle.emit_form_laws.proofs.Pairwise.{IsPairwise, IsEarlier, weaker, numbered_items, pairs_map, pairs_filter, pairs_filter_map, pairs_append, pairs_repeats, pick, numbered_pairs}

-- ---- addresses of links

-- two addresses of links with one half are of one link
pub one_half : (t u s z : ℕ) → s ≤ 1 → z ≤ 1 → (1681915904 + 2 * t + s) / 2 ≡ (1681915904 + 2 * u + z) / 2 → t ≡ u
one_half t u s z low high same = omega arith

pub cut_again : (a k j : ℕ) → k ≤ j → a / 2 ^ k * 2 ^ k / 2 ^ j ≡ a / 2 ^ j
cut_again a k j h =
    let split : k + (j - k) ≡ j = omega arith in
    let x = shr-shr (a / 2 ^ k * 2 ^ k) k (j - k) in
    let y = ap (λ n. n / 2 ^ (j - k)) (shl-shr (a / 2 ^ k) k) in
    let z = shr-shr a k (j - k) in
    ap (λ n. a / 2 ^ k * 2 ^ k / 2 ^ n) (sym split) ∙ sym x ∙ y ∙ z ∙ ap (λ n. a / 2 ^ n) split

cut_more : (a b m j : ℕ) → m ≤ j → a / 2 ^ m ≡ b / 2 ^ m → a / 2 ^ j ≡ b / 2 ^ j
cut_more a b m j h e =
    let split : m + (j - m) ≡ j = omega arith in
    ap (λ n. a / 2 ^ n) (sym split) ∙ sym (shr-shr a m (j - m)) ∙ ap (λ n. n / 2 ^ (j - m)) e ∙ shr-shr b m (j - m) ∙ ap (λ n. b / 2 ^ n) split

pub in_pool : (t s : ℕ) → s ≤ 1 → t < 1048576 → (1681915904 + 2 * t + s) / 2 ^ 22 ≡ 1681915904 / 2 ^ 22
in_pool t s low few = let h : (1681915904 + 2 * t + s) / 4194304 ≡ 401 = omega arith in h

is_number : (m n : ℕ) → nat_eq m n ≡ true → m ≡ n
is_number m n e = grind (arith, nat_tests)

-- a subnet that overlaps the address of a link meets the pool
pub overlap_meets : (a : Address) (t s : ℕ) → s ≤ 1 → t < 1048576 → overlap a (link_address t s) ≡ true → meets_pool (subnet_of_address a) ≡ true
overlap_meets a t s low few over =
    let b : ℕ = 1681915904 + 2 * t + s in
    let cut : a.addr / 2 ^ (32 - min a.len 31) ≡ b / 2 ^ (32 - min a.len 31) =
    is_number (a.addr / 2 ^ (32 - min a.len 31)) (b / 2 ^ (32 - min a.len 31)) over in
    same_number (a.addr / 2 ^ (32 - a.len) * 2 ^ (32 - a.len) / 2 ^ (32 - min a.len 10)) (1681915904 / 2 ^ (32 - min a.len 10))
    (cut_again a.addr (32 - a.len) (32 - min a.len 10) (omega arith)
    ∙ cut_more a.addr b (32 - min a.len 31) (32 - min a.len 10) (omega arith) cut
    ∙ cut_more b 1681915904 22 (32 - min a.len 10) (omega arith) (in_pool t s low few))

-- no prefix of the class meets the pool
none_found : {X : Type 0} (p : X → Bool) (xs : List X) (x : X) → find p xs ≡ None → In xs x → p x ≡ true → ⊥
none_found p [] x none h is = h
none_found {X} p (y ∷ ys) x none h is = step (p y) refl none h (none_found p ys x)
  where
    step : (b : Bool) → p y ≡ b → cond b (Some y) (find p ys) ≡ None → (y ≡ x) ⊎ In ys x → (find p ys ≡ None → In ys x → p x ≡ true → ⊥) → ⊥
    step true e none h ih = absurd cc
    step false e none (inl same) ih = absurd (let f = sym e ∙ ap p same ∙ is in cc)
    step false e none (inr k) ih = ih none k is

no_map : {X Y : Type 0} (f : X → Y) (o : Option X) → option_map f o ≡ None → o ≡ None
no_map f None e = refl
no_map f (Some x) e = absurd cc

pub outside_pool : (e : Plan) → IsPlan e → (p : Prefix) → In e.class.prefixes p → meets_pool p ≡ true → ⊥
unfolding pool_line
outside_pool e plan p at meets =
    none_found meets_pool e.class.prefixes p
    (no_map (λ (q : Prefix). unwrap_or (line_at e.network e.class.origins q) 0) (find meets_pool e.class.prefixes) plan.apart) at meets

-- ---- two interfaces whose subnets do not overlap

pub record AreApart (x y : Interface) : Type 0 where
  pub apart : (a b : Address) → x.address ≡ Some a → y.address ≡ Some b → overlap b a ≡ false

turned_tests : (m n : ℕ) → nat_eq m n ≡ nat_eq n m
turned_tests m n = grind (arith, nat_tests)

pub turned : (a b : Address) → overlap a b ≡ overlap b a
turned a b =
    let same : min a.len b.len ≡ min b.len a.len = omega arith in
    ap (λ k. nat_eq (a.addr / 2 ^ (32 - k)) (b.addr / 2 ^ (32 - k))) same
    ∙ turned_tests (a.addr / 2 ^ (32 - min b.len a.len)) (b.addr / 2 ^ (32 - min b.len a.len))

not_true : (b : Bool) → (b ≡ true → ⊥) → b ≡ false
not_true true never = absurd (never refl)
not_true false never = refl

same_some : {X : Type 0} (o : Option X) (x y : X) → o ≡ Some x → o ≡ Some y → x ≡ y
same_some o x y e f = cc

-- what holds of two addresses holds of two interfaces that have them
pub apart_by : (x y : Interface) (a b : Address) → x.address ≡ Some a → y.address ≡ Some b → overlap b a ≡ false → AreApart x y
apart_by x y a b is is' clear = record {
  apart = λ c d e f. let P : Address → Address → Type 0 = λ (u v : Address). overlap v u ≡ false in
      subst (P c) (same_some y.address b d is' f) (subst (λ (u : Address). P u b) (same_some x.address a c is e) clear);
}

-- ---- of the prefixes of the class

map_nil : {X Y : Type 0} (f : X → Y) (xs : List X) → map f xs ≡ [] → xs ≡ []
map_nil f [] e = refl
map_nil f (x ∷ xs) e = absurd cc

append_nil : {X : Type 0} (xs ys : List X) → xs ++ ys ≡ [] → (xs ≡ []) × (ys ≡ [])
append_nil [] ys e = (refl, e)
append_nil (x ∷ xs) ys e = absurd cc

pub flat_nil : {X Y : Type 0} (f : X → List Y) (xs : List X) (x : X) → flat_map f xs ≡ [] → In xs x → f x ≡ []
flat_nil f [] x e h = absurd h
flat_nil f (z ∷ zs) x e (inl same) = ap f (sym same) ∙ (append_nil (f z) (flat_map f zs) e).0
flat_nil f (z ∷ zs) x e (inr h) = flat_nil f zs x (append_nil (f z) (flat_map f zs) e).1 h

pub router_apart : (n : Network) → IsFaultless n → (r : Router) → In n.routers r → IsPairwise (λ (a b : Address). overlap b a ≡ false) (up_addresses_of r)
unfolding overlapping_lines
router_apart n ok r at = pairs_repeats overlap (up_addresses_of r)
    (flat_nil overlapping_in n.routers r (map_nil address_line (flat_map overlapping_in n.routers) ok.overlapping) at)

one_router : (o : Option Router) (r s : Router) → o ≡ Some r → o ≡ Some s → r ≡ s
one_router o r s e f = cc

class_apart : (e : Plan) → IsPlan e → (g : ℕ) (x y : Interface) (c : IsClassAt e g x) (d : IsClassAt e g y) → IsBefore c.prefix d.prefix → AreApart x y
class_apart e plan g x y c d before =
    let here : In (up_addresses_of c.router) d.address =
    subst (λ (r : Router). In (up_addresses_of r) d.address) (one_router (first_router_of e g) d.router c.router d.at c.at) d.address_in in
    apart_by x y (bare_address c.address) (bare_address d.address) c.given d.given
    (elim (pick (λ (a b : Address). overlap b a ≡ false) (up_addresses_of c.router) c.address d.address
    (router_apart e.network plan.faultless c.router c.router_in) c.address_in here) [
      | inl same ↦ absurd (let f = sym c.subnet ∙ ap subnet_of_address same ∙ d.subnet in let g = not_before_self d.prefix in let h =
          subst (λ (p : Prefix). IsBefore p d.prefix) f before in cc)
      | inr (inl clear) ↦ clear
      | inr (inr clear) ↦ turned d.address c.address ∙ clear
    ])

-- ---- of a prefix and a link, and of links

pub class_link_apart : (e : Plan) → IsPlan e → length e.links ≤ 1048576 → (g : ℕ) (x y : Interface) → IsClassAt e g x → IsLinkAt e g y → AreApart x y
class_link_apart e plan few g x y c d =
    let within = d.of.within in
    apart_by x y (bare_address c.address) (link_address d.place (side_number g d.link)) c.given d.given
    (turned (link_address d.place (side_number g d.link)) (bare_address c.address)
    ∙ not_true (overlap (bare_address c.address) (link_address d.place (side_number g d.link)))
    (λ over. outside_pool e plan c.prefix c.prefix_in
    (ap meets_pool (sym c.subnet) ∙ overlap_meets (bare_address c.address) d.place (side_number g d.link) (side_below g d.link) (omega arith) over)))

pub links_apart : (t u s z : ℕ) → s ≤ 1 → z ≤ 1 → t ≢ u → overlap (link_address t s) (link_address u z) ≡ false
links_apart t u s z low high other = other_number ((1681915904 + 2 * t + s) / 2) ((1681915904 + 2 * u + z) / 2) (λ same. other (one_half t u s z low high same))

links_pairs : (e : Plan) (g : ℕ) → IsPairwise AreApart (link_interfaces e g)
unfolding link_interfaces links_at
links_pairs e g =
    pairs_map (link_interface e g) AreApart (enumerate_from 1 (links_at e g))
    (weaker (λ (p q : ℕ × (ℕ × QLink)). p.1.0 < q.1.0) (λ (p q : ℕ × (ℕ × QLink)). AreApart (link_interface e g p) (link_interface e g q))
    (enumerate_from 1 (links_at e g))
    (λ (j, (t, l)) (k, (u, m)) h i less.
    apart_by (link_interface e g (j, (t, l))) (link_interface e g (k, (u, m))) (link_address t (side_number g l)) (link_address u (side_number g m)) refl refl
    (links_apart u t (side_number g m) (side_number g l) (side_below g m) (side_below g l) (λ same. absurd (omega arith))))
    (numbered_items 1 (λ (p q : ℕ × QLink). p.0 < q.0) (links_at e g) (pairs_filter (is_at g) IsEarlier (enumerate_from 0 e.links) (numbered_pairs 0 e.links))))

class_pairs_apart : (e : Plan) → IsPlan e → (g : ℕ) → IsPairwise AreApart (class_interfaces e g)
unfolding class_interfaces
class_pairs_apart e plan g = step (first_router_of e g) refl
  where
    step : (o : Option Router) → first_router_of e g ≡ o → IsPairwise AreApart (option_map_or (class_interfaces_on e.problem.protocol e.class.prefixes) o [])
    step None at = tt
    step (Some r) at =
        pairs_filter_map (class_interface_in e.problem.protocol r) (λ (p q : ℕ × Prefix). IsBefore p.1 q.1) AreApart (enumerate_from 1 e.class.prefixes)
        (λ (j, p) (k, q) x y h i before is is'.
        let c = class_of_entry e g r j p x at h is in
        let d = class_of_entry e g r k q y at i is' in
        class_apart e plan g x y c.0 d.0 (let P : Prefix → Prefix → Type 0 = IsBefore in
        subst (P c.0.prefix) (sym d.1) (subst (λ (z : Prefix). P z q) (sym c.1) before)))
        (numbered_items 1 IsBefore e.class.prefixes (class_pairs e.network e.class (class_is e.network e.class plan.class)))

-- no two subnets of the router overlap
pub interfaces_apart : (e : Plan) → IsPlan e → length e.links ≤ 1048576 → (g : ℕ) → IsPairwise AreApart (class_interfaces e g ++ link_interfaces e g)
interfaces_apart e plan few g =
    pairs_append AreApart (class_interfaces e g) (link_interfaces e g) (class_pairs_apart e plan g) (links_pairs e g)
    (λ x y h k. class_link_apart e plan few g x y (class_at e g x h) (link_at e g y k))
