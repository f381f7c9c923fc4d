-- The prefixes of a class are subnets of up interfaces. Public: the crates above that speak of the network of
-- the groups use these lemmas too.
use Rattle.std.proofs.Common.{◌≡◌, ℕ, ◌+◌, ◌-◌, ◌*◌, ◌/◌, ◌^◌, ◌<◌, ◌≤◌, Bool, true, false, cond, List, [], ◌∷◌, map, length, ◌⊎◌, inl, inr, Option, Some, None, refl, sym, subst, arith, nat_eq, nat_lt}
use Rattle.std.specs.Prelude.{Contains, IfSome, filter, filter_map, flat_map, is_some}
use Rattle.std.specs.Option.{option_map}
use Rattle.std.proofs.Math.Nat.{mul-mod_left, div-mul-le_self}
use Rattle.std.proofs.lemmas.Bool.Decides.{nat_tests}
use Rattle.base_kit.specs.Prefixes.{Prefix, same_prefix}
use Rattle.base_kit.proofs.Elements.{In, contains_in, in_contains, map_in, filter_in, in_filter, filter_map_in, flat_map_in}
use Rattle.cfg_ast.specs.meaning.Addresses.{Address}
use Rattle.cfg_ast.specs.declared.classes.DestClass.{DestClass}
use Rattle.cfg_ast.specs.declared.interface.Interface.{Interface}
use Rattle.cfg_ast.specs.declared.network.Network.{Network}
use Rattle.cfg_ast.specs.declared.network.Router.{Router}
use Rattle.cfg_ast.specs.meaning.Classes.{is_before, with_prefix, with_prefixes, AllAfter, AreAscending, up_subnet, initial_route, originated_by, originated, is_same_class, is_least, class_of, classes_of}
use Rattle.cfg_ast.specs.meaning.Topology.{subnet_of_address, up_address}
use Rattle.cfg_ast.specs.printing.WellFormed.{IsPrefix, IsWellFormedAddress, IsWellFormedInterface, IsWellFormedRouter, IsWellFormed}
use Rattle.cfg_ast.proofs.ClassFacts.{is_one_class, class_ascends}
use Rattle.emit_form_laws.proofs.Pairwise.{IsPairwise, all_in}

-- ---- options

pub map_some : {X Y : Type 0} (f : X → Y) (o : Option X) (y : Y) → option_map f o ≡ Some y → (x : X) × (o ≡ Some x) × (f x ≡ y)
map_some f None y e = cc
map_some f (Some x) y e = (x, refl, cc)

pub some_holds : {X : Type 0} (P : X → Type 0) (o : Option X) (x : X) → IfSome o P → o ≡ Some x → P x
some_holds {X} P o x holds e = (let Q : Option X → Type 0 = λ v. IfSome v P in subst Q e holds)

-- ---- where a prefix comes from

with_one : (p : Prefix) (qs : List Prefix) (x : Prefix) → In (with_prefix p qs) x → (p ≡ x) ⊎ In qs x
with_one p [] x (inl same) = inl same
with_one p [] x (inr h) = absurd h
with_one p (q ∷ qs) x h = step (is_before p q) (same_prefix p q) h (with_one p qs x)
  where
    step : (b s : Bool) → In (cond b (p ∷ q ∷ qs) (cond s (q ∷ qs) (q ∷ with_prefix p qs))) x → (In (with_prefix p qs) x → (p ≡ x) ⊎ In qs x) →
        (p ≡ x) ⊎ In (q ∷ qs) x
    step true s (inl same) ih = inl same
    step true s (inr k) ih = inr k
    step false true k ih = inr k
    step false false (inl same) ih = inr (inl same)
    step false false (inr k) ih = elim (ih k) [ inl e ↦ inl e | inr l ↦ inr (inr l) ]

with_all : (more set : List Prefix) (x : Prefix) → In (with_prefixes more set) x → In more x ⊎ In set x
with_all [] set x h = inr h
with_all (p ∷ more) set x h = elim (with_all more (with_prefix p set) x h) [
  | inl k ↦ inl (inr k)
  | inr k ↦ elim (with_one p set x k) [ inl e ↦ inl (inl e) | inr l ↦ inr l ]
]

-- the prefix is the subnet of an up interface
pub record IsOriginated (n : Network) (p : Prefix) : Type 0 where
  pub router : Router
  pub router_in : In n.routers router
  pub interface : Interface
  pub interface_in : In router.interfaces interface
  pub address : Address
  pub up : up_address interface ≡ Some address
  pub subnet : subnet_of_address address ≡ p

originated_on : (n : Network) (p : Prefix) → In (flat_map originated_by n.routers) p → IsOriginated n p
originated_on n p at =
    let r = flat_map_in originated_by n.routers p at in
    let f = filter_in (λ (q : Prefix). is_some (initial_route r.0 q)) (filter_map up_subnet r.0.interfaces) p r.2 in
    let x = filter_map_in up_subnet r.0.interfaces p f.0 in
    let a = map_some subnet_of_address (up_address x.0) p x.2 in
    record { router = r.0; router_in = r.1; interface = x.0; interface_in = x.1; address = a.0; up = a.1; subnet = a.2 }

pub originated_from : (n : Network) (p : Prefix) → In (originated n) p → IsOriginated n p
unfolding originated
originated_from n p at = elim (with_all (flat_map originated_by n.routers) [] p at) [ inl h ↦ originated_on n p h | inr h ↦ absurd h ]

-- ---- classes

pub record IsClassOf (n : Network) (class : DestClass) : Type 0 where
  pub least : Prefix
  pub originates : In (originated n) least
  pub is : class_of n least ≡ class

pub class_is : (n : Network) (class : DestClass) → Contains (classes_of n) class → IsClassOf n class
unfolding classes_of
class_is n class has =
    let m = map_in (class_of n) (filter (is_least n) (originated n)) class (in_contains (map (class_of n) (filter (is_least n) (originated n))) class has) in
    record { least = m.0; originates = (filter_in (is_least n) (originated n) m.0 m.1).0; is = m.2 }

pub some_prefix : (n : Network) (class : DestClass) → IsClassOf n class → (p : Prefix) × Contains class.prefixes p
some_prefix n class of =
    let same = is_one_class n of.least of.least (record { origins = refl; answers = refl }) in (
      of.least,
      subst (λ (c : DestClass). Contains c.prefixes of.least) of.is
          (contains_in (class_of n of.least).prefixes of.least (in_filter (is_same_class n of.least) (originated n) of.least of.originates same)),
    )

pub class_prefix : (n : Network) (class : DestClass) (p : Prefix) → IsClassOf n class → In class.prefixes p → IsOriginated n p
class_prefix n class p of at =
    let among : In (class_of n of.least).prefixes p = subst (λ (c : DestClass). In c.prefixes p) (sym of.is) at in
    originated_from n p (filter_in (is_same_class n of.least) (originated n) p among).0

abbrev pub IsBefore : Prefix → Prefix → Type 0
IsBefore p q = is_before p q ≡ true

all_after : (p : Prefix) (qs : List Prefix) (q : Prefix) → AllAfter p qs → In qs q → IsBefore p q
all_after p [] q all h = absurd h
all_after p (r ∷ qs) q all (inl same) = subst (IsBefore p) same all.0
all_after p (r ∷ qs) q all (inr h) = all_after p qs q all.1 h

ascending_pairs : (ps : List Prefix) → AreAscending ps → IsPairwise IsBefore ps
ascending_pairs [] up = tt
ascending_pairs (p ∷ ps) up = (λ q h. all_after p ps q up.0 h, ascending_pairs ps up.1)

pub class_pairs : (n : Network) (class : DestClass) → IsClassOf n class → IsPairwise IsBefore class.prefixes
class_pairs n class of = ascending_pairs class.prefixes (subst (λ (c : DestClass). AreAscending c.prefixes) of.is (class_ascends n of.least))

-- ---- prefixes are well formed

pub router_forms : (n : Network) → IsWellFormed n → (r : Router) → In n.routers r → IsWellFormedRouter r
router_forms n well r at = all_in IsWellFormedRouter n.routers r well.routers at

pub interface_forms : (n : Network) → IsWellFormed n → (r : Router) → In n.routers r → (x : Interface) → In r.interfaces x → IsWellFormedInterface x
interface_forms n well r at x here = all_in IsWellFormedInterface r.interfaces x (router_forms n well r at).interfaces here

pub up_some : (x : Interface) (a : Address) → up_address x ≡ Some a → x.address ≡ Some a
up_some x a e = step x.shut e
  where
    step : (b : Bool) → cond b None x.address ≡ Some a → x.address ≡ Some a
    step true f = cc
    step false f = f

pub up_form : (x : Interface) (a : Address) → IsWellFormedInterface x → up_address x ≡ Some a → IsWellFormedAddress a
up_form x a form e = some_holds IsWellFormedAddress x.address a form.address (up_some x a e)

pub record IsSubnet (p : Prefix) : Type 0 where
  pub prefix : IsPrefix p
  pub some : 1 ≤ p.len

pub subnet_is : (a : Address) → IsWellFormedAddress a → IsSubnet (subnet_of_address a)
subnet_is a form =
    let high = form.len.1 in
    let low = form.len.0 in
    let is = form.addr in
    record {
      prefix = record {
        addr = (let cut = div-mul-le_self a.addr (2 ^ (32 - a.len)) in omega arith);
        len = high;
        exact = mul-mod_left (a.addr / 2 ^ (32 - a.len)) (2 ^ (32 - a.len));
      };
      some = low;
    }

pub originated_is : (n : Network) (p : Prefix) → IsWellFormed n → IsOriginated n p → IsSubnet p
originated_is n p well from =
    subst IsSubnet from.subnet (subnet_is from.address
    (up_form from.interface from.address (interface_forms n well from.router from.router_in from.interface from.interface_in) from.up))

-- ---- there are few prefixes

pub ascending_few : {X : Type 0} (key : X → ℕ) (bound low : ℕ) (xs : List X) → ((x : X) → In xs x → (low ≤ key x) × (key x < bound)) → low ≤ bound →
    IsPairwise (λ (x y : X). key x < key y) xs → low + length xs ≤ bound
ascending_few key bound low [] inside room all = omega arith
ascending_few key bound low (x ∷ xs) inside room all =
    let here = inside x (inl refl) in
    let first = here.0 in
    let last = here.1 in
    let rest = ascending_few key bound (key x + 1) xs (λ y h. (let above = all.0 y h in omega arith, (inside y (inr h)).1)) (omega arith) all.1 in
    omega arith

abbrev key_of : Prefix → ℕ
key_of p = p.addr * 64 + p.len

key_grows : (p q : Prefix) → IsSubnet p → IsSubnet q → IsBefore p q → key_of p < key_of q
key_grows p q is is' before = by_number p.addr p.len q.addr q.len is.prefix.len is'.prefix.len before
  where
    by_test : (a l b m : ℕ) → l ≤ 32 → m ≤ 32 → (t : Bool) → nat_eq a b ≡ t → cond t (nat_lt l m) (nat_lt a b) ≡ true → a * 64 + l < b * 64 + m
    by_test a l b m short small true is before = (let same : a ≡ b = grind (arith, nat_tests) in let less : l < m = grind (arith, nat_tests) in omega arith)
    by_test a l b m short small false is before = (let less : a < b = grind (arith, nat_tests) in omega arith)

    by_number : (a l b m : ℕ) → l ≤ 32 → m ≤ 32 → cond (nat_eq a b) (nat_lt l m) (nat_lt a b) ≡ true → a * 64 + l < b * 64 + m
    by_number a l b m short small before = by_test a l b m short small (nat_eq a b) refl before

keys_grow : (ps : List Prefix) → ((p : Prefix) → In ps p → IsSubnet p) → IsPairwise IsBefore ps → IsPairwise (λ (p q : Prefix). key_of p < key_of q) ps
keys_grow [] is all = tt
keys_grow (p ∷ ps) is all = (λ q h. key_grows p q (is p (inl refl)) (is q (inr h)) (all.0 q h), keys_grow ps (λ q h. is q (inr h)) all.1)

pub few_prefixes : (n : Network) (class : DestClass) → IsWellFormed n → IsClassOf n class → length class.prefixes ≤ 274877906944
few_prefixes n class well of =
    let is : (p : Prefix) → In class.prefixes p → IsSubnet p = λ p at. originated_is n p well (class_prefix n class p of at) in
    let few = ascending_few key_of 274877906944 0 class.prefixes
    (λ p at. (omega arith, (let a = (is p at).prefix.addr in let l = (is p at).prefix.len in omega arith))) (omega arith)
    (keys_grow class.prefixes is (class_pairs n class of)) in
    omega arith
