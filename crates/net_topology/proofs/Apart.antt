-- In a network without faults no two up interfaces have one address, and no two of one router one subnet.
use Rattle.std.proofs.Common.{◌≡◌, ℕ, zero, ◌+◌, ◌*◌, ◌-◌, ◌/◌, ◌^◌, ◌<◌, min, Bool, true, false, true≢false, cond, ◌||◌, nat_eq, List, [], ◌∷◌, ◌++◌, map, filter_map, flat_map, Option, Some, None, inl, inr, refl, sym, ◌∙◌, ap, subst, arith}
use Rattle.std.specs.Prelude.{slice_get}
use Rattle.std.specs.Option.{option_map}
use Rattle.std.specs.List.{list_any, cons_option, enumerate_from}
use Rattle.std.proofs.Math.Nat.{mul-div_cancel}
use Rattle.std.proofs.lemmas.List.{map-append}
use Rattle.std.proofs.lemmas.Nat.{pow_pos}
use Rattle.base_kit.proofs.Elements.{In, get_in}
use Rattle.base_kit.proofs.SetFacts.{same_number}
use Rattle.cfg_ast.specs.meaning.Addresses.{Address}
use Rattle.cfg_ast.specs.declared.interface.Interface.{Interface}
use Rattle.cfg_ast.specs.declared.network.Network.{Network}
use Rattle.cfg_ast.specs.declared.network.Router.{Router}
use Rattle.cfg_ast.specs.meaning.RouterFaults.{repeats, repeats_after, address_line, up_addresses_of, shared_address_lines, overlap, overlapping_lines}
use Rattle.cfg_check.specs.Items.{same_address, overlapping_in}
use Rattle.cfg_ast.specs.meaning.Topology.{up_address, first_address}
use Rattle.cfg_check.specs.Faultless.{IsFaultless}
use Rattle.net_topology.proofs.UpFacts.{IsUpOf, up_in}
use Rattle.net_topology.specs.Ups.{up_at, up_on, ups_on, ups_of, addr_of}
use Rattle.net_topology.specs.declared.ups.Attachment.{Attachment}
use Rattle.net_topology.specs.declared.ups.Up.{Up}

-- ---- lists in which nothing repeats

or_false : (a b : Bool) → (a || b) ≡ false → (a ≡ false) × (b ≡ false)
or_false true b e = cc
or_false false b e = (refl, e)

any_false : {X : Type 0} (p : X → Bool) (xs : List X) (x : X) → list_any p xs ≡ false → In xs x → p x ≡ false
any_false p [] x e h = absurd h
any_false p (y ∷ ys) x e (inl same) = sym (ap p same) ∙ (or_false (p y) (list_any p ys) e).0
any_false p (y ∷ ys) x e (inr h) = any_false p ys x (or_false (p y) (list_any p ys) e).1 h

fresh : {X : Type 0} (b : Bool) (x : X) (rest : List X) → cond b (x ∷ rest) rest ≡ [] → (b ≡ false) × (rest ≡ [])
fresh true x rest e = cc
fresh false x rest e = (refl, e)

unlike_past : {X : Type 0} (alike : X → X → Bool) (past xs : List X) (x y : X) → repeats_after alike past xs ≡ [] → In past x → In xs y → alike y x ≡ false
unlike_past alike past [] x y e h k = absurd k
unlike_past alike past (z ∷ zs) x y e h (inl same) = ap (λ w. alike w x) (sym same)
    ∙ any_false (alike z) past x (fresh (list_any (alike z) past) z (repeats_after alike (z ∷ past) zs) e).0 h
unlike_past alike past (z ∷ zs) x y e h (inr k) =
    unlike_past alike (z ∷ past) zs x y (fresh (list_any (alike z) past) z (repeats_after alike (z ∷ past) zs) e).1 (inr h) k

not_both : {X : Type 0} (b : Bool) (x y : X) → b ≡ true → b ≡ false → x ≡ y
not_both b x y e f = absurd (true≢false (sym e ∙ f))

-- items that are alike are one
alone : {X : Type 0} (alike : X → X → Bool) (past xs : List X) (x y : X) → repeats_after alike past xs ≡ [] → In xs x → In xs y → alike x y ≡ true →
    alike y x ≡ true → x ≡ y
alone alike past [] x y e h k there back = absurd h
alone alike past (z ∷ zs) x y e (inl a) (inl b) there back = sym a ∙ b
alone alike past (z ∷ zs) x y e (inl a) (inr k) there back =
    not_both (alike y x) x y back (unlike_past alike (z ∷ past) zs x y (fresh (list_any (alike z) past) z (repeats_after alike (z ∷ past) zs) e).1 (inl a) k)
alone alike past (z ∷ zs) x y e (inr h) (inl b) there back =
    not_both (alike x y) x y there (unlike_past alike (z ∷ past) zs y x (fresh (list_any (alike z) past) z (repeats_after alike (z ∷ past) zs) e).1 (inl b) h)
alone alike past (z ∷ zs) x y e (inr h) (inr k) there back =
    alone alike (z ∷ past) zs x y (fresh (list_any (alike z) past) z (repeats_after alike (z ∷ past) zs) e).1 h k there back

map_nil : {X Y : Type 0} (f : X → Y) (xs : List X) → map f xs ≡ [] → xs ≡ []
map_nil f [] e = refl
map_nil f (x ∷ xs) e = cc

append_nil : {X : Type 0} (xs ys : List X) → xs ++ ys ≡ [] → (xs ≡ []) × (ys ≡ [])
append_nil [] ys e = (refl, e)
append_nil (x ∷ xs) ys e = cc

flat_map_nil : {X Y : Type 0} (f : X → List Y) (xs : List X) (x : X) → flat_map f xs ≡ [] → In xs x → f x ≡ []
flat_map_nil f [] x e h = absurd h
flat_map_nil f (z ∷ zs) x e (inl same) = ap f (sym same) ∙ (append_nil (f z) (flat_map f zs) e).0
flat_map_nil f (z ∷ zs) x e (inr h) = flat_map_nil f zs x (append_nil (f z) (flat_map f zs) e).1 h

-- ---- addresses

abbrev by_number : {X : Type 0} → (X → ℕ) → X → X → Bool
by_number f x y = nat_eq (f x) (f y)

any_map : {X : Type 0} (f : X → ℕ) (p : ℕ → Bool) (xs : List X) → list_any p (map f xs) ≡ list_any (λ x. p (f x)) xs
any_map f p [] = refl
any_map f p (x ∷ xs) = ap (λ b. p (f x) || b) (any_map f p xs)

mapped_if : {X : Type 0} (f : X → ℕ) (a b : Bool) (x : X) (xs : List X) (ns : List ℕ) → a ≡ b → ns ≡ map f xs →
    cond a (f x ∷ ns) ns ≡ map f (cond b (x ∷ xs) xs)
mapped_if f true true x xs ns e g = ap (λ (l : List ℕ). f x ∷ l) g
mapped_if f false false x xs ns e g = g
mapped_if f true false x xs ns e g = cc
mapped_if f false true x xs ns e g = cc

repeats_by_number : {X : Type 0} (f : X → ℕ) (past xs : List X) → repeats_after nat_eq (map f past) (map f xs) ≡ map f (repeats_after (by_number f) past xs)
repeats_by_number f past [] = refl
repeats_by_number f past (x ∷ xs) = mapped_if f (list_any (nat_eq (f x)) (map f past)) (list_any (by_number f x) past) x
    (repeats_after (by_number f) (x ∷ past) xs) (repeats_after nat_eq (f x ∷ map f past) (map f xs)) (any_map f (nat_eq (f x)) past)
    (repeats_by_number f (x ∷ past) xs)

abbrev number_of : Address → ℕ
number_of a = a.addr

one_more : (r : ℕ) (o : Option Address) (found : List Up) (all : List Address) → map addr_of found ≡ map number_of all →
    map addr_of (cons_option (option_map (up_at r) o) found) ≡ map number_of (cons_option o all)
one_more r None found all e = e
one_more r (Some a) found all e = ap (λ (l : List ℕ). a.addr ∷ l) e

on_router : (r : ℕ) (xs : List Interface) → map addr_of (filter_map (up_on r) xs) ≡ map number_of (filter_map up_address xs)
on_router r [] = refl
on_router r (x ∷ xs) = one_more r (up_address x) (filter_map (up_on r) xs) (filter_map up_address xs) (on_router r xs)

same_addresses : (r : ℕ) (routers : List Router) → map addr_of (flat_map ups_on (enumerate_from r routers)) ≡ map number_of (flat_map up_addresses_of routers)
same_addresses r [] = refl
same_addresses r (x ∷ xs) =
    map-append addr_of (ups_on (r, x)) (flat_map ups_on (enumerate_from (r + 1) xs))
    ∙ ap (λ (l : List ℕ). l ++ map addr_of (flat_map ups_on (enumerate_from (r + 1) xs))) (on_router r x.interfaces)
    ∙ ap (λ (l : List ℕ). map number_of (up_addresses_of x) ++ l) (same_addresses (r + 1) xs)
    ∙ sym (map-append number_of (up_addresses_of x) (flat_map up_addresses_of xs))

none_repeated : (n : Network) → IsFaultless n → repeats (by_number addr_of) (ups_of n.routers) ≡ []
unfolding shared_address_lines ups_of
none_repeated n faultless =
    let ups = flat_map ups_on (enumerate_from 0 n.routers) in
    let none : repeats same_address (flat_map up_addresses_of n.routers) ≡ [] =
    map_nil address_line (repeats same_address (flat_map up_addresses_of n.routers)) faultless.shared_address in
    map_nil addr_of (repeats (by_number addr_of) ups)
    (sym (repeats_by_number addr_of [] ups)
    ∙ ap (repeats_after nat_eq []) (same_addresses 0 n.routers)
    ∙ repeats_by_number number_of [] (flat_map up_addresses_of n.routers)
    ∙ ap (map number_of) none)

-- ---- subnets

same_quotient : (a b d : ℕ) → zero < d → a * d ≡ b * d → a ≡ b
same_quotient a b d pos e = sym (mul-div_cancel a pos) ∙ ap (λ m. m / d) e ∙ mul-div_cancel b pos

lesser_of_one : (m : ℕ) → min m m ≡ m
lesser_of_one m = omega arith

overlap_at : (x y m : ℕ) → x / 2 ^ (32 - m) * 2 ^ (32 - m) ≡ y / 2 ^ (32 - m) * 2 ^ (32 - m) → nat_eq (x / 2 ^ (32 - min m m)) (y / 2 ^ (32 - min m m)) ≡ true
overlap_at x y m e =
    ap (λ k. nat_eq (x / 2 ^ (32 - k)) (y / 2 ^ (32 - k))) (lesser_of_one m)
    ∙ same_number (x / 2 ^ (32 - m)) (y / 2 ^ (32 - m)) (same_quotient (x / 2 ^ (32 - m)) (y / 2 ^ (32 - m)) (2 ^ (32 - m)) (pow_pos (32 - m)) e)

overlap_with : (x y m k : ℕ) → m ≡ k → x / 2 ^ (32 - m) * 2 ^ (32 - m) ≡ y / 2 ^ (32 - k) * 2 ^ (32 - k) →
    nat_eq (x / 2 ^ (32 - min m k)) (y / 2 ^ (32 - min m k)) ≡ true
overlap_with x y m k same =
    let P : ℕ → Type 0 = λ j. x / 2 ^ (32 - m) * 2 ^ (32 - m) ≡ y / 2 ^ (32 - j) * 2 ^ (32 - j) →
    nat_eq (x / 2 ^ (32 - min m j)) (y / 2 ^ (32 - min m j)) ≡ true in
    subst P same (overlap_at x y m)

do_overlap : (a b : Address) → a.len ≡ b.len → first_address a ≡ first_address b → overlap a b ≡ true
do_overlap a b e f = overlap_with a.addr b.addr a.len b.len e f

none_overlap : (n : Network) (owner : Router) → IsFaultless n → In n.routers owner → repeats overlap (up_addresses_of owner) ≡ []
unfolding overlapping_lines
none_overlap n owner faultless h = flat_map_nil overlapping_in n.routers owner (map_nil address_line (flat_map overlapping_in n.routers) faultless.overlapping)
    h

one_owner : (a b : Option Router) (u v : Router) → a ≡ Some u → b ≡ Some v → a ≡ b → u ≡ v
one_owner a b u v e f same = cc

one_attachment : (n : Network) (x y : Up) → IsFaultless n → IsUpOf n.routers x → IsUpOf n.routers y → x.at ≡ y.at → x ≡ y
one_attachment n x y faultless is_x is_y same =
    let owners : is_x.owner ≡ is_y.owner = one_owner _ _ is_x.owner is_y.owner is_x.place is_y.place
    (ap (λ (at : Attachment). slice_get n.routers at.router) same) in
    let b_in : In (up_addresses_of is_x.owner) is_y.address = subst (λ (o : Router). In (up_addresses_of o) is_y.address) (sym owners) is_y.is_in in
    let ats : (up_at x.at.router is_x.address).at ≡ (up_at y.at.router is_y.address).at = ap (λ (z : Up). z.at) is_x.up ∙ same
    ∙ sym (ap (λ (z : Up). z.at) is_y.up) in
    let lens : is_x.address.len ≡ is_y.address.len = ap (λ (at : Attachment). at.len) ats in
    let firsts : first_address is_x.address ≡ first_address is_y.address = ap (λ (at : Attachment). at.first) ats in
    let one : is_x.address ≡ is_y.address = alone overlap [] (up_addresses_of is_x.owner) is_x.address is_y.address
    (none_overlap n is_x.owner faultless (get_in n.routers x.at.router is_x.owner is_x.place)) is_x.is_in b_in
    (do_overlap is_x.address is_y.address lens firsts) (do_overlap is_y.address is_x.address (sym lens) (sym firsts)) in
    sym is_x.up ∙ ap (λ (at : Attachment). up_at at.router is_x.address) same ∙ ap (up_at y.at.router) one ∙ is_y.up

pub record AreApart (ups : List Up) : Type 0 where
  pub addrs : (x y : Up) → In ups x → In ups y → x.addr ≡ y.addr → x ≡ y
  pub attachments : (x y : Up) → In ups x → In ups y → x.at ≡ y.at → x ≡ y

pub ups_apart : (n : Network) → IsFaultless n → AreApart (ups_of n.routers)
ups_apart n faultless = record {
  addrs = λ x y h k e. alone (by_number addr_of) [] (ups_of n.routers) x y (none_repeated n faultless) h k (same_number x.addr y.addr e)
      (same_number y.addr x.addr (sym e));
  attachments = λ x y h k e. one_attachment n x y faultless (up_in n.routers x h) (up_in n.routers y k) e;
}
