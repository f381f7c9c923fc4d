-- The other end of a peer against the interfaces of both routers. Public: crates above may cite `AreJoined`,
-- `joined_if` and `share_if`.
use Rattle.std.proofs.Common.{◌≡◌, ℕ, Bool, true, false, cond, ◌&&◌, ◌||◌, nat_eq, List, [], ◌∷◌, Option, Some, None, inl, inr, refl, sym, ◌∙◌, ap, subst, arith}
use Rattle.std.specs.Prelude.{slice_get}
use Rattle.std.specs.Option.{option_or, option_and_then, option_map}
use Rattle.std.specs.List.{list_any}
use Rattle.std.proofs.lemmas.Bool.Decides.{nat_tests}
use Rattle.base_kit.proofs.Elements.{In, in_filter, filter_in}
use Rattle.base_kit.proofs.SetFacts.{same_number}
use Rattle.cfg_ast.specs.meaning.Addresses.{Address}
use Rattle.cfg_ast.specs.declared.network.Router.{Router}
use Rattle.cfg_ast.specs.meaning.RouterFaults.{up_addresses_of}
use Rattle.cfg_ast.specs.meaning.Topology.{same_subnet, up_addresses_at, share_subnet}
use Rattle.net_topology.proofs.Apart.{AreApart}
use Rattle.net_topology.proofs.UpFacts.{IsUpOf, up_in, in_ups}
use Rattle.net_topology.specs.Peers.{beside, end_from, named_end, is_end_of}
use Rattle.net_topology.specs.Ups.{up_at, ups_of, addr_of, attachment_of, same_attachment, last_where, last_with}
use Rattle.net_topology.specs.declared.peers.Peer.{Peer}
use Rattle.net_topology.specs.declared.ups.Attachment.{Attachment}
use Rattle.net_topology.specs.declared.ups.Up.{Up}

-- ---- the last item that passes

last_in_step : {X : Type 0} (test : X → Bool) (y : X) (ys : List X) (x : X) (o : Option X) (b : Bool) → test y ≡ b → (o ≡ Some x → In ys x × (test x ≡ true)) →
    option_or o (cond b (Some y) None) ≡ Some x → In (y ∷ ys) x × (test x ≡ true)
last_in_step test y ys x (Some z) b t ih e = let r = ih e in (inr r.0, r.1)
last_in_step test y ys x None true t ih e = let same : y ≡ x = cc in (inl same, sym (ap test same) ∙ t)
last_in_step test y ys x None false t ih e = cc

last_in : {X : Type 0} (test : X → Bool) (xs : List X) (x : X) → last_where test xs ≡ Some x → In xs x × (test x ≡ true)
last_in test [] x e = cc
last_in test (y ∷ ys) x e = last_in_step test y ys x (last_where test ys) (test y) refl (last_in test ys x) e

last_is_step : {X : Type 0} (x y : X) (o : Option X) (b : Bool) → y ≡ x → b ≡ true → ((z : X) → o ≡ Some z → z ≡ x) →
    option_or o (cond b (Some y) None) ≡ Some x
last_is_step x y (Some z) b same e lone = ap Some (lone z refl)
last_is_step x y None true same e lone = ap Some same
last_is_step x y None false same e lone = cc

-- an item that alone passes
last_is : {X : Type 0} (test : X → Bool) (xs : List X) (x : X) → In xs x → test x ≡ true → ((z : X) → In xs z → test z ≡ true → z ≡ x) →
    last_where test xs ≡ Some x
last_is test [] x h e lone = absurd h
last_is test (y ∷ ys) x (inl same) e lone =
    last_is_step x y (last_where test ys) (test y) same (ap test same ∙ e) (λ z f. let r = last_in test ys z f in lone z (inr r.0) r.1)
last_is {X} test (y ∷ ys) x (inr h) e lone = ap (λ (o : Option X). option_or o (cond (test y) (Some y) None)) (last_is test ys x h e (λ z k. lone z (inr k)))

-- ---- tests

pub one_number : (m n : ℕ) → nat_eq m n ≡ true → m ≡ n
one_number m n e = grind (arith, nat_tests)

pub both : (a b : Bool) → (a && b) ≡ true → (a ≡ true) × (b ≡ true)
both true true e = (refl, refl)
both true false e = cc
both false b e = cc

pub both_true : (a b : Bool) → a ≡ true → b ≡ true → (a && b) ≡ true
both_true true true e f = refl
both_true true false e f = cc
both_true false b e f = cc

pub same_truth : (a b : Bool) → (a ≡ true → b ≡ true) → (b ≡ true → a ≡ true) → a ≡ b
same_truth true true there back = refl
same_truth true false there back = sym (there refl)
same_truth false true there back = back refl
same_truth false false there back = refl

one_attachment : (a b : Attachment) → same_attachment a b ≡ true → a ≡ b
one_attachment a b e =
    let all = both (nat_eq a.router b.router) (nat_eq a.len b.len && nat_eq a.first b.first) e in
    let rest = both (nat_eq a.len b.len) (nat_eq a.first b.first) all.1 in
    ap (λ r. record { router = r; len = a.len; first = a.first }) (one_number a.router b.router all.0)
    ∙ ap (λ l. record { router = b.router; len = l; first = a.first }) (one_number a.len b.len rest.0)
    ∙ ap (λ f. record { router = b.router; len = b.len; first = f }) (one_number a.first b.first rest.1)

is_attachment : (a b : Attachment) → a ≡ b → same_attachment a b ≡ true
is_attachment a b e =
    both_true (nat_eq a.router b.router) (nat_eq a.len b.len && nat_eq a.first b.first) (same_number a.router b.router (ap (λ (x : Attachment). x.router) e))
    (both_true (nat_eq a.len b.len) (nat_eq a.first b.first) (same_number a.len b.len (ap (λ (x : Attachment). x.len) e))
    (same_number a.first b.first (ap (λ (x : Attachment). x.first) e)))

one_of_step : {X : Type 0} (p : X → Bool) (y : X) (ys : List X) (b : Bool) → p y ≡ b → (list_any p ys ≡ true → (x : X) × In ys x × (p x ≡ true)) →
    (b || list_any p ys) ≡ true → (x : X) × In (y ∷ ys) x × (p x ≡ true)
one_of_step p y ys true e ih f = (y, inl refl, e)
one_of_step p y ys false e ih f = let r = ih f in (r.0, inr r.1, r.2)

one_of : {X : Type 0} (p : X → Bool) (xs : List X) → list_any p xs ≡ true → (x : X) × In xs x × (p x ≡ true)
one_of p [] e = cc
one_of p (x ∷ xs) e = one_of_step p x xs (p x) refl (one_of p xs) e

or_true : (a : Bool) → (a || true) ≡ true
or_true true = refl
or_true false = refl

any_of : {X : Type 0} (p : X → Bool) (xs : List X) (x : X) → In xs x → p x ≡ true → list_any p xs ≡ true
any_of p [] x h e = absurd h
any_of p (y ∷ ys) x (inl same) e = ap (λ b. b || list_any p ys) (ap p same ∙ e)
any_of p (y ∷ ys) x (inr h) e = ap (λ b. p y || b) (any_of p ys x h e) ∙ or_true (p y)

-- ---- interfaces of two routers in one subnet

pub record AreJoined (u v : Router) (a b : ℕ) : Type 0 where
  pub near : Address
  pub far : Address
  pub near_in : In (up_addresses_of u) near
  pub far_in : In (up_addresses_of v) far
  pub near_addr : near.addr ≡ a
  pub far_addr : far.addr ≡ b
  pub joined : same_subnet near far ≡ true

pub joined_if : (u v : Router) (a b : ℕ) → share_subnet u a v b ≡ true → AreJoined u v a b
joined_if u v a b e =
    let near = one_of (λ (c : Address). list_any (same_subnet c) (up_addresses_at v b)) (up_addresses_at u a) e in
    let far = one_of (same_subnet near.0) (up_addresses_at v b) near.2 in
    let near_in = filter_in (λ (c : Address). nat_eq c.addr a) (up_addresses_of u) near.0 near.1 in
    let far_in = filter_in (λ (c : Address). nat_eq c.addr b) (up_addresses_of v) far.0 far.1 in
    record {
      near = near.0;
      far = far.0;
      near_in = near_in.0;
      far_in = far_in.0;
      near_addr = one_number near.0.addr a near_in.1;
      far_addr =
          one_number far.0.addr b far_in.1;
      joined = far.2;
    }

pub share_if : (u v : Router) (a b : ℕ) → AreJoined u v a b → share_subnet u a v b ≡ true
share_if u v a b joined =
    let near_at = in_filter (λ (c : Address). nat_eq c.addr a) (up_addresses_of u) joined.near joined.near_in (same_number joined.near.addr a joined.near_addr)
    in
    let far_at = in_filter (λ (c : Address). nat_eq c.addr b) (up_addresses_of v) joined.far joined.far_in (same_number joined.far.addr b joined.far_addr) in
    any_of (λ (c : Address). list_any (same_subnet c) (up_addresses_at v b)) (up_addresses_at u a) joined.near near_at
    (any_of (same_subnet joined.near) (up_addresses_at v b) joined.far far_at joined.joined)

-- ---- from the interfaces to the end

found_far : (ups : List Up) (far : Up) (addr : ℕ) → AreApart ups → In ups far → far.addr ≡ addr → last_with nat_eq addr_of ups addr ≡ Some far
found_far ups far addr apart h e = last_is (λ (x : Up). nat_eq addr x.addr) ups far h (same_number addr far.addr (sym e))
    (λ z k f. apart.addrs z far k h (sym (one_number addr z.addr f) ∙ sym e))

found_near : (ups : List Up) (near : Up) (at : Attachment) → AreApart ups → In ups near → near.at ≡ at →
    last_with same_attachment attachment_of ups at ≡ Some near
found_near ups near at apart h e = last_is (λ (x : Up). same_attachment at x.at) ups near h (is_attachment at near.at (sym e))
    (λ z k f. apart.attachments z near k h (sym (one_attachment at z.at f) ∙ sym e))

end_at : (ups : List Up) (s : Peer) (near far : Up) → AreApart ups → In ups near → In ups far → far.addr ≡ s.addr → near.at ≡ beside s.router far →
    named_end ups s ≡ Some (far.at.router, near.addr)
end_at ups s near far apart near_in far_in e f =
    ap (option_and_then (end_from ups s.router)) (found_far ups far s.addr apart far_in e)
    ∙ ap (option_map (λ (x : Up). (far.at.router, x.addr))) (found_near ups near (beside s.router far) apart near_in f)

pub in_subnet : (r : ℕ) (a b : Address) → same_subnet a b ≡ true → (up_at r a).at ≡ beside r (up_at r b)
in_subnet r a b e = one_attachment (up_at r a).at (beside r (up_at r b)) (both_true (nat_eq r r) (same_subnet a b) (same_number r r refl) e)

reached : (routers : List Router) (s t : Peer) (u v : Router) → AreApart (ups_of routers) → slice_get routers s.router ≡ Some u →
    slice_get routers t.router ≡ Some v → AreJoined u v t.addr s.addr → is_end_of (named_end (ups_of routers) s) t ≡ true
reached routers s t u v apart at_s at_t joined =
    let near = up_at s.router joined.near in
    let far = up_at t.router joined.far in
    ap (λ (o : Option (ℕ × ℕ)). is_end_of o t)
    (end_at (ups_of routers) s near far apart (in_ups routers s.router u joined.near at_s joined.near_in)
    (in_ups routers t.router v joined.far at_t joined.far_in) joined.far_addr (in_subnet s.router joined.near joined.far joined.joined))
    ∙ both_true (nat_eq t.router t.router) (nat_eq joined.near.addr t.addr) (same_number t.router t.router refl)
    (same_number joined.near.addr t.addr joined.near_addr)

-- ---- from the end to the interfaces

record IsEnd (ups : List Up) (s t : Peer) : Type 0 where
  near : Up
  far : Up
  near_in : In ups near
  far_in : In ups far
  router : far.at.router ≡ t.router
  near_addr : near.addr ≡ t.addr
  far_addr : far.addr ≡ s.addr
  beside_far : near.at ≡ beside s.router far

end_with : (ups : List Up) (s t : Peer) (far : Up) (o : Option Up) → In ups far → far.addr ≡ s.addr →
    last_with same_attachment attachment_of ups (beside s.router far) ≡ o → is_end_of (option_map (λ (near : Up). (far.at.router, near.addr)) o) t ≡ true →
    IsEnd ups s t
end_with ups s t far None h e f g = cc
end_with ups s t far (Some near) h e f g =
    let found = last_in (λ (x : Up). same_attachment (beside s.router far) x.at) ups near f in
    let parts = both (nat_eq far.at.router t.router) (nat_eq near.addr t.addr) g in
    record {
      near = near;
      far = far;
      near_in = found.0;
      far_in = h;
      router = one_number far.at.router t.router parts.0;
      near_addr =
          one_number near.addr t.addr parts.1;
      far_addr = e;
      beside_far = sym (one_attachment (beside s.router far) near.at found.1);
    }

end_of : (ups : List Up) (s t : Peer) (o : Option Up) → last_with nat_eq addr_of ups s.addr ≡ o
    → is_end_of (option_and_then (end_from ups s.router) o) t ≡ true →
    IsEnd ups s t
end_of ups s t None e g = cc
end_of ups s t (Some far) e g =
    let found = last_in (λ (x : Up). nat_eq s.addr x.addr) ups far e in
    end_with ups s t far (last_with same_attachment attachment_of ups (beside s.router far)) found.0 (sym (one_number s.addr far.addr found.1)) refl g

on : (routers : List Router) (r : ℕ) (u : Router) (x : Up) → IsUpOf routers x → x.at.router ≡ r → slice_get routers r ≡ Some u →
    (a : Address) × In (up_addresses_of u) a × (up_at r a ≡ x)
on routers r u x is same e =
    let owner : is.owner ≡ u = let f : slice_get routers r ≡ Some is.owner = subst (λ k. slice_get routers k ≡ Some is.owner) same is.place in cc in
    (is.address, subst (λ (o : Router). In (up_addresses_of o) is.address) owner is.is_in, ap (λ k. up_at k is.address) (sym same) ∙ is.up)

joined_at : (r k : ℕ) (a b : Address) (near far : Up) → up_at r a ≡ near → up_at k b ≡ far → near.at ≡ beside r far → same_subnet a b ≡ true
joined_at r k a b near far e f g =
    let ats : (up_at r a).at ≡ beside r (up_at k b) = ap (λ (x : Up). x.at) e ∙ g ∙ sym (ap (beside r) f) in
    both_true (nat_eq a.len b.len) (nat_eq (up_at r a).at.first (up_at k b).at.first) (same_number a.len b.len (ap (λ (x : Attachment). x.len) ats))
    (same_number (up_at r a).at.first (up_at k b).at.first (ap (λ (x : Attachment). x.first) ats))

joined_by : (routers : List Router) (s t : Peer) (u v : Router) → slice_get routers s.router ≡ Some u → slice_get routers t.router ≡ Some v →
    IsEnd (ups_of routers) s t → AreJoined u v t.addr s.addr
joined_by routers s t u v at_s at_t end =
    let near = on routers s.router u end.near (up_in routers end.near end.near_in) (ap (λ (x : Attachment). x.router) end.beside_far) at_s in
    let far = on routers t.router v end.far (up_in routers end.far end.far_in) end.router at_t in
    record {
      near = near.0;
      far = far.0;
      near_in = near.1;
      far_in = far.1;
      near_addr = ap (λ (x : Up). x.addr) near.2 ∙ end.near_addr;
      far_addr =
          ap (λ (x : Up). x.addr) far.2 ∙ end.far_addr;
      joined = joined_at s.router t.router near.0 far.0 end.near end.far near.2 far.2 end.beside_far;
    }

-- two peers have addresses of each other's routers in one subnet if each stands at the other's end
pub share_is : (routers : List Router) (s t : Peer) (u v : Router) → AreApart (ups_of routers) → slice_get routers s.router ≡ Some u →
    slice_get routers t.router ≡ Some v → share_subnet u t.addr v s.addr ≡ is_end_of (named_end (ups_of routers) s) t
share_is routers s t u v apart at_s at_t =
    same_truth (share_subnet u t.addr v s.addr) (is_end_of (named_end (ups_of routers) s) t)
    (λ e. reached routers s t u v apart at_s at_t (joined_if u v t.addr s.addr e))
    (λ e. share_if u v t.addr s.addr (joined_by routers s t u v at_s at_t
    (end_of (ups_of routers) s t (last_with nat_eq addr_of (ups_of routers) s.addr) refl e)))
