-- What a line adds to the neighbour of its address.
use Rattle.std.proofs.Common.{◌≡◌, ℕ, Bool, true, false, ◌&&◌, ◌||◌, List, [], ◌∷◌, ◌++◌, Result, Ok, Err, refl, sym, ap, ◌∙◌, ◌==◌, if◌then◌else◌, eq-eqb}
use Rattle.std.proofs.lemmas.Map.Views.{exact_unsigned_eq}
use Rattle.cfg_ast.specs.declared.bgp.Neighbor.{Neighbor}
use Rattle.cfg_ast.specs.declared.bgp.BgpProcess.{BgpProcess}
use Rattle.cfg_ast.specs.declared.refusal.Kind.TheVariants as kind
use Rattle.cfg_ast.specs.declared.refusal.ReadRefusal.{ReadRefusal}
use Rattle.cfg_ast.specs.declared.refusal.ReadRefusal.TheVariants as refusal
use Rattle.cfg_ast.specs.text.Stanzas.{once, at_neighbor, has_neighbor}
use Rattle.cfg_ast.specs.text.Steps.{◌>>=◌}
use Rattle.reading_laws.specs.FormFaults.{StanzaPart, remote_as, list_in, list_out, map_in, map_out}
use Rattle.reading_laws.proofs.Given.{peer_has, has_list_in, has_list_out, has_map_in, has_map_out, bgp_has}

-- the neighbours, with the first one of this address changed
abbrev pub put_at : ℕ → (Neighbor → Neighbor) → List Neighbor → List Neighbor
put_at addr put [] = []
put_at addr put (p ∷ peers) = if p.addr == addr then put p ∷ peers else p ∷ put_at addr put peers

-- ---- what reading a line does to the neighbours

stranger_at : (n addr : ℕ) (change : Neighbor → Result Neighbor ReadRefusal) (p : Neighbor) (peers : List Neighbor) →
    (has_neighbor peers addr ≡ false → at_neighbor n addr change peers ≡ Err (refusal.At n kind.Misplaced))
    → (b : Bool) → (p.addr == addr) ≡ b → (b || has_neighbor peers addr) ≡ false → at_neighbor n addr change (p ∷ peers) ≡ Err (refusal.At n kind.Misplaced)
unfolding at_neighbor
stranger_at n addr change p peers rest true is none = absurd cc
stranger_at n addr change p peers rest false is none = rw (is, rest none) refl

pub at_stranger : (n addr : ℕ) (change : Neighbor → Result Neighbor ReadRefusal) (peers : List Neighbor) → has_neighbor peers addr ≡ false →
    at_neighbor n addr change peers ≡ Err (refusal.At n kind.Misplaced)
unfolding at_neighbor has_neighbor
at_stranger n addr change [] none = refl
at_stranger n addr change (p ∷ peers) none = stranger_at n addr change p peers (at_stranger n addr change peers) (p.addr == addr) refl none

-- a line that a neighbour may have once, where the neighbour stands
abbrev Sets : ℕ → (Neighbor → Result Neighbor ReadRefusal) → (Neighbor → Bool) → (Neighbor → Neighbor) → Type 0
Sets n change test put = (p : Neighbor) → change p ≡ once n (test p) (put p)

first_of : (n : ℕ) (b : Bool) (q : Neighbor) (peers : List Neighbor) → (once n b q >>= (λ (r : Neighbor). Ok (r ∷ peers))) ≡ once n b (q ∷ peers)
first_of n true q peers = refl
first_of n false q peers = refl

behind : (n : ℕ) (b : Bool) (p : Neighbor) (peers : List Neighbor) → (once n b peers >>= (λ (qs : List Neighbor). Ok (p ∷ qs))) ≡ once n b (p ∷ peers)
behind n true p peers = refl
behind n false p peers = refl

known_at : (n addr : ℕ) (change : Neighbor → Result Neighbor ReadRefusal) (test : Neighbor → Bool) (put : Neighbor → Neighbor) → Sets n change test put →
    (p : Neighbor) (peers : List Neighbor)
    → (has_neighbor peers addr ≡ true → at_neighbor n addr change peers ≡ once n (peer_has test peers addr) (put_at addr put peers))
    → (b : Bool) → (p.addr == addr) ≡ b → (b || has_neighbor peers addr) ≡ true →
    at_neighbor n addr change (p ∷ peers) ≡ once n (peer_has test (p ∷ peers) addr) (put_at addr put (p ∷ peers))
unfolding at_neighbor
known_at n addr change test put sets p peers rest true is stands = rw (is, sets p) (first_of n (test p) (put p) peers)
known_at n addr change test put sets p peers rest false is stands = rw (is, rest stands) (behind n (peer_has test peers addr) p (put_at addr put peers))

pub at_known : (n addr : ℕ) (change : Neighbor → Result Neighbor ReadRefusal) (test : Neighbor → Bool) (put : Neighbor → Neighbor) → Sets n change test put →
    (peers : List Neighbor) → has_neighbor peers addr ≡ true
    → at_neighbor n addr change peers ≡ once n (peer_has test peers addr) (put_at addr put peers)
unfolding at_neighbor has_neighbor
at_known n addr change test put sets [] stands = absurd cc
at_known n addr change test put sets (p ∷ peers) stands =
    known_at n addr change test put sets p peers (at_known n addr change test put sets peers) (p.addr == addr) refl stands

-- ---- what the neighbours have then

names_at : (addr : ℕ) (put : Neighbor → Neighbor) → ((p : Neighbor) → (put p).addr ≡ p.addr) → (p : Neighbor) (peers : List Neighbor) (a : ℕ) →
    has_neighbor (put_at addr put peers) a ≡ has_neighbor peers a
    → (b : Bool) → (p.addr == addr) ≡ b → has_neighbor (put_at addr put (p ∷ peers)) a ≡ ((p.addr == a) || has_neighbor peers a)
unfolding has_neighbor
names_at addr put same p peers a rest true is = rw (is, same p) refl
names_at addr put same p peers a rest false is = rw (is, rest) refl

put_names : (addr : ℕ) (put : Neighbor → Neighbor) → ((p : Neighbor) → (put p).addr ≡ p.addr) → (peers : List Neighbor) (a : ℕ) →
    has_neighbor (put_at addr put peers) a ≡ has_neighbor peers a
unfolding has_neighbor
put_names addr put same [] a = refl
put_names addr put same (p ∷ peers) a = names_at addr put same p peers a (put_names addr put same peers a) (p.addr == addr) refl

-- the neighbour itself: the first one of its address
test_here : (addr : ℕ) (put : Neighbor → Neighbor) (test : Neighbor → Bool) (c : Bool) (p : Neighbor) (peers : List Neighbor) (a : ℕ) → p.addr ≡ addr →
    (put p).addr ≡ p.addr → test (put p) ≡ (c || test p)
    → (b : Bool) → (addr == a) ≡ b → peer_has test (put p ∷ peers) a ≡ ((c && (addr == a)) || peer_has test (p ∷ peers) a)
test_here addr put test c p peers a here same sets true is =
    let new : ((put p).addr == a) ≡ true = ap (λ (x : ℕ). x == a) (same ∙ here) ∙ is in
    let old : (p.addr == a) ≡ true = ap (λ (x : ℕ). x == a) here ∙ is in
    rw (new, old, is, sets) (both c (test p))
  where
    both : (x y : Bool) → (x || y) ≡ ((x && true) || y)
    both true y = refl
    both false y = refl
test_here addr put test c p peers a here same sets false is =
    let new : ((put p).addr == a) ≡ false = ap (λ (x : ℕ). x == a) (same ∙ here) ∙ is in
    let old : (p.addr == a) ≡ false = ap (λ (x : ℕ). x == a) here ∙ is in
    rw (new, old, is) (neither c (peer_has test peers a))
  where
    neither : (x y : Bool) → y ≡ ((x && false) || y)
    neither true y = refl
    neither false y = refl

-- a neighbour of another address
test_there : (addr : ℕ) (test : Neighbor → Bool) (c : Bool) (p : Neighbor) (qs peers : List Neighbor) (a : ℕ) → (p.addr == addr) ≡ false →
    peer_has test qs a ≡ ((c && (addr == a)) || peer_has test peers a)
    → (b : Bool) → (p.addr == a) ≡ b → peer_has test (p ∷ qs) a ≡ ((c && (addr == a)) || peer_has test (p ∷ peers) a)
test_there addr test c p qs peers a other rest true is =
    let apart : (addr == a) ≡ false = apart_from p.addr addr a other (exact_unsigned_eq p.addr a is) (addr == a) refl in
    rw (is, apart) (neither c (test p))
  where
    neither : (x y : Bool) → y ≡ ((x && false) || y)
    neither true y = refl
    neither false y = refl

    apart_from : (x y z : ℕ) → (x == y) ≡ false → x ≡ z → (b : Bool) → (y == z) ≡ b → b ≡ false
    apart_from x y z e f false g = refl
    apart_from x y z e f true g = let t : true ≡ false = sym (eq-eqb x y (f ∙ sym (exact_unsigned_eq y z g))) ∙ e in absurd cc
test_there addr test c p qs peers a other rest false is = rw (is, rest) refl

test_at : (addr : ℕ) (put : Neighbor → Neighbor) (test : Neighbor → Bool) (c : Bool) → ((p : Neighbor) → (put p).addr ≡ p.addr) →
    ((p : Neighbor) → test (put p) ≡ (c || test p)) → (p : Neighbor) (peers : List Neighbor)
    → (has_neighbor peers addr ≡ true → (a : ℕ) → peer_has test (put_at addr put peers) a ≡ ((c && (addr == a)) || peer_has test peers a))
    → (b : Bool) → (p.addr == addr) ≡ b → (b || has_neighbor peers addr) ≡ true → (a : ℕ) →
    peer_has test (put_at addr put (p ∷ peers)) a ≡ ((c && (addr == a)) || peer_has test (p ∷ peers) a)
test_at addr put test c same sets p peers rest true is stands a =
    rw is (test_here addr put test c p peers a (exact_unsigned_eq p.addr addr is) (same p) (sets p) (addr == a) refl)
test_at addr put test c same sets p peers rest false is stands a =
    rw is (test_there addr test c p (put_at addr put peers) peers a is (rest stands a) (p.addr == a) refl)

put_test : (addr : ℕ) (put : Neighbor → Neighbor) (test : Neighbor → Bool) (c : Bool) → ((p : Neighbor) → (put p).addr ≡ p.addr) →
    ((p : Neighbor) → test (put p) ≡ (c || test p)) → (peers : List Neighbor) → has_neighbor peers addr ≡ true → (a : ℕ)
    → peer_has test (put_at addr put peers) a ≡ ((c && (addr == a)) || peer_has test peers a)
unfolding has_neighbor
put_test addr put test c same sets [] stands a = absurd cc
put_test addr put test c same sets (p ∷ peers) stands a =
    test_at addr put test c same sets p peers (put_test addr put test c same sets peers) (p.addr == addr) refl stands a

pub push_test : (test : Neighbor → Bool) (new : Neighbor) → test new ≡ false → (peers : List Neighbor) (a : ℕ) →
    peer_has test (peers ++ new ∷ []) a ≡ peer_has test peers a
push_test test new none [] a = alone (new.addr == a)
  where
    alone : (b : Bool) → (if b then test new else false) ≡ false
    alone true = none
    alone false = refl
push_test test new none (p ∷ peers) a = ap (λ (b : Bool). if p.addr == a then test p else b) (push_test test new none peers a)

-- ---- what a BGP process has then

-- a list or map of the neighbour of this address, of those that the line gives
abbrev pub of_peer : ℕ → Bool → Bool → Bool → Bool → StanzaPart → Bool
of_peer addr li lo mi mo (list_in a) = li && (addr == a)
of_peer addr li lo mi mo (list_out a) = lo && (addr == a)
of_peer addr li lo mi mo (map_in a) = mi && (addr == a)
of_peer addr li lo mi mo (map_out a) = mo && (addr == a)
of_peer addr li lo mi mo _ = false

-- the change gives the neighbour these, and no other
pub record Puts (addr : ℕ) (put : Neighbor → Neighbor) (li lo mi mo : Bool) : Type 0 where
  pub same_addr : (p : Neighbor) → (put p).addr ≡ p.addr
  pub lists_in : (p : Neighbor) → has_list_in (put p) ≡ (li || has_list_in p)
  pub lists_out : (p : Neighbor) → has_list_out (put p) ≡ (lo || has_list_out p)
  pub maps_in : (p : Neighbor) → has_map_in (put p) ≡ (mi || has_map_in p)
  pub maps_out : (p : Neighbor) → has_map_out (put p) ≡ (mo || has_map_out p)

pub put_parts : (b : BgpProcess) (addr : ℕ) (put : Neighbor → Neighbor) (li lo mi mo : Bool) → Puts addr put li lo mi mo → has_neighbor b.neighbors addr ≡ true
    → (p : StanzaPart) → bgp_has (record b { neighbors = put_at addr put b.neighbors }) p ≡ (of_peer addr li lo mi mo p || bgp_has b p)
put_parts b addr put li lo mi mo puts stands (remote_as a) = put_names addr put puts.same_addr b.neighbors a
put_parts b addr put li lo mi mo puts stands (list_in a) = put_test addr put has_list_in li puts.same_addr puts.lists_in b.neighbors stands a
put_parts b addr put li lo mi mo puts stands (list_out a) = put_test addr put has_list_out lo puts.same_addr puts.lists_out b.neighbors stands a
put_parts b addr put li lo mi mo puts stands (map_in a) = put_test addr put has_map_in mi puts.same_addr puts.maps_in b.neighbors stands a
put_parts b addr put li lo mi mo puts stands (map_out a) = put_test addr put has_map_out mo puts.same_addr puts.maps_out b.neighbors stands a
put_parts b addr put li lo mi mo puts stands _ = refl
