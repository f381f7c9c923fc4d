-- In a network without repeated AS numbers each router has its own.
use Rattle.std.proofs.Common.{◌≡◌, ℕ, zero, suc, Bool, true, false, cond, ◌||◌, List, [], ◌∷◌, map, filter_map, nat_eq, Option, Some, None, inl, inr, refl, sym, ◌∙◌, ap}
use Rattle.std.specs.Prelude.{slice_get}
use Rattle.std.specs.List.{list_any, cons_option}
use Rattle.base_kit.proofs.Elements.{In, get_in, in_filter_map}
use Rattle.base_kit.proofs.SetFacts.{same_number}
use Rattle.cfg_ast.specs.declared.bgp.BgpProcess.{BgpProcess}
use Rattle.cfg_ast.specs.declared.network.Network.{Network}
use Rattle.cfg_ast.specs.declared.network.Router.{Router}
use Rattle.cfg_ast.specs.meaning.RouterFaults.{repeats, repeats_after, shared_as_lines}
use Rattle.cfg_check.specs.Items.{bgp_of, same_number as same_as_number, process_line}

fresh : {X : Type 0} (b : Bool) (x : X) (rest : List X) → cond b (x ∷ rest) rest ≡ [] → (b ≡ false) × (rest ≡ [])
fresh true x rest e = cc
fresh false x rest e = (refl, e)

or_true : (a b : Bool) → b ≡ true → a || b ≡ true
or_true true b e = refl
or_true false b e = e

-- the past has the number, so no later process has
none_later : (number : ℕ) (past ps : List BgpProcess) → repeats_after same_as_number past ps ≡ [] →
    list_any (λ (b : BgpProcess). nat_eq number b.number) past ≡ true → (q : BgpProcess) → In ps q → q.number ≡ number → ⊥
none_later number past [] none met q at same = absurd at
none_later number past (z ∷ zs) none met q (inl here) same =
    let alone = (fresh (list_any (same_as_number z) past) z (repeats_after same_as_number (z ∷ past) zs) none).0 in
    let is : z.number ≡ number = ap (λ (b : BgpProcess). b.number) here ∙ same in
    let also : list_any (λ (b : BgpProcess). nat_eq z.number b.number) past ≡ true = ap (λ (m : ℕ). list_any (λ (b : BgpProcess). nat_eq m b.number) past) is
    ∙ met in
    absurd cc
none_later number past (z ∷ zs) none met q (inr at) same =
    none_later number (z ∷ past) zs (fresh (list_any (same_as_number z) past) z (repeats_after same_as_number (z ∷ past) zs) none).1
    (or_true (nat_eq number z.number) (list_any (λ (b : BgpProcess). nat_eq number b.number) past) met) q at same

-- the router at a place has the process
pub record HasAt (routers : List Router) (place : ℕ) (process : BgpProcess) : Type 0 where
  pub router : Router
  pub at : slice_get routers place ≡ Some router
  pub is : router.bgp ≡ Some process

at_next : (r : Router) (rs : List Router) (place : ℕ) (process : BgpProcess) → HasAt (r ∷ rs) (suc place) process → HasAt rs place process
at_next r rs place process has = record { router = has.router; at = has.at; is = has.is }

among : (rs : List Router) (place : ℕ) (process : BgpProcess) → HasAt rs place process → In (filter_map bgp_of rs) process
among rs place process has = in_filter_map bgp_of rs has.router process (get_in rs place has.router has.at) has.is

at_first : (r : Router) (rs : List Router) (process : BgpProcess) → HasAt (r ∷ rs) zero process → r.bgp ≡ Some process
at_first r rs process has = ap (λ (x : Router). x.bgp) (let same : r ≡ has.router = cc (has.at) in same) ∙ has.is

met_first : (p : BgpProcess) (past : List BgpProcess) → list_any (λ (b : BgpProcess). nat_eq p.number b.number) (p ∷ past) ≡ true
met_first p past = ap (λ (b : Bool). b || list_any (λ (x : BgpProcess). nat_eq p.number x.number) past) (same_number p.number p.number refl)

rest_of : (o : Option BgpProcess) (past ps : List BgpProcess) → repeats_after same_as_number past (cons_option o ps) ≡ [] → (more : List BgpProcess)
    × (repeats_after same_as_number more ps ≡ [])
rest_of None past ps none = (past, none)
rest_of (Some b) past ps none = (b ∷ past, (fresh (list_any (same_as_number b) past) b (repeats_after same_as_number (b ∷ past) ps) none).1)

first_apart : (r : Router) (rs : List Router) (past : List BgpProcess) (o : Option BgpProcess) (p q : BgpProcess) (v : ℕ) → o ≡ Some p →
    repeats_after same_as_number past (cons_option o (filter_map bgp_of rs)) ≡ [] → HasAt rs v q → p.number ≡ q.number → ⊥
first_apart r rs past None p q v is none has same = absurd cc
first_apart r rs past (Some b) p q v is none has same =
    let one : b ≡ p = cc in
    let later = (fresh (list_any (same_as_number b) past) b (repeats_after same_as_number (b ∷ past) (filter_map bgp_of rs)) none).1 in
    none_later b.number (b ∷ past) (filter_map bgp_of rs) later (met_first b past) q (among rs v q has) (sym same ∙ ap (λ (x : BgpProcess). x.number) (sym one))

one_place : (routers : List Router) (past : List BgpProcess) → repeats_after same_as_number past (filter_map bgp_of routers) ≡ [] →
    (u v : ℕ) (p q : BgpProcess) → HasAt routers u p → HasAt routers v q → p.number ≡ q.number → u ≡ v
one_place [] past none u v p q a b same = let none_there = a.at in absurd cc
one_place (r ∷ rs) past none zero zero p q a b same = refl
one_place (r ∷ rs) past none zero (suc v) p q a b same = absurd (first_apart r rs past r.bgp p q v (at_first r rs p a) none (at_next r rs v q b) same)
one_place (r ∷ rs) past none (suc u) zero p q a b same = absurd (first_apart r rs past r.bgp q p u (at_first r rs q b) none (at_next r rs u p a) (sym same))
one_place (r ∷ rs) past none (suc u) (suc v) p q a b same = let more = rest_of r.bgp past (filter_map bgp_of rs) none in
    ap suc (one_place rs more.0 more.1 u v p q (at_next r rs u p a) (at_next r rs v q b) same)

map_nil : {X Y : Type 0} (f : X → Y) (xs : List X) → map f xs ≡ [] → xs ≡ []
map_nil f [] e = refl
map_nil f (x ∷ xs) e = cc

-- routers with processes of one number are one
pub one_router : (n : Network) → shared_as_lines n ≡ [] → (u v : ℕ) (p q : BgpProcess) → HasAt n.routers u p → HasAt n.routers v q → p.number ≡ q.number → u ≡ v
unfolding shared_as_lines
one_router n none u v p q a b same = one_place n.routers [] (map_nil process_line
    (repeats same_as_number (filter_map (λ (r : Router). r.bgp) n.routers)) none) u v p q a b same
