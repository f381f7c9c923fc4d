-- The interface and the neighbour line of a link stand at their places.
use Rattle.std.proofs.Common.{◌≡◌, ◌≢◌, ℕ, zero, suc, ◌+◌, Bool, true, false, cond, List, [], ◌∷◌, ◌++◌, map, length, take, Option, Some, None, refl, ◌∙◌, ap, arith, nat_eq}
use Rattle.std.specs.Prelude.{filter, slice_get, if◌then◌else◌}
use Rattle.std.specs.Option.{option_map, option_map_or}
use Rattle.std.specs.List.{enumerate_from}
use Rattle.std.proofs.lemmas.Bool.Decides.{nat_tests}
use Rattle.std.proofs.lemmas.Option.{slice_get-map}
use Rattle.base_kit.specs.declared.protocol.Protocol.{Protocol}
use Rattle.base_kit.specs.declared.protocol.Protocol.TheVariants.{Bgp as OverBgp, Ospf as OverOspf}
use Rattle.cfg_ast.specs.declared.bgp.BgpProcess.{BgpProcess}
use Rattle.cfg_ast.specs.meaning.Topology.{neighbors_of}
use Rattle.abstract_net.specs.declared.qlink.QLink.{QLink}
use Rattle.srp_core.specs.Problem.{number}
use Rattle.srp_quotient.specs.Groups.{touches}
use Rattle.config_emit.specs.Plan.{Plan, small}
use Rattle.config_emit.specs.Interfaces.{class_interfaces, is_at, links_at, link_interface, link_interfaces}
use Rattle.config_emit.specs.Emitted.{neighbor_at, process_of, written_bgp, emitted_router}
use Rattle.emit_link_laws.specs.Laws.{first_item, links_before, item_at}

-- ---- lists

pub numbered_at : {X : Type 0} (n : ℕ) (xs : List X) (k : ℕ) → slice_get (enumerate_from n xs) k ≡ option_map (λ x. (n + k, x)) (slice_get xs k)
numbered_at n [] k = refl
numbered_at {X} n (x ∷ xs) zero = ap (λ (m : ℕ). Some (m, x)) (let e : n ≡ n + 0 = omega arith in e)
numbered_at {X} n (x ∷ xs) (suc k) = numbered_at (n + 1) xs k
    ∙ ap (λ (m : ℕ). option_map (λ (y : X). (m, y)) (slice_get xs k)) (let e : n + 1 + k ≡ n + suc k = omega arith in e)

behind : {X : Type 0} (xs ys : List X) (k : ℕ) → slice_get (xs ++ ys) (length xs + k) ≡ slice_get ys k
behind [] ys k = ap (slice_get ys) (let e : 0 + k ≡ k = omega arith in e)
behind (x ∷ xs) ys k = ap (slice_get (x ∷ (xs ++ ys))) (let e : suc (length xs) + k ≡ suc (length xs + k) = omega arith in e) ∙ behind xs ys k

kept_first : (m : ℕ) (x : QLink) (rest : List (ℕ × QLink)) (b : Bool) → b ≡ true → slice_get (cond b ((m, x) ∷ rest) rest) 0 ≡ Some (m, x)
kept_first m x rest true e = refl
kept_first m x rest false e = absurd cc

kept_later : (m : ℕ) (x : QLink) (rest : List (ℕ × QLink)) (before : List QLink) (b : Bool) →
    slice_get (cond b ((m, x) ∷ rest) rest) (length (cond b (x ∷ before) before)) ≡ slice_get rest (length before)
kept_later m x rest before true = refl
kept_later m x rest before false = refl

-- a link of a group stands behind as many of its links as stand before it
kept_at : (g n k : ℕ) (links : List QLink) (l : QLink) → slice_get links k ≡ Some l → touches g l ≡ true →
    slice_get (filter (is_at g) (enumerate_from n links)) (links_before links g k) ≡ Some (n + k, l)
kept_at g n k [] l at touching = absurd cc
kept_at g n zero (x ∷ xs) l at touching =
    let same : x ≡ l = cc in
    kept_first n x (filter (is_at g) (enumerate_from (n + 1) xs)) (touches g x) (ap (touches g) same ∙ touching)
    ∙ ap (λ (y : QLink). Some (n, y)) same
    ∙ ap (λ (m : ℕ). Some (m, l)) (let e : n ≡ n + 0 = omega arith in e)
kept_at g n (suc k) (x ∷ xs) l at touching =
    kept_later n x (filter (is_at g) (enumerate_from (n + 1) xs)) (filter (touches g) (take k xs)) (touches g x)
    ∙ kept_at g (n + 1) k xs l at touching
    ∙ ap (λ (m : ℕ). Some (m, l)) (let e : n + 1 + k ≡ n + suc k = omega arith in e)

pub link_at_place : (e : Plan) (g t : ℕ) (l : QLink) → slice_get e.links t ≡ Some l → touches g l ≡ true →
    slice_get (links_at e g) (links_before e.links g t) ≡ Some (t, l)
unfolding links_at
link_at_place e g t l at touching = kept_at g 0 t e.links l at touching ∙ ap (λ (m : ℕ). Some (m, l)) (let s : 0 + t ≡ t = omega arith in s)

-- ---- OSPF

pub interface_at_item : (e : Plan) → e.problem.protocol ≡ OverOspf → (g t : ℕ) (l : QLink) → slice_get e.links t ≡ Some l → touches g l ≡ true
    → slice_get (emitted_router e g).interfaces (item_at e g t) ≡ Some (link_interface e g (1 + links_before e.links g t, (t, l)))
unfolding link_interfaces
interface_at_item e over g t l at touching =
    ap (λ (q : Protocol). slice_get (class_interfaces e g ++ link_interfaces e g) (first_item q e g + links_before e.links g t)) over
    ∙ behind (class_interfaces e g) (link_interfaces e g) (links_before e.links g t)
    ∙ slice_get-map (link_interface e g) (enumerate_from 1 (links_at e g)) (links_before e.links g t)
    ∙ ap (option_map (link_interface e g)) (numbered_at 1 (links_at e g) (links_before e.links g t))
    ∙ ap (λ (o : Option (ℕ × QLink)). option_map (link_interface e g) (option_map (λ (y : ℕ × QLink). (1 + links_before e.links g t, y)) o))
    (link_at_place e g t l at touching)

-- ---- BGP

pub runs_bgp : (e : Plan) → e.problem.protocol ≡ OverBgp → (g : ℕ) → number (small e) g ≢ 0 → (emitted_router e g).bgp ≡ Some (process_of e g)
runs_bgp e over g some =
    ap (λ (q : Protocol). written_bgp q e g) over ∙ ap (λ (b : Bool). if b then None else Some (process_of e g)) (not_none (number (small e) g) some)
  where
    not_none : (m : ℕ) → m ≢ 0 → nat_eq m 0 ≡ false
    not_none m some = grind (arith, nat_tests)

pub neighbor_at_item : (e : Plan) → e.problem.protocol ≡ OverBgp → (g t : ℕ) (l : QLink) → number (small e) g ≢ 0 → slice_get e.links t ≡ Some l →
    touches g l ≡ true
    → slice_get (neighbors_of (emitted_router e g)) (item_at e g t) ≡ Some (neighbor_at e g (t, l))
neighbor_at_item e over g t l some at touching =
    ap (λ (o : Option BgpProcess). slice_get (option_map_or (λ (process : BgpProcess). process.neighbors) o []) (item_at e g t)) (runs_bgp e over g some)
    ∙ ap (λ (q : Protocol). slice_get (map (neighbor_at e g) (links_at e g)) (first_item q e g + links_before e.links g t)) over
    ∙ ap (slice_get (map (neighbor_at e g) (links_at e g))) (let s : 0 + links_before e.links g t ≡ links_before e.links g t = omega arith in s)
    ∙ slice_get-map (neighbor_at e g) (links_at e g) (links_before e.links g t)
    ∙ ap (option_map (neighbor_at e g)) (link_at_place e g t l at touching)
