-- What the labels of a text keep: one for each router, none of the other protocol.
use Rattle.std.proofs.Common.{◌≡◌, ℕ, zero, suc, Bool, true, false, cond, not, List, [], ◌∷◌, length, map, refl, sym, ap, subst, ◌∙◌, arith, inl, inr, All, Option, Some, None, Ok, option_map}
use Rattle.std.specs.Prelude.{bytes_eq}
use Rattle.std.specs.List.{list_any, find, cons_option, AllByRecursion}
use Rattle.std.proofs.lemmas.Bool.{cases_lt}
use Rattle.std.proofs.lemmas.List.{get_or_past}
use Rattle.base_kit.specs.declared.protocol.Protocol.{Protocol}
use Rattle.base_kit.specs.declared.protocol.Protocol.TheVariants.{Bgp as OverBgp, Ospf as OverOspf}
use Rattle.cfg_ast.specs.text.TextLines.{TextLine}
use Rattle.srp_core.specs.declared.route.Route.{Route}
use Rattle.srp_core.specs.declared.route.Route.TheVariants.{Bgp, Ospf}
use Rattle.srp_core.specs.Labels.{HasSet}
use Rattle.srp_core.specs.Routes.{IsRouteOf}
use Rattle.srp_core.specs.Stability.{label}
use Rattle.solution_text.specs.declared.refusal.SolKind.{SolKind}
use Rattle.solution_text.specs.declared.refusal.SolKind.TheVariants.{UnknownRouter, Repeated, WrongProtocol}
use Rattle.solution_text.specs.declared.refusal.SolRefusal.{SolRefusal}
use Rattle.solution_text.specs.Forms.{NamedLabel, named_label_of}
use Rattle.solution_text.specs.Solutions.{named_labels, is_foreign, kind_of, named_too, first_at_line, first_fault, said_of, labels_by, labels_unless, solution_lines, labels_of_text}
use Rattle.base_kit.specs.Options.{all_given}

-- the labels, where no line is at fault and no router is missing
record AreJudged (fault : Option SolRefusal) (found : Option (List (Option Route))) (labels : List (Option Route)) : Type 0 where
  sound : fault ≡ None
  given : found ≡ Some labels

judged_ok : (fault : Option SolRefusal) (line : ℕ) (found : Option (List (Option Route))) (labels : List (Option Route)) →
    labels_unless fault line found ≡ Ok labels → AreJudged fault found labels
judged_ok None line None labels e = absurd cc
judged_ok None line (Some found) labels e = record { sound = refl; given = let same : found ≡ labels = cc in ap Some same }
judged_ok (Some fault) line found labels e = absurd cc

mapped_some : (x : Option Route) (found : Option (List (Option Route))) (labels : List (Option Route)) → option_map (λ rest. x ∷ rest) found ≡ Some labels →
    (rest : List (Option Route)) × (found ≡ Some rest) × (labels ≡ x ∷ rest)
mapped_some x None labels e = absurd cc
mapped_some x (Some rest) labels e = (rest, refl, let same : x ∷ rest ≡ labels = cc in sym same)

given_length : (says : List (Option (Option Route))) (labels : List (Option Route)) → all_given says ≡ Some labels → length labels ≡ length says
given_length [] [] e = refl
given_length [] (x ∷ labels) e = absurd cc
given_length (None ∷ says) labels e = absurd cc
given_length (Some x ∷ says) labels e =
    let m = mapped_some x (all_given says) labels e in
    let rest = given_length says m.0 m.1 in
    omega (arith, ap length m.2, rest)

pub labels_total : (protocol : Protocol) (names : List (List ℕ)) (bs : List ℕ) (labels : List (Option Route)) → labels_of_text protocol names bs ≡ Ok labels →
    length labels ≡ length names
unfolding labels_of_text labels_by
labels_total protocol names bs labels e =
    let j = judged_ok _ _ _ labels e in
    given_length (map (said_of (named_labels (solution_lines bs))) names) labels j.given ∙ map_length (said_of (named_labels (solution_lines bs))) names
  where
    map_length : {X Y : Type 0} (f : X → Y) (xs : List X) → length (map f xs) ≡ length xs
    map_length f [] = refl
    map_length f (x ∷ xs) = omega (arith, map_length f xs)

-- ---- no route of the other protocol

abbrev IsOwn : Protocol → Option Route → Type 0
IsOwn protocol l = is_foreign protocol l ≡ false

abbrev AreOwn : Protocol → List NamedLabel → Type 0
AreOwn protocol says = AllByRecursion (λ (s : NamedLabel). IsOwn protocol s.label) says

none_behind : (a b c : Bool) (x y z : SolKind) → cond a (Some x) (cond b (Some y) (cond c (Some z) None)) ≡ None → c ≡ false
none_behind true b c x y z e = absurd cc
none_behind false true c x y z e = absurd cc
none_behind false false true x y z e = absurd cc
none_behind false false false x y z e = refl

kind_none : (protocol : Protocol) (names earlier : List (List ℕ)) (s : NamedLabel) → kind_of protocol names earlier (Some s) ≡ None → IsOwn protocol s.label
kind_none protocol names earlier s e = none_behind (not (list_any (bytes_eq s.name) names)) (list_any (bytes_eq s.name) earlier) (is_foreign protocol s.label)
    UnknownRouter Repeated WrongProtocol e

no_fault_parts : (line : ℕ) (kind : Option SolKind) (later : Option SolRefusal) → first_at_line line kind later ≡ None → (kind ≡ None) × (later ≡ None)
no_fault_parts line None later e = (refl, e)
no_fault_parts line (Some kind) later e = absurd cc

own_by : (protocol : Protocol) (names earlier : List (List ℕ)) (o : Option NamedLabel) (rest : List NamedLabel) → kind_of protocol names earlier o ≡ None →
    AreOwn protocol rest → AreOwn protocol (cons_option o rest)
own_by protocol names earlier None rest e own = own
own_by protocol names earlier (Some s) rest e own = (kind_none protocol names earlier s e, own)

-- without a fault no saying has a route of the other protocol
sayings_own : (protocol : Protocol) (names earlier : List (List ℕ)) (ls : List TextLine) → first_fault protocol names earlier ls ≡ None →
    AreOwn protocol (named_labels ls)
unfolding first_fault
sayings_own protocol names earlier [] e = tt
sayings_own protocol names earlier (l ∷ ls) e =
    let parts = no_fault_parts l.number (kind_of protocol names earlier (named_label_of l.words))
    (first_fault protocol names (named_too (named_label_of l.words) earlier) ls) e in
    own_by protocol names earlier (named_label_of l.words) (named_labels ls) parts.0
    (sayings_own protocol names (named_too (named_label_of l.words) earlier) ls parts.1)

found_by : (protocol : Protocol) (s : NamedLabel) (says : List NamedLabel) (name : List ℕ) (l : Option Route) (b : Bool) → bytes_eq s.name name ≡ b →
    IsOwn protocol s.label → (said_of says name ≡ Some l → IsOwn protocol l) → said_of (s ∷ says) name ≡ Some l → IsOwn protocol l
found_by protocol s says name l true t own rest e =
    let same : Some s.label ≡ Some l = sym (ap
    (λ (b : Bool). option_map (λ (s : NamedLabel). s.label) (cond b (Some s) (find (λ (s : NamedLabel). bytes_eq s.name name) says))) t) ∙ e in
    let label_is : s.label ≡ l = cc in
    subst (IsOwn protocol) label_is own
found_by protocol s says name l false t own rest e =
    rest (sym (ap (λ (b : Bool). option_map (λ (s : NamedLabel). s.label) (cond b (Some s) (find (λ (s : NamedLabel). bytes_eq s.name name) says))) t) ∙ e)

said_own : (protocol : Protocol) (says : List NamedLabel) (name : List ℕ) (l : Option Route) → AreOwn protocol says → said_of says name ≡ Some l →
    IsOwn protocol l
said_own protocol [] name l own e = absurd cc
said_own protocol (s ∷ says) name l own e = found_by protocol s says name l (bytes_eq s.name name) refl own.0 (said_own protocol says name l own.1) e

given_cons : (x : Option (Option Route)) (found : List (Option (Option Route))) (labels : List (Option Route)) → all_given (x ∷ found) ≡ Some labels →
    (l : Option Route) × (rest : List (Option Route)) × (x ≡ Some l) × (all_given found ≡ Some rest) × (labels ≡ l ∷ rest)
given_cons None found labels e = absurd cc
given_cons (Some l) found labels e = let m = mapped_some l (all_given found) labels e in (l, m.0, refl, m.1, m.2)

given_own : (protocol : Protocol) (says : List NamedLabel) (names : List (List ℕ)) (labels : List (Option Route)) → AreOwn protocol says →
    all_given (map (said_of says) names) ≡ Some labels → (u : ℕ) (r : Route) → label labels u ≡ Some r → is_foreign protocol (Some r) ≡ false
given_own protocol says [] labels own e u r at = absurd (nothing labels e u at)
  where
    nothing : (ls : List (Option Route)) → Some [] ≡ Some ls → (u : ℕ) → label ls u ≡ Some r → ⊥
    nothing [] e zero at = cc
    nothing [] e (suc u) at = cc
    nothing (l ∷ ls) e u at = cc
given_own protocol says (name ∷ names) labels own e zero r at =
    let g = given_cons (said_of says name) (map (said_of says) names) labels e in
    let first : g.0 ≡ Some r = sym (ap (λ (ls : List (Option Route)). label ls 0) g.4) ∙ at in
    subst (IsOwn protocol) first (said_own protocol says name g.0 own g.2)
given_own protocol says (name ∷ names) labels own e (suc u) r at =
    let g = given_cons (said_of says name) (map (said_of says) names) labels e in
    given_own protocol says names g.1 own g.3 u r (sym (ap (λ (ls : List (Option Route)). label ls (suc u)) g.4) ∙ at)

route_by : (protocol : Protocol) (r : Route) → is_foreign protocol (Some r) ≡ false → HasSet (Some r) → IsRouteOf protocol r
route_by OverBgp (Bgp lp path comms) own set = set
route_by OverBgp (Ospf cost) own set = absurd cc
route_by OverOspf (Bgp lp path comms) own set = absurd cc
route_by OverOspf (Ospf cost) own set = tt

set_at : (labels : List (Option Route)) (u : ℕ) (r : Route) → All HasSet labels → label labels u ≡ Some r → HasSet (Some r)
set_at labels u r sets at = elim (cases_lt u (length labels)) [
  | inl inside ↦ subst HasSet at (sets u None inside)
  | inr past ↦ absurd (let none : label labels u ≡ None = get_or_past labels u None past in cc)
]

pub labels_routes : (protocol : Protocol) (names : List (List ℕ)) (bs : List ℕ) (labels : List (Option Route)) → labels_of_text protocol names bs ≡ Ok labels →
    All HasSet labels → (u : ℕ) (r : Route) → label labels u ≡ Some r → IsRouteOf protocol r
unfolding labels_of_text labels_by
labels_routes protocol names bs labels e sets u r at =
    let j = judged_ok _ _ _ labels e in
    route_by protocol r (given_own protocol (named_labels (solution_lines bs)) names labels (sayings_own protocol names [] (solution_lines bs) j.sound) j.given
    u r at) (set_at labels u r sets at)
