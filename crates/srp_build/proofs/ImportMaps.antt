-- The numbers of the maps at the ends of a direction import what the lines there do.
use Rattle.std.proofs.Common.{◌≡◌, ℕ, zero, suc, ◌<◌, Bool, true, false, List, [], ◌∷◌, length, Option, Some, None, refl, sym, ◌∙◌, ap, subst, arith}
use Rattle.std.specs.Prelude.{slice_get, if◌then◌else◌}
use Rattle.std.specs.Option.{option_map, option_map_or, option_and_then}
use Rattle.base_kit.specs.Prefixes.{Prefix}
use Rattle.cfg_ast.specs.declared.bgp.Neighbor.{Neighbor}
use Rattle.cfg_ast.specs.declared.network.Network.{Network}
use Rattle.cfg_ast.specs.declared.network.Router.{Router}
use Rattle.cfg_ast.specs.meaning.Topology.{neighbors_of}
use Rattle.route_maps.specs.declared.plain.Plain.{Plain}
use Rattle.route_maps.specs.declared.plain.Verdict.{Verdict}
use Rattle.route_maps.specs.declared.plain.Verdict.TheVariants.{Deny, Permit}
use Rattle.route_maps.specs.Maps.{verdict, received, accepted, import_of}
use Rattle.specialize.specs.Sessions.{out_map, in_map}
use Rattle.srp_core.specs.ProblemOf.{SessionEnds}
use Rattle.srp_build.specs.declared.hops.Hop.{Hop}
use Rattle.srp_build.specs.declared.imports.ImportByMaps.{ImportByMaps}
use Rattle.srp_build.specs.BgpEdges.{import_at}
use Rattle.srp_build.specs.LineMaps.{LineMaps, AreLineMaps}
use Rattle.srp_build.specs.Lines.{map_of_line, deny_all, map_at, sends_at}
use Rattle.srp_build.specs.Plains.{SayTheSame, IsNumberOf, HasMapNumbers, HaveNumbers, number_at, map_numbered, import_over}
use Rattle.srp_build.proofs.FirstUse.{within_get}
use Rattle.srp_build.proofs.LinkPlaces.{direction_of}

-- ---- tables of numbers

-- the line at a place of a router, with the number of its map
pub record HasNumberAt (p : Prefix) (inbound : Bool) (maps : List Plain) (routers : List Router) (place item number : ℕ) : Type 0 where
  pub router : Router
  pub at : slice_get routers place ≡ Some router
  pub line : Neighbor
  pub line_at : slice_get (neighbors_of router) item ≡ Some line
  pub is : IsNumberOf maps number (map_of_line p router inbound line)

line_of : (p : Prefix) (inbound : Bool) (maps : List Plain) (router : Router) (routers : List Router) (numbers : List ℕ) →
    HasMapNumbers p router inbound maps numbers → (item number : ℕ) → slice_get numbers item ≡ Some number →
    HasNumberAt p inbound maps (router ∷ routers) zero item number
line_of p inbound maps router routers numbers has item number at = let line = has.each item number at in
    record { router = router; at = refl; line = line.line; line_at = line.at; is = line.is }

pub line_numbered : (p : Prefix) (inbound : Bool) (maps : List Plain) (routers : List Router) (table : List (List ℕ)) →
    HaveNumbers p inbound maps routers table → (place item number : ℕ) → number_at table place item ≡ Some number →
    HasNumberAt p inbound maps routers place item number
line_numbered p inbound maps [] [] have place item number at = absurd cc
line_numbered p inbound maps [] (numbers ∷ table) have place item number at = absurd have
line_numbered p inbound maps (router ∷ routers) [] have place item number at = absurd have
line_numbered p inbound maps (router ∷ routers) (numbers ∷ table) have zero item number at = line_of p inbound maps router routers numbers have.0 item number at
line_numbered p inbound maps (router ∷ routers) (numbers ∷ table) have (suc place) item number at =
    let r = line_numbered p inbound maps routers table have.1 place item number at in
    record { router = r.router; at = r.at; line = r.line; line_at = r.line_at; is = r.is }

pub some_within : (xs : List ℕ) (k : ℕ) → k < length xs → slice_get xs k ≡ None → ⊥
some_within [] k h none = absurd (omega arith)
some_within (x ∷ xs) zero h none = cc
some_within (x ∷ xs) (suc k) h none = some_within xs k (omega arith) none

-- each line has a number
pub line_has_number : (p : Prefix) (inbound : Bool) (maps : List Plain) (routers : List Router) (table : List (List ℕ)) →
    HaveNumbers p inbound maps routers table → (place item : ℕ) (router : Router) (line : Neighbor) → slice_get routers place ≡ Some router →
    slice_get (neighbors_of router) item ≡ Some line → number_at table place item ≡ None → ⊥
line_has_number p inbound maps [] table have place item router line at line_at none = absurd cc
line_has_number p inbound maps (r ∷ routers) [] have place item router line at line_at none = absurd have
line_has_number p inbound maps (r ∷ routers) (numbers ∷ table) have zero item router line at line_at none =
    let same : router ≡ r = cc in
    let inside = within_get (neighbors_of router) item line line_at in
    let total = have.0.total in
    let lengths = ap (λ (x : Router). length (neighbors_of x)) same in
    some_within numbers item (omega arith) none
line_has_number p inbound maps (r ∷ routers) (numbers ∷ table) have (suc place) item router line at line_at none =
    line_has_number p inbound maps routers table have.1 place item router line at line_at none

-- ---- imports

same_received : (sends : Bool) (into other : Plain) → SayTheSame into other → (v : Verdict) → received sends into.entries v ≡ received sends other.entries v
same_received sends into other same Deny = refl
same_received sends into other same (Permit lp comms adds) = ap (accepted adds) (same.verdicts (if sends then comms else []))

-- maps that say the same import the same
pub same_import : (out other_out into other_into : Plain) (sends : Bool) → SayTheSame out other_out → SayTheSame into other_into → (comms : List ℕ) →
    import_of out sends into comms ≡ import_of other_out sends other_into comms
same_import out other_out into other_into sends first second comms =
    ap (received sends into.entries) (first.verdicts comms) ∙ same_received sends into other_into second (verdict other_out.entries comms)

pub numbered_is : (maps : List Plain) (number : ℕ) (other : Plain) → slice_get maps number ≡ Some other → map_numbered maps number ≡ other
numbered_is [] number other at = absurd cc
numbered_is (m ∷ maps) zero other at = cc
numbered_is (m ∷ maps) (suc number) other at = numbered_is maps number other at

says : (maps : List Plain) (number : ℕ) (map : Plain) → IsNumberOf maps number map → SayTheSame (map_numbered maps number) map
says maps number map of = subst (λ (m : Plain). SayTheSame m map) (sym (numbered_is maps number of.other of.at)) of.same

-- the map at the place of a line
pub map_at_line : (p : Prefix) (routers : List Router) (inbound : Bool) (place item : ℕ) (router : Router) (line : Neighbor) →
    slice_get routers place ≡ Some router → slice_get (neighbors_of router) item ≡ Some line →
    map_at p routers inbound place item ≡ map_of_line p router inbound line
map_at_line p routers inbound place item router line at line_at =
    ap (λ (o : Option Router). option_map_or (λ (r : Router). option_map_or (map_of_line p r inbound) (slice_get (neighbors_of r) item) deny_all) o deny_all) at
    ∙ ap (λ (o : Option Neighbor). option_map_or (map_of_line p router inbound) o deny_all) line_at

pub sends_at_line : (routers : List Router) (place item : ℕ) (router : Router) (line : Neighbor) → slice_get routers place ≡ Some router →
    slice_get (neighbors_of router) item ≡ Some line → sends_at routers place item ≡ line.sends
sends_at_line routers place item router line at line_at =
    ap (λ (o : Option Router). option_map_or (λ (r : Router). option_map_or (λ (l : Neighbor). l.sends) (slice_get (neighbors_of r) item) false) o false) at
    ∙ ap (λ (o : Option Neighbor). option_map_or (λ (l : Neighbor). l.sends) o false) line_at

says_at : (p : Prefix) (inbound : Bool) (maps : List Plain) (routers : List Router) (table : List (List ℕ)) → HaveNumbers p inbound maps routers table →
    (place item number : ℕ) → number_at table place item ≡ Some number → SayTheSame (map_numbered maps number) (map_at p routers inbound place item)
says_at p inbound maps routers table have place item number at =
    let line = line_numbered p inbound maps routers table have place item number at in
    subst (λ (m : Plain). SayTheSame (map_numbered maps number) m) (sym (map_at_line p routers inbound place item line.router line.line line.at line.line_at))
    (says maps number (map_of_line p line.router inbound line.line) line.is)

-- the numbers of an import are those of its ends
pub record IsImportAt (routers : List Router) (maps : LineMaps) (hop : Hop) (import : ImportByMaps) : Type 0 where
  pub out : number_at maps.outs hop.exporter hop.exporter_item ≡ Some import.out
  pub sends : import.sends ≡ sends_at routers hop.exporter hop.exporter_item
  pub into : number_at maps.ins hop.importer hop.importer_item ≡ Some import.into

import_parts : (sends : Bool) (out into : Option ℕ) (import : ImportByMaps) →
    option_and_then (λ (o : ℕ). option_map (λ (i : ℕ). (let s : ImportByMaps = record { out = o; sends = sends; into = i } in s)) into) out ≡ Some import →
    (out ≡ Some import.out) × (import.sends ≡ sends) × (into ≡ Some import.into)
import_parts sends None into import e = absurd cc
import_parts sends (Some o) None import e = absurd cc
import_parts sends (Some o) (Some i) import e =
    let same : (let s : ImportByMaps = record { out = o; sends = sends; into = i } in s) ≡ import = cc in
    (ap (λ (s : ImportByMaps). Some s.out) same, sym (ap (λ (s : ImportByMaps). s.sends) same), ap (λ (s : ImportByMaps). Some s.into) same)

pub import_is_at : (routers : List Router) (maps : LineMaps) (hop : Hop) (import : ImportByMaps) → import_at routers maps hop ≡ Some import →
    IsImportAt routers maps hop import
import_is_at routers maps hop import e =
    let parts = import_parts (sends_at routers hop.exporter hop.exporter_item) (number_at maps.outs hop.exporter hop.exporter_item)
    (number_at maps.ins hop.importer hop.importer_item) import e in
    record { out = parts.0; sends = parts.1; into = parts.2 }

none_missing : (sends : Bool) (out into : Option ℕ) →
    option_and_then (λ (o : ℕ). option_map (λ (i : ℕ). (let s : ImportByMaps = record { out = o; sends = sends; into = i } in s)) into) out ≡ None →
    (out ≡ None → ⊥) → (into ≡ None → ⊥) → ⊥
none_missing sends None into e first second = first refl
none_missing sends (Some o) None e first second = second refl
none_missing sends (Some o) (Some i) e first second = cc

module _ (n : Network) (p : Prefix) (maps : LineMaps) (are : AreLineMaps p n.routers maps) where
  -- a direction with both ends has an import
  pub has_import : (hop : Hop) → SessionEnds n (direction_of hop) → import_at n.routers maps hop ≡ None → ⊥
  has_import hop ends none =
      none_missing (sends_at n.routers hop.exporter hop.exporter_item) (number_at maps.outs hop.exporter hop.exporter_item)
      (number_at maps.ins hop.importer hop.importer_item) none
      (line_has_number p false maps.maps n.routers maps.outs are.outs hop.exporter hop.exporter_item ends.exporter ends.exporter_line ends.exporter_at
      ends.exporter_line_at)
      (line_has_number p true maps.maps n.routers maps.ins are.ins hop.importer hop.importer_item ends.importer ends.importer_line ends.importer_at
      ends.importer_line_at)

  -- an import over numbers is what the maps at the ends import
  pub import_at_hop : (hop : Hop) (import : ImportByMaps) → import_at n.routers maps hop ≡ Some import → (comms : List ℕ)
      → import_over maps.maps import comms ≡ import_of (map_at p n.routers false hop.exporter hop.exporter_item)
      (sends_at n.routers hop.exporter hop.exporter_item) (map_at p n.routers true hop.importer hop.importer_item) comms
  import_at_hop hop import e comms =
      let at = import_is_at n.routers maps hop import e in
      let first = says_at p false maps.maps n.routers maps.outs are.outs hop.exporter hop.exporter_item import.out at.out in
      let second = says_at p true maps.maps n.routers maps.ins are.ins hop.importer hop.importer_item import.into at.into in
      same_import (map_numbered maps.maps import.out) (map_at p n.routers false hop.exporter hop.exporter_item) (map_numbered maps.maps import.into)
      (map_at p n.routers true hop.importer hop.importer_item) import.sends first second comms
      ∙ ap (λ (b : Bool). import_of (map_at p n.routers false hop.exporter hop.exporter_item) b (map_at p n.routers true hop.importer hop.importer_item) comms)
      at.sends

-- the parts of an act are those of the lines at the ends
pub out_at_ends : (n : Network) (p : Prefix) (hop : Hop) (ends : SessionEnds n (direction_of hop)) →
    map_at p n.routers false hop.exporter hop.exporter_item ≡ out_map p ends.exporter ends.exporter_line
out_at_ends n p hop ends = map_at_line p n.routers false hop.exporter hop.exporter_item ends.exporter ends.exporter_line ends.exporter_at ends.exporter_line_at

pub sends_at_ends : (n : Network) (hop : Hop) (ends : SessionEnds n (direction_of hop)) →
    sends_at n.routers hop.exporter hop.exporter_item ≡ ends.exporter_line.sends
sends_at_ends n hop ends = sends_at_line n.routers hop.exporter hop.exporter_item ends.exporter ends.exporter_line ends.exporter_at ends.exporter_line_at

pub in_at_ends : (n : Network) (p : Prefix) (hop : Hop) (ends : SessionEnds n (direction_of hop)) →
    map_at p n.routers true hop.importer hop.importer_item ≡ in_map p ends.importer ends.importer_line
in_at_ends n p hop ends = map_at_line p n.routers true hop.importer hop.importer_item ends.importer ends.importer_line ends.importer_at ends.importer_line_at
