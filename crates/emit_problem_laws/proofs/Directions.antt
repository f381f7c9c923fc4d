-- The directions of the links of the network of the groups.
use Rattle.std.proofs.Common.{◌≡◌, ℕ, ◌+◌, ◌||◌, Bool, true, false, List, map, inl, inr, Option, Some, None, refl, sym, ◌∙◌, ap, arith, nat_eq}
use Rattle.std.specs.Prelude.{slice_get}
use Rattle.std.specs.Option.{option_map}
use Rattle.std.specs.List.{enumerate_from}
use Rattle.std.proofs.lemmas.Option.{slice_get-map}
use Rattle.base_kit.proofs.SetFacts.{same_number}
use Rattle.cfg_ast.specs.declared.topology.Link.{Link}
use Rattle.cfg_ast.specs.meaning.Topology.{links_of}
use Rattle.abstract_net.specs.Carried.{IsJoined}
use Rattle.abstract_net.specs.declared.qlink.QLink.{QLink}
use Rattle.srp_core.specs.ProblemOf.{Direction, low_imports, high_imports, IsDirection}
use Rattle.srp_quotient.specs.Groups.{touches}
use Rattle.config_emit.specs.Plan.{Plan}
use Rattle.config_emit.specs.Emitted.{emitted}
use Rattle.emit_link_laws.specs.Laws.{item_at, emitted_link}
use Rattle.emit_problem_laws.proofs.LinkItems.{numbered_at}

-- the links of the network are those of the plan
abbrev pub HasLinks : Plan → Type 0
HasLinks e = links_of (emitted e) ≡ map (emitted_link e) (enumerate_from 0 e.links)

pub link_t : (e : Plan) → HasLinks e → (t : ℕ) → slice_get (links_of (emitted e)) t ≡ option_map (λ (l : QLink). emitted_link e (t, l)) (slice_get e.links t)
link_t e links t =
    ap (λ (ls : List Link). slice_get ls t) links
    ∙ slice_get-map (emitted_link e) (enumerate_from 0 e.links) t
    ∙ ap (option_map (emitted_link e)) (numbered_at 0 e.links t)
    ∙ mapped (slice_get e.links t)
  where
    mapped : (o : Option QLink) → option_map (emitted_link e) (option_map (λ (x : QLink). (0 + t, x)) o) ≡ option_map (λ (l : QLink). emitted_link e (t, l)) o
    mapped None = refl
    mapped (Some l) = ap (λ (m : ℕ). Some (emitted_link e (m, l))) (let s : 0 + t ≡ t = omega arith in s)

-- the direction of link t into g from h
abbrev pub direction : Plan → ℕ → ℕ → ℕ → Direction
direction e t g h = record { link = t; importer = g; exporter = h; importer_item = item_at e g t; exporter_item = item_at e h t }

pub is_direction : (e : Plan) → HasLinks e → (t : ℕ) (l : QLink) (g h : ℕ) → slice_get e.links t ≡ Some l → IsJoined l g h →
    IsDirection (emitted e) (direction e t g h)
is_direction e links t l g h at (inl j) =
    inl (link_t e links t ∙ ap (option_map (λ (m : QLink). emitted_link e (t, m))) at
    ∙ ap (λ (x : ℕ). Some (record { low = x; high = l.high; low_item = item_at e x t; high_item = item_at e l.high t })) j.0
    ∙ ap (λ (y : ℕ). Some (record { low = g; high = y; low_item = item_at e g t; high_item = item_at e y t })) j.1)
is_direction e links t l g h at (inr j) =
    inr (link_t e links t ∙ ap (option_map (λ (m : QLink). emitted_link e (t, m))) at
    ∙ ap (λ (x : ℕ). Some (record { low = l.low; high = x; low_item = item_at e l.low t; high_item = item_at e x t })) j.0
    ∙ ap (λ (y : ℕ). Some (record { low = y; high = g; low_item = item_at e y t; high_item = item_at e g t })) j.1)

-- a direction is one of a link of the plan
pub record IsOfLink (e : Plan) (d : Direction) : Type 0 where
  pub link : QLink
  pub at : slice_get e.links d.link ≡ Some link
  pub joined : IsJoined link d.importer d.exporter
  pub importer_item : d.importer_item ≡ item_at e d.importer d.link
  pub exporter_item : d.exporter_item ≡ item_at e d.exporter d.link

from_low : (e : Plan) (d : Direction) (o : Option QLink) → slice_get e.links d.link ≡ o →
    option_map (λ (l : QLink). emitted_link e (d.link, l)) o ≡ Some (low_imports d) → IsOfLink e d
from_low e d None at is = absurd cc
from_low e d (Some l) at is =
    let same : emitted_link e (d.link, l) ≡ low_imports d = cc in
    let low : l.low ≡ d.importer = ap (λ (x : Link). x.low) same in
    let high : l.high ≡ d.exporter = ap (λ (x : Link). x.high) same in
    record {
      link = l;
      at = at;
      joined = inl (low, high);
      importer_item = sym (ap (λ (x : Link). x.low_item) same) ∙ ap (λ g. item_at e g d.link) low;
      exporter_item = sym (ap (λ (x : Link). x.high_item) same) ∙ ap (λ g. item_at e g d.link) high;
    }

from_high : (e : Plan) (d : Direction) (o : Option QLink) → slice_get e.links d.link ≡ o →
    option_map (λ (l : QLink). emitted_link e (d.link, l)) o ≡ Some (high_imports d) → IsOfLink e d
from_high e d None at is = absurd cc
from_high e d (Some l) at is =
    let same : emitted_link e (d.link, l) ≡ high_imports d = cc in
    let low : l.low ≡ d.exporter = ap (λ (x : Link). x.low) same in
    let high : l.high ≡ d.importer = ap (λ (x : Link). x.high) same in
    record {
      link = l;
      at = at;
      joined = inr (high, low);
      importer_item = sym (ap (λ (x : Link). x.high_item) same) ∙ ap (λ g. item_at e g d.link) high;
      exporter_item = sym (ap (λ (x : Link). x.low_item) same) ∙ ap (λ g. item_at e g d.link) low;
    }

pub of_link : (e : Plan) → HasLinks e → (d : Direction) → IsDirection (emitted e) d → IsOfLink e d
of_link e links d (inl is) = from_low e d (slice_get e.links d.link) refl (sym (link_t e links d.link) ∙ is)
of_link e links d (inr is) = from_high e d (slice_get e.links d.link) refl (sym (link_t e links d.link) ∙ is)

-- a direction of a link is the one of its ends
pub one_direction : (e : Plan) (d : Direction) → IsOfLink e d → direction e d.link d.importer d.exporter ≡ d
one_direction e d is =
    ap (λ (i : ℕ). record { link = d.link; importer = d.importer; exporter = d.exporter; importer_item = i; exporter_item = item_at e d.exporter d.link })
    (sym is.importer_item)
    ∙ ap (λ (i : ℕ). record { link = d.link; importer = d.importer; exporter = d.exporter; importer_item = d.importer_item; exporter_item = i })
    (sym is.exporter_item)

or_right : (a b : Bool) → b ≡ true → (a || b) ≡ true
or_right true b e = refl
or_right false b e = e

pub touched : (l : QLink) (g h : ℕ) → IsJoined l g h → touches g l ≡ true
touched l g h (inl j) = ap (λ (b : Bool). b || nat_eq l.high g) (same_number l.low g j.0)
touched l g h (inr j) = or_right (nat_eq l.low g) (nat_eq l.high g) (same_number l.high g j.0)

pub turned : (l : QLink) (g h : ℕ) → IsJoined l g h → IsJoined l h g
turned l g h (inl j) = inr (j.1, j.0)
turned l g h (inr j) = inl (j.1, j.0)
