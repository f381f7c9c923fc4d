-- What is written of a plan compresses the network.
use Rattle.std.proofs.Common.{◌≡◌, ◌<◌, ◌≤◌, ℕ, max, List, sym, ap, ◌∙◌, length, subst, Ok}
use Rattle.std.specs.Prelude.{map, filter, Option, Contains}
use Rattle.std.specs.List.{range_with_len}
use Rattle.base_kit.specs.Prefixes.{Prefix}
use Rattle.cfg_ast.specs.declared.network.Network.{Network}
use Rattle.cfg_ast.specs.meaning.Meaning.{judged}
use Rattle.std.proofs.lemmas.List.{length-map}
use Rattle.std.proofs.lemmas.List.FromFn.{length-map-range_with_len}
use Rattle.cfg_ast.specs.printing.Bare.{bare, bare_router}
use Rattle.cfg_ast.specs.text.Reading.{reading_of, network_of_text}
use Rattle.cfg_check.specs.Laws.{FaultlessIsAccepted}
use Rattle.cfg_round_trip.specs.Laws.{HasFewLines, PrintedIsReadBack}
use Rattle.cfg_round_trip.specs.MemberLaws.{MembersAreReadBack}
use Rattle.config_emit.specs.Emitted.{emitted, emitted_router, notes_of}
use Rattle.config_emit.specs.Laws.{IsPlan, StandsForGroups, EmittedCanBePrinted, EmittedStandsForGroups, EmittedIsNoLarger}
use Rattle.config_emit.specs.Plan.{Plan, small}
use Rattle.srp_core.specs.declared.route.Route.{Route}
use Rattle.srp_core.specs.Alike.{ProblemsAlike}
use Rattle.srp_core.specs.Laws.{Below, Above}
use Rattle.srp_core.specs.Problem.{Problem, IsProblem}
use Rattle.srp_core.specs.ProblemOf.{IsProblemOf}
use Rattle.srp_core.specs.Quotient.{IsAdmissible, IsCoarsest, IsQuotient}
use Rattle.srp_core.specs.Stability.{IsStable}
use Rattle.srp_quotient.specs.Groups.{quotient_problem}
use Rattle.srp_quotient.specs.Laws.{QuotientIsQuotient}
use Rattle.compress_laws.specs.EmittedLinks.{EmittedHasPlannedLinks}
use Rattle.abstract_net.specs.declared.qlink.QLink.{QLink}
use Rattle.abstract_net.specs.Links.{acts_into}
use Rattle.cfg_ast.specs.declared.topology.Link.{Link}
use Rattle.compress_laws.specs.Compressed.{IsCompressedFor, Compresses}
use Rattle.compress_laws.specs.GroupLinks.{joins, HasLinksForActs}
use Rattle.compress_laws.specs.Laws.{compressed_text, HasProblemOfGroups}
use Rattle.emit_form_laws.proofs.Groups.{problem_of}
use Rattle.compress_laws.proofs.ActEdges.{edges_at, as_many_edges, one_of_each}
use Rattle.compress_laws.proofs.LinkCounts.{joins_groups, as_many_as_acts, as_many_as_planned}
use Rattle.compress_laws.proofs.Names.{names_noted, names_read}

-- the laws that the proof puts together
pub record Given : Type 0 where
  pub can_be_printed : EmittedCanBePrinted
  pub stands : EmittedStandsForGroups
  pub planned_links : EmittedHasPlannedLinks
  pub no_larger : EmittedIsNoLarger
  pub read_back : PrintedIsReadBack
  pub members_back : MembersAreReadBack
  pub accepted : FaultlessIsAccepted
  pub quotient : QuotientIsQuotient
  pub below : (problem less : Problem) (groups : List ℕ) (labels : List (Option Route)) → IsProblem problem → IsProblem less → IsAdmissible problem groups
      → IsQuotient problem groups less → IsStable problem labels → Below problem less groups labels
  pub above : (problem less : Problem) (groups : List ℕ) (lower : List (Option Route)) → IsProblem problem → IsProblem less → IsAdmissible problem groups
      → IsQuotient problem groups less → IsStable less lower → Above problem less groups lower
  pub alike : (network : Network) (prefix : Prefix) (first second : Problem) → IsProblemOf network prefix first → IsProblemOf network prefix second
      → ProblemsAlike first second
  pub coarsest : (first second : Problem) (groups : List ℕ) → ProblemsAlike first second → IsCoarsest first groups → IsCoarsest second groups
  pub quotients : (problem other less lower : Problem) (groups : List ℕ) → ProblemsAlike problem other → ProblemsAlike less lower
      → IsQuotient problem groups less → IsQuotient other groups lower

accepted_text : (read : Network) (bytes : List ℕ) → network_of_text bytes ≡ Ok read → judged read ≡ Ok read → reading_of bytes ≡ Ok read
unfolding reading_of
accepted_text read bytes reads ok = rw reads ok

module _ (g : Given) (e : Plan) (plan : IsPlan e) (coarse : IsCoarsest e.problem e.groups) where
  is_small : (p : Prefix) → Contains e.class.prefixes p → IsQuotient e.problem e.groups (small e)
  is_small p i =
      let computed = g.quotient e.problem e.groups e.count (plan.problem p i).rules plan.groups plan.numbered in
      subst (λ links. IsQuotient e.problem e.groups (quotient_problem e.problem e.groups e.count links)) (sym plan.links) computed

  -- links join two routers of the network read as they join two groups of the plan
  links_for : (read : Network) → bare read ≡ bare (emitted e) → (p : Prefix) → Contains e.class.prefixes p → length read.routers ≡ e.count
      → (other : Problem) → IsProblemOf e.network p other → (low high : ℕ) → low < high → high < length read.routers
      → HasLinksForActs other e.groups read low high
  links_for read same p i many other o low high ordered inside =
      let below : high < e.count = subst (λ (n : ℕ). high < n) many inside in
      let first = plan.problem p i in
      let alike = g.alike e.network p e.problem other first o in
      let planned = ap (λ (ls : List Link). length (filter (joins low high) ls)) (g.planned_links e plan read same) ∙ as_many_as_planned e low high 0 e.links in
      let joined = ap (λ (ls : List QLink). length (filter (joins_groups low high) ls)) plan.links
      ∙ as_many_as_acts e.problem.edges e.groups e.count low high ordered below in
      let into_low = acts_into e.problem.edges e.groups low high in
      let into_high = acts_into e.problem.edges e.groups high low in
      record {
        into_low = edges_at other.edges into_low;
        into_high = edges_at other.edges into_high;
        acts_into_low = one_of_each e.problem other first.rules alike e.groups low high;
        acts_into_high = one_of_each e.problem other first.rules alike e.groups high low;
        links = planned ∙ (joined ∙ sym (λ j. max (as_many_edges other.edges into_low j) (as_many_edges other.edges into_high j)));
      }

  compressed_for : (read : Network) → bare read ≡ bare (emitted e) → length read.routers ≡ e.count → StandsForGroups e read → (p : Prefix)
      → Contains e.class.prefixes p → IsCompressedFor e.network read e.groups p
  compressed_for read same many stands p i =
      let of = plan.problem p i in
      let of_read = stands.problem p i in
      let coarsest : (other : Problem) → IsProblemOf e.network p other → IsCoarsest other e.groups = λ other o.
      g.coarsest e.problem other e.groups (g.alike e.network p e.problem other of o) coarse in
      let quotient : (other lower : Problem) → IsProblemOf e.network p other → IsProblemOf read p lower → IsQuotient other e.groups lower =
      λ other lower o l. g.quotients e.problem other (small e) lower e.groups (g.alike e.network p e.problem other of o)
      (g.alike read p (small e) lower of_read l) (is_small p i) in
      record {
        problem = e.problem;
        small = small e;
        of = of;
        of_read = of_read;
        coarsest = coarsest;
        quotient = quotient;
        correspond = λ other lower o l. record {
          down = λ labels stable. g.below other lower e.groups labels o.rules l.rules (coarsest other o).admissible (quotient other lower o l) stable;
          up = λ labels stable. g.above other lower e.groups labels o.rules l.rules (coarsest other o).admissible (quotient other lower o l) stable;
        };
        links = links_for read same p i many;
      }

  as_many : (read : Network) → bare read ≡ bare (emitted e) → length read.routers ≡ e.count
  unfolding emitted
  as_many read same = sym (length-map read.routers bare_router) ∙ ap (λ (n : Network). length n.routers) same
      ∙ length-map (map (emitted_router e) (range_with_len 0 e.count)) bare_router ∙ length-map-range_with_len (emitted_router e) 0 e.count

  pub compresses : HasFewLines (emitted e) (notes_of e) → length (compressed_text e) ≤ 16777216 → Compresses e.network e.class (compressed_text e)
  compresses few short =
      let can = g.can_be_printed e plan in
      let back = g.read_back (emitted e) (notes_of e) can.well_formed can.notes few can.short in
      let stands = g.stands e plan back.read back.same in
      let less = g.no_larger e plan back.read back.same in
      let some = problem_of e plan in
      let many = as_many back.read back.same in
      record {
        groups = e.groups;
        count = e.count;
        numbered = plan.numbered;
        read = back.read;
        short = short;
        reads = accepted_text back.read (compressed_text e) back.reads (g.accepted back.read stands.faultless);
        routers = many;
        names = names_read e some.prefix back.read some.of (stands.problem some.prefix some.has);
        members = g.members_back (emitted e) (notes_of e) can.well_formed can.notes ∙ names_noted e some.prefix some.of;
        fewer_routers = less.routers;
        fewer_links = less.links;
        for_each = compressed_for back.read back.same many stands;
      }

-- the text of a plan, whatever admissible groups it has
pub has_problem : EmittedCanBePrinted → EmittedStandsForGroups → PrintedIsReadBack → FaultlessIsAccepted → (e : Plan) → IsPlan e
    → HasFewLines (emitted e) (notes_of e) → HasProblemOfGroups e
has_problem printed stands_for back accepted e plan few =
    let can = printed e plan in
    let again = back (emitted e) (notes_of e) can.well_formed can.notes few can.short in
    let stands = stands_for e plan again.read again.same in
    record {
      read = again.read;
      reads = accepted_text again.read (compressed_text e) again.reads (accepted again.read stands.faultless);
      problem =
          stands.problem;
    }
