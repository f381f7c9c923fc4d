use Rattle.std.proofs.Common.{ℕ, List, sym, subst}
use Rattle.std.specs.List.{AllByRecursion}
use Rattle.cfg_ast.specs.meaning.PolicyFaults.{communities_of}
use Rattle.srp_core.specs.ActMaps.{IsActWithin}
use Rattle.canon_policy.specs.CanonicalProblem.{AreCommunities, IsFirstWithout}
use Rattle.answer_groups.proofs.Canonizing.{canonical_for, fits_for, first_at, first_of, told_first}
use Rattle.answer_groups.proofs.NamedCommunities.{named_communities}
use Rattle.answer_groups.proofs.canon.canonical_of.Goals as goal

pub canon_srp-requires-clause-communities : goal.canon_srp-requires-clause-communities
canon_srp-requires-clause-communities c =
    let n = c.args.checked.now.network in
    subst AreCommunities (sym c.requires.universe) (named_communities n (c.given_is_well_formed.ensures n c.args.checked.now.given))

pub canon_srp-requires-clause-printable : goal.canon_srp-requires-clause-printable
canon_srp-requires-clause-printable c =
    let checked = c.args.checked.now in
    let fits = c.built_fits.ensures checked.network c.args.class.now c.args.problem checked.given checked.faultless c.requires.class c.requires.built in
    fits.printable

pub canon_srp-requires-clause-within : goal.canon_srp-requires-clause-within
canon_srp-requires-clause-within c =
    let checked = c.args.checked.now in
    let fits = c.built_fits.ensures checked.network c.args.class.now c.args.problem checked.given checked.faultless c.requires.class c.requires.built in
    subst (λ (set : List ℕ). AllByRecursion (IsActWithin set) c.args.problem.acts) (sym c.requires.universe) fits.within

pub returns-in-Ok-clause-problem : goal.returns-in-Ok-clause-problem
returns-in-Ok-clause-problem c =
    let of = c.in-Ok.ensures in
    canonical_for c.args.checked.now.network c.args.class.now c.args.store.now.universe c.args.problem c.in-Ok.canonical
    c.requires.built c.requires.universe of.canonical

pub returns-in-Ok-clause-fits : goal.returns-in-Ok-clause-fits
returns-in-Ok-clause-fits c =
    let of = c.in-Ok.ensures in
    fits_for c.args.checked.now.network c.args.class.now c.args.store.now.universe c.args.problem c.in-Ok.canonical
    c.requires.built c.requires.universe c.count-known.ensures.rules of.alike of.printable of.within

pub returns-in-Err-NoCanon-clause-none : goal.returns-in-Err-NoCanon-clause-none
returns-in-Err-NoCanon-clause-none c =
    let n = c.args.checked.now.network in
    let problem = c.args.problem in
    let place = c.in-Err-NoCanon.place in
    let universe = c.args.store.now.universe in
    let told = first_of universe problem c.in-Err-NoCanon.field-0 place c.in-Err-NoCanon.field-0-is c.in-Err-NoCanon.ensures.canonical in
    let first = subst (λ (set : List ℕ). IsFirstWithout set problem place) c.requires.universe told in
    told_first n c.args.class.now problem c.requires.built place first _
    (first_at (communities_of n) problem place first c.edges.result.now c.edges.ensures (record { importer = 0; exporter = 0; act = 0; link = 0 }))
    c.no_canon.result c.no_canon.ensures
