use Rattle.std.proofs.Common.{◌≡◌, ◌∙◌, ap, sym, subst, IfOk}
use Rattle.cfg_ast.specs.declared.network.Network.{Network}
use Rattle.cfg_ast.specs.declared.network.Router.{Router}
use Rattle.cfg_ast.specs.meaning.Classes.{classes_of}
use Rattle.cfg_ast.specs.meaning.Topology.{links_of}
use Rattle.numbered_names.specs.NamePlaces.{ArePlacesOf}
use Rattle.ask_requests.specs.Faults.{IsSpanOf}
use Rattle.ask_answers.proofs.requests.asked_span.Goals as goal

pub span_of-requires-clause-classes : goal.span_of-requires-clause-classes
span_of-requires-clause-classes c = c.as_slice-classes.ensures ∙ c.requires.classes ∙ ap classes_of (sym c.network-network.ensures.same)

pub span_of-requires-clause-links : goal.span_of-requires-clause-links
span_of-requires-clause-links c = c.as_slice-links.ensures ∙ c.requires.shared.links ∙ ap links_of (sym c.network-network.ensures.same)

pub span_of-requires-clause-places : goal.span_of-requires-clause-places
span_of-requires-clause-places c =
    subst (λ (m : Network). ArePlacesOf (λ (router : Router). router.name) c.args.atlas.now.places m.routers)
    (sym c.network-network.ensures.same) c.requires.places

pub returns : goal.returns
returns c = subst (λ (m : Network). IfOk c.span_of.result (IsSpanOf m c.args.request.now)) c.network-network.ensures.same c.span_of.ensures
