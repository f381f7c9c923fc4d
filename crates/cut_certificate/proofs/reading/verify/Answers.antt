use Rattle.std.proofs.Common.{subst, Result}
use Rattle.cut_certificate.specs.declared.certificate.Certificate.{Certificate}
use Rattle.cut_certificate.specs.declared.refusal.CutRefusal.{CutRefusal}
use Rattle.cut_certificate.specs.Answers.{Verifies}
use Rattle.numbered_names.specs.NamePlaces.{ArePlacesOf, place_in}
use Rattle.cut_certificate.proofs.Verified.{text_by, verified_accepted, verified_coarsest}
use Rattle.cut_certificate.proofs.reading.verify.Goals as goal

pub returns-clause-exact : goal.returns-clause-exact
returns-clause-exact c =
    let are = subst (ArePlacesOf (λ text. text) c.in_ok-places.places) c.as_slice.ensures c.in_ok-places.ensures in
    let P : Result Certificate CutRefusal → Type 0 = λ r. Verifies c.read_lines.result r in
    subst P (text_by c.args.graph.now c.args.names.now c.args.bytes.now (place_in c.in_ok-places.places) are.each) c.read_lines.ensures

pub returns-clause-accepted : goal.returns-clause-accepted
returns-clause-accepted c = verified_accepted c.args.graph.now c.args.names.now c.args.bytes.now c.read_lines.result (returns-clause-exact c)

pub returns-clause-coarsest : goal.returns-clause-coarsest
returns-clause-coarsest c = verified_coarsest c.args.graph.now c.args.names.now c.args.bytes.now c.read_lines.result (returns-clause-exact c)
