use Rattle.std.proofs.Common.{ℕ, List, sym, ap, ◌∙◌, Some, option_copied}
use Rattle.cfg_ast.specs.declared.topology.Link.{Link}
use Rattle.ask_names.specs.Networks.{names_of}
use Rattle.ask_names.specs.Routers.{unjoined}
use Rattle.ask_names.specs.Selection.{selected}
use Rattle.ask_requests.specs.declared.fault.Fault.TheVariants.{NoLink, UnknownRouter}
use Rattle.ask_requests.proofs.Faults.{no_class, unknown, no_link, sound}
use Rattle.ask_requests.proofs.spans.span_of.Goals as goal

pub returns-in_default : goal.returns-in_default
returns-in_default c =
    let n = c.args.network.now in
    let request = c.args.request.now in
    no_class n request (ap (selected request.classes) (sym c.requires.classes) ∙ sym c.selected.ensures ∙ c.in_default.is)

pub returns-in-Some-unknown_name : goal.returns-in-Some-unknown_name
returns-in-Some-unknown_name c =
    let n = c.args.network.now in
    let request = c.args.request.now in
    let some = ap (selected request.classes) (sym c.requires.classes) ∙ sym c.in-Some.ensures in
    unknown n request c.in-Some.span some c.in-Some-unknown_name.name.now (sym c.in-Some-unknown_name.ensures)
    ∙ ap (λ (name : List ℕ). Some (UnknownRouter name)) (sym (c.in_ok-name.ensures ∙ c.as_str.ensures))

pub returns-in-Some-apart : goal.returns-in-Some-apart
returns-in-Some-apart c =
    let n = c.args.network.now in
    let request = c.args.request.now in
    let some = ap (selected request.classes) (sym c.requires.classes) ∙ sym c.in-Some.ensures in
    let known = sym c.unknown_name.ensures ∙ ap option_copied c.in_default-unknown_name.is in
    no_link n request c.in-Some.span some known c.in-Some-apart.pair.now
    (ap (λ (links : List Link). unjoined (names_of n) links request.down) (sym c.requires.links)
    ∙ ap (unjoined (names_of n) c.args.links.now) (sym c.as_slice.ensures) ∙ sym c.in_ok-apart.ensures ∙ ap option_copied c.in-Some-apart.is)
    ∙ ap (λ (pair : List ℕ). Some (NoLink pair)) (sym c.in_ok-pair.ensures)

pub returns : goal.returns
returns c =
    let n = c.args.network.now in
    let request = c.args.request.now in
    let some = ap (selected request.classes) (sym c.requires.classes) ∙ sym c.in-Some.ensures in
    let known = sym c.unknown_name.ensures ∙ ap option_copied c.in_default-unknown_name.is in (
      some,
      sound n request c.in-Some.span some known
          (ap (λ (links : List Link). unjoined (names_of n) links request.down) (sym c.requires.links)
          ∙ ap (unjoined (names_of n) c.args.links.now) (sym c.as_slice.ensures) ∙ sym c.in_ok-apart.ensures ∙ ap option_copied c.in_default-apart.is),
    )
