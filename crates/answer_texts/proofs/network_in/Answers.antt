use Rattle.std.proofs.Common.{sym, ap, ◌∙◌, Result, Ok}
use Rattle.cfg_ast.specs.declared.network.Network.{Network}
use Rattle.cfg_ast.specs.declared.refusal.ReadRefusal.{ReadRefusal}
use Rattle.cfg_ast.specs.meaning.Meaning.{judged}
use Rattle.cfg_ast.specs.text.Reading.{network_of_text}
use Rattle.answer_kit.proofs.Networks.{reading_judged, reading_refused, answers_refused}
use Rattle.answer_texts.proofs.network_in.Goals as goal

-- the text is no network
pub returns-in-Err-clause-none : goal.returns-in-Err-clause-none
returns-in-Err-clause-none c =
    let text = c.args.text.now in
    answers_refused c.text_refusal.result text c.in-Err.refusal (network_of_text text) (reading_refused text c.in-Err.refusal) c.in-Err.ensures
    c.text_refusal.ensures

abbrev accepted_as : Network → Result Network ReadRefusal
accepted_as n = Ok n

-- the network has no fault
pub returns-in-Ok-check_network-clause-read : goal.returns-in-Ok-check_network-clause-read
returns-in-Ok-check_network-clause-read c =
    let checked = c.in-Ok-check_network.ensures in
    reading_judged c.args.text.now c.in-Ok.network _ c.in-Ok.ensures (checked.accepted ∙ ap accepted_as (sym checked.ok))

-- the network has a fault
pub returns-in-Err-check_network-clause-none : goal.returns-in-Err-check_network-clause-none
returns-in-Err-check_network-clause-none c =
    let text = c.args.text.now in
    answers_refused c.text_refusal-in-Err-check_network.result text c.in-Err-check_network.refusal (judged c.in-Ok.network)
    (λ e. reading_judged text c.in-Ok.network _ c.in-Ok.ensures e)
    c.in-Err-check_network.ensures.refused c.text_refusal-in-Err-check_network.ensures
