use Rattle.std.proofs.Common.{◌≡◌, ℕ, Bool, false, Option, sym, ◌∙◌, ap, subst, IfOk}
use Rattle.std.specs.Prelude.{slice_get}
use Rattle.std.specs.Option.{option_and_then, option_map_or}
use Rattle.cfg_ast.specs.declared.policy.PrefixList.{PrefixList}
use Rattle.cfg_ast.specs.meaning.PrefixLists.{prefix_list_permits}
use Rattle.specialize.proofs.answers.named_list_permits.Goals as goal

pub returns-in-Some-clause-answer : goal.returns-in-Some-clause-answer
returns-in-Some-clause-answer c =
    let found = ap (λ (place : Option ℕ). option_and_then (slice_get c.args.router.now.prefix_lists) place) (sym c.in-Some.is) ∙ c.place_of_list.ensures in
    subst (λ (b : Bool). IfOk c.answer_at.result (λ (answer : Bool). answer ≡ b))
    (ap (λ (list : Option PrefixList). option_map_or (λ (l : PrefixList). prefix_list_permits l c.args.p) list false) found) c.answer_at.ensures.answer

pub returns-in-None-clause-answer : goal.returns-in-None-clause-answer
returns-in-None-clause-answer c =
    let found = ap (λ (place : Option ℕ). option_and_then (slice_get c.args.router.now.prefix_lists) place) (sym c.in-None.is) ∙ c.place_of_list.ensures in
    ap (λ (list : Option PrefixList). option_map_or (λ (l : PrefixList). prefix_list_permits l c.args.p) list false) found
