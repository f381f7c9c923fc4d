use Rattle.all_classes.proofs.OnCommands.{on_class}
use Rattle.all_classes.proofs.work.on_problem.Goals as goal

pub returns-in-Groups-clause-answers : goal.returns-in-Groups-clause-answers
returns-in-Groups-clause-answers c =
    on_class _ _ c.in-Groups.is c.answer_of.result c.args.checked.now.network c.args.number c.args.class.now c.answer_of.ensures

pub returns-in-Report-clause-answers : goal.returns-in-Report-clause-answers
returns-in-Report-clause-answers c =
    on_class _ _ c.in-Report.is c.answer_of-in-Report.result c.args.checked.now.network c.args.number c.args.class.now c.answer_of-in-Report.ensures

pub returns-in-Json-clause-answers : goal.returns-in-Json-clause-answers
returns-in-Json-clause-answers c =
    on_class _ _ c.in-Json.is c.answer_of-in-Json.result c.args.checked.now.network c.args.number c.args.class.now c.answer_of-in-Json.ensures

pub returns-in-Certify-clause-answers : goal.returns-in-Certify-clause-answers
returns-in-Certify-clause-answers c =
    on_class _ _ c.in-Certify.is c.answer_of-in-Certify.result c.args.checked.now.network c.args.number c.args.class.now c.answer_of-in-Certify.ensures
