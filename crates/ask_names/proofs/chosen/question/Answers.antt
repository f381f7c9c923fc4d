use Rattle.std.proofs.Common.{sym, subst, ap, ◌∙◌}
use Rattle.srp_core.specs.Without.{marked_down}
use Rattle.srp_questions.specs.declared.question.Question.TheVariants as question
use Rattle.ask_names.specs.Marks.{AreMarksFor}
use Rattle.ask_names.specs.Routers.{routers_for, question_for}
use Rattle.ask_names.proofs.Naming.{chosen_for}
use Rattle.ask_names.proofs.chosen.question.Goals as goal

pub returns-in-Route : goal.returns-in-Route
returns-in-Route c = λ names links are.
    ap question.Route (chosen_for names c.in-Route.field-0 c.args.down.now links _ _ _ c.in_ok-routers.ensures c.deref.ensures.value
    (subst (λ a. AreMarksFor names a c.args.named.now) c.in-Route.is are))
    ∙ ap (question_for names (marked_down c.args.down.now links)) (sym c.in-Route.is)

pub returns-in-Isolated : goal.returns-in-Isolated
returns-in-Isolated c = λ names links are.
    ap question.Isolated (chosen_for names c.in-Isolated.field-0 c.args.down.now links _ _ _ c.in_ok-routers.ensures c.deref.ensures.value
    (subst (λ a. AreMarksFor names a c.args.named.now) c.in-Isolated.is are))
    ∙ ap (question_for names (marked_down c.args.down.now links)) (sym c.in-Isolated.is)

pub returns-in-Hops : goal.returns-in-Hops
returns-in-Hops c = λ names links are.
    ap (question.Hops c.in-Hops.most) (chosen_for names c.in-Hops.field-1 c.args.down.now links _ _ _ c.in_ok-routers.ensures c.deref.ensures.value
    (subst (λ a. AreMarksFor names a c.args.named.now) c.in-Hops.is are))
    ∙ ap (question_for names (marked_down c.args.down.now links)) (sym c.in-Hops.is)

pub returns-in_ok-way-in-Through : goal.returns-in_ok-way-in-Through
returns-in_ok-way-in-Through c = λ names links are.
    let marks = subst (λ a. AreMarksFor names a c.args.named.now) c.in-Through.is are in
    ap (λ way. question.Through way c.in_ok-routers.routers)
    (chosen_for names c.in-Through.field-0 c.args.down.now links _ _ _ c.in_ok-way-in-Through.ensures c.deref-in-Through.ensures.value marks.1)
    ∙ ap (question.Through (routers_for names (marked_down c.args.down.now links) c.in-Through.field-0))
    (chosen_for names c.in-Through.field-1 c.args.down.now links _ _ _ c.in_ok-routers.ensures c.deref.ensures.value marks.0)
    ∙ ap (question_for names (marked_down c.args.down.now links)) (sym c.in-Through.is)

pub returns-in_ok-way-in-Avoids : goal.returns-in_ok-way-in-Avoids
returns-in_ok-way-in-Avoids c = λ names links are.
    let marks = subst (λ a. AreMarksFor names a c.args.named.now) c.in-Avoids.is are in
    ap (λ way. question.Avoids way c.in_ok-routers.routers)
    (chosen_for names c.in-Avoids.field-0 c.args.down.now links _ _ _ c.in_ok-way-in-Avoids.ensures c.deref-in-Avoids.ensures.value marks.1)
    ∙ ap (question.Avoids (routers_for names (marked_down c.args.down.now links) c.in-Avoids.field-0))
    (chosen_for names c.in-Avoids.field-1 c.args.down.now links _ _ _ c.in_ok-routers.ensures c.deref.ensures.value marks.0)
    ∙ ap (question_for names (marked_down c.args.down.now links)) (sym c.in-Avoids.is)

pub returns-in-Carries : goal.returns-in-Carries
returns-in-Carries c = λ names links are.
    ap (question.Carries c.in-Carries.community) (chosen_for names c.in-Carries.field-1 c.args.down.now links _ _ _ c.in_ok-routers.ensures
    c.deref.ensures.value
    (subst (λ a. AreMarksFor names a c.args.named.now) c.in-Carries.is are))
    ∙ ap (question_for names (marked_down c.args.down.now links)) (sym c.in-Carries.is)

pub returns-in-Lacks : goal.returns-in-Lacks
returns-in-Lacks c = λ names links are.
    ap (question.Lacks c.in-Lacks.community) (chosen_for names c.in-Lacks.field-1 c.args.down.now links _ _ _ c.in_ok-routers.ensures c.deref.ensures.value
    (subst (λ a. AreMarksFor names a c.args.named.now) c.in-Lacks.is are))
    ∙ ap (question_for names (marked_down c.args.down.now links)) (sym c.in-Lacks.is)
