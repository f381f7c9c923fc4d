use Rattle.std.proofs.Common.{◌≡◌, ◌≢◌, Bool, None, is_some, not, refl, sym, subst}
use Rattle.std.specs.Prelude.{MatchBool}
use Rattle.srp_core.specs.Stability.{label}
use Rattle.srp_questions.specs.declared.question.Question.{Question}
use Rattle.srp_questions.specs.Holding.{holds_community, lacks_community}
use Rattle.srp_questions.specs.Questions.{HoldsCommunity, LacksCommunity, IsTrueIn}
use Rattle.srp_questions.proofs.ReadLabels.{if_ok}
use Rattle.srp_questions.proofs.Telling.{told, routed, unrouted, holding, lacking}
use Rattle.srp_questions.proofs.truth.is_true.Goals as goal

pub returns-in-Route : goal.returns-in-Route
returns-in-Route c =
    let P = c.args.srp.now in
    let L = c.args.labels.now in
    subst (λ (q : Question). MatchBool c.have_routes.result (IsTrueIn q P L) (¬ IsTrueIn q P L)) (sym c.in-Route.is)
    (told (λ u. is_some (label L u)) (λ u. label L u ≢ None) c.in-Route.routers c.have_routes.result c.have_routes.ensures (λ u i. routed (label L u)))

pub returns-in-Isolated : goal.returns-in-Isolated
returns-in-Isolated c =
    let P = c.args.srp.now in
    let L = c.args.labels.now in
    subst (λ (q : Question). MatchBool c.have_no_routes.result (IsTrueIn q P L) (¬ IsTrueIn q P L)) (sym c.in-Isolated.is)
    (told (λ u. not (is_some (label L u))) (λ u. label L u ≡ None) c.in-Isolated.routers c.have_no_routes.result c.have_no_routes.ensures
    (λ u i. unrouted (label L u)))

pub returns-in-Avoids : goal.returns-in-Avoids
returns-in-Avoids c =
    let P = c.args.srp.now in
    let L = c.args.labels.now in
    if_ok c.stay_off.result (λ (b : Bool) tells. subst (λ (q : Question). MatchBool b (IsTrueIn q P L) (¬ IsTrueIn q P L)) (sym c.in-Avoids.is) tells)
    c.stay_off.ensures

pub returns-in-Carries : goal.returns-in-Carries
returns-in-Carries c =
    let P = c.args.srp.now in
    let L = c.args.labels.now in
    let community = c.in-Carries.community in
    subst (λ (q : Question). MatchBool c.all_hold.result (IsTrueIn q P L) (¬ IsTrueIn q P L)) (sym c.in-Carries.is)
    (told (λ u. holds_community community (label L u)) (HoldsCommunity L community) c.in-Carries.routers c.all_hold.result c.all_hold.ensures
    (λ u i. holding L community u (label L u) refl))

pub returns-in-Lacks : goal.returns-in-Lacks
returns-in-Lacks c =
    let P = c.args.srp.now in
    let L = c.args.labels.now in
    let community = c.in-Lacks.community in
    subst (λ (q : Question). MatchBool c.all_lack.result (IsTrueIn q P L) (¬ IsTrueIn q P L)) (sym c.in-Lacks.is)
    (told (λ u. lacks_community community (label L u)) (LacksCommunity L community) c.in-Lacks.routers c.all_lack.result c.all_lack.ensures
    (λ u i. lacking L community u (label L u) refl))
