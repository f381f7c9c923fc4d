use Rattle.std.proofs.Common.{◌≡◌, ℕ, ◌<◌, List, length, ap, sym, ◌∙◌, subst, arith}
use Rattle.std.specs.Prelude.{slice_index_or}
use Rattle.std.proofs.lemmas.List.{get_or_default}
use Rattle.srp_core.specs.declared.route.Act.{Act}
use Rattle.srp_core.specs.declared.route.Act.TheVariants.{Cost}
use Rattle.srp_core.specs.Problem.{Problem}
use Rattle.srp_core.specs.Routes.{size_of}
use Rattle.solution_search.specs.Weighing.{AreLonger, AreWorse}
use Rattle.solution_search.proofs.Weighed.{lower_are_worse, longer_are_worse}
use Rattle.solution_search.proofs.weighing.are_worse.Goals as goal

pub returns-then-highest-preference : goal.returns-then-highest-preference
returns-then-highest-preference c = λ t.
    let P = c.lookups.inside.srp.now in
    let act = c.args.act in
    let view = c.lookups.view_is in
    let inside : act < length P.acts = subst (λ (p : Problem). act < length p.acts) (sym view) c.requires in
    let top = c.lookups.invariant.1.each act inside in
    let total = c.lookups.invariant.1.acts in
    let listed = c.index-highest.ensures in
    let e = get_or_default c.lookups.inside.highest.items act c.index-highest.result.now 0 (omega (arith, total, inside)) in
    let p = c.preference_of-preference.ensures in
    let less = c.if-highest-preference.true in
    subst (λ (q : Problem). AreWorse (slice_index_or q.acts act (Cost 0)) c.args.from.now c.args.best.now) view
    (lower_are_worse (slice_index_or P.acts act (Cost 0)) (slice_index_or c.lookups.inside.highest.items act 0) c.args.from.now c.args.best.now top
    (omega (arith, listed, e, p, less)))

pub returns-then-highest-preference-2 : goal.returns-then-highest-preference-2
returns-then-highest-preference-2 c = λ t.
    let P = c.lookups.inside.srp.now in
    let act = c.args.act in
    let view = c.lookups.view_is in
    let inside : act < length P.acts = subst (λ (p : Problem). act < length p.acts) (sym view) c.requires in
    let top = c.lookups.invariant.1.each act inside in
    let total = c.lookups.invariant.1.acts in
    let listed = c.index-highest.ensures in
    let e = get_or_default c.lookups.inside.highest.items act c.index-highest.result.now 0 (omega (arith, total, inside)) in
    let p = c.preference_of-preference.ensures in
    let same = c.if-highest-preference-2.true in
    let at : c.index-acts-act.result ≡ slice_index_or P.acts act (Cost 0) =
    c.index-acts-act.is ∙ ap (λ (l : List Act). slice_index_or l act c.index-acts-act.result) c.acts.ensures
    ∙ get_or_default P.acts act c.index-acts-act.result (Cost 0) inside in
    let longer = subst (λ (a : Act). AreLonger a c.args.from.now (size_of c.args.best.now)) at
    (subst (λ (n : ℕ). AreLonger c.index-acts-act.result c.args.from.now n) c.size_of.ensures (c.are_longer.ensures t)) in
    subst (λ (q : Problem). AreWorse (slice_index_or q.acts act (Cost 0)) c.args.from.now c.args.best.now) view
    (longer_are_worse (slice_index_or P.acts act (Cost 0)) (slice_index_or c.lookups.inside.highest.items act 0) c.args.from.now c.args.best.now top
    (omega (arith, listed, e, p, same)) longer)
