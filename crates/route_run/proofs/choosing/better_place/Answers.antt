use Rattle.std.proofs.Common.{◌≡◌, nat_eq, sym, ◌∙◌, true, false}
use Rattle.std.specs.HashSet.{contains}
use Rattle.std.proofs.lemmas.List.MinMax.{IsFirstBest-takes, IsFirstBest-keeps}
use Rattle.route_run.specs.Choices.{is_better}
use Rattle.route_run.proofs.Routes.{candidates_rank}
use Rattle.route_run.proofs.choosing.better_place.Goals as goal

pub returns-then-branch : goal.returns-then-branch
returns-then-branch c =
    let test = contains nat_eq c.args.lone.now in
    let all = c.args.candidates.now in
    let x = c.index-candidates-place.result in
    let y = c.index-candidates-best.result in
    let over : is_better test x y ≡ true = sym c.in_ok-is_better.ensures ∙ c.if-branch.true in
    IsFirstBest-takes (candidates_rank test) all c.args.place c.args.best x y c.requires.best c.requires.place c.index-candidates-place.is
    c.index-candidates-best.is over

pub returns-else-branch : goal.returns-else-branch
returns-else-branch c =
    let test = contains nat_eq c.args.lone.now in
    let all = c.args.candidates.now in
    let x = c.index-candidates-place.result in
    let y = c.index-candidates-best.result in
    let below : is_better test x y ≡ false = sym c.in_ok-is_better.ensures ∙ c.if-branch.false in
    IsFirstBest-keeps (candidates_rank test) all c.args.place c.args.best x y c.requires.best c.requires.place c.index-candidates-place.is
    c.index-candidates-best.is below
