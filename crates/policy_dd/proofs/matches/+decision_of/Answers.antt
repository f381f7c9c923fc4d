use Rattle.std.proofs.Common.{rules, ◌≡◌, ◌++◌, List, ℕ, sym, subst}
use Rattle.std.specs.List.{AllByRecursion}
use Rattle.std.proofs.lemmas.List.{take-append-drop}
use Rattle.cfg_ast.specs.declared.policy.CommunityLine.{CommunityLine}
use Rattle.route_maps.specs.Within.{IsLineWithin}
use Rattle.dd_core.proofs.ShownLemmas.{grows_inside, grows_trans}
use Rattle.policy_dd.specs.Matches.{IsDecision}
use Rattle.policy_dd.proofs.MatchLemmas.{inside_kept}
use Rattle.policy_dd.proofs.DecideLemmas.{all_drop, decision_append}
use Rattle.policy_dd.proofs.matches.+decision_of.Goals as goal

pub decision_of-requires-in_default : goal.decision_of-requires-in_default
decision_of-requires-in_default t c =
    let known = subst (λ (l : List CommunityLine). AllByRecursion (IsLineWithin c.args.store.now.universe) l) (sym c.split_at.ensures.back)
    (all_drop (IsLineWithin c.args.store.now.universe) c.args.lines.now _ c.requires.known) in (
      search rules,
      (
        inside_kept _ _ _ c.in_ok-first-in_default.ensures.grows c.requires.inside,
        subst (λ (u : List ℕ). AllByRecursion (IsLineWithin u) c.split_at.result.1.now) (sym c.in_ok-first-in_default.ensures.grows.universe) known,
      ),
    )

pub returns-in_ok-decision-in_default-clause-decision :
    goal.returns-in_ok-decision-in_default-clause-decision
returns-in_ok-decision-in_default-clause-decision t c =
    let e : c.split_at.result.0.now ++ c.split_at.result.1.now ≡ c.args.lines.now =
    rw (c.split_at.ensures.front, c.split_at.ensures.back) (take-append-drop _ c.args.lines.now) in
    subst (λ (l : List CommunityLine). IsDecision c.args.store.now c.first_decides.new.store c.args.carried.now l c.in_ok-decision-in_default.decision) e
    (decision_append c.args.store.now _ _ c.first_decides.new.store c.args.carried.now c.split_at.result.0.now c.split_at.result.1.now
    c.in_ok-first-in_default.first c.in_ok-last-in_default.last c.in_ok-decision-in_default.decision c.requires.inside
    c.in_ok-first-in_default.ensures.grows c.in_ok-last-in_default.ensures.grows c.in_ok-first-in_default.ensures.decision
    c.in_ok-last-in_default.ensures.decision c.in_ok-decision-in_default.ensures.joined)

pub first_decides-requires-clause-first_inside : goal.first_decides-requires-clause-first_inside
first_decides-requires-clause-first_inside t c = record {
  holds = grows_inside _ _ _ c.in_ok-last-in_default.ensures.grows c.in_ok-first-in_default.ensures.decision.holds.inside;
  permits = grows_inside _ _ _ c.in_ok-last-in_default.ensures.grows c.in_ok-first-in_default.ensures.decision.permits.inside;
}

pub returns-in_err-last-in_default-clause-grows : goal.returns-in_err-last-in_default-clause-grows
returns-in_err-last-in_default-clause-grows t c = grows_trans _ _ _ c.in_ok-first-in_default.ensures.grows c.in_err-last-in_default.ensures.grows

pub returns-in_err-decision-in_default-clause-grows : goal.returns-in_err-decision-in_default-clause-grows
returns-in_err-decision-in_default-clause-grows t c = grows_trans _ _ _
    (grows_trans _ _ _ c.in_ok-first-in_default.ensures.grows c.in_ok-last-in_default.ensures.grows) c.in_err-decision-in_default.ensures.grows

pub returns-in_ok-decision-in_default-clause-grows : goal.returns-in_ok-decision-in_default-clause-grows
returns-in_ok-decision-in_default-clause-grows t c = grows_trans _ _ _
    (grows_trans _ _ _ c.in_ok-first-in_default.ensures.grows c.in_ok-last-in_default.ensures.grows) c.in_ok-decision-in_default.ensures.grows
