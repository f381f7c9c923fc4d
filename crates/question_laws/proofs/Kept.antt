-- Answers where spare links are down.
use Rattle.std.proofs.Common.{◌≡◌, ◌≢◌, ℕ, ◌<◌, List, [], ◌∷◌, Option, Some, None, sym, ◌∙◌, subst}
use Rattle.std.specs.Prelude.{All}
use Rattle.asking_laws.specs.Spare.{ForwardsOver, KeepsSolution}
use Rattle.asking_laws.proofs.Both.{IsPartOf}
use Rattle.srp_core.specs.declared.route.Route.{Route}
use Rattle.srp_core.specs.Problem.{Problem, count}
use Rattle.srp_core.specs.Stability.{label, ForwardsTo, HaveSameKeys}
use Rattle.srp_questions.specs.declared.question.Question.{Question}
use Rattle.srp_questions.specs.declared.question.Question.TheVariants as question
use Rattle.srp_questions.specs.Chains.{IsChain, end_of}
use Rattle.srp_questions.specs.Questions.{IsWithinHops, PassesThrough, StaysOff, HoldsCommunity, LacksCommunity, IsTrueIn, IsAskedOf, asked_of}
use Rattle.question_laws.specs.Kept.{IsOfLabels}
use Rattle.question_laws.proofs.Lists.{all_along}
use Rattle.question_laws.proofs.SameLabels.{still_some, still_none, still_holds, still_lacks}

-- questions about labels ask about their keys alone
pub keys_tell : (A B : Problem) (X Y : List (Option Route)) (bound : ℕ) → ((u : ℕ) → u < bound → HaveSameKeys A B (label X u) (label Y u)) →
    (asked : Question) → IsOfLabels asked → All (λ u. u < bound) (asked_of asked) → IsTrueIn asked A X → IsTrueIn asked B Y
keys_tell A B X Y bound keys (question.Route routers) of inside t = all_along (λ u. u < bound) (λ u. label X u ≢ None) (λ u. label Y u ≢ None)
    (λ u lt some. still_some A B (label X u) (label Y u) (keys u lt) some) routers inside t
keys_tell A B X Y bound keys (question.Isolated routers) of inside t = all_along (λ u. u < bound) (λ u. label X u ≡ None) (λ u. label Y u ≡ None)
    (λ u lt none. still_none A B (label X u) (label Y u) (keys u lt) none) routers inside t
keys_tell A B X Y bound keys (question.Hops most routers) of inside t = absurd of
keys_tell A B X Y bound keys (question.Through way routers) of inside t = absurd of
keys_tell A B X Y bound keys (question.Avoids way routers) of inside t = absurd of
keys_tell A B X Y bound keys (question.Carries community routers) of inside t = all_along (λ u. u < bound) (HoldsCommunity X community)
    (HoldsCommunity Y community) (λ u lt holds. still_holds A B (label X u) (label Y u) community (keys u lt) holds) routers inside t
keys_tell A B X Y bound keys (question.Lacks community routers) of inside t = all_along (λ u. u < bound) (LacksCommunity X community)
    (LacksCommunity Y community) (λ u lt lacks. still_lacks A B (label X u) (label Y u) community (keys u lt) lacks) routers inside t

module _ (P Q : Problem) (part : IsPartOf P Q) (L M : List (Option Route)) (keeps : KeepsSolution P Q L M) where
  forwards_before : (u v : ℕ) → ForwardsTo Q M u v → ForwardsTo P L u v
  forwards_before u v f =
      let over : ForwardsOver Q M f.edge = record {
        route = f.route;
        labelled = subst (λ w. label M w ≡ Some f.route) (sym f.importer) f.labelled;
        candidate = f.candidate;
        over = f.over;
        same = f.same;
      } in
      let before = keeps.forwards f.edge f.edge_in over in
      record {
        route = before.route;
        labelled = subst (λ w. label L w ≡ Some before.route) f.importer before.labelled;
        edge = f.edge;
        edge_in = part.edges f.edge f.edge_in;
        importer = f.importer;
        exporter = f.exporter;
        candidate = before.candidate;
        over = before.over;
        same = before.same;
      }

  chain_before : (u : ℕ) (behind : List ℕ) → IsChain Q M u behind → IsChain P L u behind
  chain_before u [] chain = tt
  chain_before u (v ∷ behind) chain = (forwards_before u v chain.0, chain_before v behind chain.1)

  -- what is true in the labels is true in what is left
  pub true_left : (asked : Question) → IsAskedOf P asked → IsTrueIn asked P L → IsTrueIn asked Q M
  true_left (question.Route routers) is t = keys_tell P Q L M (count P) keeps.keys (question.Route routers) tt is.routers t
  true_left (question.Isolated routers) is t = keys_tell P Q L M (count P) keeps.keys (question.Isolated routers) tt is.routers t
  true_left (question.Hops most routers) is t = all_along (λ u. u < count P) (IsWithinHops P L most) (IsWithinHops Q M most)
      (λ u lt within. λ behind chain. within behind (chain_before u behind chain)) routers is.routers t
  true_left (question.Through way routers) is t = all_along (λ u. u < count P) (PassesThrough P L way) (PassesThrough Q M way)
      (λ u lt passes. λ behind chain ends. passes behind (chain_before u behind chain) (λ none. ends (part.init (end_of u behind) ∙ none))) routers is.routers t
  true_left (question.Avoids way routers) is t = all_along (λ u. u < count P) (StaysOff P L way) (StaysOff Q M way)
      (λ u lt off. λ behind chain meets. off behind (chain_before u behind chain) meets) routers is.routers t
  true_left (question.Carries community routers) is t = keys_tell P Q L M (count P) keeps.keys (question.Carries community routers) tt is.routers t
  true_left (question.Lacks community routers) is t = keys_tell P Q L M (count P) keeps.keys (question.Lacks community routers) tt is.routers t
