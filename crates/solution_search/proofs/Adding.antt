-- A further offer of a router: one that may become its best offer, or one that is judged by its label.
use Rattle.std.proofs.Common.{◌≡◌, ℕ, [], ◌∷◌, ◌++◌, set, Option, Some, None, refl, sym, ap, ◌∙◌, subst}
use Rattle.srp_core.specs.declared.route.Route.{Route}
use Rattle.srp_core.specs.Problem.{Problem}
use Rattle.srp_core.specs.Stability.{label}
use Rattle.solution_search.specs.declared.bests.Best.{Best}
use Rattle.solution_search.specs.declared.bests.Rank.{Rank}
use Rattle.solution_search.specs.declared.bests.Rank.TheVariants as rank
use Rattle.solution_search.specs.declared.board.Board.{Board}
use Rattle.solution_search.specs.declared.board.Change.TheVariants.{Offered}
use Rattle.solution_search.specs.declared.settling.Outcome.{Outcome}
use Rattle.solution_search.specs.declared.settling.Outcome.TheVariants.{Fine}
use Rattle.solution_search.specs.Bests.{fresh_of, rank_of, replaced}
use Rattle.solution_search.specs.Boards.{best_at, SameButBests, Puts, better_than, rank_at, outcome_of, noted_by, Adds}

module _ (P : Problem) (old : Board) (router : ℕ) (offer : Best) where
  -- the router is not settled
  module _ (unsettled : label old.labels router ≡ None) where
    rank_is : rank_at P (label old.labels router) offer ≡ rank.Equal
    rank_is = ap (λ (l : Option Route). rank_at P l offer) unsettled

    -- another best offer stands in the place of the one before, or none does
    pub adds_put : (new : Board) (o : Option Best) → better_than None (best_at old.bests.items router) offer ≡ o → new.labels ≡ old.labels →
        new.waits.items ≡ old.waits.items → new.tie ≡ old.tie → Puts old new router o → Adds P old new router offer Fine
    adds_put new o is labels waits tie put = record {
      labels = labels;
      waits = waits;
      put = subst (Puts old new router) (sym (ap (λ (l : Option Route). better_than l (best_at old.bests.items router) offer) unsettled ∙ is)) put;
      tie = tie ∙ ap (noted_by old.tie router) (sym rank_is);
      is_outcome = ap outcome_of (sym rank_is);
    }

    -- it is the first offer
    pub adds_first : (new : Board) → best_at old.bests.items router ≡ None → SameButBests old new → new.bests.items ≡ set old.bests.items router (Some offer) →
        new.changes.items ≡ old.changes.items ++ Offered router (best_at old.bests.items router) ∷ [] → Adds P old new router offer Fine
    adds_first new none same bests changes = adds_put new (Some offer) (ap (λ (o : Option Best). better_than None o offer) none)
        same.labels same.waits same.tie (bests, changes)

    module _ (best : Best) (known : best_at old.bests.items router ≡ Some best) where
      put_is : better_than None (best_at old.bests.items router) offer ≡ replaced (rank_of offer best) best offer
      put_is = ap (λ (o : Option Best). better_than None o offer) known

      -- the best offer stays
      pub adds_nothing : replaced (rank_of offer best) best offer ≡ None → Adds P old old router offer Fine
      adds_nothing none = adds_put old None (put_is ∙ none) refl refl refl (refl, refl)

      -- another one stands in its place
      pub adds_better : (new : Board) (better : Best) → replaced (rank_of offer best) best offer ≡ Some better → SameButBests old new →
          new.bests.items ≡ set old.bests.items router (Some better) →
          new.changes.items ≡ old.changes.items ++ Offered router (best_at old.bests.items router) ∷ [] → Adds P old new router offer Fine
      adds_better new better is same bests changes = adds_put new (Some better) (put_is ∙ is) same.labels same.waits same.tie (bests, changes)

      pub adds_worse : rank_of offer best ≡ rank.Worse → Adds P old old router offer Fine
      adds_worse worse = adds_nothing (ap (λ (r : Rank). replaced r best offer) worse)

  -- the router is settled
  module _ (r : Route) (settled : label old.labels router ≡ Some r) where
    pub adds_judged : (new : Board) (outcome : Outcome) (ranked : Rank) → ranked ≡ rank_of offer (fresh_of P r) → outcome ≡ outcome_of ranked →
        new.tie ≡ noted_by old.tie router ranked → new ≡ record old { tie = new.tie } → Adds P old new router offer outcome
    adds_judged new outcome ranked is judged tie same = record {
      labels = ap (λ (b : Board). b.labels) same;
      waits = ap (λ (b : Board). b.waits.items) same;
      put = subst (Puts old new router) (sym (ap (λ (l : Option Route). better_than l (best_at old.bests.items router) offer) settled))
          (ap (λ (b : Board). b.bests.items) same, ap (λ (b : Board). b.changes.items) same);
      tie = tie ∙ ap (noted_by old.tie router) ranked_is;
      is_outcome = judged ∙ ap outcome_of ranked_is;
    }
      where
        ranked_is : ranked ≡ rank_at P (label old.labels router) offer
        ranked_is = is ∙ ap (λ (l : Option Route). rank_at P l offer) (sym settled)

    -- an offer that is worse than the label changes nothing
    pub beaten_by_label : rank_of offer (fresh_of P r) ≡ rank.Worse → Adds P old old router offer Fine
    beaten_by_label worse = adds_judged old Fine rank.Worse (sym worse) refl refl refl
