-- The board before any router is settled.
use Rattle.std.proofs.Common.{◌≡◌, ℕ, ◌<◌, All, List, [], ◌∷◌, length, map, replicate, Option, Some, None, refl, sym, ap, ◌∙◌, subst, arith}
use Rattle.std.proofs.lemmas.List.{length-replicate}
use Rattle.srp_core.specs.declared.route.Route.{Route}
use Rattle.srp_core.specs.Problem.{Problem, count, initial, key_of}
use Rattle.srp_core.specs.Stability.{label, IsCandidate, of_init, of_edge}
use Rattle.srp_core.proofs.Filling.{nothing}
use Rattle.srp_core.proofs.KeyOrder.{irreflexive}
use Rattle.solution_search.specs.declared.bests.Best.{Best}
use Rattle.solution_search.specs.declared.board.Board.{Board}
use Rattle.solution_search.specs.Bests.{IsBestOf, KnowsBest}
use Rattle.solution_search.specs.Boards.{State, state_of, case_of, best_at, is_tied, pending, pending_of, pending_cases, cases_of, IsWithin, IsTieWithin, IsState, IsBoard}
use Rattle.solution_search.specs.Cases.{Case, start_of}
use Rattle.solution_search.specs.Offers.{OffersRoute}

-- with no labels a router has its initial route as its one candidate
first_candidate : (P : Problem) (L : List (Option Route)) (u : ℕ) (c : Route) → L ≡ replicate (count P) None → IsCandidate P L u c → initial P u ≡ Some c
first_candidate P L u c none (of_init e) = e
first_candidate P L u c none (of_edge e i imp over) =
    absurd (nothing P e.exporter over.from (subst (λ (l : List (Option Route)). label l e.exporter ≡ Some over.from) none over.labelled))

first_known : (P : Problem) (L : List (Option Route)) (u : ℕ) (o : Option Route) (known : Option Best) → initial P u ≡ o → L ≡ replicate (count P) None →
    OffersRoute P o known → KnowsBest P (IsCandidate P L u) known
first_known P L u None None e none h = record {
  none = λ k c cand. (let i = first_candidate P L u c none cand in cc);
  some = λ best k. absurd (cc);
}
first_known P L u None (Some best) e none h = absurd h
first_known P L u (Some route) None e none h = absurd h
first_known P L u (Some route) (Some offer) e none h = record {
  none = λ k. absurd (cc);
  some = λ best k. (let same : offer ≡ best = cc in subst (IsBestOf P (IsCandidate P L u)) same only);
}
  where
    is_it : (c : Route) → IsCandidate P L u c → key_of P c ≡ key_of P offer.route
    is_it c cand =
        let i = first_candidate P L u c none cand in
        let r : route ≡ c = cc in ap (key_of P) (sym r ∙ sym h.same)

    only : IsBestOf P (IsCandidate P L u) offer
    only = record {
      held = subst (IsCandidate P L u) (sym h.same) (of_init e);
      lone = h.fresh.lone;
      unbeaten = λ c cand. irreflexive (key_of P c) (key_of P offer.route) (is_it c cand);
      same = λ never c cand equal. is_it c cand;
    }

module _ (P : Problem) (board : Board) (labels : board.labels ≡ replicate (count P) None) (waits : board.waits.items ≡ replicate (count P) None)
    (total : length board.bests.items ≡ count P) (each : (u : ℕ) → u < count P → OffersRoute P (initial P u) (best_at board.bests.items u))
    (changes : board.changes.items ≡ []) (tie : board.tie ≡ None) where
  no_label : (u : ℕ) (r : Route) → label board.labels u ≡ Some r → ⊥
  no_label u r e = nothing P u r (subst (λ (l : List (Option Route)). label l u ≡ Some r) labels e)

  label_count : length board.labels ≡ count P
  label_count = ap (λ (l : List (Option Route)). length l) labels ∙ length-replicate (count P) None

  waits_count : length board.waits.items ≡ count P
  waits_count = ap (λ (l : List (Option ℕ)). length l) waits ∙ length-replicate (count P) None

  start_known : IsState P (is_tied board) (state_of board)
  start_known = record {
    knows = record {
      fitting = record { total = label_count; routes = λ u r e. absurd (no_label u r e) };
      waits = waits_count;
      bests = total;
      unsettled = λ u inside e. first_known P board.labels u (initial P u) (best_at board.bests.items u) refl labels (each u inside);
      settled = λ u r e. absurd (no_label u r e);
    };
  }

  none_pending : pending_of board ≡ []
  none_pending = ap (λ l. pending l (state_of board)) changes

  pub start_board : IsBoard P board
  start_board = record {
    fits = record {
      labels = label_count;
      waits = waits_count;
      bests = total;
      changes = subst (λ l. All (IsWithin (count P)) l) (sym changes)
          (λ k d less. absurd (omega arith));
      tie = subst (IsTieWithin (count P)) (sym tie) tt;
    };
    state = start_known;
    pending = subst (λ (l : List State). All (IsState P (is_tied board)) l) (sym none_pending)
        (λ k d less. absurd (omega arith));
  }

  pub start_cases : cases_of board ≡ start_of P ∷ []
  start_cases =
      let whole : record { labels = board.labels; waits = board.waits.items } ≡ start_of P = λ i. record { labels = labels i; waits = waits i } in
      ap (λ (c : Case). c ∷ pending_cases board) whole
      ∙ ap (λ (l : List State). start_of P ∷ map case_of l) none_pending
