-- Routers by the sizes of their labels.
use Rattle.std.proofs.Common.{◌≡◌, ℕ, ◌+◌, ◌<◌, ◌≤◌, ◌^◌, List, [], ◌∷◌, ◌++◌, length, length-append, get_or, Option, Some, None, sym, ap, ◌∙◌, subst, arith, inl, inr}
use Rattle.std.specs.Prelude.{Contains, option_map}
use Rattle.std.specs.List.{cons_option}
use Rattle.std.specs.List.Sorted.{IsPermutation, IsNonDecreasingBy}
use Rattle.std.proofs.lemmas.Bool.{cases_lt}
use Rattle.std.proofs.lemmas.List.{get_or_default}
use Rattle.std.proofs.lemmas.List.Elements.{Contains-append_left, Contains-append_right, Contains-append_cases}
use Rattle.std.proofs.lemmas.List.Sorted.{Contains-permutation, IsPermutation-sym, length_permutation}
use Rattle.srp_core.specs.declared.route.Route.{Route}
use Rattle.srp_core.specs.Routes.{size_of}
use Rattle.srp_core.specs.Stability.{label}
use Rattle.srp_core.proofs.Offers.{label_in}
use Rattle.srp_questions.specs.declared.order.Rank.{Rank}
use Rattle.srp_questions.specs.Walks.{rank, rank_size, AreRanks, AreOrderedRanks}

-- the first so many routers, if they have a label
pub record AreRanksUpto (labels : List (Option Route)) (k : ℕ) (ranks : List Rank) : Type 0 where
  pub few : length ranks ≤ k
  pub each : (found : Rank) → Contains ranks found → (route : Route) × (label labels found.router ≡ Some route) × (found.size ≡ size_of route)
  pub all : (router : ℕ) (route : Route) → router < k → label labels router ≡ Some route → Contains ranks (rank router route)

one_in : (found other : Rank) → Contains (found ∷ []) other → found ≡ other
one_in found other c = let l = c.1 in let zero_is : c.0 ≡ 0 = omega (arith, l) in ap (λ (k : ℕ). get_or (found ∷ []) k other) (sym zero_is) ∙ c.2

module _ (labels : List (Option Route)) (k : ℕ) (ranks : List Rank) (upto : AreRanksUpto labels k ranks) where
  with_more : (o : Option Route) → label labels k ≡ o → AreRanksUpto labels (k + 1) (ranks ++ cons_option (option_map (rank k) o) [])
  with_more None none = record {
    few = (let nothing : List Rank = [] in let l = length-append ranks nothing in let f = upto.few in omega (arith, l, f));
    each = λ found c. elim (Contains-append_cases ranks [] found c)
        [ inl before ↦ upto.each found before | inr never ↦ absurd (let l = never.1 in omega arith) ];
    all = λ router route less e. elim (cases_lt router k) [
      | inl before ↦ Contains-append_left ranks [] (rank router route) (upto.all router route before e)
      | inr le ↦ absurd (let last : k ≡ router = omega arith in let f : label labels router ≡ None = ap (label labels) (sym last) ∙ none in cc)
    ];
  }
  with_more (Some r) some = record {
    few = (let l = length-append ranks (rank k r ∷ []) in let f = upto.few in omega (arith, l, f));
    each = λ found c. elim (Contains-append_cases ranks (rank k r ∷ []) found c) [
      | inl before ↦ upto.each found before
      | inr new ↦
          let same = one_in (rank k r) found new in (
            r,
            ap (label labels) (sym (ap (λ (x : Rank). x.router) same)) ∙ some,
            sym (ap rank_size same),
          )
    ];
    all = λ router route less e. elim (cases_lt router k) [
      | inl before ↦ Contains-append_left ranks (rank k r ∷ []) (rank router route) (upto.all router route before e)
      | inr le ↦
          let last : k ≡ router = omega arith in
          let is : r ≡ route = (let f : label labels router ≡ Some r = ap (label labels) (sym last) ∙ some in cc) in
          let same : rank k r ≡ rank router route = ap (λ (n : ℕ). rank n r) last ∙ ap (rank router) is in
          Contains-append_right ranks (rank k r ∷ []) (rank router route) (0, omega arith, same)
    ];
  }

  pub ranks_more : (read : Option Route) (more : List Rank) → k < length labels → read ≡ get_or labels k read →
      more ≡ ranks ++ cons_option (option_map (rank k) read) [] → AreRanksUpto labels (k + 1) more
  ranks_more read more inside is are =
      let held : label labels k ≡ read = get_or_default labels k None read inside ∙ sym is in
      subst (AreRanksUpto labels (k + 1)) (sym are) (with_more read held)

pub all_ranks : (labels : List (Option Route)) (k : ℕ) (ranks : List Rank) → length labels ≤ k → k < 2 ^ 32 → AreRanksUpto labels k ranks →
    AreRanks labels ranks
all_ranks labels k ranks over few upto = record {
  few = (let f = upto.few in omega arith);
  each = upto.each;
  all = λ router route e. upto.all router route (let i = label_in labels router route e in omega arith) e;
}

pub sorted_ranks : (labels : List (Option Route)) (ranks sorted : List Rank) → AreRanks labels ranks → IsPermutation ranks sorted →
    IsNonDecreasingBy rank_size sorted → AreOrderedRanks labels sorted
sorted_ranks labels ranks sorted are same rising = record {
  ranks = record {
    few = (let f = are.few in let l = length_permutation ranks sorted same in omega (arith, f, l));
    each = λ found c. are.each found (Contains-permutation sorted ranks found (IsPermutation-sym ranks sorted same) c);
    all = λ router route e. Contains-permutation ranks sorted (rank router route) same (are.all router route e);
  };
  rising = rising;
}
