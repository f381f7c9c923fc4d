-- The coarsest partition of a problem, its groups numbered by their first members.
use Rattle.std.proofs.Common.{◌≡◌, inl, inr, ℕ, zero, suc, ◌+◌, ◌<◌, ◌≤◌, Bool, true, false, cond, List, map, length, nat_eq, refl, sym, ap, ◌∙◌, subst, arith, zero-add}
use Rattle.std.specs.Prelude.{slice_index_or}
use Rattle.std.specs.List.{range_with_len}
use Rattle.std.proofs.lemmas.Bool.{cases_lt}
use Rattle.std.proofs.lemmas.Bool.Decides.{nat_tests}
use Rattle.std.proofs.lemmas.List.FromFn.{get_or-map-range_with_len, length-map-range_with_len}
use Rattle.base_kit.specs.Partition.{IsNumbered}
use Rattle.base_kit.proofs.Elements.{In, contains_in, in_map, in_range}
use Rattle.srp_core.specs.Problem.{Problem, count, IsProblem}
use Rattle.srp_core.specs.Quotient.{group_of, IsAdmissible, IsCoarsest}
use Rattle.srp_core.proofs.FoldedLabels.{first_member}
use Rattle.quotient_laws.specs.Numbered.{EachHasGroups}

module _ (groups : List ℕ) where
  -- the first member of a router's group
  first : ℕ → ℕ
  first u = (first_member groups u).router

  first_below : (u : ℕ) → first u ≤ u
  unfolding first
  first_below u = (let b = (first_member groups u).below in omega (arith, b))

  of_first : (u : ℕ) → group_of groups (first u) ≡ group_of groups u
  unfolding first
  of_first u = (first_member groups u).of_group

  one_first : (u v : ℕ) → group_of groups u ≡ group_of groups v → first u ≡ first v
  unfolding first
  one_first u v same =
      let a = first_member groups u in
      let b = first_member groups v in
      elim (cases_lt a.router b.router) [
        | inl less ↦ absurd (b.first a.router less (a.of_group ∙ same))
        | inr no_less ↦ elim (cases_lt b.router a.router)
            [ inl less ↦ absurd (a.first b.router less (b.of_group ∙ sym same)) | inr both ↦ omega (arith, no_less, both) ]
      ]

  first_self : (u : ℕ) → first (first u) ≡ first u
  first_self u = one_first (first u) u (of_first u)

  -- how many routers below a number are first in their groups
  rank : ℕ → ℕ
  rank zero = 0
  rank (suc n) = rank n + cond (nat_eq (first n) n) 1 0

  rank_next : (n : ℕ) → first n ≡ n → rank (suc n) ≡ rank n + 1
  unfolding rank
  rank_next n is = (let test : nat_eq (first n) n ≡ true = grind (arith, nat_tests) in ap (λ b. rank n + cond b 1 0) test)

  rank_step : (n : ℕ) → rank n ≤ rank (suc n)
  unfolding rank
  rank_step n = by (nat_eq (first n) n)
    where
      by : (b : Bool) → rank n ≤ rank n + cond b 1 0
      by true = omega arith
      by false = omega arith

  rank_more : (m n : ℕ) → m ≤ n → rank m ≤ rank n
  rank_more m zero le = (let none : m ≡ 0 = omega (arith, le) in subst (λ k. rank k ≤ rank 0) (sym none) (omega arith))
  rank_more m (suc n) le = elim (cases_lt n m) [
    | inl past ↦ (let same : m ≡ suc n = omega (arith, le, past) in subst (λ k. rank k ≤ rank (suc n)) (sym same) (omega arith))
    | inr more ↦ omega (arith, rank_more m n more, rank_step n)
  ]

  -- the router that is first in the group of a rank
  record Ranked (n g : ℕ) : Type 0 where
    router : ℕ
    below : router < n
    is_first : first router ≡ router
    ranked : rank router ≡ g

  ranked_at : (n g : ℕ) → g < rank n → Ranked n g
  unfolding rank
  ranked_at zero g less = absurd (omega (arith, less))
  ranked_at (suc n) g less = elim (cases_lt g (rank n)) [
    | inl before ↦ (let r = ranked_at n g before in let b = r.below in record
        { router = r.router; below = omega (arith, b); is_first = r.is_first; ranked = r.ranked })
    | inr here ↦ by (nat_eq (first n) n) refl less here
  ]
    where
      by : (b : Bool) → nat_eq (first n) n ≡ b → g < rank n + cond b 1 0 → rank n ≤ g → Ranked (suc n) g
      by true test less here = record { router = n; below = omega arith; is_first = grind (arith, nat_tests); ranked = omega (arith, less, here) }
      by false test less here = absurd (omega (arith, less, here))

  -- the groups by rank
  number : ℕ → ℕ
  number u = rank (first u)

  number_of : (u : ℕ) → number u ≡ rank (first u)
  unfolding number
  number_of u = refl

  same_number : (u v : ℕ) → group_of groups u ≡ group_of groups v → number u ≡ number v
  unfolding number
  same_number u v same = ap rank (one_first u v same)

  one_rank : (a b : ℕ) → first a ≡ a → first b ≡ b → rank a ≡ rank b → a ≡ b
  one_rank a b is other same = elim (cases_lt a b) [
    | inl less ↦ absurd (omega (arith, rank_next a is, rank_more (suc a) b less, same))
    | inr no_less ↦ elim (cases_lt b a)
        [ inl less ↦ absurd (omega (arith, rank_next b other, rank_more (suc b) a less, same)) | inr both ↦ omega (arith, no_less, both) ]
  ]

  one_group : (u v : ℕ) → number u ≡ number v → group_of groups u ≡ group_of groups v
  unfolding number
  one_group u v same =
      let one = one_rank (first u) (first v) (first_self u) (first_self v) same in
      sym (of_first u) ∙ ap (group_of groups) one ∙ of_first v

  module _ (n : ℕ) where
    numbers : List ℕ
    numbers = map number (range_with_len 0 n)

    numbers_long : length numbers ≡ n
    unfolding numbers
    numbers_long = length-map-range_with_len number 0 n

    at_number : (u d : ℕ) → u < n → slice_index_or numbers u d ≡ number u
    unfolding numbers
    at_number u d h = get_or-map-range_with_len number 0 n u u d h (omega arith)

    number_in : (u : ℕ) → u < n → In numbers (number u)
    unfolding numbers
    number_in u h = in_map number (range_with_len 0 n) u (subst (In (range_with_len 0 n)) (zero-add u) (in_range 0 n u h))

    number_below : (u : ℕ) → u < n → number u < rank n
    unfolding number
    number_below u h =
        (let more = rank_more (suc (first u)) n (let b = first_below u in omega (arith, b, h)) in omega (arith, more, rank_next (first u) (first_self u)))

    number_ranked : (m g : ℕ) → (r : Ranked m g) → number r.router ≡ g
    unfolding number
    number_ranked m g r = ap rank r.is_first ∙ r.ranked

    numbers_are : IsNumbered numbers (rank n)
    numbers_are = record {
      below = λ u d h. (
          let inside : u < n = omega (arith, h, numbers_long) in
          subst (λ g. g < rank n) (sym (at_number u d inside)) (number_below u inside));
      used = λ g less. (
          let r = ranked_at n g less in
          contains_in numbers g (subst (In numbers) (number_ranked n g r) (number_in r.router r.below)));
      in_order = λ v g h less. (
          let inside : v < n = omega (arith, h, numbers_long) in
          let r = ranked_at (first v) g (subst (λ k. g < k) (at_number v 0 inside ∙ number_of v) less) in
          let before : r.router < v = (let b = r.below in omega (arith, b, first_below v)) in
          (r.router, before, at_number r.router 0 (omega (arith, before, inside)) ∙ number_ranked (first v) g r));
    }

-- ---- a partition that puts the same routers together

module _ (P : Problem) (rules : IsProblem P) (groups others : List ℕ) (long : length others ≡ count P)
    (apart : (u v : ℕ) → u < count P → v < count P → group_of others u ≡ group_of others v → group_of groups u ≡ group_of groups v)
    (together : (u v : ℕ) → u < count P → v < count P → group_of groups u ≡ group_of groups v → group_of others u ≡ group_of others v) where
  admissible_too : IsAdmissible P groups → IsAdmissible P others
  admissible_too adm = record {
    total = long;
    origins = λ u v hu hv same. adm.origins u v hu hv (apart u v hu hv same);
    alone = λ u v hu hv same lone. adm.alone u v hu hv (apart u v hu hv same) lone;
    twins = λ u v edge hu hv same edge_in importer out. (
        let inside = rules.edges.inside edge edge_in in
        let t = adm.twins u v edge hu hv (apart u v hu hv same) edge_in importer (λ e. out (together edge.exporter u inside.exporter_in hu e)) in
        let other = rules.edges.inside t.other t.other_in in
        record {
          other = t.other;
          other_in = t.other_in;
          importer = t.importer;
          exporter = together t.other.exporter edge.exporter other.exporter_in inside.exporter_in t.exporter;
          alike = t.alike;
        });
  }

  coarsest_too : IsCoarsest P groups → IsCoarsest P others
  coarsest_too c = record {
    admissible = admissible_too c.admissible;
    refined = λ finer adm u v hu hv same. together u v hu hv (c.refined finer adm u v hu hv same);
  }

pub each_has_groups : ((problem : Problem) → IsProblem problem → (groups : List ℕ) × IsCoarsest problem groups) → EachHasGroups
each_has_groups coarsest P rules =
    let c = coarsest P rules in
    let n = count P in
    record {
      groups = numbers c.0 n;
      count = rank c.0 n;
      coarsest = coarsest_too P rules c.0 (numbers c.0 n) (numbers_long c.0 n)
          (λ u v hu hv same. one_group c.0 u v (sym (at_number c.0 n u 0 hu) ∙ same ∙ at_number c.0 n v 0 hv))
          (λ u v hu hv same. at_number c.0 n u 0 hu ∙ same_number c.0 u v same ∙ sym (at_number c.0 n v 0 hv)) c.1;
      numbered = numbers_are c.0 n;
    }
