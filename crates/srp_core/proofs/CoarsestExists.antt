-- Each problem has a coarsest admissible partition: the join of all that are admissible.
use Rattle.std.proofs.Common.{◌≡◌, ℕ, zero, suc, ◌<◌, List, [], ◌∷◌, map, length, refl, sym, ap, ◌∙◌, subst, inl, inr, arith, flat_map, zero-add}
use Rattle.std.specs.Prelude.{slice_index}
use Rattle.std.specs.List.{range_with_len}
use Rattle.std.proofs.lemmas.Bool.{cases_lt}
use Rattle.std.proofs.lemmas.List.{length-map}
use Rattle.std.proofs.lemmas.List.FromFn.{get_or-range_with_len, length-range_with_len}
use Rattle.base_kit.specs.Partition.{Refines}
use Rattle.base_kit.proofs.Elements.{In, in_map, in_flat_map, in_range}
use Rattle.srp_core.specs.Problem.{Problem, count, initial, act_of, IsProblem}
use Rattle.srp_core.specs.Quotient.{group_of, IsAdmissible, IsCoarsest}
use Rattle.srp_core.proofs.Decisions.{admissible}
use Rattle.srp_core.proofs.FoldedLabels.{first_member}
use Rattle.srp_core.proofs.JoinExists.{join_exists, at_map}
use Rattle.srp_core.proofs.Joins.{join_admissible}
use Rattle.srp_core.proofs.Steps.{alike_self}

-- the lists of that length of numbers below the limit
lists_of : ℕ → ℕ → List (List ℕ)
lists_of limit zero = [] ∷ []
lists_of limit (suc k) = flat_map (λ x. map (λ xs. x ∷ xs) (lists_of limit k)) (range_with_len 0 limit)

in_lists : (limit k : ℕ) (xs : List ℕ) → length xs ≡ k → ((i : ℕ) → i < k → slice_index xs i < limit) → In (lists_of limit k) xs
unfolding lists_of
in_lists limit zero [] len low = inl refl
in_lists limit zero (x ∷ xs) len low = absurd (omega arith)
in_lists limit (suc k) [] len low = absurd (omega arith)
in_lists limit (suc k) (x ∷ xs) len low =
    in_flat_map (λ y. map (λ ys. y ∷ ys) (lists_of limit k)) (range_with_len 0 limit) x (x ∷ xs)
    (subst (In (range_with_len 0 limit)) (zero-add x) (in_range 0 limit x (low 0 (omega arith))))
    (in_map (λ ys. x ∷ ys) (lists_of limit k) xs (in_lists limit k xs (omega arith) (λ i h. low (suc i) (omega arith))))

module _ (S : Problem) (good : IsProblem S) where
  -- groups by their first members
  first_of : List ℕ → ℕ → ℕ
  first_of groups u = (first_member groups u).router

  by_firsts : List ℕ → List ℕ
  by_firsts groups = map (first_of groups) (range_with_len 0 (count S))

  at_firsts : (groups : List ℕ) (u : ℕ) → u < count S → group_of (by_firsts groups) u ≡ first_of groups u
  unfolding by_firsts
  at_firsts groups u h =
      let len = length-range_with_len 0 (count S) in
      at_map (first_of groups) (range_with_len 0 (count S)) u (omega arith) ∙ ap (first_of groups) (get_or-range_with_len 0 (count S) u 0 h ∙ zero-add u)

  first_same : (groups : List ℕ) (u v : ℕ) → group_of groups u ≡ group_of groups v → first_of groups u ≡ first_of groups v
  unfolding first_of
  first_same groups u v same =
      let a = first_member groups u in
      let b = first_member groups v in
      elim (cases_lt a.router b.router) [
        | inl less ↦ absurd (b.first a.router less (a.of_group ∙ same))
        | inr ge ↦ elim (cases_lt b.router a.router) [ inl less ↦ absurd (a.first b.router less (b.of_group ∙ sym same)) | inr le ↦ omega arith ]
      ]

  same_first : (groups : List ℕ) (u v : ℕ) → first_of groups u ≡ first_of groups v → group_of groups u ≡ group_of groups v
  unfolding first_of
  same_first groups u v same = sym (first_member groups u).of_group ∙ ap (group_of groups) same ∙ (first_member groups v).of_group

  to_firsts : (groups : List ℕ) → Refines (count S) groups (by_firsts groups)
  to_firsts groups u v hu hv same = at_firsts groups u hu ∙ first_same groups u v same ∙ sym (at_firsts groups v hv)

  from_firsts : (groups : List ℕ) → Refines (count S) (by_firsts groups) groups
  from_firsts groups u v hu hv same = same_first groups u v (sym (at_firsts groups u hu) ∙ same ∙ at_firsts groups v hv)

  length_firsts : (groups : List ℕ) → length (by_firsts groups) ≡ count S
  unfolding by_firsts
  length_firsts groups = length-map (range_with_len 0 (count S)) (first_of groups) ∙ length-range_with_len 0 (count S)

  firsts_admissible : (groups : List ℕ) → IsAdmissible S groups → IsAdmissible S (by_firsts groups)
  firsts_admissible groups adm =
      let back = from_firsts groups in
      record {
        total = length_firsts groups;
        origins = λ u v hu hv same. adm.origins u v hu hv (back u v hu hv same);
        alone = λ u v hu hv same lone. adm.alone u v hu hv (back u v hu hv same) lone;
        twins = λ u v edge hu hv same i imp out.
            (let t = adm.twins u v edge hu hv (back u v hu hv same) i imp
            (λ e. out (to_firsts groups edge.exporter u (good.edges.inside edge i).exporter_in hu e)) in
            record {
              other = t.other;
              other_in = t.other_in;
              importer = t.importer;
              exporter =
                  to_firsts groups t.other.exporter edge.exporter (good.edges.inside t.other t.other_in).exporter_in (good.edges.inside edge i).exporter_in
                  t.exporter;
              alike = t.alike;
            });
      }

  first_below : (groups : List ℕ) (u : ℕ) → u < count S → group_of (by_firsts groups) u < count S
  unfolding first_of
  first_below groups u h = let b = (first_member groups u).below in let at = at_firsts groups u h in omega arith

  firsts_listed : (groups : List ℕ) → IsAdmissible S (by_firsts groups) → In (lists_of (count S) (count S)) (by_firsts groups)
  firsts_listed groups adm = in_lists (count S) (count S) (by_firsts groups) adm.total (first_below groups)

  -- every router alone
  apart : List ℕ
  apart = range_with_len 0 (count S)

  at_apart : (u : ℕ) → u < count S → group_of apart u ≡ u
  unfolding apart
  at_apart u h = get_or-range_with_len 0 (count S) u 0 h ∙ zero-add u

  apart_same : (u v : ℕ) → u < count S → v < count S → group_of apart u ≡ group_of apart v → u ≡ v
  apart_same u v hu hv same = sym (at_apart u hu) ∙ same ∙ at_apart v hv

  length_apart : length apart ≡ count S
  unfolding apart
  length_apart = length-range_with_len 0 (count S)

  apart_admissible : IsAdmissible S apart
  apart_admissible = record {
    total = length_apart;
    origins = λ u v hu hv same. ap (initial S) (apart_same u v hu hv same);
    alone = λ u v hu hv same lone. apart_same u v hu hv same;
    twins = λ u v edge hu hv same i imp out. record {
      other = edge;
      other_in = i;
      importer = imp ∙ apart_same u v hu hv same;
      exporter = refl;
      alike =
          alike_self (act_of S edge);
    };
  }

  -- an admissible partition that each admissible one of the list refines
  record Coarser (list : List (List ℕ)) : Type 0 where
    groups : List ℕ
    is_admissible : IsAdmissible S groups
    refined : (others : List ℕ) → In list others → IsAdmissible S others → Refines (count S) others groups

  coarser_with : (p : List ℕ) (list : List (List ℕ)) → Coarser list → IsAdmissible S p → Coarser (p ∷ list)
  coarser_with p list c adm =
      let j = join_exists (count S) p c.groups adm.total in
      record { groups = j.0; is_admissible = join_admissible S good p c.groups j.0 adm c.is_admissible j.1; refined = refined }
    where
      refined : (others : List ℕ) → In (p ∷ list) others → IsAdmissible S others → Refines (count S) others (join_exists (count S) p c.groups adm.total).0
      refined others (inl same) oadm u v hu hv together =
          (join_exists (count S) p c.groups adm.total).1.together (suc zero) u v hu hv
          (v, hv, inl (ap (λ (l : List ℕ). group_of l u) same ∙ together ∙ ap (λ (l : List ℕ). group_of l v) (sym same)), refl)
      refined others (inr i) oadm u v hu hv together =
          (join_exists (count S) p c.groups adm.total).1.together (suc zero) u v hu hv (v, hv, inr (c.refined others i oadm u v hu hv together), refl)

  coarser_without : (p : List ℕ) (list : List (List ℕ)) → Coarser list → ¬ IsAdmissible S p → Coarser (p ∷ list)
  coarser_without p list c never = record { groups = c.groups; is_admissible = c.is_admissible; refined = refined }
    where
      refined : (others : List ℕ) → In (p ∷ list) others → IsAdmissible S others → Refines (count S) others c.groups
      refined others (inl same) oadm = absurd (never (subst (IsAdmissible S) (sym same) oadm))
      refined others (inr i) oadm = c.refined others i oadm

  coarser : (list : List (List ℕ)) → Coarser list
  coarser [] = record { groups = apart; is_admissible = apart_admissible; refined = λ others i. absurd i }
  coarser (p ∷ list) = elim (admissible S good p) [ inl adm ↦ coarser_with p list (coarser list) adm | inr never ↦ coarser_without p list (coarser list) never ]

  pub coarsest_exists : (groups : List ℕ) × IsCoarsest S groups
  coarsest_exists =
      let c = coarser (lists_of (count S) (count S)) in (
        c.groups,
        record {
          admissible = c.is_admissible;
          refined = λ others adm u v hu hv same.
              (let firsts = firsts_admissible others adm in
              c.refined (by_firsts others) (firsts_listed others firsts) firsts u v hu hv (to_firsts others u v hu hv same));
        },
      )
