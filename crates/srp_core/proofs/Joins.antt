-- The join of two admissible partitions is admissible.
use Rattle.std.proofs.Common.{◌≡◌, ◌≢◌, ℕ, zero, suc, ◌<◌, true, List, refl, sym, ap, ◌∙◌, subst, inl, inr}
use Rattle.std.specs.Prelude.{Contains}
use Rattle.base_kit.specs.declared.act_graph.Edge.{Edge}
use Rattle.srp_core.specs.Problem.{Problem, count, initial, is_lone, act_of, IsProblem}
use Rattle.srp_core.specs.Quotient.{group_of, Twin, IsAdmissible, AreTogetherInOne, AreLinked, IsJoin}
use Rattle.srp_core.proofs.Steps.{alike_self}
use Rattle.srp_core.proofs.GroupMatching.{alike_trans}

module _ (S : Problem) (good : IsProblem S) (first second joined : List ℕ) (a : IsAdmissible S first) (b : IsAdmissible S second)
    (join : IsJoin (count S) first second joined) where
  start_step : (u w : ℕ) → u < count S → w < count S → AreTogetherInOne first second u w → initial S u ≡ initial S w
  start_step u w hu hw (inl same) = a.origins u w hu hw same
  start_step u w hu hw (inr same) = b.origins u w hu hw same

  same_start : (steps u v : ℕ) → u < count S → v < count S → AreLinked (count S) first second steps u v → initial S u ≡ initial S v
  same_start zero u v hu hv e = ap (initial S) e
  same_start (suc steps) u v hu hv (w, hw, step, rest) = start_step u w hu hw step ∙ same_start steps w v hw hv rest

  lone_step : (u w : ℕ) → u < count S → w < count S → is_lone S u ≡ true → AreTogetherInOne first second u w → u ≡ w
  lone_step u w hu hw l (inl same) = a.alone u w hu hw same l
  lone_step u w hu hw l (inr same) = b.alone u w hu hw same l

  lone_same : (steps u v : ℕ) → u < count S → v < count S → is_lone S u ≡ true → AreLinked (count S) first second steps u v → u ≡ v
  lone_same zero u v hu hv l e = e
  lone_same (suc steps) u v hu hv l (w, hw, step, rest) =
      let same = lone_step u w hu hw l step in
      same ∙ lone_same steps w v hw hv (subst (λ x. is_lone S x ≡ true) same l) rest

  one_step : (u w : ℕ) → u < count S → w < count S → AreTogetherInOne first second u w → group_of joined u ≡ group_of joined w
  one_step u w hu hw step = join.together (suc zero) u w hu hw (w, hw, step, refl)

  -- a twin by one of the two partitions is one by their join
  twin_step : (u w : ℕ) (edge : Edge) → u < count S → w < count S → AreTogetherInOne first second u w → Contains S.edges edge → edge.importer ≡ u →
      group_of joined edge.exporter ≢ group_of joined u → Twin S joined w edge
  twin_step u w edge hu hw (inl same) i imp out =
      let x = (good.edges.inside edge i).exporter_in in
      let t = a.twins u w edge hu hw same i imp (λ e. out (one_step edge.exporter u x hu (inl e))) in
      let y = (good.edges.inside t.other t.other_in).exporter_in in
      record {
        other = t.other;
        other_in = t.other_in;
        importer = t.importer;
        exporter = one_step t.other.exporter edge.exporter y x (inl t.exporter);
        alike =
            t.alike;
      }
  twin_step u w edge hu hw (inr same) i imp out =
      let x = (good.edges.inside edge i).exporter_in in
      let t = b.twins u w edge hu hw same i imp (λ e. out (one_step edge.exporter u x hu (inr e))) in
      let y = (good.edges.inside t.other t.other_in).exporter_in in
      record {
        other = t.other;
        other_in = t.other_in;
        importer = t.importer;
        exporter = one_step t.other.exporter edge.exporter y x (inr t.exporter);
        alike =
            t.alike;
      }

  twin_along : (steps u v : ℕ) (edge : Edge) → u < count S → v < count S → AreLinked (count S) first second steps u v → Contains S.edges edge →
      edge.importer ≡ u → group_of joined edge.exporter ≢ group_of joined u → Twin S joined v edge
  twin_along zero u v edge hu hv e i imp out = record { other = edge; other_in = i; importer = imp ∙ e; exporter = refl; alike = alike_self (act_of S edge) }
  twin_along (suc steps) u v edge hu hv (w, hw, step, rest) i imp out =
      let t = twin_step u w edge hu hw step i imp out in
      let s = twin_along steps w v t.other hw hv rest t.other_in t.importer (λ e. out (sym t.exporter ∙ e ∙ sym (one_step u w hu hw step))) in
      record {
        other = s.other;
        other_in = s.other_in;
        importer = s.importer;
        exporter = s.exporter ∙ t.exporter;
        alike =
            alike_trans (act_of S edge) (act_of S t.other) (act_of S s.other) t.alike s.alike;
      }

  pub join_admissible : IsAdmissible S joined
  join_admissible = record {
    total = join.total;
    origins = λ u v hu hv same. (let k = join.linked u v hu hv same in same_start k.0 u v hu hv k.1);
    alone = λ u v hu hv same l. (let k = join.linked u v hu hv same in lone_same k.0 u v hu hv l k.1);
    twins = λ u v edge hu hv same i imp out. (let k = join.linked u v hu hv same in twin_along k.0 u v edge hu hv k.1 i imp out);
  }
