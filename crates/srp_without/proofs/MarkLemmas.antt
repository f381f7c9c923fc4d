-- Marks of routers.
use Rattle.std.proofs.Common.{◌≡◌, ℕ, zero, suc, ◌<◌, Bool, true, false, List, [], ◌∷◌, length, map, refl, sym, ap, ◌∙◌, subst, arith}
use Rattle.std.specs.Prelude.{All, Contains, slice_index_or}
use Rattle.std.specs.List.{list_any}
use Rattle.base_kit.specs.declared.act_graph.Edge.{Edge}
use Rattle.srp_core.specs.Problem.{Problem, count, IsProblem}
use Rattle.srp_without.specs.declared.accepted.Accepted.{Accepted}
use Rattle.srp_without.specs.declared.accepted.Accepted.TheVariants.{Nothing, One, Several}
use Rattle.srp_without.specs.Accepting.{is_several, EdgesAccept, HasTwo, IsAll, AreOfActs, AreMet, Serves, none_lone, known, AreMarksOf}
use Rattle.srp_without.proofs.Kept.{two_are_marked}

-- no mark is set
pub unmarked : (marks : List Bool) → list_any (λ mark. mark) marks ≡ false → (u : ℕ) → slice_index_or marks u false ≡ false
unmarked [] none u = refl
unmarked (true ∷ marks) none u = absurd cc
unmarked (false ∷ marks) none zero = refl
unmarked (false ∷ marks) none (suc u) = unmarked marks none u

-- some mark is set
pub marked_somewhere : (marks : List Bool) → list_any (λ mark. mark) marks ≡ true → (u : ℕ) × (u < length marks) × (slice_index_or marks u false ≡ true)
marked_somewhere [] some = absurd cc
marked_somewhere (true ∷ marks) some = (zero, omega arith, refl)
marked_somewhere (false ∷ marks) some = let r = marked_somewhere marks some in let inside = r.1 in (suc r.0, omega arith, r.2)

-- where a router is lone it is known what the acts accept
pub known_where_lone : (problem : Problem) (accepted : List Accepted) → IsProblem problem → Serves problem accepted →
    list_any (λ mark. mark) problem.lone ≡ true → AreOfActs problem.acts accepted
known_where_lone problem accepted rules (none_lone none) some =
    let r = marked_somewhere problem.lone some in
    let inside = r.1 in
    let total = rules.tables.lone in
    let unset = none r.0 (omega arith) in
    let marked = r.2 in
    absurd cc
known_where_lone problem accepted rules (known of_acts) some = of_acts

-- where none was lone none accepts two preferences
pub no_marks : (problem : Problem) → IsProblem problem → (routers links : List Bool) (edges : List Edge) →
    ((edge : Edge) → Contains edges edge → Contains problem.edges edge) → list_any (λ mark. mark) problem.lone ≡ false → AreMarksOf problem edges problem.lone
no_marks problem rules routers links edges inside none = record {
  total = rules.tables.lone;
  only = λ u lt e. let unset = unmarked problem.lone none u in absurd cc;
  all = λ u lt two. two_are_marked problem rules routers links edges inside u lt two;
}

at_map : (met : List Accepted) (u : ℕ) → slice_index_or (map is_several met) u false ≡ is_several (slice_index_or met u Nothing)
at_map [] u = refl
at_map (accepted ∷ met) zero = refl
at_map (accepted ∷ met) (suc u) = at_map met u

length_map : (met : List Accepted) → length (map is_several met) ≡ length met
length_map [] = refl
length_map (accepted ∷ met) = ap suc (length_map met)

several_two : (accepts : ℕ → Type 0) (accepted : Accepted) → IsAll accepts accepted → is_several accepted ≡ true → HasTwo accepts
several_two accepts Nothing all e = absurd cc
several_two accepts (One preference) all e = absurd cc
several_two accepts Several all e = all

two_several : (accepts : ℕ → Type 0) (accepted : Accepted) → IsAll accepts accepted → HasTwo accepts → is_several accepted ≡ true
two_several accepts Nothing all two = absurd (all two.first two.first_accepted)
two_several accepts (One preference) all two =
    absurd (two.differ (all.only two.first two.first_accepted ∙ sym (all.only two.second two.second_accepted)))
two_several accepts Several all two = refl

pub marks_met : (problem : Problem) (edges : List Edge) (met : List Accepted) → AreMet problem.acts (count problem) edges met →
    AreMarksOf problem edges (map is_several met)
marks_met problem edges met are = record {
  total = length_map met ∙ are.total;
  only = λ u lt e. several_two (EdgesAccept problem.acts edges u) (slice_index_or met u Nothing) (are.each u lt) (sym (at_map met u) ∙ e);
  all = λ u lt two. at_map met u ∙ two_several (EdgesAccept problem.acts edges u) (slice_index_or met u Nothing) (are.each u lt) two;
}

-- ---- edges of the problem

pub contains_at : {X : Type 0} (xs : List X) (k : ℕ) (d : X) → k < length xs → Contains xs (slice_index_or xs k d)
contains_at xs k d lt = (k, lt, same xs k d (slice_index_or xs k d) lt)
  where
    same : {X : Type 0} (xs : List X) (k : ℕ) (d e : X) → k < length xs → slice_index_or xs k e ≡ slice_index_or xs k d
    same [] k d e lt = absurd (omega arith)
    same (x ∷ xs) zero d e lt = refl
    same (x ∷ xs) (suc k) d e lt = same xs k d e (omega arith)

pub importers_inside : (problem : Problem) → IsProblem problem → (edges : List Edge) → ((edge : Edge) → Contains edges edge → Contains problem.edges edge) →
    (routers : ℕ) → routers ≡ count problem → All (λ (edge : Edge). edge.importer < routers) edges
importers_inside problem rules edges inside routers same = λ k d lt.
    subst (λ n. (slice_index_or edges k d).importer < n) (sym same)
    (rules.edges.inside (slice_index_or edges k d) (inside (slice_index_or edges k d) (contains_at edges k d lt))).importer_in

pub acts_inside : (problem : Problem) → IsProblem problem → (edges : List Edge) → ((edge : Edge) → Contains edges edge → Contains problem.edges edge) →
    (accepted : List Accepted) → AreOfActs problem.acts accepted → All (λ (edge : Edge). edge.act < length accepted) edges
acts_inside problem rules edges inside accepted are = λ k d lt.
    subst (λ n. (slice_index_or edges k d).act < n) (sym are.total)
    (rules.edges.inside (slice_index_or edges k d) (inside (slice_index_or edges k d) (contains_at edges k d lt))).act_in
