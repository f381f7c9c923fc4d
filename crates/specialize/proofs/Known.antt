-- Answers of prefix lists that are known by the places of the lists.
use Rattle.std.proofs.Common.{◌≡◌, ℕ, Bool, true, false, cond, [], Some, None, refl, sym, ◌∙◌, ap}
use Rattle.std.specs.Prelude.{nat_eq}
use Rattle.std.specs.HashMap.{get}
use Rattle.std.specs.Map.{lookup}
use Rattle.base_kit.specs.Prefixes.{Prefix}
use Rattle.cfg_ast.specs.declared.network.Router.{Router}
use Rattle.numbered_names.proofs.Firsts.{number_is}
use Rattle.specialize.specs.Answers.{KnownAnswers, AreAnswers, list_answer_at}

pub none_known : (router : Router) (p : Prefix) (known : KnownAnswers) → known.entries ≡ [] → AreAnswers router p known
none_known router p known none = record {
  each = λ place answer is. absurd (let no : get nat_eq known place ≡ None = ap (λ entries. lookup (nat_eq place) entries) none in cc);
}

pub one_known : (router : Router) (p : Prefix) (old new : KnownAnswers) (place : ℕ) (answer : Bool) → answer ≡ list_answer_at router p place
    → ((other : ℕ) → get nat_eq new other ≡ cond (nat_eq place other) (Some answer) (get nat_eq old other)) →
    AreAnswers router p old → AreAnswers router p new
one_known router p old new place answer right put are = record {
  each = λ other found is. step other found (nat_eq place other) refl (sym (put other) ∙ is);
} where
  step : (other : ℕ) (found b : Bool) → nat_eq place other ≡ b → cond b (Some answer) (get nat_eq old other) ≡ Some found →
      found ≡ list_answer_at router p other
  step other found true e is =
      let same : answer ≡ found = cc in
      sym same ∙ right ∙ ap (λ (k : ℕ). list_answer_at router p k) (number_is place other e)
  step other found false e is = are.each other found is
