-- The line that gives a name, by whether the name passes a test.
use Rattle.std.proofs.Common.{◌≡◌, ℕ, Bool, true, false, cond, List, [], ◌∷◌, Option, Some, None, flat_map, sym, ap, ◌∙◌}
use Rattle.std.specs.List.{list_any, list_all}
use Rattle.cfg_ast.specs.declared.network.Named.{Named}
use Rattle.cfg_ast.specs.declared.network.Router.{Router}
use Rattle.cfg_ast.specs.declared.policy.CommunityList.{CommunityList}
use Rattle.cfg_ast.specs.declared.policy.NameLine.{NameLine}
use Rattle.cfg_ast.specs.declared.policy.Prepend.{Prepend}
use Rattle.cfg_ast.specs.meaning.Topology.{has_number}
use Rattle.cfg_ast.specs.meaning.PolicyFaults.{line_naming, match_line_naming, several_at, several_in, foreign_prepend}
use Rattle.cfg_check.specs.LeastLine.{least_line}
use Rattle.numbered_names.specs.NameSets.{has_name}
use Rattle.numbered_names.specs.declared.sets.NameSet.{NameSet}

-- what a look-up in a set of names found
pub found : (names : NameSet) (q name : List ℕ) (answer b : Bool) → answer ≡ has_name names q → q ≡ name → answer ≡ b → has_name names name ≡ b
found names q name answer b is same given = ap (has_name names) (sym same) ∙ sym is ∙ given

least_when : (b : Bool) (line : ℕ) (wanted : Bool) → wanted ≡ b → least_line (cond wanted (line ∷ []) []) ≡ cond b (Some line) None
least_when true line wanted e = ap (λ v. least_line (cond v (line ∷ []) [])) e
least_when false line wanted e = ap (λ v. least_line (cond v (line ∷ []) [])) e

pub named_line : (test : List ℕ → Bool) (o : Option Named) (named : Named) (b : Bool) → o ≡ Some named → test named.name ≡ b →
    least_line (line_naming test o) ≡ cond b (Some named.line) None
named_line test o named b is passes = ap (λ p. least_line (line_naming test p)) is ∙ least_when b named.line (test named.name) passes

pub named_match_line : (test : List ℕ → Bool) (o : Option NameLine) (line : NameLine) (b : Bool) → o ≡ Some line → list_any test line.names ≡ b →
    least_line (match_line_naming test o) ≡ cond b (Some line.line) None
named_match_line test o line b is passes = ap (λ p. least_line (match_line_naming test p)) is ∙ least_when b line.line (list_any test line.names) passes

least_unless : (b : Bool) (line : ℕ) (fine : Bool) → fine ≡ b → least_line (cond fine [] (line ∷ [])) ≡ cond b None (Some line)
least_unless true line fine e = ap (λ v. least_line (cond v [] (line ∷ []))) e
least_unless false line fine e = ap (λ v. least_line (cond v [] (line ∷ []))) e

pub prepend_line : (router : Router) (o : Option Prepend) (prepend : Prepend) (b : Bool) → o ≡ Some prepend → list_all (has_number router) prepend.numbers ≡ b →
    least_line (foreign_prepend router o) ≡ cond b None (Some prepend.line)
prepend_line router o prepend b is own = ap (λ p. least_line (foreign_prepend router p)) is
    ∙ least_unless b prepend.line (list_all (has_number router) prepend.numbers) own

least_chosen : (b : Bool) (lines : List ℕ) (wanted : Bool) → wanted ≡ b → least_line (cond wanted lines []) ≡ cond b (least_line lines) None
least_chosen true lines wanted e = ap (λ v. least_line (cond v lines [])) e
least_chosen false lines wanted e = ap (λ v. least_line (cond v lines [])) e

pub several_when : (test : List ℕ → Bool) (list : CommunityList) (b : Bool) → test list.name ≡ b →
    least_line (several_in test list) ≡ cond b (least_line (flat_map several_at list.lines)) None
several_when test list b passes = least_chosen b (flat_map several_at list.lines) (test list.name) passes
