-- Look-ups among the OSPF lines of a router.
use Rattle.std.proofs.Common.{◌≡◌, ℕ, Bool, true, false, cond, not, List, Some, sym, ap, ◌∙◌}
use Rattle.std.specs.Prelude.{bytes_eq}
use Rattle.std.specs.List.{list_any}
use Rattle.cfg_ast.specs.declared.ospf.OspfProcess.{OspfProcess}
use Rattle.cfg_ast.specs.meaning.Topology.{names, is_passive_in}
use Rattle.cfg_check.specs.AreaLines.{listed_of}
use Rattle.cfg_check.proofs.BlockLemmas.{any_same}
use Rattle.cfg_check.proofs.Seen.{bytes_eq-sym}

-- what a set of the listed names says of an interface
pub passive_by : (process : OspfProcess) (name : List ℕ) (is_default is_listed : Bool) → process.passive_default ≡ is_default →
    is_listed ≡ list_any (bytes_eq name) (listed_of (Some process)) → is_passive_in (Some process) name ≡ cond is_default (not is_listed) is_listed
passive_by process name true is_listed is listed =
    ap (λ b. cond b (not (names process.not_passive name)) (names process.passive name)) is
    ∙ ap not (same_names process.not_passive ∙ ap (λ b. list_any (bytes_eq name) (cond b process.not_passive process.passive)) (sym is) ∙ sym listed)
  where
    same_names : (all : List (List ℕ)) → names all name ≡ list_any (bytes_eq name) all
    same_names all = any_same (λ other. bytes_eq other name) (bytes_eq name) (λ other. bytes_eq-sym other name) all
passive_by process name false is_listed is listed =
    ap (λ b. cond b (not (names process.not_passive name)) (names process.passive name)) is
    ∙ same_names process.passive ∙ ap (λ b. list_any (bytes_eq name) (cond b process.not_passive process.passive)) (sym is) ∙ sym listed
  where
    same_names : (all : List (List ℕ)) → names all name ≡ list_any (bytes_eq name) all
    same_names all = any_same (λ other. bytes_eq other name) (bytes_eq name) (λ other. bytes_eq-sym other name) all
