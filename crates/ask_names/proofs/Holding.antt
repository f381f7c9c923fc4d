-- The class of the longest prefix that holds an address.
use Rattle.std.proofs.Common.{◌≡◌, ℕ, zero, suc, ◌-◌, ◌<◌, List, Option, Some, None, ap, ◌∙◌, arith}
use Rattle.cfg_ast.specs.declared.classes.DestClass.{DestClass}
use Rattle.cfg_ast.specs.text.Words.{cut_to}
use Rattle.ask_names.specs.Selection.{place_having, or_place, place_holding}

pub held_here : (all : List DestClass) (len addr place : ℕ) → place_having all (cut_to len addr) ≡ Some place → place_holding all len addr ≡ Some place
unfolding place_holding
held_here all zero addr place e = e
held_here all (suc len) addr place e = ap (λ (o : Option ℕ). or_place o (place_holding all len addr)) e

pub held_nowhere : (all : List DestClass) (len addr : ℕ) → len ≡ 0 → place_having all (cut_to len addr) ≡ None → place_holding all len addr ≡ None
unfolding place_holding
held_nowhere all zero addr none e = e
held_nowhere all (suc len) addr none e = absurd (omega arith)

pub held_shorter : (all : List DestClass) (len addr : ℕ) → 0 < len → place_having all (cut_to len addr) ≡ None →
    place_holding all len addr ≡ place_holding all (len - 1) addr
unfolding place_holding
held_shorter all zero addr some e = absurd (omega arith)
held_shorter all (suc len) addr some e =
    let less : len ≡ suc len - 1 = omega arith in
    ap (λ (o : Option ℕ). or_place o (place_holding all len addr)) e ∙ ap (λ n. place_holding all n addr) less
