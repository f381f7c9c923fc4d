-- The order of prefixes.
use Rattle.std.proofs.Common.{◌≡◌, arith}
use Rattle.std.specs.Ordering.{is_eq, is_lt}
use Rattle.std.proofs.lemmas.Bool.Decides.{nat_tests}
use Rattle.base_kit.specs.Prefixes.{Prefix, same_prefix}
use Rattle.cfg_ast.specs.meaning.Classes.{is_before}
use Rattle.dest_classes.specs.Routes.{prefix_cmp}

pub is_eq-prefix_cmp : (p q : Prefix) → is_eq (prefix_cmp p q) ≡ same_prefix p q
is_eq-prefix_cmp p q = grind (arith, nat_tests)

pub is_lt-prefix_cmp : (p q : Prefix) → is_lt (prefix_cmp p q) ≡ is_before p q
is_lt-prefix_cmp p q = grind (arith, nat_tests)
