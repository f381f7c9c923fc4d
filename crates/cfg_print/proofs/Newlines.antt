-- How many lines a text has at most. Public: `print` cites this.
use Rattle.std.proofs.Common.{◌≡◌, ℕ, ◌≤◌, List, length, false, arith}
use Rattle.std.specs.Prelude.{nat_lt, ◌==◌}
use Rattle.std.proofs.lemmas.Bool.Decides.{nat_tests}
use Rattle.std.proofs.lemmas.List.Sums.{length-filter, count_by-le-length}
use Rattle.cfg_print.specs.Prints.{count_newlines}

pub few_lines : (bs : List ℕ) → length bs ≤ 1000000 → nat_lt 1000000 (count_newlines bs) ≡ false
few_lines bs few =
    let all = length-filter (λ (b : ℕ). b == 10) bs in
    let most = count_by-le-length (λ (b : ℕ). b == 10) bs in
    let less : count_newlines bs ≤ 1000000 = omega arith in
    grind (arith, nat_tests)
