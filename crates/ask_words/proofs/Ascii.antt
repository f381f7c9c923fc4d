-- The name of a router is ASCII.
use Rattle.std.proofs.Common.{◌≡◌, ℕ, ◌<◌, Bool, true, false, ◌&&◌, List, get_or, arith}
use Rattle.std.specs.List.{list_all}
use Rattle.std.specs.Str.{IsAscii}
use Rattle.std.proofs.lemmas.List.Sums.{AllPass-from_list_all}
use Rattle.std.proofs.lemmas.Bool.Decides.{nat_tests}
use Rattle.std.proofs.lemmas.Str.Ascii.{IsAscii-from_all}
use Rattle.cfg_ast.specs.text.Words.{is_router_name, is_router_byte, is_name_long, begins_with, is_letter_or_digit}

second : (a b : Bool) → (a && b) ≡ true → b ≡ true
second true b e = e
second false b e = absurd cc

small : (b : ℕ) → is_router_byte b ≡ true → b < 128
small b e = grind (arith, nat_tests)

pub router_name_is_ascii : (name : List ℕ) → is_router_name name ≡ true → IsAscii name
unfolding is_router_name
router_name_is_ascii name e =
    let bytes = AllPass-from_list_all is_router_byte name (second (is_name_long name && begins_with is_letter_or_digit name) (list_all is_router_byte name) e)
    in
    IsAscii-from_all name (λ k d lt. small (get_or name k d) (bytes k d lt))
