-- Texts that are looked up by a number.
use Rattle.std.proofs.Common.{◌≡◌, ℕ, ◌-◌, ◌/◌, ◌%◌, ◌^◌, ◌<◌, ◌≤◌, List, [], length, get_or, map, sym, ap, ◌∙◌, arith, Bor, length-append}
use Rattle.std.proofs.lemmas.List.{get_or-map, length-map}
use Rattle.std.proofs.lemmas.List.FromFn.{get_or-map-range_with_len, length-map-range_with_len}
use Rattle.std.specs.List.{range_with_len}
use Rattle.std.specs.Fmt.{decimal}
use Rattle.std.proofs.lemmas.Nat.{pow_pos}
use Rattle.std.proofs.lemmas.Fmt.{length-decimal-le}
use Rattle.cfg_ast.specs.text.Words.{mask_of}
use Rattle.cfg_ast.specs.printing.Printed.{address_text}

-- a text of a table whose texts are those of a definition, in order
pub text_at : (text : ℕ → List ℕ) (table : List (Bor (List ℕ))) (count place : ℕ) (d : Bor (List ℕ)) →
    map (λ (t : Bor (List ℕ)). t.now) table ≡ map text (range_with_len 0 count) → place < count → (get_or table place d).now ≡ text place
text_at text table count place d is lt =
    let long : length table ≡ count = sym (length-map table (λ (t : Bor (List ℕ)). t.now)) ∙ ap length is ∙ length-map-range_with_len text 0 count in
    sym (get_or-map (λ (t : Bor (List ℕ)). t.now) table place d [] (omega arith)) ∙ ap (λ (ts : List (List ℕ)). get_or ts place []) is
    ∙ get_or-map-range_with_len text 0 count place place [] lt (omega arith)

pub short : (n : ℕ) → n < 256 → length (decimal n) ≤ 3
short n small = length-decimal-le 3 n (omega arith) (omega arith) (omega arith)

pub short_address : (addr : ℕ) → addr < 2 ^ 32 → length (address_text addr) ≤ 15
unfolding address_text
short_address addr small =
    let a = short (addr / 16777216) (omega arith) in
    let b = short (addr / 65536 % 256) (omega arith) in
    let c = short (addr / 256 % 256) (omega arith) in
    let d = short (addr % 256) (omega arith) in
    omega (arith, length-append {A = ℕ})

pub mask_fits : (len : ℕ) → mask_of len < 2 ^ 32
mask_fits len = let some = pow_pos (32 - len) in omega arith
