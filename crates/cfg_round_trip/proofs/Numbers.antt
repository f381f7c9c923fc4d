-- The network of some lines does not depend on their numbers.
use Rattle.std.proofs.Common.{◌≡◌, ℕ, ◌-◌, Bool, true, false, ◌&&◌, List, length, map, Option, Some, None, Result, Ok, Err, refl, sym, ap, ◌∙◌}
use Rattle.std.specs.Prelude.{◌==◌, slice_get, if◌then◌else◌}
use Rattle.std.specs.Option.{option_map}
use Rattle.std.proofs.lemmas.List.{length-map}
use Rattle.std.proofs.lemmas.Option.{slice_get-map}
use Rattle.cfg_ast.specs.declared.network.Network.{Network}
use Rattle.cfg_ast.specs.declared.refusal.ReadRefusal.{ReadRefusal}
use Rattle.cfg_ast.specs.declared.refusal.ReadRefusal.TheVariants as refusal
use Rattle.cfg_ast.specs.declared.refusal.Kind.TheVariants as kind
use Rattle.cfg_ast.specs.text.TextLines.{TextLine}
use Rattle.cfg_ast.specs.text.Reading.{at_start, is_end, end_at, ending, network_of_lines}
use Rattle.cfg_ast.specs.printing.Bare.{bare, bare_line}
use Rattle.cfg_round_trip.specs.Laws.{NumbersAreAside}
use Rattle.cfg_round_trip.proofs.Bare.{bare_state, on_result, then_same}
use Rattle.cfg_round_trip.proofs.BareSteps.{steps_same}

abbrev itself : Unit {0} → Unit {0}
itself x = x

end_same : (o : Option TextLine) → end_at (option_map bare_line o) ≡ on_result itself (end_at o)
end_same None = refl
end_same (Some l) = by (l.indent == 0 && is_end l.words)
  where
    by : (b : Bool) → ◌≡◌ {A = Result (Unit {0}) ReadRefusal} (if b then Ok tt else Err (refusal.At 0 kind.NoEnd))
        (on_result itself (if b then Ok tt else Err (refusal.At l.number kind.NoEnd)))
    by true = refl
    by false = refl

ending_same : (ls : List TextLine) → ending (map bare_line ls) ≡ on_result itself (ending ls)
unfolding ending
ending_same ls =
    ap (λ (n : ℕ). end_at (slice_get (map bare_line ls) (n - 1))) (length-map ls bare_line)
    ∙ ap end_at (slice_get-map bare_line ls (length ls - 1))
    ∙ end_same (slice_get ls (length ls - 1))

pub network_same : (ls : List TextLine) → network_of_lines (map bare_line ls) ≡ on_result bare (network_of_lines ls)
unfolding network_of_lines
network_same ls = then_same bare_state bare _ _ _ _ (steps_same ls at_start) (λ s. then_same itself bare _ _ _ _ (ending_same ls) (λ x. refl))

-- a network that is given except for line numbers
given_bare : (r : Result Network ReadRefusal) (b : Network) → on_result bare r ≡ Ok b → (m : Network) × (r ≡ Ok m) × (bare m ≡ b)
given_bare (Ok m) b e = (m, refl, let same : bare m ≡ b = cc in same)
given_bare (Err fault) b e = absurd cc

pub numbers_are_aside : NumbersAreAside
numbers_are_aside ls ms same n e =
    given_bare (network_of_lines ms) (bare n) (sym (network_same ms) ∙ ap network_of_lines (sym same) ∙ network_same ls ∙ ap (on_result bare) e)
