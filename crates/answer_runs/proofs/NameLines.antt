-- The names of the routers of a schedule, one activation after the other.
use Rattle.std.proofs.Common.{◌≡◌, ◌++◌, ◌∷◌, [], ◌+◌, ◌<◌, ℕ, List, length, take, get_or, sym, ap, ◌∙◌, append-nil}
use Rattle.std.specs.Prelude.{codes, slice_index_or}
use Rattle.std.proofs.lemmas.List.{take_more}
use Rattle.std.proofs.lemmas.List.Concat.{flat_map-append}
use Rattle.srp_core.specs.Problem.{Problem}
use Rattle.route_run.specs.declared.schedule.Activation.{Activation}
use Rattle.route_run.specs.Schedules.{routers_of, run_of}
use Rattle.answer_runs.specs.Reaches.{name_lines}

run_more : (n : ℕ) (schedule : List Activation) (i : ℕ) (a : Activation) → i < length schedule → a ≡ get_or schedule i a
    → run_of n (take (i + 1) schedule) ≡ run_of n (take i schedule) ++ routers_of n a
run_more n schedule i a less is =
    ap (run_of n) (take_more schedule i a less ∙ ap (λ (x : Activation). take i schedule ++ x ∷ []) (sym is))
    ∙ flat_map-append (routers_of n) (take i schedule) (a ∷ [])
    ∙ ap (λ (xs : List ℕ). run_of n (take i schedule) ++ xs) (append-nil (routers_of n a))

-- one activation more
pub lines_more : (P : Problem) (n : ℕ) (schedule : List Activation) (i : ℕ) (a : Activation) (text more : List ℕ) → i < length schedule
    → a ≡ get_or schedule i a → text ≡ name_lines P (run_of n (take i schedule)) → more ≡ text ++ name_lines P (routers_of n a)
    → more ≡ name_lines P (run_of n (take (i + 1) schedule))
lines_more P n schedule i a text more less is so_far next =
    next ∙ ap (λ (t : List ℕ). t ++ name_lines P (routers_of n a)) so_far
    ∙ sym (flat_map-append (λ (router : ℕ). slice_index_or P.names router [] ++ codes "\n") (run_of n (take i schedule)) (routers_of n a))
    ∙ sym (ap (name_lines P) (run_more n schedule i a less is))
