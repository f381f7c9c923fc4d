-- The routers of a schedule are among those named.
use Rattle.std.proofs.Common.{◌≡◌, ◌⊎◌, ℕ, ◌+◌, ◌<◌, Bool, true, false, cond, List, [], ◌∷◌, ◌++◌, length, Option, Some, None, refl, sym, ap, ◌∙◌, arith, inl, inr, Result, Ok, Err, option_map}
use Rattle.std.specs.Prelude.{bytes_eq, codes}
use Rattle.std.specs.List.{position}
use Rattle.base_kit.proofs.Elements.{In, append_in, range_in}
use Rattle.numbered_names.proofs.Positions.{position_below}
use Rattle.route_run.specs.declared.schedule.Activation.{Activation}
use Rattle.route_run.specs.declared.schedule.Activation.TheVariants.{One, Round}
use Rattle.route_run.specs.declared.schedule.ScheduleRefusal.{ScheduleRefusal}
use Rattle.route_run.specs.Schedules.{LineWord, routers_of, run_of, activation_of, or_unknown, schedule_of_words}

named_by : (names : List (List ℕ)) (word : List ℕ) (k : ℕ) (b : Bool) (p : Option ℕ) → position (bytes_eq word) names ≡ p →
    cond b (Some Round) (option_map One p) ≡ Some (One k) → k < length names
named_by names word k true p is e = absurd cc
named_by names word k false None is e = absurd cc
named_by names word k false (Some j) is e = let same : j ≡ k = cc in let less = position_below (bytes_eq word) names j is in omega arith

routers_within : (names : List (List ℕ)) (word : List ℕ) (a : Activation) (u : ℕ) → activation_of names word ≡ Some a → In (routers_of (length names) a) u →
    u < length names
routers_within names word (One k) u e (inl same) = let less = named_by names word k (bytes_eq word (codes "*")) (position (bytes_eq word) names) refl e in
    omega arith
routers_within names word (One k) u e (inr lacking) = absurd lacking
routers_within names word Round u e i = let less = range_in 0 (length names) u i in omega arith

abbrev AreWithin : List (List ℕ) → List Activation → Type 0
AreWithin names schedule = (u : ℕ) → In (run_of (length names) schedule) u → u < length names

step_within : (names : List (List ℕ)) (word : List ℕ) (line : ℕ) (o : Option Activation) (r : Result (List Activation) ScheduleRefusal)
    (schedule : List Activation) → activation_of names word ≡ o → or_unknown line o r ≡ Ok schedule →
    ((later : List Activation) → r ≡ Ok later → (u : ℕ) → In (run_of (length names) later) u → u < length names)
    → (u : ℕ) → In (run_of (length names) schedule) u → u < length names
step_within names word line None r schedule is e rest u i = absurd cc
step_within names word line (Some a) (Err refusal) schedule is e rest u i = absurd cc
step_within names word line (Some a) (Ok later) schedule is e rest u i =
    let same : schedule ≡ a ∷ later = cc in
    let j : In (routers_of (length names) a ++ run_of (length names) later) u =
    Rattle.std.proofs.Common.subst (λ (s : List Activation). In (run_of (length names) s) u) same i in
    elim (append_in (routers_of (length names) a) (run_of (length names) later) u j) [
      | inl here ↦ routers_within names word a u is here
      | inr there ↦ rest later refl u there
    ]

pub words_within : (names : List (List ℕ)) (ws : List LineWord) (schedule : List Activation) → schedule_of_words names ws ≡ Ok schedule → (u : ℕ) →
    In (run_of (length names) schedule) u → u < length names
unfolding schedule_of_words
words_within names [] schedule e u i = let same : [] ≡ schedule = cc in
    absurd (Rattle.std.proofs.Common.subst (λ (s : List Activation). In (run_of (length names) s) u) (sym same) i)
words_within names (w ∷ ws) schedule e u i =
    step_within names w.word w.line (activation_of names w.word) (schedule_of_words names ws) schedule refl e (words_within names ws) u i
