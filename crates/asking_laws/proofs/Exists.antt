-- Where no router is lone rounds lead to stable labels.
use Rattle.std.proofs.Common.{◌≡◌, ℕ, zero, suc, ◌+◌, ◌<◌, ◌≤◌, Bool, true, false, cond, List, [], ◌∷◌, ◌++◌, Some, refl, subst, inl, inr, arith}
use Rattle.std.specs.Prelude.{Contains, slice_index_or}
use Rattle.std.specs.List.{range_with_len}
use Rattle.base_kit.proofs.Elements.{In, contains_in, append_in, in_range, range_in}
use Rattle.route_maps.specs.declared.plain.Imported.{Imported}
use Rattle.route_maps.specs.declared.plain.PlainEntry.{PlainEntry}
use Rattle.route_maps.specs.declared.plain.Verdict.{Verdict}
use Rattle.route_maps.specs.declared.plain.Verdict.TheVariants.{Deny, Permit}
use Rattle.route_maps.specs.Maps.{entry_holds, comms_after, entry_verdict, verdict, accepted, received}
use Rattle.route_run.specs.Activations.{labels_after, no_labels}
use Rattle.route_run.specs.Rounds.{HasRounds, HasNoLone, PrependsAtMost, enough_rounds}
use Rattle.route_run.proofs.RoundsEnough.{rounds_enough}
use Rattle.srp_core.specs.declared.route.Act.{Act}
use Rattle.srp_core.specs.declared.route.Act.TheVariants.{Import, Cost}
use Rattle.srp_core.specs.Acts.{import_by}
use Rattle.srp_core.specs.Problem.{Problem, count, IsProblem}
use Rattle.asking_laws.specs.Unique.{HasSolution}

-- ---- how many numbers are put before a path

abbrev most_of : List PlainEntry → ℕ
most_of [] = 0
most_of (entry ∷ entries) = entry.adds + most_of entries

-- what a verdict permits is lengthened by no more
abbrev IsWithin : ℕ → Verdict → Type 0
IsWithin most Deny = Unit {0}
IsWithin most (Permit lp comms adds) = adds ≤ most

more_within : (less most : ℕ) → less ≤ most → (given : Verdict) → IsWithin less given → IsWithin most given
more_within less most le Deny h = tt
more_within less most le (Permit lp comms adds) h = omega arith

entry_within : (entry : PlainEntry) (comms : List ℕ) (rest : ℕ) → IsWithin (entry.adds + rest) (entry_verdict entry comms)
entry_within entry comms rest = by entry.permit
  where
    by : (b : Bool) → IsWithin (entry.adds + rest) (cond b (Permit entry.lp (comms_after entry comms) entry.adds) Deny)
    by true = omega arith
    by false = tt

verdict_within : (entries : List PlainEntry) (comms : List ℕ) → IsWithin (most_of entries) (verdict entries comms)
verdict_within [] comms = tt
verdict_within (entry ∷ entries) comms = by (entry_holds comms entry) (verdict_within entries comms)
  where
    by : (b : Bool) → IsWithin (most_of entries) (verdict entries comms) →
        IsWithin (entry.adds + most_of entries) (cond b (entry_verdict entry comms) (verdict entries comms))
    by true rest = entry_within entry comms (most_of entries)
    by false rest = more_within (most_of entries) (entry.adds + most_of entries) (omega arith) (verdict entries comms) rest

accepted_adds : (adds : ℕ) (given : Verdict) (imported : Imported) → accepted adds given ≡ Some imported → imported.adds ≡ adds
accepted_adds adds Deny imported e = absurd cc
accepted_adds adds (Permit lp comms more) imported e = let h = e in cc

received_within : (sends : Bool) (into : List PlainEntry) (given : Verdict) (imported : Imported) (most : ℕ) → IsWithin most given →
    received sends into given ≡ Some imported → imported.adds ≤ most
received_within sends into Deny imported most h e = absurd cc
received_within sends into (Permit lp comms adds) imported most h e =
    let same = accepted_adds adds (verdict into (cond sends comms [])) imported e in omega arith

abbrev act_most : Act → ℕ
act_most (Import out sends into) = most_of out.entries
act_most (Cost cost) = 0

import_within : (act : Act) (comms : List ℕ) (imported : Imported) → import_by act comms ≡ Some imported → imported.adds ≤ act_most act
unfolding import_by
import_within (Import out sends into) comms imported e =
    received_within sends into.entries (verdict out.entries comms) imported (most_of out.entries) (verdict_within out.entries comms) e
import_within (Cost cost) comms imported e = absurd cc

abbrev acts_most : List Act → ℕ
acts_most [] = 0
acts_most (act ∷ acts) = act_most act + acts_most acts

act_within : (acts : List Act) (place : ℕ) → act_most (slice_index_or acts place (Cost 0)) ≤ acts_most acts
act_within [] place = omega arith
act_within (act ∷ acts) zero = omega arith
act_within (act ∷ acts) (suc place) = let rest = act_within acts place in omega arith

prepends_at_most : (P : Problem) → PrependsAtMost P (acts_most P.acts)
prepends_at_most P = record {
  most = λ edge comms imported inside up e.
      let first = import_within (slice_index_or P.acts edge.act (Cost 0)) comms imported e in
      let rest = act_within P.acts edge.act in
      omega arith;
}

-- ---- so many rounds

abbrev rounds_of : ℕ → ℕ → List ℕ
rounds_of routers zero = []
rounds_of routers (suc more) = range_with_len 0 routers ++ rounds_of routers more

in_rounds : (routers rounds u : ℕ) → In (rounds_of routers rounds) u → u < routers
in_rounds routers zero u h = absurd h
in_rounds routers (suc more) u h = elim (append_in (range_with_len 0 routers) (rounds_of routers more) u h) [
  | inl here ↦ (let less = range_in 0 routers u here in omega arith)
  | inr later ↦ in_rounds routers more u later
]

each_in_range : (routers u : ℕ) → u < routers → Contains (range_with_len 0 routers) u
each_in_range routers u h =
    let there = in_range 0 routers u h in
    let same : 0 + u ≡ u = omega arith in
    contains_in (range_with_len 0 routers) u (subst (λ n. In (range_with_len 0 routers) n) same there)

has_rounds : (P : Problem) (rounds : ℕ) → HasRounds P rounds (rounds_of (count P) rounds)
has_rounds P zero = tt
has_rounds P (suc more) = (range_with_len 0 (count P), rounds_of (count P) more, refl, λ u h. each_in_range (count P) u h, has_rounds P more)

pub has_solution : (P : Problem) → IsProblem P → HasNoLone P → HasSolution P
has_solution P good none =
    let most = acts_most P.acts in
    let rounds = enough_rounds P most in
    let run = rounds_of (count P) rounds in
    record {
      labels = labels_after P (no_labels P) run;
      stable = rounds_enough P good none most (prepends_at_most P) run (λ u h. in_rounds (count P) rounds u h) (has_rounds P rounds);
    }
