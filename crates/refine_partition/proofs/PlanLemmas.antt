-- What the parts of a plan say together.
use Rattle.std.proofs.Common.{◌≡◌, ◌≢◌, ℕ, zero, suc, ◌-◌, ◌<◌, ◌≤◌, List, [], ◌∷◌, length, All, Contains, Vec, sym, ◌∙◌, subst, arith, inl, inr}
use Rattle.std.specs.Prelude.{slice_index, ◌⊎◌}
use Rattle.std.specs.declared.alloc.Global.{Global}
use Rattle.std.specs.List.Sorted.{IsStrictlyIncreasing}
use Rattle.std.proofs.lemmas.Bool.{cases_eq}
use Rattle.std.proofs.lemmas.List.Elements.{All-contains, All-weaker}
use Rattle.base_kit.specs.declared.act_graph.Edge.{Edge}
use Rattle.base_kit.specs.declared.act_graph.ActGraph.{ActGraph}
use Rattle.refine_partition.specs.declared.imports.Import.{Import}
use Rattle.refine_partition.specs.Splits.{HasAct, StandsBeforeByBlock}
use Rattle.refine_partition.specs.Arrivals.{IsArrival, AreArrivals}
use Rattle.refine_partition.specs.Classes.{SameArrivals, AreClasses, AreReached}
use Rattle.refine_partition.specs.Touched.{IsTouched, AreTouched, IsInBlocks, IsQueue}
use Rattle.refine_partition.specs.Renumbering.{IsQueueOf, IsRenumbered}
use Rattle.refine_partition.specs.Planned.{AreNumbered, IsPlanned}
use Rattle.refine_partition.proofs.MemberLemmas.{Contains-cons}
use Rattle.refine_partition.proofs.RenumberLemmas.{place_of}

-- a list contains a number or does not
pub contains_or_not : (xs : List ℕ) (x : ℕ) → Contains xs x ⊎ (¬ Contains xs x)
contains_or_not [] x = inr (λ found. let (k, inside, at) = found in absurd (omega arith))
contains_or_not (y ∷ ys) x = elim (cases_eq y x) [
  | inl e ↦ inl (0, omega arith, e)
  | inr ne ↦ elim (contains_or_not ys x) [
    | inl found ↦ inl (Contains-cons y ys x found)
    | inr none ↦ inr (λ found. by y x ys ne none found)
  ]
]
  where
    by : (y x : ℕ) (ys : List ℕ) → y ≢ x → ¬ Contains ys x → Contains (y ∷ ys) x → ⊥
    by y x ys ne none (zero, inside, at) = ne at
    by y x ys ne none (suc k, inside, at) = none (k, omega arith, at)

pub arrivals_in_range : (graph : ActGraph) (numbers : List ℕ) (taken : ℕ) (arrivals : List Import) → length numbers ≡ graph.count →
    AreArrivals graph.edges numbers taken arrivals → All (λ a. a.importer < length numbers) arrivals
arrivals_in_range graph numbers taken arrivals total are = All-weaker (IsArrival graph.edges numbers taken) (λ a. a.importer < length numbers) (λ a arrival.
    let (k, e, inside, at, (importer, acts, into)) = arrival.has.edge in
    let below : e.importer < graph.count = subst (λ (x : Edge). x.importer < graph.count) at (graph.importers_in_range k e inside) in
    omega arith) arrivals are.only

pub queue_is : (numbers touched queue : List ℕ) → IsQueue numbers touched queue → IsQueueOf numbers queue
queue_is numbers touched queue queued = record {
  below = All-weaker (IsInBlocks numbers touched) (λ u. u < length numbers) (λ u within. within.below) queue queued.only;
  in_order = queued.in_order;
}

pub planned : (graph : ActGraph) (taken : ℕ) (numbers : List ℕ) (blocks : List (Vec ℕ Global)) (arrivals : List Import)
    (classes reached touched queue next origins : List ℕ) (class_count : ℕ) → length numbers ≡ graph.count → AreNumbered numbers blocks →
    AreArrivals graph.edges numbers taken arrivals → AreClasses numbers arrivals (length blocks) classes class_count →
    AreReached classes (length blocks) reached → IsStrictlyIncreasing touched →
    AreTouched numbers reached touched → IsQueue numbers touched queue → IsRenumbered numbers classes queue (length blocks) next origins →
    IsPlanned graph taken numbers (length blocks) next origins touched
planned graph taken numbers blocks arrivals classes reached touched queue next origins class_count total numbered arrived are new rising touches queued
    renumbered =
    let before : ℕ = length blocks in
    let low : (u : ℕ) → u < graph.count → slice_index numbers u < before = λ u hu. numbered.below u 0 (omega arith) in
    let in_queue : (u : ℕ) → u < graph.count → Contains touched (slice_index numbers u) → Contains queue u =
    λ u hu block. queued.all u (record { below = omega arith; block = block }) in
    let not_in_queue : (u : ℕ) → ¬ Contains touched (slice_index numbers u) → ¬ Contains queue u =
    λ u none found. none (All-contains (IsInBlocks numbers touched) queue u queued.only found).block in
    let rest : (u : ℕ) → u < graph.count → ¬ Contains touched (slice_index numbers u) → slice_index next u ≡ slice_index numbers u =
    λ u hu none. renumbered.rest u (omega arith) (not_in_queue u none) in
    let listed : (u act : ℕ) → slice_index numbers u ≢ taken → HasAct graph.edges numbers taken u act → Contains touched (slice_index numbers u) =
    λ u act outside has.
    let arrival : Import = record { importer = u; act = act } in
    let found = arrived.all u act outside has in
    let at = All-contains (λ a. before ≤ slice_index classes a.importer) arrivals arrival are.moved found in
    let below = All-contains (λ a. a.importer < length numbers) arrivals arrival (arrivals_in_range graph numbers taken arrivals total arrived) found in
    let size = are.total in
    All-contains (λ w. Contains touched (slice_index numbers w)) reached u touches.all (new.all u (omega arith) at) in
    let acts : (u v : ℕ) → slice_index numbers u ≡ slice_index numbers v → SameArrivals arrivals u v → slice_index numbers u ≢ taken → (act : ℕ) →
    HasAct graph.edges numbers taken u act → HasAct graph.edges numbers taken v act = λ u v same alike outside act has.
    (All-contains (IsArrival graph.edges numbers taken) arrivals (record { importer = v; act = act }) arrived.only
    (alike.there act (arrived.all u act outside has))).has in
    let arrives : (u v : ℕ) → slice_index numbers u ≡ slice_index numbers v →
    (slice_index numbers u ≢ taken → (act : ℕ) → HasAct graph.edges numbers taken u act → HasAct graph.edges numbers taken v act) → (act : ℕ) →
    Contains arrivals (record { importer = u; act = act }) → Contains arrivals (record { importer = v; act = act }) = λ u v same there act found.
    let arrival = All-contains (IsArrival graph.edges numbers taken) arrivals (record { importer = u; act = act }) arrived.only found in
    arrived.all v act (λ e. arrival.outside (same ∙ e)) (there arrival.outside act arrival.has) in
    let mixed : (u v : ℕ) → u < graph.count → v < graph.count → Contains touched (slice_index numbers u) → ¬ Contains touched (slice_index numbers v) →
    slice_index next u ≡ slice_index next v → ⊥ = λ u v hu hv there none same.
    let stays = rest v hv none in
    let lt = low v hv in
    let kept = renumbered.kept u (in_queue u hu there) (omega arith) in
    none (subst (Contains touched) (sym kept ∙ same ∙ stays) there) in
    record {
      split = record {
        total = renumbered.total ∙ total;
        together = λ u v hu hv stay. elim (contains_or_not touched (slice_index numbers u)) [
          | inl there ↦ renumbered.together u v (in_queue u hu there) (in_queue v hv (subst (Contains touched) stay.same there))
              (are.together u v (omega arith) (omega arith) stay.same (record {
                there = arrives u v stay.same (λ outside. (stay.alike outside).there);
                back = arrives v u (sym stay.same) (λ outside. (stay.alike (λ e. outside (sym stay.same ∙ e))).back);
              }))
          | inr none ↦ rest u hu none ∙ stay.same ∙ sym (rest v hv (λ found. none (subst (Contains touched) (sym stay.same) found)))
        ];
        apart = λ u v hu hv same. elim (contains_or_not touched (slice_index numbers u)) [
          | inl there ↦ elim (contains_or_not touched (slice_index numbers v)) [
            | inl there' ↦
                let class = renumbered.apart u v (in_queue u hu there) (in_queue v hv there') same in
                let same_block = are.same u v (omega arith) (omega arith) class in
                let alike = are.alike u v (omega arith) (omega arith) class in
                record {
                  same = same_block;
                  alike = λ outside. record {
                    there = acts u v same_block alike outside;
                    back = acts v u (sym same_block) (record { there = alike.back; back = alike.there }) (λ e. outside (same_block ∙ e));
                  };
                }
            | inr none ↦ absurd (mixed u v hu hv there none same)
          ]
          | inr none ↦ elim (contains_or_not touched (slice_index numbers v)) [
            | inl there ↦ absurd (mixed v u hv hu there none (sym same))
            | inr none' ↦
                let same_block : slice_index numbers u ≡ slice_index numbers v = sym (rest u hu none) ∙ same ∙ rest v hv none' in
                record {
                  same = same_block;
                  alike = λ outside. record {
                    there = λ act has. absurd (none (listed u act outside has));
                    back = λ act has. absurd (none' (listed v act (λ e. outside (same_block ∙ e)) has));
                  };
                }
          ]
        ];
        least = λ v hv first. renumbered.least v (omega arith) first;
        kept = λ v hv small. elim (contains_or_not touched (slice_index numbers v)) [
          | inl there ↦ renumbered.kept v (in_queue v hv there) small
          | inr none ↦ rest v hv none
        ];
        more = omega arith;
        below = λ v hv. elim (contains_or_not touched (slice_index numbers v)) [
          | inl there ↦ renumbered.below v (in_queue v hv there)
          | inr none ↦ let e = rest v hv none in let lt = low v hv in omega arith
        ];
        used = λ number le less.
            let (u, found, at) = renumbered.used (number - before) (omega arith) in
            let within = All-contains (IsInBlocks numbers touched) queue u queued.only found in
            let hu = within.below in
            (u, omega arith, at ∙ omega arith);
        in_order = λ v number hv le less. elim (contains_or_not touched (slice_index numbers v)) [
          | inl there ↦
              let (i, inside, at) = place_of queue v (in_queue v hv there) in
              let (j, earlier, is) = renumbered.in_order i number inside le (subst (λ w. number < slice_index next w) (sym at) less) in
              let within = queued.only j 0 (omega arith) in
              let hj = within.below in
              (slice_index queue j, omega arith, subst (λ w. StandsBeforeByBlock numbers (slice_index queue j) w) at (queued.in_order j i earlier inside), is)
          | inr none ↦ let e = rest v hv none in let lt = low v hv in absurd (omega arith)
        ];
      };
      origin = λ u k hu is. elim (contains_or_not touched (slice_index numbers u)) [
        | inl there ↦ renumbered.origin u k (in_queue u hu there) is
        | inr none ↦ let e = rest u hu none in let lt = low u hu in absurd (omega arith)
      ];
      known = All-weaker (IsTouched numbers reached) (λ block. block < before) (λ block t.
          let (below, at) = All-contains (λ u. (u < length classes) × (before ≤ slice_index classes u)) reached t.router new.only t.listed in
          let size = are.total in
          let lt = numbered.below t.router 0 (omega arith) in
          let e = t.is in
          omega arith) touched touches.only;
      in_order = rising;
      rest = rest;
    }
