-- What the parts of a turn say together.
use Rattle.std.proofs.Common.{◌≡◌, ◌≢◌, ℕ, ◌+◌, ◌<◌, ◌≤◌, List, [], ◌∷◌, ◌++◌, length, slice_set, All, Contains, Vec, sym, ◌∙◌, ap, subst, arith, inl, inr}
use Rattle.std.specs.Prelude.{slice_index, ◌⊎◌}
use Rattle.std.specs.declared.alloc.Global.{Global}
use Rattle.std.proofs.lemmas.Bool.{cases_eq}
use Rattle.std.proofs.lemmas.List.{ext_get_or, get_or-set_same, get_or-set_other}
use Rattle.std.proofs.lemmas.List.Elements.{All-contains, All-from_get_or, All-get_or, Contains-push_cases}
use Rattle.base_kit.specs.declared.act_graph.ActGraph.{ActGraph}
use Rattle.base_kit.specs.Partition.{IsNumbered}
use Rattle.refine_partition.specs.declared.imports.Import.{Import}
use Rattle.refine_partition.specs.Members.{AreBlocks}
use Rattle.refine_partition.specs.Splits.{HasAct}
use Rattle.refine_partition.specs.Arrivals.{IsArrival, AreArrivals}
use Rattle.refine_partition.specs.Classes.{AreClasses, AreNewClasses, AreReached}
use Rattle.refine_partition.specs.Loose.{AreMoved, AreParted, AreSettled, AreUsed, IsDividedAsSplit}
use Rattle.refine_partition.proofs.RenumberLemmas.{place_of}
use Rattle.refine_partition.proofs.StayingLemmas.{listed_first}
use Rattle.refine_partition.proofs.MoveLemmas.{used_few}
use Rattle.refine_partition.proofs.PinnedLemmas.{pinned_split}

-- the acts of arrivals are those of the edges into the block
acts_listed : (graph : ActGraph) (taken : ℕ) (numbers : List ℕ) (arrivals : List Import) (u v : ℕ) → AreArrivals graph.edges numbers taken arrivals →
    slice_index numbers u ≢ taken → ((act : ℕ) → Contains arrivals (record { importer = u; act = act }) →
    Contains arrivals (record { importer = v; act = act })) → (act : ℕ) → HasAct graph.edges numbers taken u act → HasAct graph.edges numbers taken v act
acts_listed graph taken numbers arrivals u v arrived outside there act has =
    (All-contains (IsArrival graph.edges numbers taken) arrivals (record { importer = v; act = act }) arrived.only
    (there act (arrived.all u act outside has))).has

listed_acts : (graph : ActGraph) (taken : ℕ) (numbers : List ℕ) (arrivals : List Import) (u v : ℕ) → AreArrivals graph.edges numbers taken arrivals →
    slice_index numbers u ≡ slice_index numbers v →
    (slice_index numbers u ≢ taken → (act : ℕ) → HasAct graph.edges numbers taken u act → HasAct graph.edges numbers taken v act) → (act : ℕ) →
    Contains arrivals (record { importer = u; act = act }) → Contains arrivals (record { importer = v; act = act })
listed_acts graph taken numbers arrivals u v arrived same there act found =
    let arrival = All-contains (IsArrival graph.edges numbers taken) arrivals (record { importer = u; act = act }) arrived.only found in
    arrived.all v act (λ e. arrival.outside (same ∙ e)) (there arrival.outside act arrival.has)

-- a turn divides the blocks by the acts of their members' edges
pub parted : (graph : ActGraph) (taken : ℕ) (numbers classes reached next origins : List ℕ) (arrivals : List Import) (before after class_count : ℕ) →
    length numbers ≡ graph.count → All (λ n. n < before) numbers → AreArrivals graph.edges numbers taken arrivals →
    AreClasses numbers arrivals before classes class_count → AreMoved numbers classes reached before next origins → after ≡ before + length origins →
    AreParted graph taken numbers next before after origins
parted graph taken numbers classes reached next origins arrivals before after class_count total low arrived are moved size =
    let next_total = moved.total in
    record {
      total = next_total ∙ total;
      together = λ u v hu hv stay. moved.together u v (omega arith) (omega arith) (are.together u v (omega arith) (omega arith) stay.same (record {
        there = listed_acts graph taken numbers arrivals u v arrived stay.same (λ outside. (stay.alike outside).there);
        back = listed_acts graph taken numbers arrivals v u arrived (sym stay.same) (λ outside. (stay.alike (λ e. outside (sym stay.same ∙ e))).back);
      }));
      apart = λ u v hu hv same.
          let class = moved.apart u v (omega arith) (omega arith) same in
          let same_block = are.same u v (omega arith) (omega arith) class in
          let alike = are.alike u v (omega arith) (omega arith) class in
          record {
            same = same_block;
            alike = λ outside. record {
              there = acts_listed graph taken numbers arrivals u v arrived outside alike.there;
              back = acts_listed graph taken numbers arrivals v u arrived (λ e. outside (same_block ∙ e)) alike.back;
            };
          };
      kept = λ u hu small. moved.kept u (omega arith) small;
      below = λ u hu. let lt = moved.below u (omega arith) in omega arith;
      size = size;
      few = let few = used_few (before + length origins) next moved.used in omega arith;
      origin = λ u k hu is. moved.origin u k (omega arith) is;
      known = All-from_get_or (λ origin. origin < before) origins 0 (λ k inside.
          let (u, hu, is) = moved.used (before + k) (omega arith) in
          let from = moved.origin u k (omega arith) is in
          let lt : slice_index numbers u < before = All-get_or (λ n. n < before) numbers u 0 (omega arith) low in
          omega arith);
    }

-- a turn divides the blocks as a split does
pub divided : (graph : ActGraph) (taken : ℕ) (numbers classes reached next origins : List ℕ) (arrivals : List Import) (before after class_count : ℕ) →
    length numbers ≡ graph.count → All (λ n. n < before) numbers → AreArrivals graph.edges numbers taken arrivals →
    AreClasses numbers arrivals before classes class_count → AreMoved numbers classes reached before next origins → after ≡ before + length origins →
    IsDividedAsSplit graph taken numbers next before after
divided graph taken numbers classes reached next origins arrivals before after class_count total low arrived are moved size = record {
  split = pinned_split graph taken numbers next origins before after total
      (parted graph taken numbers classes reached next origins arrivals before after class_count total low arrived are moved size)
      (subst (λ n. AreUsed n next) (sym size) moved.used);
}

-- the classes of the reached routers are new, and only theirs
pub new_classes : (numbers classes reached : List ℕ) (arrivals : List Import) (before class_count : ℕ) → All (λ n. n < before) numbers →
    AreClasses numbers arrivals before classes class_count → AreReached classes before reached → AreNewClasses numbers classes before reached
new_classes numbers classes reached arrivals before class_count low are new =
    let total = are.total in
    record {
      total = total;
      same = are.same;
      new = new;
      stay = λ u hu away. are.stay u hu (λ (k, a, inside, at, is). away (new.all u (omega arith)
          (subst (λ w. before ≤ slice_index classes w) is
          (subst (λ (b : Import). before ≤ slice_index classes b.importer) at (are.moved k a inside)))));
    }

pub unreached : (numbers classes reached next origins : List ℕ) (before : ℕ) → AreNewClasses numbers classes before reached →
    AreMoved numbers classes reached before next origins → (u : ℕ) → u < length next → ¬ Contains reached u → slice_index classes u ≡ slice_index next u
unreached numbers classes reached next origins before are moved u hu none =
    let total = moved.total in
    are.stay u (omega arith) none ∙ sym (moved.rest u (omega arith) none)

-- a class is the block again, or the router is not among these
abbrev pub IsSettled : List ℕ → List ℕ → List ℕ → List ℕ → ℕ → Type 0
IsSettled old classes numbers done u =
    (slice_index classes u ≡ slice_index numbers u) ⊎ ((slice_index classes u ≡ slice_index old u) × (¬ Contains done u))

pub settled_more : (old classes numbers done : List ℕ) (router u : ℕ) → router < length classes → IsSettled old classes numbers done u →
    IsSettled old (slice_set classes router (slice_index numbers router)) numbers (done ++ router ∷ []) u
settled_more old classes numbers done router u inside so_far =
    let value : ℕ = slice_index numbers router in
    elim (cases_eq u router) [
      | inl e ↦ inl (ap (slice_index (slice_set classes router value)) e ∙ get_or-set_same classes router value 0 inside ∙ ap (slice_index numbers) (sym e))
      | inr ne ↦
          let same : slice_index (slice_set classes router value) u ≡ slice_index classes u = get_or-set_other classes router u value 0 ne in
          elim so_far [
            | inl is ↦ inl (same ∙ is)
            | inr (was, none) ↦ inr (
              same ∙ was,
              λ found. elim (Contains-push_cases done router u found) [
                | inl earlier ↦ none earlier
                | inr e ↦ ne (sym e)
              ],
            )
          ]
    ]

pub settled_all : (old classes numbers reached : List ℕ) → length classes ≡ length numbers → ((u : ℕ) → IsSettled old classes numbers reached u) →
    ((u : ℕ) → u < length numbers → ¬ Contains reached u → slice_index old u ≡ slice_index numbers u) → classes ≡ numbers
settled_all old classes numbers reached size settled rest = ext_get_or 0 classes numbers size (λ u inside. elim (settled u) [
  | inl is ↦ is
  | inr (was, none) ↦ was ∙ rest u (omega arith) none
])

pub first_settled : (numbers classes : List ℕ) (lists : List (Vec ℕ Global)) (count : ℕ) → IsNumbered numbers count → length lists ≡ count →
    AreBlocks numbers lists → classes ≡ numbers → AreSettled numbers classes lists
first_settled numbers classes lists count numbered size are is = record {
  listed = listed_first numbers lists are (λ k d inside. let lt = numbered.below k d inside in omega arith);
  used = λ block inside. place_of numbers block (numbered.used block (omega arith));
  classes_are = is;
}
