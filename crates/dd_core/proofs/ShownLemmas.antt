-- Public: crates above cite these lemmas. Nodes on sets of communities, while the store grows.
use Rattle.std.proofs.Common.{◌≡◌, ℕ, ◌<◌, Bool, true, false, List, length, get_or, nat_lt, refl, sym, ◌∙◌, arith}
use Rattle.std.specs.Prelude.{if◌then◌else◌}
use Rattle.std.proofs.lemmas.Bool.Decides.{nat_tests}
use Rattle.base_kit.specs.Sets.{has}
use Rattle.dd_cache.specs.Memory.{Memory}
use Rattle.dd_core.specs.declared.table.Node.{Node}
use Rattle.dd_core.specs.Value.{value}
use Rattle.dd_core.specs.Store.{IsStore, IsChoiceBetween, IsIte}
use Rattle.dd_core.specs.Sets.{Shown, Means, Grows, IsShown, IsIteOfSets, value_of, test_of, has_others}
use Rattle.dd_core.proofs.StoreLemmas.{value_never, value_always, two_nodes, length_kept, extends_refl, extends_trans}
use Rattle.dd_core.proofs.ValueLemmas.{value_kept}

pub constant_true : (shown : Shown) → IsShown shown → (b : Bool) → b ≡ true → Means shown 1 (λ _. b)
unfolding value_of
constant_true shown is b e = record {
  inside = two_nodes shown.nodes is.store;
  value = λ set. value_always shown.nodes (test_of shown.universe set) is.store
      ∙ sym e;
}

pub constant_false : (shown : Shown) → IsShown shown → (b : Bool) → b ≡ false → Means shown 0 (λ _. b)
unfolding value_of
constant_false shown is b e = record {
  inside = (let two = two_nodes shown.nodes is.store in omega arith);
  value =
      λ set. value_never shown.nodes (test_of shown.universe set) is.store ∙ sym e;
}

if_same : (b : Bool) → (if b then true else false) ≡ b
if_same true = refl
if_same false = refl

choice_value : (old new : List Node) (v place : ℕ) → IsStore old → IsChoiceBetween old new v 1 0 place → (test : ℕ → Bool) → value new test place ≡ test v
choice_value old new v place store choice test = choice.value test ∙ rw (value_always old test store, value_never old test store) (if_same (test v))

pub var_means : (universe : List ℕ) (old new : List Node) (memory : Memory) (v c place : ℕ) → IsStore old → IsChoiceBetween old new v 1 0 place →
    v < length universe → get_or universe v 0 ≡ c → Means (record { universe = universe; nodes = new; memory = memory }) place (λ set. has set c)
unfolding value_of
var_means universe old new memory v c place store choice lt there =
    let e : nat_lt v (length universe) ≡ true = grind (arith, nat_tests) in
    record { inside = choice.inside; value = λ set. choice_value old new v place store choice (test_of universe set) ∙ rw (e, there) refl }

pub others_means : (universe : List ℕ) (old new : List Node) (memory : Memory) (v place : ℕ) → IsStore old → IsChoiceBetween old new v 1 0 place →
    v ≡ length universe → Means (record { universe = universe; nodes = new; memory = memory }) place (λ set. has_others universe set)
unfolding value_of
others_means universe old new memory v place store choice last =
    let e : nat_lt v (length universe) ≡ false = grind (arith, nat_tests) in
    record { inside = choice.inside; value = λ set. choice_value old new v place store choice (test_of universe set) ∙ rw e refl }

pub ite_of_sets : (universe : List ℕ) (old new : List Node) (memory memory' : Memory) (a b c place : ℕ) → IsIte old new a b c place →
    IsIteOfSets (record { universe = universe; nodes = old; memory = memory }) (record { universe = universe; nodes = new; memory = memory' }) a b c place
unfolding value_of
ite_of_sets universe old new memory memory' a b c place ite = record { inside = ite.inside; value = λ set. ite.value (test_of universe set) }

-- an old node means what it meant
pub value_of_kept : (old new : Shown) (set : List ℕ) (place : ℕ) → Grows old new → place < length old.nodes → value_of new set place ≡ value_of old set place
unfolding value_of
value_of_kept old new set place grows inside = rw grows.universe (value_kept old.nodes new.nodes (test_of old.universe set) place grows.nodes inside)

pub grows_inside : (old new : Shown) (place : ℕ) → Grows old new → place < length old.nodes → place < length new.nodes
grows_inside old new place grows inside = let more = length_kept old.nodes new.nodes grows.nodes in omega arith

pub means_kept : (old new : Shown) (place : ℕ) (test : List ℕ → Bool) → Grows old new → Means old place test → Means new place test
means_kept old new place test grows means = record {
  inside = grows_inside old new place grows means.inside;
  value = λ set. value_of_kept old new set place grows means.inside ∙ means.value set;
}

pub ite_means : (old new : Shown) (a b c place : ℕ) (f g h : List ℕ → Bool) → Means old a f → Means old b g → Means old c h → IsIteOfSets old new a b c place →
    Means new place (λ set. if f set then g set else h set)
ite_means old new a b c place f g h of_a of_b of_c ite = record {
  inside = ite.inside;
  value = λ set. ite.value set ∙ rw (of_a.value set, of_b.value set, of_c.value set) refl;
}

pub grows_refl : (shown : Shown) → Grows shown shown
grows_refl shown = record { universe = refl; nodes = extends_refl shown.nodes; capacity = refl }

pub grows_trans : (old mid new : Shown) → Grows old mid → Grows mid new → Grows old new
grows_trans old mid new first second = record {
  universe = second.universe ∙ first.universe;
  nodes = extends_trans old.nodes mid.nodes new.nodes first.nodes second.nodes;
  capacity = second.capacity ∙ first.capacity;
}
