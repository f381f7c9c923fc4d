-- The blocks of a splitting, and the numbers that give them.
use Rattle.std.proofs.Common.{◌≡◌, ℕ, zero, suc, ◌<◌, ◌≤◌, List, [], ◌∷◌, length, get_or, All, Contains, Vec, refl, sym, ◌∙◌, ap, subst, arith, inl, inr}
use Rattle.std.specs.Prelude.{slice_index}
use Rattle.std.specs.declared.alloc.Global.{Global}
use Rattle.std.proofs.lemmas.Bool.{cases_lt}
use Rattle.std.proofs.lemmas.List.{ext_get_or, length-map}
use Rattle.std.proofs.lemmas.List.FromFn.{length-map-range_with_len, get_or-map-range_with_len}
use Rattle.std.proofs.lemmas.List.Elements.{All-contains}
use Rattle.base_kit.specs.declared.act_graph.ActGraph.{ActGraph}
use Rattle.base_kit.specs.Partition.{members_of, IsNumbered}
use Rattle.refine_partition.specs.Members.{AreBlocks, block_lists}
use Rattle.refine_partition.specs.Numbering.{IsNumbering}
use Rattle.refine_partition.specs.Planned.{AreNumbered}
use Rattle.refine_partition.specs.Splits.{IsSplit, IsStart}
use Rattle.refine_partition.specs.Splitting.{blocks_of, AreNumbersOf, IsSplittingOf, IsStartOf, IsSplitOf}
use Rattle.refine_partition.proofs.MemberLemmas.{IsMember, members_all, member}
use Rattle.refine_partition.proofs.RenumberLemmas.{place_of}

pub lists_size : (blocks : List (Vec ℕ Global)) → length (block_lists blocks) ≡ length blocks
lists_size blocks = length-map blocks (λ (v : Vec ℕ Global). v.items)

record IsListAt (blocks : List (Vec ℕ Global)) (k : ℕ) : Type 0 where
  list : Vec ℕ Global
  is : get_or blocks k list ≡ list
  items : get_or (block_lists blocks) k [] ≡ list.items

list_at : (blocks : List (Vec ℕ Global)) (k : ℕ) → k < length blocks → IsListAt blocks k
list_at [] k h = absurd (omega arith)
list_at (v ∷ vs) zero h = record { list = v; is = refl; items = refl }
list_at (v ∷ vs) (suc k) h = let at = list_at vs k (omega arith) in record { list = at.list; is = at.is; items = at.items }

pub list_of_block : (blocks : List (Vec ℕ Global)) (k : ℕ) (v : Vec ℕ Global) → k < length blocks → v ≡ get_or blocks k v →
    v.items ≡ get_or (block_lists blocks) k []
list_of_block [] k v h e = absurd (omega arith)
list_of_block (w ∷ ws) zero v h e = ap (λ (x : Vec ℕ Global). x.items) e
list_of_block (w ∷ ws) (suc k) v h e = list_of_block ws k v (omega arith) e

pub block_at : (numbers : List ℕ) (n k : ℕ) → k < n → get_or (blocks_of numbers n) k [] ≡ members_of numbers k
block_at numbers n k h = get_or-map-range_with_len (members_of numbers) 0 n k k [] h (omega arith)

blocks_are : (numbers : List ℕ) (blocks : List (Vec ℕ Global)) → AreBlocks numbers blocks → block_lists blocks ≡ blocks_of numbers (length (block_lists blocks))
blocks_are numbers blocks are =
    let n : ℕ = length (block_lists blocks) in
    let size : n ≡ length blocks = lists_size blocks in
    ext_get_or [] (block_lists blocks) (blocks_of numbers n) (sym (length-map-range_with_len (members_of numbers) 0 n)) (λ k inside.
    let at = list_at blocks k (omega arith) in
    at.items ∙ ap (λ (v : Vec ℕ Global). v.items) (sym at.is) ∙ are.each k at.list (omega arith) ∙ sym (block_at numbers n k inside))

pub own_numbers : (count : ℕ) (numbers : List ℕ) (blocks : List (Vec ℕ Global)) → length numbers ≡ count → AreNumbered numbers blocks →
    AreNumbersOf count (block_lists blocks) numbers
own_numbers count numbers blocks total numbered =
    let size = lists_size blocks in
    record {
      total = total;
      below = λ k d inside. let lt = numbered.below k d inside in omega arith;
      blocks_are = blocks_are numbers blocks numbered.members;
    }

-- numbers that give the same blocks are as many
no_longer : (a b : List ℕ) (n : ℕ) → blocks_of a n ≡ blocks_of b n → All (λ number. number < n) a → length a ≤ length b
no_longer a b n same below = elim (cases_lt (length b) (length a)) [
  | inl lt ↦
      let u : ℕ = length b in
      let block : ℕ = slice_index a u in
      let inside : block < n = below u 0 lt in
      let members : members_of a block ≡ members_of b block = sym (block_at a n block inside) ∙ ap (λ (bs : List (List ℕ)). get_or bs block []) same
      ∙ block_at b n block inside in
      let found : Contains (members_of b block) u = subst (λ (ms : List ℕ). Contains ms u) members (member a block u lt refl) in
      let is = All-contains (IsMember b block) (members_of b block) u (members_all b block) found in
      let lt' = is.below in
      absurd (omega arith)
  | inr le ↦ le
]

-- the routers of the blocks are those of the graph
pub all_routers : (graph : ActGraph) (numbers : List ℕ) (blocks : List (Vec ℕ Global)) (lists : List (List ℕ)) → AreNumbered numbers blocks →
    block_lists blocks ≡ lists → IsSplittingOf graph lists → length numbers ≡ graph.count
all_routers graph numbers blocks lists numbered is splitting =
    let n : ℕ = length lists in
    let own = own_numbers (length numbers) numbers blocks refl numbered in
    let size : length (block_lists blocks) ≡ n = ap length is in
    let mine : lists ≡ blocks_of numbers n = sym is ∙ own.blocks_are ∙ ap (blocks_of numbers) size in
    let others = splitting.are in
    let below : All (λ number. number < n) numbers = λ k d inside. let lt = own.below k d inside in omega arith in
    let one = no_longer numbers splitting.numbers n (sym mine ∙ others.blocks_are) below in
    let two = no_longer splitting.numbers numbers n (sym others.blocks_are ∙ mine) others.below in
    let total = others.total in
    omega arith

pub numbered_blocks : (numbers : List ℕ) (count : ℕ) (blocks : List (Vec ℕ Global)) → IsNumbered numbers count → length blocks ≡ count →
    AreBlocks numbers blocks → AreNumbered numbers blocks
numbered_blocks numbers count blocks numbered size are = record {
  members = are;
  below = λ k d inside. let lt = numbered.below k d inside in omega arith;
  nonempty = λ block inside. place_of numbers block (numbered.used block (omega arith));
}

pub started : (graph : ActGraph) (numbers : List ℕ) (count : ℕ) (blocks : List (Vec ℕ Global)) → length numbers ≡ graph.count →
    IsNumbering graph.colors numbers count → length blocks ≡ count → AreBlocks numbers blocks → IsStartOf graph (block_lists blocks)
started graph numbers count blocks total numbering size are =
    let size' : count ≡ length (block_lists blocks) = sym size ∙ sym (lists_size blocks) in
    let small = numbering.small in
    record {
      numbers = numbers;
      are = own_numbers graph.count numbers blocks total (numbered_blocks numbers count blocks numbering.numbered size are);
      start = subst (IsStart graph numbers) size' (record {
        total = total;
        numbered = numbering.numbered;
        few = omega arith;
        together = λ u v hu hv same. numbering.together u v (omega arith) (omega arith) same;
        apart = λ u v hu hv same. numbering.apart u v (omega arith) (omega arith) same;
      });
    }

pub split_of : (graph : ActGraph) (taken : ℕ) (numbers next : List ℕ) (blocks after : List (Vec ℕ Global)) → length numbers ≡ graph.count →
    AreNumbered numbers blocks → AreNumbered next after → IsSplit graph taken numbers next (length blocks) (length after) →
    IsSplitOf graph taken (block_lists blocks) (block_lists after)
split_of graph taken numbers next blocks after total numbered numbered' split = record {
  old_numbers = numbers;
  new_numbers = next;
  old_are = own_numbers graph.count numbers blocks total numbered;
  new_are = own_numbers graph.count next after split.total numbered';
  split = subst (λ n. IsSplit graph taken numbers next n (length (block_lists after))) (sym (lists_size blocks))
      (subst (IsSplit graph taken numbers next (length blocks)) (sym (lists_size after)) split);
}
