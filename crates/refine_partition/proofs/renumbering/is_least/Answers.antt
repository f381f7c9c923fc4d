use Rattle.std.proofs.Common.{◌≡◌, ◌≢◌, ℕ, ◌<◌, List, Vec, length, get_or, ap, sym, ◌∙◌, refl, arith}
use Rattle.std.specs.Prelude.{slice_index}
use Rattle.std.specs.declared.alloc.Global.{Global}
use Rattle.std.proofs.lemmas.List.{get_or_default}
use Rattle.base_kit.specs.Partition.{members_of}
use Rattle.refine_partition.specs.Members.{AreBlocks}
use Rattle.refine_partition.proofs.MemberLemmas.{member, test_same, same_test}
use Rattle.refine_partition.proofs.RenumberLemmas.{first_least, first_member}
use Rattle.refine_partition.proofs.renumbering.is_least.Goals as goal

block_is : (numbers : List ℕ) (blocks : List (Vec ℕ Global)) (number : ℕ) (block : Vec ℕ Global) → AreBlocks numbers blocks → number < length blocks
    → block ≡ get_or blocks number block → block.items ≡ members_of numbers number
block_is numbers blocks number block are inside read = ap (λ (v : Vec ℕ Global). v.items) read ∙ are.each number block inside

not_empty : (numbers : List ℕ) (router : ℕ) → router < length numbers → 0 < length (members_of numbers (slice_index numbers router))
not_empty numbers router inside = let (k, within, at) = member numbers (slice_index numbers router) router inside refl in omega arith

pub index-requires : goal.index-requires
index-requires c =
    let e = block_is _ _ _ _ c.requires.blocks c.requires.known c.index-blocks-numbers.is in
    let some = not_empty c.args.numbers.now c.args.router c.requires.in_range in
    omega (arith, ap length e)

head_is : (members items : List ℕ) (value : ℕ) → items ≡ members → 0 < length members → value ≡ get_or items 0 value → slice_index members 0 ≡ value
head_is members items value e some read = get_or_default members 0 0 value some ∙ ap (λ (xs : List ℕ). get_or xs 0 value) (sym e) ∙ sym read

pub returns-clause-least : goal.returns-clause-least
returns-clause-least c = λ test u less same.
    let e = block_is _ _ _ _ c.requires.blocks c.requires.known c.index-blocks-numbers.is in
    let in_range = c.requires.in_range in
    let is : c.index.result.now ≡ c.args.router = test_same _ _ test in
    let at = head_is _ _ _ e (not_empty c.args.numbers.now c.args.router in_range) c.index.ensures in
    let le = first_least c.args.numbers.now (slice_index c.args.numbers.now c.args.router) u (omega arith) same in
    omega arith

pub returns-clause-not_least : goal.returns-clause-not_least
returns-clause-not_least c = λ test.
    let e = block_is _ _ _ _ c.requires.blocks c.requires.known c.index-blocks-numbers.is in
    let in_range = c.requires.in_range in
    let at = head_is _ _ _ e (not_empty c.args.numbers.now c.args.router in_range) c.index.ensures in
    let le = first_least c.args.numbers.now (slice_index c.args.numbers.now c.args.router) c.args.router in_range refl in
    let first = first_member c.args.numbers.now (slice_index c.args.numbers.now c.args.router) c.args.router in_range refl in
    let other : c.index.result.now ≢ c.args.router = λ is. let yes = same_test _ _ is in cc in
    (slice_index (members_of c.args.numbers.now (slice_index c.args.numbers.now c.args.router)) 0, omega arith, first.is)
