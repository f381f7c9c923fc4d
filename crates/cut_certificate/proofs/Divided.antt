-- What a split gives, by the members that move.
use Rattle.std.proofs.Common.{◌≡◌, ◌≢◌, ℕ, ◌+◌, ◌<◌, ◌≤◌, true, ◌&&◌, List, [], ◌∷◌, ◌++◌, length, get_or, slice_index_or, slice_set, All, Contains, Vec, refl, sym, ◌∙◌, ap, subst, arith, Ok, Err}
use Rattle.std.specs.Prelude.{slice_index, nat_le}
use Rattle.std.specs.declared.alloc.Global.{Global}
use Rattle.std.proofs.lemmas.Bool.Decides.{nat_tests}
use Rattle.std.proofs.lemmas.List.{length_push}
use Rattle.std.proofs.Math.ListN.{length-set}
use Rattle.base_kit.specs.declared.act_graph.Edge.{Edge}
use Rattle.base_kit.specs.Sets.{has}
use Rattle.cut_certificate.specs.declared.certificate.Split.{Split}
use Rattle.cut_certificate.specs.declared.refusal.CutKind.TheVariants as kinds
use Rattle.cut_certificate.specs.Blocks.{Blocks, edge_act, is_block, numbers_after, split_by}
use Rattle.cut_certificate.specs.Moves.{is_mover, AreMovers, HasStayer, AllMove, AreMembersListed, AreStillMembersListed, AreHeld, AreRenumbered}
use Rattle.cut_certificate.proofs.Made.{nothing_split, both_parts, made_used}
use Rattle.cut_certificate.proofs.Movers.{renumbered_is, parts_some, parts_all, parts_none, no_mover, listed_moved, listed_set, mover_below}
use Rattle.cut_certificate.proofs.Reached.{and_first, and_second}

-- ---- blocks have lists

pub block_held : (blocks : Blocks) (lists : List (Vec ℕ Global)) (number : ℕ) → AreHeld blocks.numbers blocks.count lists → is_block blocks number ≡ true
    → number < length lists
block_held blocks lists number held e =
    let high = and_second (nat_le 1 number) (nat_le number blocks.count) e in
    let le : number ≤ blocks.count = grind (arith, nat_tests) in
    omega (arith, held.size)

pub held_set : (numbers : List ℕ) (count : ℕ) (lists : List (Vec ℕ Global)) (block : ℕ) (list list' : Vec ℕ Global) → AreHeld numbers count lists
    → block < length lists → list ≡ slice_index_or lists block list → AreStillMembersListed numbers block list.items list'.items
    → AreHeld numbers count (slice_set lists block list')
held_set numbers count lists block list list' held known read still =
    record {
      in_use = held.in_use;
      listed = listed_set numbers lists block list list' held.listed known read still;
      size = length-set lists block list'
          ∙ held.size;
    }

-- all members of the block in its list move
pub all_go : (edges : List Edge) (numbers : List ℕ) (lists : List (Vec ℕ Global)) (block by act : ℕ) (list : Vec ℕ Global) → AreMembersListed numbers lists
    → list ≡ slice_index_or lists block list → AllMove edges numbers block by act list.items
    → (u : ℕ) → u < length numbers → slice_index numbers u ≡ block → is_mover edges numbers block by act u ≡ true
all_go edges numbers lists block by act list listed read all u h here =
    all.each u (subst (λ (v : Vec ℕ Global). Contains v.items u) (ap (λ i. slice_index_or lists i list) here ∙ sym read) (listed.members u list h)) here

-- ---- splits

module _ (edges : List Edge) (blocks : Blocks) (split : Split) (act : ℕ) (lists : List (Vec ℕ Global)) (movers : List ℕ)
    (known : (is_block blocks split.block && is_block blocks split.by) ≡ true) (apart : split.block ≢ split.by) (acts : act ≡ edge_act edges split.edge)
    (held : AreHeld blocks.numbers blocks.count lists) (are : AreMovers edges blocks.numbers split.block split.by act movers) where
  inside : split.block < length lists
  inside = block_held blocks lists split.block held (and_first (is_block blocks split.block) (is_block blocks split.by) known)

  pub none_goes : movers ≡ [] → split_by edges blocks split ≡ Err kinds.NothingSplit
  none_goes empty =
      nothing_split edges blocks split act (blocks.count + 1) (numbers_after edges blocks.numbers split.block split.by act (blocks.count + 1)) known apart acts
      refl refl
      (parts_none edges blocks.numbers split.block split.by act (blocks.count + 1) (λ k d h. (let (some, few) = held.in_use.known k d h in omega arith))
      (λ u. no_mover edges blocks.numbers movers split.block split.by act u are empty))

  pub none_stays : (list : Vec ℕ Global) → list ≡ slice_index_or lists split.block list → AllMove edges blocks.numbers split.block split.by act list.items
      → split_by edges blocks split ≡ Err kinds.NothingSplit
  none_stays list read all =
      nothing_split edges blocks split act (blocks.count + 1) (numbers_after edges blocks.numbers split.block split.by act (blocks.count + 1)) known apart acts
      refl refl
      (parts_all edges blocks.numbers split.block split.by act (blocks.count + 1) (λ e. absurd (omega (arith, inside, held.size)))
      (all_go edges blocks.numbers lists split.block split.by act list held.listed read all))

  module _ (new : List ℕ) (done : AreRenumbered blocks.numbers movers (blocks.count + 1) new) (some : 0 < length movers)
      (stayer : HasStayer edges blocks.numbers split.block split.by act) where
    is : new ≡ numbers_after edges blocks.numbers split.block split.by act (blocks.count + 1)
    is = renumbered_is edges blocks.numbers movers new split.block split.by act (blocks.count + 1) are done

    parts : (has new split.block && has new (blocks.count + 1)) ≡ true
    parts = ap (λ (ns : List ℕ). has ns split.block && has ns (blocks.count + 1)) is
        ∙ parts_some edges blocks.numbers split.block split.by act (blocks.count + 1) (get_or movers 0 0) (are.only 0 0 some) stayer

    pub some_go : split_by edges blocks split ≡ Ok (record { numbers = new; count = blocks.count + 1 })
    some_go = both_parts edges blocks split act (blocks.count + 1) new known apart acts refl is parts

    pub held_after : (lists' : List (Vec ℕ Global)) (list : Vec ℕ Global) → list.items ≡ movers → lists' ≡ lists ++ list ∷ []
        → AreHeld new (blocks.count + 1) lists'
    held_after lists' list items pushed = record {
      in_use = made_used edges blocks split act (blocks.count + 1) new held.in_use refl is parts;
      listed = listed_moved blocks.numbers new lists lists' list (blocks.count + 1) held.listed (sym held.size)
          (subst (λ (ms : List ℕ). AreRenumbered blocks.numbers ms (blocks.count + 1) new) (sym items) done)
          (subst (All (λ u. u < length blocks.numbers)) (sym items)
          (λ k d h. mover_below edges blocks.numbers split.block split.by act (slice_index_or movers k d) (are.only k d h))) pushed;
      size = (let long : length lists' ≡ length lists + 1 = ap length pushed ∙ length_push lists list in omega (arith, held.size));
    }
