use Rattle.std.proofs.Common.{rules, ◌≡◌, ◌+◌, ◌&&◌, ◌<◌, ℕ, true, List, length, slice_set, refl, sym, subst, arith, Err, Ok}
use Rattle.std.proofs.lemmas.Grind.{common_steps}
use Rattle.std.proofs.lemmas.List.{nil_from_length}
use Rattle.cut_certificate.specs.declared.refusal.CutKind.TheVariants as kinds
use Rattle.cut_certificate.specs.Blocks.{Blocks, is_block, split_by}
use Rattle.cut_certificate.specs.Moves.{AreMovers, AreStillMembersListed, AllMove, HasStayer, AreRenumbered}
use Rattle.cut_certificate.proofs.Divided.{none_goes, none_stays, some_go, held_after, held_set, block_held}
use Rattle.cut_certificate.proofs.Made.{no_block, same_block}
use Rattle.cut_certificate.proofs.Reached.{and_first}
use Rattle.cut_certificate.proofs.blocks.Blocks.split_by.Goals.{then-is_empty-via-then-is_empty, then-is_empty-via-else-is_empty+then-not-stays}
use Rattle.cut_certificate.proofs.blocks.Blocks.split_by.Goals as goal

pub returns-then-not-are_blocks : goal.returns-then-not-are_blocks
returns-then-not-are_blocks c = (no_block c.args.graph.now.edges c.args.self c.args.split (sym c.if-not-are_blocks.ensures), refl)

pub returns-then-split : goal.returns-then-split
returns-then-split c = (same_block c.args.graph.now.edges c.args.self c.args.split (sym c.if-not-are_blocks.ensures) c.if-split.true, refl)

pub invariant_of-same : goal.invariant_of-same
invariant_of-same c =
    let blocks : Blocks = record { numbers = c.self.inside.numbers.items; count = c.self.inside.count } in
    let lists = c.self.inside.lists.items in
    let split = c.args.split in
    let known : (is_block blocks split.block && is_block blocks split.by) ≡ true =
    subst (λ (b : Blocks). (is_block b split.block && is_block b split.by) ≡ true) (sym c.self.view_is) (sym c.if-not-are_blocks.ensures) in
    let inside = block_held blocks lists split.block c.self.invariant (and_first (is_block blocks split.block) (is_block blocks split.by) known) in
    let still = subst (λ (ns : List ℕ). AreStillMembersListed ns split.block c.index_mut-list.result.now.items c.has_stayer-stays.new.list.items)
    c.deref-3.ensures.value c.has_stayer-stays.ensures.listed in
    held_set blocks.numbers blocks.count lists split.block c.index_mut-list.result.now c.has_stayer-stays.new.list c.self.invariant inside
    c.index_mut-list.ensures.value still

pub returns-then-is_empty : goal.returns-then-is_empty
returns-then-is_empty c =
    let edges = c.args.graph.now.edges in
    let blocks : Blocks = record { numbers = c.self.inside.numbers.items; count = c.self.inside.count } in
    let lists = c.self.inside.lists.items in
    let split = c.args.split in
    let known : (is_block blocks split.block && is_block blocks split.by) ≡ true =
    subst (λ (b : Blocks). (is_block b split.block && is_block b split.by) ≡ true) (sym c.self.view_is) (sym c.if-not-are_blocks.ensures) in
    let movers = c.in_ok-movers.movers.items in
    let are : AreMovers edges blocks.numbers split.block split.by c.args.act movers =
    subst (λ (ns : List ℕ). AreMovers edges ns split.block split.by c.args.act movers) c.deref.ensures.value c.in_ok-movers.ensures in
    let fault : split_by edges blocks split ≡ Err kinds.NothingSplit = elim c.then-is_empty.branch [
      | then-is_empty-via-then-is_empty w ↦ none_goes edges blocks split c.args.act lists movers known c.if-split.false c.requires.act c.self.invariant are
          (nil_from_length movers (search rules))
      | then-is_empty-via-else-is_empty+then-not-stays w ↦
          let all = subst (λ (ns : List ℕ). AllMove edges ns split.block split.by c.args.act c.index_mut-list.result.now.items) c.deref-3.ensures.value
          (c.has_stayer-stays.ensures.none w.if-not-stays.true) in
          none_stays edges blocks split c.args.act lists movers known c.if-split.false c.requires.act c.self.invariant are c.index_mut-list.result.now
          c.index_mut-list.ensures.value all
    ] in
    (subst (λ (b : Blocks). split_by edges b split ≡ Err kinds.NothingSplit) c.self.view_is fault, c.self.view_is)

some_mover : (c : goal.In_ok-push) → 0 < length c.in_ok-movers.movers.items
some_mover c = grind (arith, common_steps)

pub invariant_of-after : goal.invariant_of-after
invariant_of-after c =
    let edges = c.args.graph.now.edges in
    let blocks : Blocks = record { numbers = c.self.inside.numbers.items; count = c.self.inside.count } in
    let split = c.args.split in
    let known : (is_block blocks split.block && is_block blocks split.by) ≡ true =
    subst (λ (b : Blocks). (is_block b split.block && is_block b split.by) ≡ true) (sym c.self.view_is) (sym c.if-not-are_blocks.ensures) in
    let movers = c.in_ok-movers.movers.items in
    let are : AreMovers edges blocks.numbers split.block split.by c.args.act movers =
    subst (λ (ns : List ℕ). AreMovers edges ns split.block split.by c.args.act movers) c.deref.ensures.value c.in_ok-movers.ensures in
    let new = c.renumber.new.numbers.items in
    let done : AreRenumbered blocks.numbers movers (blocks.count + 1) new =
    subst (λ (us : List ℕ). AreRenumbered blocks.numbers us (blocks.count + 1) new) c.deref-4.ensures.value c.renumber.ensures in
    let stayer : HasStayer edges blocks.numbers split.block split.by c.args.act =
    subst (λ (ns : List ℕ). HasStayer edges ns split.block split.by c.args.act) c.deref-3.ensures.value
    (c.has_stayer-stays.ensures.stays c.if-not-stays.false) in
    let lists = c.self.inside.lists.items in
    let inside = block_held blocks lists split.block c.self.invariant (and_first (is_block blocks split.block) (is_block blocks split.by) known) in
    let still = subst (λ (ns : List ℕ). AreStillMembersListed ns split.block c.index_mut-list.result.now.items c.has_stayer-stays.new.list.items)
    c.deref-3.ensures.value c.has_stayer-stays.ensures.listed in
    let held = held_set blocks.numbers blocks.count lists split.block c.index_mut-list.result.now c.has_stayer-stays.new.list c.self.invariant inside
    c.index_mut-list.ensures.value still in
    held_after edges blocks split c.args.act (slice_set lists split.block c.has_stayer-stays.new.list) movers known c.if-split.false c.requires.act held are new
    done (some_mover c) stayer c.push.new.self.items c.in_ok-movers.movers refl c.in_ok-push.ensures.items

pub returns : goal.returns
returns c =
    let edges = c.args.graph.now.edges in
    let blocks : Blocks = record { numbers = c.self.inside.numbers.items; count = c.self.inside.count } in
    let split = c.args.split in
    let known : (is_block blocks split.block && is_block blocks split.by) ≡ true =
    subst (λ (b : Blocks). (is_block b split.block && is_block b split.by) ≡ true) (sym c.self.view_is) (sym c.if-not-are_blocks.ensures) in
    let movers = c.in_ok-movers.movers.items in
    let are : AreMovers edges blocks.numbers split.block split.by c.args.act movers =
    subst (λ (ns : List ℕ). AreMovers edges ns split.block split.by c.args.act movers) c.deref.ensures.value c.in_ok-movers.ensures in
    let new = c.renumber.new.numbers.items in
    let done : AreRenumbered blocks.numbers movers (blocks.count + 1) new =
    subst (λ (us : List ℕ). AreRenumbered blocks.numbers us (blocks.count + 1) new) c.deref-4.ensures.value c.renumber.ensures in
    let stayer : HasStayer edges blocks.numbers split.block split.by c.args.act =
    subst (λ (ns : List ℕ). HasStayer edges ns split.block split.by c.args.act) c.deref-3.ensures.value
    (c.has_stayer-stays.ensures.stays c.if-not-stays.false) in
    let made = some_go edges blocks split c.args.act c.self.inside.lists.items movers known c.if-split.false c.requires.act c.self.invariant are new done
    (some_mover c) stayer in
    subst (λ (b : Blocks). split_by edges b split ≡ Ok (record { numbers = new; count = blocks.count + 1 })) c.self.view_is made
