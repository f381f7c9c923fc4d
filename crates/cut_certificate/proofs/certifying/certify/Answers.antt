use Rattle.std.proofs.Common.{◌∙◌, ap, length, arith, refl}
use Rattle.cut_certificate.specs.declared.certificate.Certificate.{Certificate}
use Rattle.cut_certificate.specs.Blocks.{first_blocks, groups_of}
use Rattle.cut_certificate.proofs.Leaders.{refined_accepted, after_total}
use Rattle.cut_certificate.proofs.certifying.certify.Goals as goal

pub groups_of-requires : goal.groups_of-requires
groups_of-requires c =
    omega (
      arith,
      ap length c.numbers.ensures,
      after_total c.args.graph.now (first_blocks c.args.graph.now) c.in_ok-blocks.blocks c.in_ok-blocks.splits refl
          c.in_ok-blocks.ensures.after,
    )

pub returns-clause-accepted : goal.returns-clause-accepted
returns-clause-accepted c =
    let made : Certificate = record { splits = c.in_ok-blocks.splits; groups = c.in_ok-groups.groups } in
    refined_accepted c.args.graph.now (first_blocks c.args.graph.now) c.in_ok-blocks.blocks made refl c.in_ok-blocks.ensures.after c.in_ok-blocks.ensures.even
    (c.in_ok-groups.ensures ∙ ap groups_of c.numbers.ensures)
