use Rattle.refine_partition.proofs.ClassNameLemmas.{among_named, among_others}
use Rattle.refine_partition.proofs.class_names.ClassNames.put.Goals as goal

pub returns-then-len-lt-FEW-clause-named : goal.returns-then-len-lt-FEW-clause-named
returns-then-len-lt-FEW-clause-named g c =
    rw c.in_default.is (among_named c.args.class c.args.name c.args.self.now.few.items c.push.new.self.items c.in_ok-push.ensures.items)

pub returns-then-len-lt-FEW-clause-others : goal.returns-then-len-lt-FEW-clause-others
returns-then-len-lt-FEW-clause-others g c other ne =
    rw c.in_default.is (among_others c.args.class c.args.name c.args.self.now.few.items c.push.new.self.items c.in_ok-push.ensures.items other ne)
