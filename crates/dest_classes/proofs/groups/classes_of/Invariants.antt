use Rattle.std.proofs.Common.{◌≡◌, ◌++◌, map}
use Rattle.dest_classes.specs.Groups.{shown_group, class_from}
use Rattle.dest_classes.proofs.groups.classes_of.Given as goal

abbrev pub invariant-loop-signature : goal.invariant-loop-signature
invariant-loop-signature l = l.classes ++ map class_from (map shown_group l.signature-iterator) ≡ map class_from (map shown_group l.fn.groups.entries)
