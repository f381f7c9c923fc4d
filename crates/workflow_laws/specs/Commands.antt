-- The commands that the words name, each on the class of a number.
use Rattle.std.specs.Prelude.{ℕ}
use Rattle.bonsai_top.specs.declared.command.ClassCommand.TheVariants as on_class
use Rattle.bonsai_top.specs.declared.command.SecondCommand.TheVariants as on_second
use Rattle.bonsai_top.specs.declared.command.Command.{Command}
use Rattle.bonsai_top.specs.declared.command.Command.TheVariants.{OnClass, OnSecond}

abbrev pub Groups : ℕ → Command
Groups = OnClass on_class.Groups

abbrev pub Compress : ℕ → Command
Compress = OnClass on_class.Compress

abbrev pub Canon : ℕ → Command
Canon = OnClass on_class.Canon

abbrev pub Certify : ℕ → Command
Certify = OnClass on_class.Certify

abbrev pub Check : ℕ → Command
Check = OnSecond on_second.Check

abbrev pub Fold : ℕ → Command
Fold = OnSecond on_second.Fold

abbrev pub Lift : ℕ → Command
Lift = OnSecond on_second.Lift

abbrev pub Run : ℕ → Command
Run = OnSecond on_second.Run

abbrev pub Reach : ℕ → Command
Reach = OnSecond on_second.Reach

abbrev pub Verify : ℕ → Command
Verify = OnSecond on_second.Verify
