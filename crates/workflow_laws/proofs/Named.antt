-- The typed words name their commands.
use Rattle.std.proofs.Common.{◌≡◌, ◌≤◌, ℕ, true, List, [], ◌∷◌, refl, ap, ◌∙◌, arith, Some, None, codes, if◌then◌else◌}
use Rattle.std.specs.Prelude.{decimal, nat_le}
use Rattle.std.specs.Option.{option_map, option_and_then}
use Rattle.std.proofs.lemmas.Bool.Decides.{nat_tests}
use Rattle.base_kit.specs.Numbers.{number_of}
use Rattle.cfg_round_trip.proofs.WordsBack.{up_to_back}
use Rattle.bonsai_top.specs.declared.command.ClassCommand.{ClassCommand}
use Rattle.bonsai_top.specs.declared.command.ClassCommand.TheVariants as on_class
use Rattle.bonsai_top.specs.declared.command.SecondCommand.{SecondCommand}
use Rattle.bonsai_top.specs.declared.command.SecondCommand.TheVariants as on_second
use Rattle.bonsai_top.specs.declared.command.Command.TheVariants.{OnClass, OnSecond}
use Rattle.bonsai_top.specs.Words.{short, short_number_of}
use Rattle.bonsai_top.specs.Commands.{class_command, second_command, command_of}
use Rattle.workflow_laws.specs.Commands as command
use Rattle.workflow_laws.specs.Setting.{IsShort}
use Rattle.workflow_laws.specs.Words.{groups, compress, canon, certify, check, fold, lift, run, reach, verify}

number_read : (n : ℕ) → n ≤ 4294967295 → number_of (decimal n) ≡ Some n
number_read n small = up_to_back 4294967295 n small (omega arith)

short_read : (n : ℕ) → IsShort n → short_number_of (decimal n) ≡ Some n
short_read n small =
    let within : nat_le n 999999999 ≡ true = grind (arith, nat_tests) in
    ap (option_and_then short) (number_read n (omega arith)) ∙ ap (λ b. if b then Some n else None) within

-- a command on a file and a class
of_class : (name file : List ℕ) (n : ℕ) → IsShort n → (of : ClassCommand) → class_command name ≡ Some of
    → command_of (name ∷ file ∷ decimal n ∷ []) ≡ Some (OnClass of n)
unfolding command_of
of_class name file n small of named =
    ap (option_and_then (λ (c : ClassCommand). option_map (OnClass c) (short_number_of (decimal n)))) named ∙ ap (option_map (OnClass of)) (short_read n small)

-- a command on a file, a class and a second file
of_second : (name file second : List ℕ) (n : ℕ) → IsShort n → (of : SecondCommand) → second_command name ≡ Some of
    → command_of (name ∷ file ∷ decimal n ∷ second ∷ []) ≡ Some (OnSecond of n)
unfolding command_of
of_second name file second n small of named =
    ap (option_and_then (λ (c : SecondCommand). option_map (OnSecond c) (short_number_of (decimal n)))) named ∙ ap (option_map (OnSecond of))
    (short_read n small)

module _ (F : List ℕ) (N : ℕ) (small : IsShort N) where
  pub names_groups : command_of (groups F N) ≡ Some (command.Groups N)
  names_groups = of_class (codes "groups") F N small on_class.Groups refl

  pub names_compress : command_of (compress F N) ≡ Some (command.Compress N)
  names_compress = of_class (codes "compress") F N small on_class.Compress refl

  pub names_canon : command_of (canon F N) ≡ Some (command.Canon N)
  names_canon = of_class (codes "canon") F N small on_class.Canon refl

  pub names_certify : command_of (certify F N) ≡ Some (command.Certify N)
  names_certify = of_class (codes "certify") F N small on_class.Certify refl

module _ (F S : List ℕ) (N : ℕ) (small : IsShort N) where
  pub names_check : command_of (check F N S) ≡ Some (command.Check N)
  names_check = of_second (codes "check") F S N small on_second.Check refl

  pub names_fold : command_of (fold F N S) ≡ Some (command.Fold N)
  names_fold = of_second (codes "fold") F S N small on_second.Fold refl

  pub names_lift : command_of (lift F N S) ≡ Some (command.Lift N)
  names_lift = of_second (codes "lift") F S N small on_second.Lift refl

  pub names_run : command_of (run F N S) ≡ Some (command.Run N)
  names_run = of_second (codes "run") F S N small on_second.Run refl

  pub names_reach : command_of (reach F N S) ≡ Some (command.Reach N)
  names_reach = of_second (codes "reach") F S N small on_second.Reach refl

  pub names_verify : command_of (verify F N S) ≡ Some (command.Verify N)
  names_verify = of_second (codes "verify") F S N small on_second.Verify refl
