-- What is reported as a line alone.
use Rattle.std.proofs.Common.{◌≡◌, ◌≢◌, ◌⊎◌, inl, ℕ, List, [], Option}
use Rattle.io_kit.specs.Ends.{Rose, Took, TookPart}
use Rattle.io_kit.proofs.Pieces.{took_nothing, part_nothing}
use Rattle.endings.specs.declared.ending.Ending.{Ending}
use Rattle.endings.specs.declared.ending.Ending.TheVariants.{WriteFault}
use Rattle.endings.specs.Meets.{Tells}

pub tells_line : (ending result : Ending) (line : List ℕ) (out err_old err_new : Option (List ℕ)) (count before now : ℕ)
    → (result ≡ ending) ⊎ (result ≡ WriteFault) → (result ≢ WriteFault → Took err_old err_new line) → TookPart err_old err_new line
    → (result ≡ WriteFault → Rose before now)
    → Tells (record { ending = ending; out = []; err = line }) result out out count count err_old err_new before now
tells_line ending result line out err_old err_new count before now is all part cause = record {
  ending = is;
  out_part = part_nothing out [];
  out_all = λ told. took_nothing out;
  out_before_line = λ other. took_nothing out;
  err_all = all;
  err_part = λ fault. inl part;
  cause = λ fault. inl (cause fault);
}
