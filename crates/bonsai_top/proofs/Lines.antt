-- An outcome that is a line alone.
use Rattle.std.proofs.Common.{◌≡◌, ◌≢◌, ◌⊎◌, inl, ℕ, List, [], Option}
use Rattle.io_kit.specs.Ends.{Rose, Took, TookPart}
use Rattle.io_kit.proofs.Pieces.{took_nothing, part_nothing}
use Rattle.answer_kit.specs.declared.status.Status.{Status}
use Rattle.answer_kit.specs.declared.status.Status.TheVariants.{WriteFault}
use Rattle.bonsai_top.specs.Meets.{Tells}

pub tells_line : (status result : Status) (line : List ℕ) (out err_old err_new : Option (List ℕ)) (count before now : ℕ)
    → (result ≡ status) ⊎ (result ≡ WriteFault) → (result ≢ WriteFault → Took err_old err_new line) → TookPart err_old err_new line
    → (result ≡ WriteFault → Rose before now)
    → Tells (record { status = status; out = []; err = line }) result out out count count err_old err_new before now
tells_line status result line out err_old err_new count before now is all part cause = record {
  status = is;
  out_part = part_nothing out [];
  out_all = λ told. took_nothing out;
  out_none = λ other. took_nothing out;
  err_all = all;
  err_part = λ fault. inl part;
  cause = λ fault. inl (cause fault);
}
