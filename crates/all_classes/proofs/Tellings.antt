-- From the frames that were put to what is reported of them.
use Rattle.std.proofs.Common.{◌≡◌, ◌≢◌, ◌⊎◌, inl, inr, ℕ, Bool, true, false, List, [], refl, sym, ap, ◌∙◌, subst, Option}
use Rattle.io_kit.specs.Ends.{Rose, Took, TookPart}
use Rattle.io_kit.specs.FaultLines.{no_memory_line, write_fault_line}
use Rattle.io_kit.proofs.Pieces.{part_whole, part_nothing, took_nothing}
use Rattle.answer_kit.specs.Outcome.{Outcome}
use Rattle.endings.specs.declared.ending.Ending.{Ending}
use Rattle.endings.specs.declared.ending.Ending.TheVariants.{Done, NotAll, Memory, WriteFault}
use Rattle.endings.specs.Telling.{ending_of, is_output, out_of_memory, out_of_memory_behind, output}
use Rattle.all_classes.specs.declared.request.Asked.{Asked}
use Rattle.all_classes.specs.Frames.{all_done, frames}
use Rattle.all_classes.specs.Progress.{HasPut, HasPutFew, HasPutPart, TellsFrames}
use Rattle.all_classes.specs.Requests.{first_of, last_of, span, span_of}

-- the numbers that were computed are those that are asked
pub of_asked : (P : ℕ → ℕ → Type 0) (asked : Asked) (from to count classes : ℕ) → from ≡ first_of asked → to ≡ last_of asked count → count ≡ classes
    → P from (span from to) → P (first_of asked) (span_of asked classes)
of_asked P asked from to count classes first last counted p =
    subst (λ (k : ℕ). P k (span k (last_of asked classes))) first
    (subst (λ (t : ℕ). P from (span from t)) (last ∙ ap (last_of asked) counted) p)

is_told : (b : Bool) → is_output (ending_of b) ≡ true
is_told true = refl
is_told false = refl

is_no_line : (b : Bool) → is_output (ending_of b) ≡ false → ⊥
is_no_line true is = cc
is_no_line false is = cc

ends_well : (b : Bool) → ending_of b ≡ WriteFault → ⊥
ends_well true is = cc
ends_well false is = cc

module _ (A : ℕ → Outcome → Type 0) (asked : Asked) (classes : ℕ) (old new : Option (List ℕ)) (out_before out_now : ℕ) (err_old err_new : Option (List ℕ))
    (err_before err_now : ℕ) where
  -- all of them were put
  pub tells_whole : (done : Bool) (result : Ending) → result ≡ ending_of done → HasPut A (first_of asked) (span_of asked classes) done old new
      → TellsFrames A asked classes result old new out_before out_now err_old err_old err_before err_now
  tells_whole done result ended put =
      let os = put.outcomes in
      let all = frames (first_of asked) os in
      let well : result ≡ WriteFault → ⊥ = λ w. ends_well done (sym ended ∙ w) in
      record {
        telling = output (all_done os) all;
        cause = inl (record { outcomes = os; are = put.are; many = put.many; told = refl });
        told = record {
          ending = inl (ended ∙ ap ending_of put.done_is);
          out_part = part_whole old new all put.took;
          out_all = λ nw. put.took;
          out_before_line = λ line. put.took;
          err_all = λ nw. took_nothing err_old;
          err_part = λ w. absurd (well w);
          cause = λ w. absurd (well w);
        };
      }

  -- memory ran out behind some of them
  pub tells_cut : (result : Ending) → HasPutFew A (first_of asked) (span_of asked classes) old new → (result ≡ Memory) ⊎ (result ≡ WriteFault)
      → (result ≢ WriteFault → Took err_old err_new no_memory_line) → TookPart err_old err_new no_memory_line
      → (result ≡ WriteFault → Rose err_before err_now)
      → TellsFrames A asked classes result old new out_before out_now err_old err_new err_before err_now
  tells_cut result put ended all part cause =
      let some = frames (first_of asked) put.outcomes in
      record {
        telling = out_of_memory_behind some;
        cause = inr (inl (inr (record { outcomes = put.outcomes; are = put.are; few = put.few; told = refl })));
        told = record {
          ending = ended;
          out_part = part_whole old new some put.took;
          out_all = λ nw. put.took;
          out_before_line = λ line. put.took;
          err_all = all;
          err_part = λ w. inl part;
          cause = λ w. inl (cause w);
        };
      }

  -- it ran out before them
  pub tells_no_memory : (result : Ending) → (result ≡ Memory) ⊎ (result ≡ WriteFault)
      → (result ≢ WriteFault → Took err_old err_new no_memory_line) → TookPart err_old err_new no_memory_line
      → (result ≡ WriteFault → Rose err_before err_now)
      → TellsFrames A asked classes result old old out_before out_now err_old err_new err_before err_now
  tells_no_memory result ended all part cause = record {
    telling = out_of_memory;
    cause = inr (inl (inl refl));
    told = record {
      ending = ended;
      out_part = part_nothing old [];
      out_all = λ nw. took_nothing old;
      out_before_line = λ line. took_nothing old;
      err_all = all;
      err_part = λ w. inl part;
      cause = λ w. inl (cause w);
    };
  }

  -- the output failed in them
  pub tells_begun : (result : Ending) → result ≡ WriteFault → HasPutPart A (first_of asked) (span_of asked classes) old new → Rose out_before out_now
      → TookPart err_old err_new write_fault_line
      → TellsFrames A asked classes result old new out_before out_now err_old err_new err_before err_now
  tells_begun result ended put rose part =
      let os = put.outcomes in
      let all = frames (first_of asked) os in
      record {
        telling = output (all_done os) all;
        cause = inr (inr (ended, record { outcomes = os; are = put.are; few = put.few; told = refl }));
        told = record {
          ending = inr ended;
          out_part = put.part;
          out_all = λ nw. absurd (nw ended);
          out_before_line = λ line. absurd (is_no_line (all_done os) line);
          err_all = λ nw. absurd (nw ended);
          err_part = λ w. inr part;
          cause = λ w. inr (is_told (all_done os), rose);
        };
      }
