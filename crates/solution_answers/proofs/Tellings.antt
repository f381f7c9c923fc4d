-- One more solution that is reported.
use Rattle.std.proofs.Common.{◌≡◌, ℕ, ◌+◌, Bool, List, [], ◌∷◌, ◌++◌, length, flat_map, sym, ap, ◌∙◌, arith, append_assoc, length-append, Option}
use Rattle.std.specs.List.{enumerate_from}
use Rattle.srp_core.specs.declared.route.Route.{Route}
use Rattle.srp_core.specs.Problem.{Problem}
use Rattle.solution_answers.specs.Solutions.{solution_head, solution_text, solution_texts}
use Rattle.solution_answers.specs.Told.{HasTold, IsToldAs}
use Rattle.solution_answers.specs.declared.told.Told.{Told}
use Rattle.solution_answers.proofs.Pairs.{pair_more, flat_more, numbered_more}

pub told_more : (problem : Problem) (what : Told) (one : Bool) (number count next : ℕ) (old mid new head text : List ℕ) (found : List (List (Option Route)))
    (labels : List (Option Route)) → next ≡ count + 1 → head ≡ solution_head one number next → mid ≡ old ++ head → new ≡ mid ++ text
    → IsToldAs what problem labels text → HasTold problem what one number count old found → HasTold problem what one number next new (found ++ labels ∷ [])
told_more problem what one number count next old mid new head text found labels counted headed middle ended is before =
    let place : 1 + length before.texts ≡ next = omega (arith, before.count_is, counted) in
    let texts = before.texts ++ text ∷ [] in
    record {
      texts = texts;
      told = pair_more (IsToldAs what problem) found before.texts labels text before.told is;
      count_is = omega (arith, before.count_is, counted, length-append before.texts (text ∷ []));
      bytes_are = ended ∙ ap (λ (t : List ℕ). t ++ text) (middle ∙ ap (λ (t : List ℕ). t ++ head) before.bytes_are
          ∙ ap (λ (t : List ℕ). solution_texts one number before.texts ++ t) headed)
          ∙ append_assoc (solution_texts one number before.texts) (solution_head one number next) text
          ∙ ap (λ (k : ℕ). solution_texts one number before.texts ++ (solution_head one number k ++ text)) (sym place)
          ∙ sym (flat_more (solution_text one number) (enumerate_from 1 before.texts) (1 + length before.texts, text))
          ∙ sym (ap (λ (t : List (ℕ × List ℕ)). flat_map (solution_text one number) t) (numbered_more 1 before.texts text));
    }
