-- One more line of a summary.
use Rattle.std.proofs.Common.{◌≡◌, ℕ, suc, ◌+◌, ◌<◌, ◌≤◌, List, [], ◌∷◌, ◌++◌, length, get_or, take, refl, sym, ap, ◌∙◌, subst, arith, append_assoc, append-nil, length-take}
use Rattle.std.proofs.lemmas.List.{take_more, take_all}
use Rattle.cfg_ast.specs.declared.network.Network.{Network}
use Rattle.cfg_ast.specs.declared.classes.DestClass.{DestClass}
use Rattle.config_emit.specs.Plan.{Plan}
use Rattle.compress_laws.specs.Built.{IsPlanOf}
use Rattle.answer_reports.specs.Summaries.{ArePlansOf, summary_line, summary_lines, AreSummaryLines, HasLineOf}

module _ (n : Network) where
  one_more_plan : (cs : List DestClass) (ps : List Plan) (c : DestClass) (p : Plan) → ArePlansOf n cs ps → IsPlanOf n c p
      → ArePlansOf n (cs ++ c ∷ []) (ps ++ p ∷ [])
  one_more_plan [] [] c p are is = (is, tt)
  one_more_plan [] (q ∷ ps) c p are is = absurd are
  one_more_plan (d ∷ cs) [] c p are is = absurd are
  one_more_plan (d ∷ cs) (q ∷ ps) c p are is = (are.0, one_more_plan cs ps c p are.1 is)

  as_many : (cs : List DestClass) (ps : List Plan) → ArePlansOf n cs ps → length ps ≡ length cs
  as_many [] [] are = refl
  as_many [] (q ∷ ps) are = absurd are
  as_many (d ∷ cs) [] are = absurd are
  as_many (d ∷ cs) (q ∷ ps) are = ap suc (as_many cs ps are.1)

  -- the last line has the number behind those before it
  one_more_line : (k j : ℕ) (ps : List Plan) (p : Plan) → k + length ps ≡ j → summary_lines n k (ps ++ p ∷ []) ≡ summary_lines n k ps ++ summary_line n (j, p)
  one_more_line k j [] p at =
      let same : k ≡ j = omega (arith, at) in
      append-nil (summary_line n (k, p)) ∙ ap (λ (m : ℕ). summary_line n (m, p)) same
  one_more_line k j (q ∷ ps) p at =
      let next : (k + 1) + length ps ≡ j = omega (arith, at) in
      ap (λ (t : List ℕ). summary_line n (k, q) ++ t) (one_more_line (k + 1) j ps p next)
      ∙ sym (append_assoc (summary_line n (k, q)) (summary_lines n (k + 1) ps) (summary_line n (j, p)))

  pub next_line : (cs : List DestClass) (i : ℕ) (c : DestClass) (old new : List ℕ) → i < length cs → c ≡ get_or cs i c → HasLineOf n (i + 1) c old new
      → AreSummaryLines n 1 (take i cs) old → AreSummaryLines n 1 (take (i + 1) cs) new
  next_line cs i c old new less at has before =
      let front : take (i + 1) cs ≡ take i cs ++ c ∷ [] = take_more cs i c less ∙ ap (λ (d : DestClass). take i cs ++ d ∷ []) (sym at) in
      let many : length (take i cs) ≡ i = omega (arith, length-take i cs, less) in
      let place : 1 + length before.plans ≡ i + 1 = omega (arith, as_many (take i cs) before.plans before.are, many) in
      record {
        plans = before.plans ++ has.plan ∷ [];
        are = subst (λ (ds : List DestClass). ArePlansOf n ds (before.plans ++ has.plan ∷ [])) (sym front)
            (one_more_plan (take i cs) before.plans c has.plan before.are has.is);
        lines = has.line ∙ ap (λ (t : List ℕ). t ++ summary_line n (i + 1, has.plan)) before.lines ∙ sym (one_more_line 1 (i + 1) before.plans has.plan place);
      }

  -- after the last class
  pub all_lines : (cs : List DestClass) (i : ℕ) (text bytes : List ℕ) → length cs ≤ i → bytes ≡ text → AreSummaryLines n 1 (take i cs) text
      → AreSummaryLines n 1 cs bytes
  all_lines cs i text bytes past same lines = record {
    plans = lines.plans;
    are = subst (λ (ds : List DestClass). ArePlansOf n ds lines.plans) (take_all i cs past) lines.are;
    lines = same ∙ lines.lines;
  }
