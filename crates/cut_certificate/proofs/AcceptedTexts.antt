-- What a text spells is accepted.
use Rattle.std.proofs.Common.{◌≡◌, ℕ, ◌+◌, ◌<◌, true, List, [], ◌∷◌, ◌++◌, length, map, refl, sym, ap, ◌∙◌, subst, Option, Result, Ok, Err, inl, inr}
use Rattle.base_kit.specs.declared.act_graph.ActGraph.{ActGraph}
use Rattle.cfg_ast.specs.text.TextLines.{TextLine, text_line}
use Rattle.cfg_ast.specs.text.Members.{all_lines_of}
use Rattle.cut_certificate.specs.declared.certificate.Split.{Split}
use Rattle.cut_certificate.specs.declared.certificate.Certificate.{Certificate}
use Rattle.cut_certificate.specs.declared.refusal.CutKind.{CutKind}
use Rattle.cut_certificate.specs.declared.standing.Stage.{Stage}
use Rattle.cut_certificate.specs.declared.standing.Stage.TheVariants.{Opening, Splitting, Naming, Closed}
use Rattle.cut_certificate.specs.Blocks.{Blocks, first_blocks, split_by}
use Rattle.cut_certificate.specs.Certificates.{AreAfter, IsAccepted}
use Rattle.cut_certificate.specs.Evenness.{are_even}
use Rattle.cut_certificate.specs.Texts.{Standing, opening, router_named, with_line, certificate_of, ended, go_on, certificate_from, certificate_of_text}
use Rattle.cut_certificate.proofs.Evened.{even_admissible}
use Rattle.cut_certificate.proofs.Reached.{first_reached, all_reached}
use Rattle.cut_certificate.proofs.StepsOf.{IsStep, stays, makes, line_step}

pub after_push : (graph : ActGraph) (splits : List Split) (split : Split) (blocks middle last : Blocks) → AreAfter graph blocks splits middle
    → split.edge < length graph.edges → split_by graph.edges middle split ≡ Ok last → AreAfter graph blocks (splits ++ split ∷ []) last
after_push graph [] split blocks middle last after inside made = (last, inside, ap (λ b. split_by graph.edges b split) after ∙ made, refl)
after_push graph (first ∷ splits) split blocks middle last (next, within, made', rest) inside made =
    (next, within, made', after_push graph splits split next middle last rest inside made)

-- the splits so far lead to the blocks, which are even behind the end
pub record IsSound (graph : ActGraph) (s : Standing) : Type 0 where
  pub after : AreAfter graph (first_blocks graph) s.splits s.blocks
  pub even : s.stage ≡ Closed → are_even graph.edges s.blocks.numbers ≡ true

pub step_sound : (graph : ActGraph) (s next : Standing) → IsSound graph s → IsStep graph.edges s next → IsSound graph next
step_sound graph s next sound (stays splits blocks stage) = record {
  after = subst (λ ss. AreAfter graph (first_blocks graph) ss next.blocks) (sym splits)
      (subst (AreAfter graph (first_blocks graph) s.splits) (sym blocks) sound.after);
  even = λ c. ap (λ (b : Blocks). are_even graph.edges b.numbers) blocks ∙ elim (stage c) [ inl was ↦ sound.even was | inr e ↦ e ];
}
step_sound graph s next sound (makes split inside made splits stage) = record {
  after = subst (λ ss. AreAfter graph (first_blocks graph) ss next.blocks) (sym splits)
      (after_push graph s.splits split (first_blocks graph) s.blocks next.blocks sound.after inside made);
  even = λ c. absurd (let e = sym stage ∙ c in cc);
}

ended_sound : (graph : ActGraph) (line : ℕ) (s : Standing) (stage : Stage) (c : Certificate) → s.stage ≡ stage → IsSound graph s → ended line s stage ≡ Ok c
    → IsAccepted graph c
ended_sound graph line s Opening c is sound e = absurd cc
ended_sound graph line s Splitting c is sound e = absurd cc
ended_sound graph line s Naming c is sound e = absurd cc
ended_sound graph line s Closed c is sound e =
    let same : certificate_of s ≡ c = cc in
    let are = all_reached graph s.splits (first_blocks graph) s.blocks (first_reached graph) sound.after in
    subst (IsAccepted graph) same (record {
      blocks = s.blocks;
      split = sound.after;
      groups = refl;
      admissible = even_admissible graph s.blocks.numbers are.total are.colors (sound.even is);
    })

lines_sound : (graph : ActGraph) (routers : List ℕ → Option ℕ) (line : ℕ) (ls : List TextLine) (s : Standing) (c : Certificate) → IsSound graph s
    → certificate_from graph.edges routers line ls s ≡ Ok c → IsAccepted graph c
unfolding certificate_from
lines_sound graph routers line [] s c sound e = ended_sound graph line s s.stage c refl sound e
lines_sound graph routers line (l ∷ ls) s c sound e = by (λ (next : Standing). lines_sound graph routers line ls next c)
    (with_line graph.edges routers s l.words) refl e
  where
    by : ((next : Standing) → IsSound graph next → certificate_from graph.edges routers line ls next ≡ Ok c → IsAccepted graph c)
        → (r : Result Standing CutKind) → with_line graph.edges routers s l.words ≡ r → go_on l.number r (certificate_from graph.edges routers line ls) ≡ Ok c
        → IsAccepted graph c
    by rest (Err kind) is e = absurd cc
    by rest (Ok next) is e = rest next (step_sound graph s next sound (line_step graph.edges routers s next l.words is)) e

pub text_is_accepted : (graph : ActGraph) (names : List (List ℕ)) (bs : List ℕ) (c : Certificate) → certificate_of_text graph names bs ≡ Ok c
    → IsAccepted graph c
unfolding certificate_of_text
text_is_accepted graph names bs c e =
    lines_sound graph (router_named names) (length (all_lines_of bs) + 1) (map (text_line bs) (all_lines_of bs)) (opening graph) c
    (record { after = refl; even = λ c. absurd cc }) e
