-- What `verify` tells of a class is determined.
use Rattle.std.proofs.Common.{◌≡◌, ◌<◌, ℕ, Bool, true, false, List, refl, sym, ap, ◌∙◌, subst, arith, Option, Result, Ok, Err}
use Rattle.std.specs.Prelude.{Contains, IsSome}
use Rattle.base_kit.specs.declared.act_graph.ActGraph.{ActGraph}
use Rattle.base_kit.specs.Partition.{color}
use Rattle.cfg_ast.specs.declared.network.Network.{Network}
use Rattle.cfg_ast.specs.declared.classes.DestClass.{DestClass}
use Rattle.cfg_ast.specs.meaning.Classes.{classes_of}
use Rattle.srp_core.specs.Problem.{Problem, count, is_lone}
use Rattle.srp_core.specs.Starts.{IsGraphOf}
use Rattle.class_laws.specs.Laws.{BuiltProblemIsOne}
use Rattle.cut_certificate.specs.declared.certificate.Certificate.{Certificate}
use Rattle.cut_certificate.specs.declared.refusal.CutRefusal.{CutRefusal}
use Rattle.cut_certificate.specs.declared.refusal.CutRefusal.TheVariants as cut_refusal
use Rattle.cut_certificate.specs.Laws.{AreSameButColors, ColorsFollow, ColorsAreAside}
use Rattle.cut_certificate.specs.Texts.{certificate_of_text}
use Rattle.answer_kit.specs.Outcome.{Outcome}
use Rattle.answer_kit.proofs.OneText.{one_of_second}
use Rattle.answer_certificates.specs.Verified.{certificate_limit, long_certificate, IsVerdict, IsVerdictOn, IsVerifyOf}

-- colors of one graph of a problem follow those of another
colors_follow : (problem : Problem) (g h : ActGraph) → IsGraphOf problem g → IsGraphOf problem h → ColorsFollow g h
colors_follow problem g h a b u v hu hv same = by (is_lone problem u) refl (is_lone problem v) refl
  where
    lu : u < count problem
    lu = omega (arith, a.routers)

    lv : v < count problem
    lv = omega (arith, a.routers)

    by : (x : Bool) → is_lone problem u ≡ x → (y : Bool) → is_lone problem v ≡ y → color h u ≡ color h v
    by true e y f = ap (color h) (a.alone u v lu lv e same)
    by false e true f = ap (color h) (sym (a.alone v u lv lu f (sym same)))
    by false e false f = b.alike u v lu lv e f (a.apart u v lu lv e f same)

one_graph : (problem : Problem) (g h : ActGraph) → IsGraphOf problem g → IsGraphOf problem h → AreSameButColors g h
one_graph problem g h a b = record {
  count = a.routers ∙ sym b.routers;
  edges = a.edges ∙ sym b.edges;
  there = colors_follow problem g h a b;
  back = colors_follow problem h g b a;
}

one_verdict : (r : Result Certificate CutRefusal) (o p : Outcome) → IsVerdict r o → IsVerdict r p → o ≡ p
one_verdict (Ok certificate) o p x y = x ∙ sym y
one_verdict (Err (cut_refusal.At line why)) o p x y = x ∙ sym y
one_verdict (Err cut_refusal.Memory) o p x y = absurd x

one_text : ColorsAreAside → (P Q : Problem) (g h : ActGraph) → P ≡ Q → IsGraphOf P g → IsGraphOf Q h → (text : List ℕ) (o p : Outcome) → IsVerdictOn P g text o
    → IsVerdictOn Q h text p → o ≡ p
one_text aside P Q g h same a b text o p x y =
    let other : IsGraphOf P h = subst (λ (R : Problem). IsGraphOf R h) (sym same) b in
    let read : certificate_of_text h Q.names text ≡ certificate_of_text g P.names text =
    ap (λ (R : Problem). certificate_of_text h R.names text) (sym same) ∙ aside h g (one_graph P h g other a) P.names text in
    one_verdict (certificate_of_text g P.names text) o p x (subst (λ (r : Result Certificate CutRefusal). IsVerdict r p) read y)

pub one_verify : (n : Network) (class : DestClass) → Contains (classes_of n) class → BuiltProblemIsOne → ColorsAreAside → (second : Option (List ℕ))
    → IsSome second → (o p : Outcome) → IsVerifyOf n second class o → IsVerifyOf n second class p → o ≡ p
one_verify n class has one aside second told o p x y =
    let same = one n class has x.problem y.problem x.are.built y.are.built in
    one_of_second certificate_limit long_certificate (IsVerdictOn x.problem x.graph) (IsVerdictOn y.problem y.graph) second told o p
    (λ text a b. one_text aside x.problem y.problem x.graph y.graph same x.are.of_problem y.are.of_problem text o p a b) x.verdict y.verdict
