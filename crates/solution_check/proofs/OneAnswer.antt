-- Labels have one answer, which problems that are alike share.
use Rattle.std.proofs.Common.{◌≡◌, ◌⊎◌, inl, inr, ℕ, zero, suc, ◌<◌, List, refl, sym, ap, ◌∙◌, subst, arith, Option, Some, None}
use Rattle.base_kit.specs.declared.protocol.Protocol.TheVariants.{Bgp as OverBgp}
use Rattle.srp_core.specs.declared.route.Route.{Route}
use Rattle.srp_core.specs.Alike.{ProblemsAlike}
use Rattle.srp_core.specs.Routes.{compare_keys}
use Rattle.srp_core.specs.Problem.{Problem, IsProblem, count, initial, key_of}
use Rattle.srp_core.specs.Stability.{label, AreLabels, IsCandidate, IsStable}
use Rattle.srp_core.proofs.Alike.{turned, inside, one_start, one_key, same_labels, same_stable, carry_candidate}
use Rattle.solution_check.specs.declared.judgement.Answer.{Answer}
use Rattle.solution_check.specs.declared.judgement.Answer.TheVariants.{Stable, Not}
use Rattle.solution_check.specs.Breaks.{HasWrongOrigin, HasNoCandidate, HasBetterCandidate, LacksLabel, BreaksBy, HoldsBest, IsFirstBreak, Judges}

-- ---- from one problem to the other

module _ (P Q : Problem) (same : ProblemsAlike P Q) (L : List (Option Route)) (fit : AreLabels P L) (u : ℕ) where
  carry : (c : Route) → IsCandidate P L u c → IsCandidate Q L u c
  carry c is = carry_candidate P Q same L fit u c is

  carry_back : (c : Route) → IsCandidate Q L u c → IsCandidate P L u c
  carry_back c is = carry_candidate Q P (turned P Q same) L (same_labels P Q same L fit) u c is

  one_order : (c r : Route) → compare_keys (key_of Q c) (key_of Q r) ≡ compare_keys (key_of P c) (key_of P r)
  one_order c r = λ j. compare_keys (sym (one_key P Q same c) j) (sym (one_key P Q same r) j)

  wrong : HasWrongOrigin P L u → HasWrongOrigin Q L u
  wrong w = record { protocol = sym same.protocol ∙ w.protocol; route = w.route; starts = sym (one_start P Q same u) ∙ w.starts; other = w.other }

  no_candidate : HasNoCandidate P L u → HasNoCandidate Q L u
  no_candidate w = record { route = w.route; labelled = w.labelled; other = λ is. w.other (carry_back w.route is) }

  better : HasBetterCandidate P L u → HasBetterCandidate Q L u
  better w = record {
    route = w.route;
    labelled = w.labelled;
    candidate = w.candidate;
    is_candidate = carry w.candidate w.is_candidate;
    beats =
        one_order w.candidate w.route ∙ w.beats;
  }

  lacks : LacksLabel P L u → LacksLabel Q L u
  lacks w = record { none = w.none; candidate = w.candidate; is_candidate = carry w.candidate w.is_candidate }

  holds : HoldsBest P L u → HoldsBest Q L u
  holds h = record {
    none = λ c none is. h.none c none (carry_back c is);
    held = λ r labelled. carry r (h.held r labelled);
    best = λ r c labelled is less. h.best r c labelled (carry_back c is) (sym (one_order c r) ∙ less);
  }

module _ (P Q : Problem) (same : ProblemsAlike P Q) (L : List (Option Route)) (fit : AreLabels P L) where
  not_wrong : (u : ℕ) → ¬ HasWrongOrigin P L u → ¬ HasWrongOrigin Q L u
  not_wrong u nw w = nw (wrong Q P (turned P Q same) L (same_labels P Q same L fit) u w)

  has_candidate : (u : ℕ) → ¬ HasNoCandidate P L u → ¬ HasNoCandidate Q L u
  has_candidate u nc w = nc (no_candidate Q P (turned P Q same) L (same_labels P Q same L fit) u w)

  breaks : (u why : ℕ) → BreaksBy P L u why → BreaksBy Q L u why
  breaks u _ (BreaksBy.wrong_origin w) = BreaksBy.wrong_origin (wrong P Q same L fit u w)
  breaks u _ (BreaksBy.not_a_candidate nw w) = BreaksBy.not_a_candidate (not_wrong u nw) (no_candidate P Q same L fit u w)
  breaks u _ (BreaksBy.better_candidate nw nc w) = BreaksBy.better_candidate (not_wrong u nw) (has_candidate u nc) (better P Q same L fit u w)
  breaks u _ (BreaksBy.none_with_candidate nw w) = BreaksBy.none_with_candidate (not_wrong u nw) (lacks P Q same L fit u w)

  judges : (a : Answer) → Judges P L a → Judges Q L a
  judges Stable stable = same_stable P Q same L stable
  judges (Not router why) first = record {
    inside = inside P Q same router first.inside;
    before = λ v less. holds P Q same L fit v (first.before v less);
    breaks = breaks router why first.breaks;
  }

-- ---- one answer of one problem

module _ (P : Problem) (rules : IsProblem P) (L : List (Option Route)) where
  -- in BGP a router that originates has no other candidate than its initial route
  not_over_edge : (u : ℕ) (i r : Route) → P.protocol ≡ OverBgp → initial P u ≡ Some i → IsCandidate P L u r → Some r ≡ Some i
  not_over_edge u i r bgp starts (IsCandidate.of_init e) = sym e ∙ starts
  not_over_edge u i r bgp starts (IsCandidate.of_edge edge edge_in importer over) =
      (let none = rules.starts.unoriginated bgp edge edge_in in
      let none_here : initial P u ≡ None = ap (λ (v : ℕ). initial P v) (sym importer) ∙ none in
      absurd_some (sym starts ∙ none_here))
    where
      absurd_some : Some i ≡ None → Some r ≡ Some i
      absurd_some e = cc

  right_origin : (u : ℕ) (l : Option Route) → label L u ≡ l → HoldsBest P L u → HasWrongOrigin P L u → ⊥
  right_origin u None labelled h w = h.none w.route labelled (IsCandidate.of_init w.starts)
  right_origin u (Some r) labelled h w = w.other (labelled ∙ not_over_edge u w.route r w.protocol w.starts (h.held r labelled))

  holds_or_breaks : (u why : ℕ) → HoldsBest P L u → BreaksBy P L u why → ⊥
  holds_or_breaks u _ h (BreaksBy.wrong_origin w) = right_origin u (label L u) refl h w
  holds_or_breaks u _ h (BreaksBy.not_a_candidate nw w) = w.other (h.held w.route w.labelled)
  holds_or_breaks u _ h (BreaksBy.better_candidate nw nc w) = h.best w.route w.candidate w.labelled w.is_candidate w.beats
  holds_or_breaks u _ h (BreaksBy.none_with_candidate nw w) = h.none w.candidate w.none w.is_candidate

  both : (u : ℕ) (r : Route) → label L u ≡ Some r → label L u ≡ None → ⊥
  both u r some none = cc

  one_why : (u m n : ℕ) → BreaksBy P L u m → BreaksBy P L u n → m ≡ n
  one_why u _ _ (BreaksBy.wrong_origin w) (BreaksBy.wrong_origin v) = refl
  one_why u _ _ (BreaksBy.wrong_origin w) (BreaksBy.not_a_candidate nv v) = absurd (nv w)
  one_why u _ _ (BreaksBy.wrong_origin w) (BreaksBy.better_candidate nv nc v) = absurd (nv w)
  one_why u _ _ (BreaksBy.wrong_origin w) (BreaksBy.none_with_candidate nv v) = absurd (nv w)
  one_why u _ _ (BreaksBy.not_a_candidate nw w) (BreaksBy.wrong_origin v) = absurd (nw v)
  one_why u _ _ (BreaksBy.not_a_candidate nw w) (BreaksBy.not_a_candidate nv v) = refl
  one_why u _ _ (BreaksBy.not_a_candidate nw w) (BreaksBy.better_candidate nv nc v) = absurd (nc w)
  one_why u _ _ (BreaksBy.not_a_candidate nw w) (BreaksBy.none_with_candidate nv v) = absurd (both u w.route w.labelled v.none)
  one_why u _ _ (BreaksBy.better_candidate nw nc w) (BreaksBy.wrong_origin v) = absurd (nw v)
  one_why u _ _ (BreaksBy.better_candidate nw nc w) (BreaksBy.not_a_candidate nv v) = absurd (nc v)
  one_why u _ _ (BreaksBy.better_candidate nw nc w) (BreaksBy.better_candidate nv nd v) = refl
  one_why u _ _ (BreaksBy.better_candidate nw nc w) (BreaksBy.none_with_candidate nv v) = absurd (both u w.route w.labelled v.none)
  one_why u _ _ (BreaksBy.none_with_candidate nw w) (BreaksBy.wrong_origin v) = absurd (nw v)
  one_why u _ _ (BreaksBy.none_with_candidate nw w) (BreaksBy.not_a_candidate nv v) = absurd (both u v.route v.labelled w.none)
  one_why u _ _ (BreaksBy.none_with_candidate nw w) (BreaksBy.better_candidate nv nc v) = absurd (both u v.route v.labelled w.none)
  one_why u _ _ (BreaksBy.none_with_candidate nw w) (BreaksBy.none_with_candidate nv v) = refl

  stable_holds : IsStable P L → (u : ℕ) → u < count P → HoldsBest P L u
  stable_holds stable u h = record {
    none = λ c none. stable.none u c h none;
    held = λ r labelled. stable.held u r h labelled;
    best = λ r c labelled is. stable.best u r c h labelled is;
  }

  cases : (a b : ℕ) → (a < b) ⊎ ((b < a) ⊎ (a ≡ b))
  cases zero zero = inr (inr (omega arith))
  cases zero (suc b) = inl (omega arith)
  cases (suc a) zero = inr (inl (omega arith))
  cases (suc a) (suc b) = elim (cases a b) [
    | inl less ↦ inl (omega (arith, less))
    | inr (inl more) ↦ inr (inl (omega (arith, more)))
    | inr (inr same) ↦ inr (inr (omega (arith, same)))
  ]

  one_first : (u v m n : ℕ) → IsFirstBreak P L u m → IsFirstBreak P L v n → (u < v) ⊎ ((v < u) ⊎ (u ≡ v)) → Not u m ≡ Not v n
  one_first u v m n x y (inl less) = absurd (holds_or_breaks u m (y.before u less) x.breaks)
  one_first u v m n x y (inr (inl more)) = absurd (holds_or_breaks v n (x.before v more) y.breaks)
  one_first u v m n x y (inr (inr one)) =
      (let why = one_why v m n (subst (λ (w : ℕ). BreaksBy P L w m) one x.breaks) y.breaks in
      λ j. Not (one j) (why j))

  one_of : (a b : Answer) → Judges P L a → Judges P L b → a ≡ b
  one_of Stable Stable x y = refl
  one_of Stable (Not u m) x y = absurd (holds_or_breaks u m (stable_holds x u y.inside) y.breaks)
  one_of (Not u m) Stable x y = absurd (holds_or_breaks u m (stable_holds y u x.inside) x.breaks)
  one_of (Not u m) (Not v n) x y = one_first u v m n x y (cases u v)

pub one_answer : (P Q : Problem) (L : List (Option Route)) → IsProblem P → ProblemsAlike P Q → AreLabels P L → (a b : Answer) → Judges P L a → Judges Q L b →
    a ≡ b
one_answer P Q L rules same fit a b x y = one_of P rules L a b x (judges Q P (turned P Q same) L (same_labels P Q same L fit) b y)
