-- The step of `ite`: by the first variable, in the sons, and put together.
use Rattle.std.proofs.Common.{◌≡◌, ℕ, ◌<◌, ◌≤◌, ◌+◌, Bool, true, false, List, length, slice_get, Some, refl, ◌∙◌, arith, inl, inr}
use Rattle.std.specs.Prelude.{if◌then◌else◌, ◌⊎◌}
use Rattle.dd_core.specs.declared.table.Node.{Node}
use Rattle.dd_core.specs.declared.table.Node.TheVariants.{Constant, Choice}
use Rattle.dd_core.specs.Value.{value}
use Rattle.dd_core.specs.Store.{IsStore, IsAbove, Extends, IsChoiceBetween, IsEarlierVariable, AreSons, IsIte, IsWithin}
use Rattle.dd_core.proofs.ValueLemmas.{value-Constant, value-Choice, value_kept}
use Rattle.dd_core.proofs.StoreLemmas.{above_kept}

pub choice_sons : (nodes : List Node) (c place high low : ℕ) → IsStore nodes → slice_get nodes place ≡ Some (Choice c high low) → AreSons nodes c place high low
choice_sons nodes c place high low store at =
    let r = store.reduced place c high low at in
    let hb = r.high_before in
    let lb = r.low_before in
    record {
      high_not_after = omega arith;
      low_not_after = omega arith;
      fall = λ other other' at'. (hb, lb);
      high_above = r.high_above;
      low_above = r.low_above;
      high_value = λ has e. rw e at (value-Choice nodes has place c high low at hb lb);
      low_value = λ has e. rw e at (value-Choice nodes has place c high low at hb lb);
    }

pub ite_true : (nodes : List Node) (a b c : ℕ) → slice_get nodes a ≡ Some (Constant true) → b < length nodes → IsIte nodes nodes a b c b
ite_true nodes a b c at inside = record {
  inside = inside;
  value = λ has. rw (value-Constant nodes has a true at) refl;
  above = λ d ha hb hc. hb;
}

pub ite_false : (nodes : List Node) (a b c : ℕ) → slice_get nodes a ≡ Some (Constant false) → c < length nodes → IsIte nodes nodes a b c c
ite_false nodes a b c at inside = record {
  inside = inside;
  value = λ has. rw (value-Constant nodes has a false at) refl;
  above = λ d ha hb hc. hc;
}

-- the first variable of three nodes, of which the first has one
pub record IsFirstOfThree (nodes : List Node) (a b c first : ℕ) : Type 0 where
  pub found : ((h : ℕ) × (l : ℕ) × (slice_get nodes a ≡ Some (Choice first h l)))
      ⊎ (((h : ℕ) × (l : ℕ) × (slice_get nodes b ≡ Some (Choice first h l))) ⊎ ((h : ℕ) × (l : ℕ) × (slice_get nodes c ≡ Some (Choice first h l))))

pub first_within : (nodes : List Node) (a b c first bound : ℕ) → IsFirstOfThree nodes a b c first → IsWithin nodes bound → first ≤ bound
first_within nodes a b c first bound three within = elim three.found [
  | inl there ↦ within.each a first _ _ there.2
  | inr rest ↦ elim rest [
    | inl there ↦ within.each b first _ _ there.2
    | inr there ↦ within.each c first _ _ there.2
  ]
]

pub first_of_three : (nodes : List Node) (a b c variable first first' h l : ℕ) → slice_get nodes a ≡ Some (Choice variable h l) →
    IsEarlierVariable nodes variable b first → IsEarlierVariable nodes first c first' → IsFirstOfThree nodes a b c first'
first_of_three nodes a b c variable first first' h l at one two = record {
  found = elim two.found [
    | inl e ↦ elim one.found [
      | inl e' ↦ inl (h, l, rw (e ∙ e') at)
      | inr there ↦ inr (inl (there.0, there.1, rw e there.2))
    ]
    | inr there ↦ inr (inr there)
  ];
}

module _ (nodes : List Node) (a b c first ah al bh bl ch cl : ℕ) (three : IsFirstOfThree nodes a b c first) (of_a : AreSons nodes first a ah al)
    (of_b : AreSons nodes first b bh bl) (of_c : AreSons nodes first c ch cl) where
  pub sons_fall : (ah + bh + ch < a + b + c) × (al + bl + cl < a + b + c)
  sons_fall =
      let a1 = of_a.high_not_after in
      let a2 = of_a.low_not_after in
      let b1 = of_b.high_not_after in
      let b2 = of_b.low_not_after in
      let c1 = of_c.high_not_after in
      let c2 = of_c.low_not_after in
      elim three.found [
        | inl there ↦ let f = of_a.fall _ _ there.2 in (omega arith, omega arith)
        | inr rest ↦ elim rest [
          | inl there ↦ let f = of_b.fall _ _ there.2 in (omega arith, omega arith)
          | inr there ↦ let f = of_c.fall _ _ there.2 in (omega arith, omega arith)
        ]
      ]

  pub before_first : (d : ℕ) → IsAbove nodes d a → IsAbove nodes d b → IsAbove nodes d c → d < first
  before_first d ha hb hc =
      elim three.found [
        | inl there ↦ ha.later first _ _ there.2
        | inr rest ↦ elim rest [
          | inl there ↦ hb.later first _ _ there.2
          | inr there ↦ hc.later first _ _ there.2
        ]
      ]

module _ (old mid mid' new : List Node) (a b c first ah al bh bl ch cl high low place : ℕ) (grown : Extends old mid) (grown' : Extends mid mid')
    (ia : a < length old) (ib : b < length old) (ic : c < length old)
    (three : IsFirstOfThree old a b c first) (of_a : AreSons old first a ah al) (of_b : AreSons old first b bh bl) (of_c : AreSons old first c ch cl)
    (of_high : IsIte old mid ah bh ch high) (of_low : IsIte mid mid' al bl cl low) where
  pub ite_high_above : IsAbove mid' first high
  ite_high_above = above_kept mid mid' first high grown' of_high.inside (of_high.above first of_a.high_above of_b.high_above of_c.high_above)

  pub ite_low_above : IsAbove mid' first low
  ite_low_above =
      let a2 = of_a.low_not_after in
      let b2 = of_b.low_not_after in
      let c2 = of_c.low_not_after in
      of_low.above first (above_kept old mid first al grown (omega arith) of_a.low_above) (above_kept old mid first bl grown (omega arith) of_b.low_above)
      (above_kept old mid first cl grown (omega arith) of_c.low_above)

  -- by whether the set has the first variable
  value_of_step : (has : ℕ → Bool) (v : Bool) → has first ≡ v → IsChoiceBetween mid' new first high low place →
      value new has place ≡ (if value old has a then value old has b else value old has c)
  value_of_step has true e choice =
      let e1 = rw e at (choice.value has) in
      let e2 = value_kept mid mid' has high grown' of_high.inside in
      let e3 = of_high.value has in
      let e4 = of_a.high_value has e in
      let e5 = of_b.high_value has e in
      let e6 = of_c.high_value has e in
      cc
  value_of_step has false e choice =
      let a2 = of_a.low_not_after in
      let b2 = of_b.low_not_after in
      let c2 = of_c.low_not_after in
      let e1 = rw e at (choice.value has) in
      let e3 = of_low.value has in
      let e4 = of_a.low_value has e in
      let e5 = of_b.low_value has e in
      let e6 = of_c.low_value has e in
      let e7 = value_kept old mid has al grown (omega arith) in
      let e8 = value_kept old mid has bl grown (omega arith) in
      let e9 = value_kept old mid has cl grown (omega arith) in
      cc

  pub ite_step : IsChoiceBetween mid' new first high low place → IsIte old new a b c place
  ite_step choice = record {
    inside = choice.inside;
    value = λ has. value_of_step has (has first) refl choice;
    above = λ d ha hb hc. choice.above d (before_first old a b c first ah al bh bl ch cl three of_a of_b of_c d ha hb hc);
  }
