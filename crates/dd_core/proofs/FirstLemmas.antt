-- The variable of a node is the first on which its value depends.
use Rattle.std.proofs.Common.{◌≡◌, ℕ, ◌<◌, ◌≤◌, Bool, List, length, get_or, slice_get, Some, refl, sym, ◌∙◌, ap, arith, inl, inr}
use Rattle.std.proofs.lemmas.Bool.{cases_lt, cases_eq}
use Rattle.base_kit.specs.Sets.{has}
use Rattle.dd_core.specs.declared.table.Node.{Node}
use Rattle.dd_core.specs.declared.table.Node.TheVariants.{Constant, Choice}
use Rattle.dd_core.specs.Store.{IsStore, IsNotBefore}
use Rattle.dd_core.specs.Sets.{Shown, IsShown}
use Rattle.dd_core.specs.Reach.{IsReached, DependsOn, IsFirstOf, DependsOnNone}
use Rattle.dd_core.specs.Reach.IsReached.{itself, by_high, by_low}
use Rattle.dd_core.specs.Marks.{IsVariableReached}
use Rattle.dd_core.specs.Restrict.{StandsAs}
use Rattle.dd_core.proofs.DependLemmas.{reached_depends}
use Rattle.dd_core.proofs.SupportLemmas.{known, StandsAt, stands_at, has-index, index_below, depends_on, independent_of}

-- a node reaches no earlier variable
pub not_before_root : (nodes : List Node) → IsStore nodes → (from v high low place : ℕ) → slice_get nodes from ≡ Some (Choice v high low) →
    IsReached nodes from place → IsNotBefore nodes v place
not_before_root nodes store from v high low _ at itself = record { same_or_later = λ other high' low' at'. let e : v ≡ other = cc in omega arith }
not_before_root nodes store from v high low _ at (by_high place c high' low' reached at') =
    let before = not_before_root nodes store from v high low place at reached in
    let le = before.same_or_later c high' low' at' in
    let r = store.reduced place c high' low' at' in
    record { same_or_later = λ other h l there. let lt = r.high_above.later other h l there in omega arith }
not_before_root nodes store from v high low _ at (by_low place c high' low' reached at') =
    let before = not_before_root nodes store from v high low place at reached in
    let le = before.same_or_later c high' low' at' in
    let r = store.reduced place c high' low' at' in
    record { same_or_later = λ other h l there. let lt = r.low_above.later other h l there in omega arith }

not_earlier : (nodes : List Node) → IsStore nodes → (from v high low w : ℕ) → slice_get nodes from ≡ Some (Choice v high low) → w < v →
    ¬ IsVariableReached nodes from w
not_earlier nodes store from v high low w at lt = λ there.
    let before = not_before_root nodes store from v high low there.place at there.reached in
    let le = before.same_or_later w there.high there.low there.node in
    omega arith

-- a constant reaches itself alone
only_itself : (nodes : List Node) (from : ℕ) (b : Bool) (place : ℕ) → slice_get nodes from ≡ Some (Constant b) → IsReached nodes from place → place ≡ from
only_itself nodes from b _ at itself = refl
only_itself nodes from b _ at (by_high place c high low reached at') = let e = only_itself nodes from b place at reached in
    let at'' : slice_get nodes from ≡ Some (Choice c high low) = rw e at at' in absurd cc
only_itself nodes from b _ at (by_low place c high low reached at') = let e = only_itself nodes from b place at reached in
    let at'' : slice_get nodes from ≡ Some (Choice c high low) = rw e at at' in absurd cc

none_reached : (nodes : List Node) (from : ℕ) (b : Bool) (w : ℕ) → slice_get nodes from ≡ Some (Constant b) → ¬ IsVariableReached nodes from w
none_reached nodes from b w at = λ there.
    let e = only_itself nodes from b there.place at there.reached in
    let node : slice_get nodes from ≡ Some (Choice w there.high there.low) = rw e at there.node in
    absurd cc

module _ (shown : Shown) (is : IsShown shown) (from : ℕ) (inside : from < length shown.nodes) where
  independent : (c : ℕ) (at : StandsAt shown.universe c) → ¬ IsVariableReached shown.nodes from at.place → DependsOn shown from c → ⊥
  independent c at none d = independent_of shown is from c at.place inside (known at.inside at.there) none d

  pub constant_needs_none : (b : Bool) → slice_get shown.nodes from ≡ Some (Constant b) → DependsOnNone shown from
  constant_needs_none b at = record {
    none = λ c there d. let stands = stands_at shown.universe c there in independent c stands (none_reached shown.nodes from b stands.place at) d;
  }

  pub others_needs_none : (v high low : ℕ) → slice_get shown.nodes from ≡ Some (Choice v high low) → length shown.universe ≤ v → DependsOnNone shown from
  others_needs_none v high low at past = record {
    none = λ c there d.
        let stands = stands_at shown.universe c there in
        let lt = stands.inside in
        independent c stands (not_earlier shown.nodes is.store from v high low stands.place at (omega arith)) d;
  }

  not_less : (v c : ℕ) → StandsAs shown.universe c v → (d w : ℕ) → w < length shown.universe → get_or shown.universe w 0 ≡ d → v ≤ w → c ≤ d
  not_less v c stands d w lt there le = elim (cases_eq v w) [
    | inl e ↦ let same : c ≡ d = sym stands.there ∙ ap (λ i. get_or shown.universe i 0) e ∙ there in omega arith
    | inr ne ↦ let less = index_below shown.universe v w is.ascending (omega arith) lt in let e = stands.there in omega arith
  ]

  pub first_is : (v high low c : ℕ) → slice_get shown.nodes from ≡ Some (Choice v high low) → StandsAs shown.universe c v → IsFirstOf shown from c
  first_is v high low c at stands = record {
    known = ap (has shown.universe) (sym stands.there) ∙ has-index shown.universe v stands.inside;
    needed = depends_on shown is from c v inside (known stands.inside stands.there)
        (reached_depends shown.nodes is.store from v (record { place = from; high = high; low = low; reached = itself; node = at }));
    least = λ d there dep.
        let other = stands_at shown.universe d there in
        elim (cases_lt other.place v) [
          | inl lt ↦ absurd (independent d other (not_earlier shown.nodes is.store from v high low other.place at lt) dep)
          | inr le ↦ not_less v c stands d other.place other.inside other.there le
        ];
  }
