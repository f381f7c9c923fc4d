-- One more edge in a table of acts.
use Rattle.std.proofs.Common.{◌≡◌, ◌≢◌, ℕ, ◌+◌, ◌*◌, ◌<◌, Bool, true, false, ◌&&◌, ◌||◌, All, List, [], ◌∷◌, ◌++◌, length, get_or, set, take, replicate, refl, sym, ap, ◌∙◌, subst, arith, eq-eqb}
use Rattle.std.specs.Prelude.{nat_eq, slice_index}
use Rattle.std.specs.List.{list_any}
use Rattle.std.proofs.lemmas.Bool.Decides.{nat_tests}
use Rattle.std.proofs.lemmas.List.{take_more, get_or-set_same, get_or-set_other, get_or-replicate}
use Rattle.std.proofs.lemmas.Grind.{common_steps}
use Rattle.std.proofs.lemmas.Nat.{mul-add-lt, same_from_place}
use Rattle.std.proofs.Math.Nat.{mul_comm}
use Rattle.std.proofs.lemmas.List.Elements.{All-push}
use Rattle.base_kit.specs.Partition.{IsNumbered}
use Rattle.base_kit.specs.declared.act_graph.Edge.{Edge}
use Rattle.group_report.specs.declared.link_counts.Size.{Size}
use Rattle.group_report.specs.LinkTables.{cells_of, cell, leads, has_act, is_set, IsLinkTable}

eq_from_test : (a b : ℕ) → nat_eq a b ≡ true → a ≡ b
eq_from_test a b h = grind (arith, nat_tests)

differ_from_test : (a b : ℕ) → nat_eq a b ≡ false → a ≢ b
differ_from_test a b h e = grind (arith, nat_tests)

pub three_true : (a b c : Bool) → ((a && b) && c) ≡ true → (a ≡ true) × (b ≡ true) × (c ≡ true)
three_true true true true h = (refl, refl, refl)
three_true true true false h = absurd cc
three_true true false c h = absurd cc
three_true false b c h = absurd cc

pub all_three : (a b c : Bool) → a ≡ true → b ≡ true → c ≡ true → ((a && b) && c) ≡ true
all_three true true true x y z = refl
all_three true true false x y z = absurd cc
all_three true false c x y z = absurd cc
all_three false b c x y z = absurd cc

or_true : (c : Bool) → (c || true) ≡ true
or_true true = refl
or_true false = refl

or_false : (c : Bool) → (c || false) ≡ c
or_false true = refl
or_false false = refl

grouped : (c d f : Bool) → (c || (d || f)) ≡ ((c || d) || f)
grouped true d f = refl
grouped false d f = refl

any_last : {X : Type 0} (p : X → Bool) (xs : List X) (x : X) → list_any p (xs ++ x ∷ []) ≡ (list_any p xs || p x)
any_last p [] x = or_false (p x)
any_last p (y ∷ xs) x = ap (λ c. p y || c) (any_last p xs x) ∙ grouped (p y) (list_any p xs) (p x)

all_last : (acts : ℕ) (xs : List Edge) (x : Edge) → All (λ e. e.act < acts) xs → x.act < acts → All (λ e. e.act < acts) (xs ++ x ∷ [])
all_last acts xs x all less = All-push (λ (e : Edge). e.act < acts) xs x all less

long_set : {X : Type 0} (xs : List X) (i : ℕ) (x : X) → length (set xs i x) ≡ length xs
long_set xs i x = grind (arith, common_steps)

pub inside : (size : Size) (g h a : ℕ) → g < size.groups → h < size.groups → a < size.acts → cell size g h a < cells_of size
inside size g h a gs hs acts =
    let below = mul-add-lt (g * size.groups + h) size.acts a (size.groups * size.groups) (mul-add-lt g size.groups h size.groups gs hs) acts in
    subst (λ (cells : ℕ). cell size g h a < cells) (mul_comm size.acts (size.groups * size.groups)) below

module _ (es : List Edge) (groups : List ℕ) (size : Size) (table : List Bool) (e : Edge) (few : e.act < size.acts)
    (importer : slice_index groups e.importer < size.groups) (exporter : slice_index groups e.exporter < size.groups)
    (is : IsLinkTable es groups size table) where
  abbrev from : ℕ
  from = cell size (slice_index groups e.importer) (slice_index groups e.exporter) e.act

  record SameEdge (g h a : ℕ) : Type 0 where
    importer_is : slice_index groups e.importer ≡ g
    exporter_is : slice_index groups e.exporter ≡ h
    act_is : e.act ≡ a

  same_cell : (g h a : ℕ) → h < size.groups → a < size.acts → from ≡ cell size g h a → SameEdge g h a
  same_cell g h a hs acts same =
      let pair = same_from_place (slice_index groups e.importer * size.groups + slice_index groups e.exporter) e.act (g * size.groups + h) a size.acts
      few acts same in
      let ends = same_from_place (slice_index groups e.importer) (slice_index groups e.exporter) g h size.groups exporter hs pair.0 in
      record { importer_is = ends.0; exporter_is = ends.1; act_is = pair.1 }

  leads_there : (g h a : ℕ) → SameEdge g h a → leads groups g h a e ≡ true
  leads_there g h a s = all_three _ _ _ (eq-eqb _ _ s.importer_is) (eq-eqb _ _ s.exporter_is) (eq-eqb _ _ s.act_is)

  leads_from : (g h a : ℕ) → leads groups g h a e ≡ true → from ≡ cell size g h a
  leads_from g h a t =
      let r = three_true (nat_eq (slice_index groups e.importer) g) (nat_eq (slice_index groups e.exporter) h) (nat_eq e.act a) t in
      λ i. cell size (eq_from_test _ _ r.0 i) (eq_from_test _ _ r.1 i) (eq_from_test _ _ r.2 i)

  leads_nowhere : (g h a : ℕ) → from ≢ cell size g h a → (b : Bool) → leads groups g h a e ≡ b → leads groups g h a e ≡ false
  leads_nowhere g h a apart true t = absurd (apart (leads_from g h a t))
  leads_nowhere g h a apart false t = t

  one_cell : (g h a : ℕ) → g < size.groups → h < size.groups → a < size.acts → (b : Bool) → nat_eq from (cell size g h a) ≡ b →
      is_set size (set table from true) g h a ≡ has_act (es ++ e ∷ []) groups g h a
  one_cell g h a gs hs acts true t =
      let same : from ≡ cell size g h a = eq_from_test _ _ t in
      let room : from < length table = subst (λ (k : ℕ). from < k) (sym is.total) (inside size _ _ _ importer exporter few) in
      ap (λ (k : ℕ). get_or (set table from true) k false) (sym same)
      ∙ get_or-set_same table from true false room
      ∙ sym (any_last (leads groups g h a) es e ∙ ap (λ b. has_act es groups g h a || b) (leads_there g h a (same_cell g h a hs acts same))
      ∙ or_true (has_act es groups g h a))
  one_cell g h a gs hs acts false t =
      let apart = differ_from_test _ _ t in
      get_or-set_other table from (cell size g h a) true false (λ s. apart (sym s))
      ∙ is.cells g h a gs hs acts
      ∙ sym (any_last (leads groups g h a) es e ∙ ap (λ b. has_act es groups g h a || b) (leads_nowhere g h a apart (leads groups g h a e) refl)
      ∙ or_false (has_act es groups g h a))

  more : IsLinkTable (es ++ e ∷ []) groups size (set table from true)
  more = record {
    few_acts = all_last size.acts es e is.few_acts few;
    total = long_set table from true ∙ is.total;
    cells = λ g h a gs hs acts. one_cell g h a gs hs acts (nat_eq from (cell size g h a)) refl;
  }

pub next_table : (es : List Edge) (groups : List ℕ) (size : Size) (table : List Bool) (i : ℕ) (e none : Edge) (importer exporter : ℕ) → i < length es
    → e ≡ get_or es i none → e.act < size.acts
    → importer ≡ slice_index groups e.importer → exporter ≡ slice_index groups e.exporter → importer < size.groups → exporter < size.groups
    → IsLinkTable (take i es) groups size table → IsLinkTable (take (i + 1) es) groups size (set table (cell size importer exporter e.act) true)
next_table es groups size table i e none importer exporter less at few is_importer is_exporter importer_few exporter_few is =
    let front : take i es ++ e ∷ [] ≡ take (i + 1) es = ap (λ (d : Edge). take i es ++ d ∷ []) at ∙ sym (take_more es i none less) in
    let grown = more (take i es) groups size table e few (subst (λ (k : ℕ). k < size.groups) is_importer importer_few)
    (subst (λ (k : ℕ). k < size.groups) is_exporter exporter_few) is in
    let P : ℕ → ℕ → Type 0 = λ m n. IsLinkTable (take (i + 1) es) groups size (set table (cell size m n e.act) true) in
    subst (λ (m : ℕ). P m exporter) (sym is_importer)
    (subst (λ (n : ℕ). P (slice_index groups e.importer) n) (sym is_exporter)
    (subst (λ (xs : List Edge). IsLinkTable xs groups size (set table (cell size (slice_index groups e.importer) (slice_index groups e.exporter) e.act) true))
    front grown))

pub empty_table : (groups : List ℕ) (size : Size) (table : List Bool) → table ≡ replicate (cells_of size) false → IsLinkTable [] groups size table
empty_table groups size table is = record {
  few_acts = λ k d at. absurd (omega (arith, at));
  total = ap length is ∙ grind (arith, common_steps);
  cells = λ g h a gs hs acts. ap (λ (bs : List Bool). get_or bs (cell size g h a) false) is
      ∙ get_or-replicate (cells_of size) (cell size g h a) false false (inside size g h a gs hs acts);
}

pub group_below : (groups : List ℕ) (count router group : ℕ) → IsNumbered groups count → router < length groups → group ≡ slice_index groups router
    → group < count
group_below groups count router group numbered inside is =
    let below : slice_index groups router < count = numbered.below router 0 inside in
    omega (arith, below, is)
