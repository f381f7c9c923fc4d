-- Tables from numbers to nodes, and the number that such a table gives to a set.
use Rattle.std.proofs.Common.{◌≡◌, ℕ, ◌+◌, ◌<◌, Bool, true, false, ◌||◌, nat_eq, List, [], ◌∷◌, refl, sym, ◌∙◌, ap, arith, inl, inr}
use Rattle.std.proofs.lemmas.Bool.{cases_eq}
use Rattle.std.specs.List.{AllByRecursion}
use Rattle.base_kit.specs.Sets.{has, AllAbove, IsAscending}
use Rattle.base_kit.proofs.SetFacts.{same_number, other_number}
use Rattle.base_kit.proofs.Elements.{In}
use Rattle.dd_core.specs.Sets.{Shown, IsShown, value_of}
use Rattle.policy_dd.specs.Edge.{case_or, keys_of, AllCases, AreCases, IsOneOf, never}
use Rattle.policy_dd.proofs.CaseLemmas.{case_here, case_later}
use Rattle.canon_policy.specs.Hanging.{SameOn, TestHangsOn, NumberHangsOn}
use Rattle.canon_policy.specs.Nodes.{AreInside, AgreeAt, NodesTellPart}
use Rattle.canon_policy.specs.Made.{nodes_of}
use Rattle.canon_policy.proofs.SameSets.{has-as_set}
use Rattle.canon_policy.proofs.Values.{value_same, same_truth}
use Rattle.canon_policy.specs.Functions.{as_set}

-- the node under a key
above_in : (n : ℕ) (cases : List (ℕ × ℕ)) (case : ℕ × ℕ) → AllAbove n (keys_of cases) → In cases case → n < case.0
above_in n [] case all h = absurd h
above_in n (head ∷ cases) case all (inl e) = let lt = all.0 in let same = ap (λ (c : ℕ × ℕ). c.0) e in omega arith
above_in n (head ∷ cases) case all (inr h) = above_in n cases case all.1 h

pub at_key : (shown : Shown) (set : List ℕ) (cases : List (ℕ × ℕ)) (case : ℕ × ℕ) (other : Bool) → IsAscending (keys_of cases) → In cases case
    → case_or shown set cases case.0 other ≡ value_of shown set case.1
at_key shown set [] case other up h = absurd h
at_key shown set (head ∷ cases) case other up (inl e) =
    case_here shown set head cases case.0 other (ap (λ (c : ℕ × ℕ). c.0) e) ∙ ap (λ (c : ℕ × ℕ). value_of shown set c.1) e
at_key shown set (head ∷ cases) case other up (inr h) =
    let lt = above_in head.0 cases case up.0 h in
    case_later shown set head cases case.0 other (omega arith) ∙ at_key shown set cases case other up.1 h

pub key_in : (cases : List (ℕ × ℕ)) (case : ℕ × ℕ) → In cases case → has (keys_of cases) case.0 ≡ true
key_in [] case h = absurd h
key_in (head ∷ cases) case (inl e) = rw (same_number head.0 case.0 (ap (λ (c : ℕ × ℕ). c.0) e)) refl
key_in (head ∷ cases) case (inr h) = or_right (nat_eq head.0 case.0) (has (keys_of cases) case.0) (key_in cases case h)
  where
    or_right : (a b : Bool) → b ≡ true → a || b ≡ true
    or_right true b e = refl
    or_right false b e = e

-- a key that is there, with its case
pub record KeyAt (cases : List (ℕ × ℕ)) (key : ℕ) : Type 0 where
  pub case : ℕ × ℕ
  pub there : In cases case
  pub key_is : case.0 ≡ key

pub key_at : (cases : List (ℕ × ℕ)) (key : ℕ) → has (keys_of cases) key ≡ true → KeyAt cases key
key_at [] key h = absurd cc
key_at (head ∷ cases) key h = elim (cases_eq head.0 key) [
  | inl e ↦ record { case = head; there = inl refl; key_is = e }
  | inr ne ↦ (let at = key_at cases key (rw (other_number head.0 key ne) at h) in record { case = at.case; there = inr at.there; key_is = at.key_is })
]

-- what holds of the node of each case holds of all nodes
pub agree_each : (shown : Shown) (cases : List (ℕ × ℕ)) (a b : List ℕ) → ((case : ℕ × ℕ) → In cases case → value_of shown a case.1 ≡ value_of shown b case.1)
    → AgreeAt shown (nodes_of cases) a b
agree_each shown [] a b each = tt
agree_each shown (case ∷ cases) a b each = (each case (inl refl), agree_each shown cases a b (λ c h. each c (inr h)))

pub agree_in : (shown : Shown) (cases : List (ℕ × ℕ)) (a b : List ℕ) → AgreeAt shown (nodes_of cases) a b → (case : ℕ × ℕ) → In cases case
    → value_of shown a case.1 ≡ value_of shown b case.1
agree_in shown [] a b agree case h = absurd h
agree_in shown (head ∷ cases) a b agree case (inl e) = rw (← e) agree.0
agree_in shown (head ∷ cases) a b agree case (inr h) = agree_in shown cases a b agree.1 case h

pub agree_cases : (shown : Shown) (cases : List (ℕ × ℕ)) (a b : List ℕ) (key : ℕ) (x y : Bool) → x ≡ y → AgreeAt shown (nodes_of cases) a b
    → case_or shown a cases key x ≡ case_or shown b cases key y
agree_cases shown [] a b key x y e agree = e
agree_cases shown (case ∷ cases) a b key x y e agree = elim (cases_eq case.0 key) [
  | inl same ↦ case_here shown a case cases key x same ∙ agree.0 ∙ sym (case_here shown b case cases key y same)
  | inr ne ↦ case_later shown a case cases key x ne ∙ agree_cases shown cases a b key x y e agree.1 ∙ sym (case_later shown b case cases key y ne)
]

pub nodes_inside : (shown : Shown) (other : ℕ → List ℕ → Bool) (cases : List (ℕ × ℕ)) → AllCases shown other cases → AreInside shown (nodes_of cases)
nodes_inside shown other [] all = tt
nodes_inside shown other (case ∷ cases) all = (all.0.inside, nodes_inside shown other cases all.1)

-- a list and its set have one value
pub agree_as_set : (shown : Shown) → IsShown shown → (nodes : List ℕ) → AreInside shown nodes → (set : List ℕ) → AgreeAt shown nodes (as_set set) set
agree_as_set shown is [] all set = tt
agree_as_set shown is (node ∷ nodes) all set = (value_same shown is node all.0 (as_set set) set (has-as_set set), agree_as_set shown is nodes all.1 set)

abbrev pub AllHang : Shown → List ℕ → Type 0
AllHang shown nodes = AllByRecursion (λ node. TestHangsOn shown.universe (λ set. value_of shown set node)) nodes

-- the number of a set: 0 where it is not accepted, else one more than a key whose node is true
pub data NumberAt (shown : Shown) (permit : ℕ) (cases : List (ℕ × ℕ)) (set : List ℕ) (number : ℕ) : Type 0 where
  none : value_of shown set permit ≡ false → number ≡ 0 → NumberAt shown permit cases set number
  some : (key : ℕ) → number ≡ key + 1 → case_or shown set cases key false ≡ true → NumberAt shown permit cases set number

pub record IsTableOf (shown : Shown) (permit : ℕ) (cases : List (ℕ × ℕ)) (part : List ℕ → ℕ) : Type 0 where
  pub number : (set : List ℕ) → NumberAt shown permit cases set (part set)
  pub one : (set : List ℕ) → IsOneOf shown permit cases set
  pub are : AreCases shown never cases

module _ (shown : Shown) (permit : ℕ) (cases : List (ℕ × ℕ)) (part : List ℕ → ℕ) (table : IsTableOf shown permit cases part) (a b : List ℕ) where
  told_by : (m n : ℕ) → AgreeAt shown (nodes_of cases) a b → NumberAt shown permit cases a m → NumberAt shown permit cases b n → m ≡ n
  told_by m n agree (none p e) (none p' e') = e ∙ sym e'
  told_by m n agree (none p e) (some key e' t) =
      let here : case_or shown a cases key false ≡ true = agree_cases shown cases a b key false false refl agree ∙ t in
      let no = (table.one a).implied key p in
      absurd cc
  told_by m n agree (some key e t) (none p e') =
      let here : case_or shown b cases key false ≡ true = sym (agree_cases shown cases a b key false false refl agree) ∙ t in
      let no = (table.one b).implied key p in
      absurd cc
  told_by m n agree (some key e t) (some key' e' t') =
      let here : case_or shown b cases key false ≡ true = sym (agree_cases shown cases a b key false false refl agree) ∙ t in
      let same = (table.one b).one key key' here t' in
      omega arith

  keys_by : (m n key : ℕ) → m ≡ n → NumberAt shown permit cases a m → NumberAt shown permit cases b n → case_or shown a cases key false ≡ true
      → case_or shown b cases key false ≡ true
  keys_by m n key same (none p e) at t = let no = (table.one a).implied key p in absurd cc
  keys_by m n key same (some k e t') (none p e') t = absurd (omega arith)
  keys_by m n key same (some k e t') (some k' e' t'') t =
      let one = (table.one a).one k key t' t in
      let equal : k' ≡ key = omega arith in
      rw (← equal) t''

module _ (shown : Shown) (permit : ℕ) (cases : List (ℕ × ℕ)) (part : List ℕ → ℕ) (table : IsTableOf shown permit cases part) where
  pub table_tells : NodesTellPart shown (nodes_of cases) part
  table_tells = record {
    same = λ a b agree. told_by shown permit cases part table a b (part a) (part b) agree (table.number a) (table.number b);
    apart = λ a b e. agree_each shown cases a b (λ case h.
        sym (at_key shown a cases case false table.are.ascending h)
        ∙ same_truth (case_or shown a cases case.0 false) (case_or shown b cases case.0 false)
        (keys_by shown permit cases part table a b (part a) (part b) case.0 e (table.number a) (table.number b))
        (keys_by shown permit cases part table b a (part b) (part a) case.0 (sym e) (table.number b) (table.number a))
        ∙ at_key shown b cases case false table.are.ascending h);
  }

  all_hang : (nodes a b : List ℕ) → AllHang shown nodes → SameOn shown.universe a b → AgreeAt shown nodes a b
  all_hang [] a b hang s = tt
  all_hang (node ∷ nodes) a b hang s = (hang.0.same a b s, all_hang nodes a b hang.1 s)

  pub table_hangs : AllHang shown (nodes_of cases) → NumberHangsOn shown.universe part
  table_hangs hang = record { same = λ a b s. table_tells.same a b (all_hang (nodes_of cases) a b hang s) }
