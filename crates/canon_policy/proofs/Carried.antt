-- What the code asks of nodes is what the definition asks of parts.
use Rattle.std.proofs.Common.{◌≡◌, ℕ, zero, suc, ◌+◌, ◌<◌, Bool, true, false, ◌&&◌, List, [], ◌∷◌, ◌++◌, length, take, get_or, Option, Some, None, refl, sym, ◌∙◌, ap, arith, inl, inr, ◌⊎◌}
use Rattle.std.specs.Prelude.{if◌then◌else◌, MatchOption, IfSome}
use Rattle.std.specs.Option.{option_map}
use Rattle.std.proofs.lemmas.List.{take_more}
use Rattle.std.proofs.Math.Path.{fun_ext}
use Rattle.base_kit.specs.declared.ids.Community.{Community}
use Rattle.base_kit.specs.Sets.{has}
use Rattle.base_kit.proofs.Elements.{In}
use Rattle.dd_core.specs.Sets.{Shown, IsShown, Grows, Means, value_of, DifferOnSet}
use Rattle.dd_core.specs.Reach.{IsFirstOf, DependsOnNone}
use Rattle.dd_core.proofs.ShownLemmas.{means_kept}
use Rattle.canon_policy.specs.declared.fixing.Fixing.{Fixing}
use Rattle.canon_policy.specs.Fixings.{agreeing, least, yes, follows}
use Rattle.canon_policy.specs.Hanging.{TestHangsOn}
use Rattle.canon_policy.specs.Nodes.{community_number, lesser}
use Rattle.canon_policy.proofs.SameSets.{agreeing_same_on}
use Rattle.canon_policy.proofs.Firsts.{first_is_least, least_among, least_of_more, NodesHang}
use Rattle.canon_policy.proofs.Follows.{follow_true, follow_idle}

pub test_under : (universe : List ℕ) (test : List ℕ → Bool) (fixing : Fixing) → TestHangsOn universe test
    → TestHangsOn universe (λ set. test (agreeing fixing set))
test_under universe test fixing hangs = record {
  same = λ a b same.
      hangs.same (agreeing fixing a) (agreeing fixing b) (agreeing_same_on universe a b fixing same);
}

pub means_hangs : (shown : Shown) (node : ℕ) (test : List ℕ → Bool) → TestHangsOn shown.universe test → Means shown node test
    → TestHangsOn shown.universe (λ set. value_of shown set node)
means_hangs shown node test hangs means = record { same = λ a b same. means.value a ∙ hangs.same a b same ∙ sym (means.value b) }

-- the first of a node that tells a test
pub first_of_test : (shown : Shown) → IsShown shown → (node : ℕ) (test : List ℕ → Bool) → TestHangsOn shown.universe test → Means shown node test
    → (r : Option Community) → MatchOption r (DependsOnNone shown node) (λ c. IsFirstOf shown node c.0)
    → option_map community_number r ≡ least shown.universe (λ set. yes (test set))
first_of_test shown is node test hangs means r first =
    first_is_least shown is node (means_hangs shown node test hangs means) r first
    ∙ ap (λ (v : List ℕ → ℕ). least shown.universe v) (fun_ext (λ set. ap yes (means.value set)))

module _ (old mid : Shown) (is : IsShown mid) (grows : Grows old mid) (rest node : ℕ) (c : Community) (known : has old.universe c.0 ≡ true)
    (kept test : List ℕ → Bool) (fixing : Fixing)
    (kept_hangs : TestHangsOn old.universe kept) (hangs : TestHangsOn old.universe test) (of_rest : Means old rest (λ set. kept (agreeing fixing set)))
    (of_node : Means old node (λ set. test (agreeing fixing set))) where
  kept_value : (none : List ℕ) → none ≡ [] → value_of mid none rest ≡ kept (agreeing fixing [])
  kept_value none e = ap (λ (s : List ℕ). value_of mid s rest) e ∙ (means_kept old mid rest (λ set. kept (agreeing fixing set)) grows of_rest).value []

  mid_means : Means mid node (λ set. test (agreeing fixing set))
  mid_means = means_kept old mid node (λ set. test (agreeing fixing set)) grows of_node

  pub follows_none : (fol : ℕ) → Means mid fol (λ set. has set c.0) → (none : List ℕ) → none ≡ [] → value_of mid none rest ≡ true
      → ((set : List ℕ) → value_of mid set node ≡ value_of mid set fol)
      → None ≡ (if kept (agreeing fixing []) && follows old.universe fixing c.0 test then None else least old.universe
      (λ set. yes (test (agreeing fixing set))))
  follows_none fol of_fol none e yes_kept same =
      let e1 : kept (agreeing fixing []) ≡ true = sym (kept_value none e) ∙ yes_kept in
      let e2 = follow_true old.universe fixing c.0 test hangs known (λ set. sym (mid_means.value set) ∙ same set ∙ of_fol.value set) in
      rw (e1, e2) refl

  first_here : (r : Option Community) → MatchOption r (DependsOnNone mid node) (λ d. IsFirstOf mid node d.0)
      → option_map community_number r ≡ least old.universe (λ set. yes (test (agreeing fixing set)))
  first_here r first =
      let under : TestHangsOn mid.universe (λ set. test (agreeing fixing set)) = rw grows.universe (test_under old.universe test fixing hangs) in
      first_of_test mid is node (λ set. test (agreeing fixing set)) under mid_means r first
      ∙ ap (λ (u : List ℕ). least u (λ set. yes (test (agreeing fixing set)))) grows.universe

  pub not_kept : (none : List ℕ) → none ≡ [] → value_of mid none rest ≡ false → (r : Option Community)
      → MatchOption r (DependsOnNone mid node) (λ d. IsFirstOf mid node d.0)
      → option_map community_number r ≡ (if kept (agreeing fixing [])
      && follows old.universe fixing c.0 test then None else least old.universe (λ set. yes (test (agreeing fixing set))))
  not_kept none e out r first =
      let e1 : kept (agreeing fixing []) ≡ false = sym (kept_value none e) ∙ out in
      rw e1 (first_here r first)

  pub not_following : (fol : ℕ) → Means mid fol (λ set. has set c.0) → (none : List ℕ) → none ≡ [] → value_of mid none rest ≡ true → DifferOnSet mid node fol
      → (r : Option Community) → MatchOption r (DependsOnNone mid node) (λ d. IsFirstOf mid node d.0)
      → option_map community_number r ≡ (if kept (agreeing fixing [])
      && follows old.universe fixing c.0 test then None else least old.universe (λ set. yes (test (agreeing fixing set))))
  not_following fol of_fol none e yes_kept differ r first =
      let e1 : kept (agreeing fixing []) ≡ true = sym (kept_value none e) ∙ yes_kept in
      rw e1 (first_here r first ∙ sym (follow_idle old.universe fixing c.0 test hangs known differ.set
      (λ same. differ.differ (mid_means.value differ.set ∙ same ∙ sym (of_fol.value differ.set))) (follows old.universe fixing c.0 test) refl))

pub index_in : (xs : List ℕ) (i : ℕ) → i < length xs → In xs (get_or xs i 0)
index_in [] i h = absurd (omega arith)
index_in (x ∷ xs) zero h = inl refl
index_in (x ∷ xs) (suc i) h = inr (index_in xs i (omega arith))

pub read_at : {X : Type 0} (xs : List X) (k : ℕ) (x d : X) → k < length xs → x ≡ get_or xs k x → x ≡ get_or xs k d
read_at [] k x d lt e = absurd (omega arith)
read_at (y ∷ ys) zero x d lt e = e
read_at (y ∷ ys) (suc k) x d lt e = read_at ys k x d (omega arith) e

-- one node more
pub either_known : (universe : List ℕ) (a b r : Option Community) → (r ≡ a) ⊎ (r ≡ b) → IfSome a (λ c. has universe c.0 ≡ true)
    → IfSome b (λ c. has universe c.0 ≡ true) → IfSome r (λ c. has universe c.0 ≡ true)
either_known universe a b r (inl e) of_a of_b = rw e of_a
either_known universe a b r (inr e) of_a of_b = rw e of_b

pub first_known : (shown : Shown) (node : ℕ) (r : Option Community) → MatchOption r (DependsOnNone shown node) (λ c. IsFirstOf shown node c.0)
    → IfSome r (λ c. has shown.universe c.0 ≡ true)
first_known shown node None first = tt
first_known shown node (Some c) first = first.known

pub more_least : (shown : Shown) → IsShown shown → (nodes : List ℕ) (k node : ℕ) → k < length nodes → node ≡ get_or nodes k 0 → (a r : Option ℕ)
    → (NodesHang shown nodes → a ≡ least_among shown (take k nodes)) → (first : Option Community)
    → MatchOption first (DependsOnNone shown node) (λ c. IsFirstOf shown node c.0) → r ≡ lesser a (option_map community_number first)
    → NodesHang shown nodes → r ≡ least_among shown (take (k + 1) nodes)
more_least shown is nodes k node lt at a r before first is_first e hang =
    let there : In nodes node = rw at (index_in nodes k lt) in
    e
    ∙ ap (λ (x : Option ℕ). lesser x (option_map community_number first)) (before hang)
    ∙ ap (λ (x : Option ℕ). lesser (least_among shown (take k nodes)) x) (first_is_least shown is node (hang.each node there) first is_first)
    ∙ least_of_more shown is (take k nodes) node
    ∙ ap (λ (l : List ℕ). least_among shown l) (ap (λ (n : ℕ). take k nodes ++ n ∷ []) at ∙ sym (take_more nodes k 0 lt))
