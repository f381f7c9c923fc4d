-- The first community on which a node depends is the least on which its part depends.
use Rattle.std.proofs.Common.{◌≡◌, ◌≢◌, ℕ, ◌≤◌, Bool, true, false, not, ◌&&◌, ◌||◌, cond, nat_eq, List, [], ◌∷◌, ◌++◌, Option, Some, None, refl, sym, ◌∙◌, ap, arith, inl, inr}
use Rattle.std.specs.Prelude.{find, MatchOption, nat_le}
use Rattle.std.specs.List.{list_any}
use Rattle.std.specs.Option.{option_map}
use Rattle.std.proofs.Math.Path.{fun_ext}
use Rattle.std.proofs.lemmas.Bool.{cases_lt}
use Rattle.std.proofs.lemmas.Bool.Decides.{nat_tests}
use Rattle.base_kit.specs.declared.ids.Community.{Community}
use Rattle.base_kit.specs.Sets.{has, with_number, without_number, AllAbove, IsAscending}
use Rattle.base_kit.proofs.SetFacts.{has_not, has-with_number}
use Rattle.base_kit.proofs.Elements.{In}
use Rattle.dd_core.specs.Sets.{Shown, IsShown, value_of}
use Rattle.dd_core.specs.Reach.{DependsOn, IsFirstOf, DependsOnNone}
use Rattle.canon_policy.specs.Functions.{as_set}
use Rattle.canon_policy.specs.Fixings.{depends, least, yes}
use Rattle.canon_policy.specs.Hanging.{SameOn, TestHangsOn, NumberHangsOn}
use Rattle.canon_policy.specs.Nodes.{AgreeAt, NodesTellPart, community_number, lesser}
use Rattle.canon_policy.proofs.SameSets.{in_any, any_in, same_sets, has-as_set, ascending-as_set, with_there, without_absent, has-without_number}
use Rattle.canon_policy.proofs.Least.{in_has, has_in, Differing, depends_differ, differ_depends, is_found}
use Rattle.canon_policy.proofs.Splits.{yes_hangs}

-- searches in ascending lists
pub nothing_found : {X : Type 0} (p : X → Bool) (xs : List X) → ((x : X) → In xs x → p x ≡ false) → find p xs ≡ None
nothing_found p [] none = refl
nothing_found p (y ∷ ys) none = rw (none y (inl refl)) (nothing_found p ys (λ x h. none x (inr h)))

found_step : (p : ℕ → Bool) (y : ℕ) (ys : List ℕ) (c : ℕ) → AllAbove y ys → In ys c → (p y ≡ true → c ≤ y) → find p ys ≡ Some c → (b : Bool) → p y ≡ b
    → cond b (Some y) (find p ys) ≡ Some c
found_step p y ys c up h le rest true e =
    let less = le e in
    let inside = in_has ys c h in
    let out = has_not y ys c up less in
    absurd cc
found_step p y ys c up h le rest false e = rest

pub found_least : (p : ℕ → Bool) (xs : List ℕ) (c : ℕ) → IsAscending xs → In xs c → p c ≡ true → ((d : ℕ) → In xs d → p d ≡ true → c ≤ d) → find p xs ≡ Some c
found_least p [] c up h e first = absurd h
found_least p (y ∷ ys) c up (inl same) e first = rw (ap p same ∙ e) (ap Some same)
found_least p (y ∷ ys) c up (inr h) e first = found_step p y ys c up.0 h (first y (inl refl)) (found_least p ys c up.1 h e (λ d h' e'. first d (inr h') e'))
    (p y) refl

pub find_same : (p q : ℕ → Bool) (xs : List ℕ) → ((x : ℕ) → p x ≡ q x) → find p xs ≡ find q xs
find_same p q xs same = ap (λ (f : ℕ → Bool). find f xs) (fun_ext same)

-- the first that passes one of two tests
none_before : (p : ℕ → Bool) (y : ℕ) (ys : List ℕ) (o : Option ℕ) → AllAbove y ys → find p ys ≡ o → lesser (Some y) o ≡ Some y
none_before p y ys None up e = refl
none_before p y ys (Some x) up e =
    let f = is_found p ys x e in
    let inside = in_has ys x f.there in
    elim (cases_lt x y) [
      | inl lt ↦ (let no = has_not y ys x up (omega arith) in absurd cc)
      | inr ge ↦ (let le : nat_le y x ≡ true = grind (arith, nat_tests) in rw le refl)
    ]

none_before' : (p : ℕ → Bool) (y : ℕ) (ys : List ℕ) (o : Option ℕ) → AllAbove y ys → find p ys ≡ o → lesser o (Some y) ≡ Some y
none_before' p y ys None up e = refl
none_before' p y ys (Some x) up e =
    let f = is_found p ys x e in
    let inside = in_has ys x f.there in
    elim (cases_lt y x) [
      | inl lt ↦ (let no : nat_le x y ≡ false = grind (arith, nat_tests) in rw no refl)
      | inr ge ↦ (let no = has_not y ys x up (omega arith) in absurd cc)
    ]

same_least : (y : ℕ) → lesser (Some y) (Some y) ≡ Some y
same_least y = let le : nat_le y y ≡ true = grind (arith, nat_tests) in rw le refl

pub find_either : (p q : ℕ → Bool) (xs : List ℕ) → IsAscending xs → lesser (find p xs) (find q xs) ≡ find (λ x. p x || q x) xs
find_either p q [] up = refl
find_either p q (y ∷ ys) up = by (p y) (q y) (find_either p q ys up.1)
  where
    by : (a b : Bool) → lesser (find p ys) (find q ys) ≡ find (λ x. p x || q x) ys
        → lesser (cond a (Some y) (find p ys)) (cond b (Some y) (find q ys)) ≡ cond (a || b) (Some y) (find (λ x. p x || q x) ys)
    by true true e = same_least y
    by true false e = none_before q y ys (find q ys) up.0 refl
    by false true e = none_before' p y ys (find p ys) up.0 refl
    by false false e = e

-- one node
module _ (shown : Shown) (is : IsShown shown) (node : ℕ) (hangs : TestHangsOn shown.universe (λ set. value_of shown set node)) where
  abbrev value : List ℕ → ℕ
  value set = yes (value_of shown set node)

  value_hangs : NumberHangsOn shown.universe value
  value_hangs = yes_hangs shown.universe (λ set. value_of shown set node) hangs

  differing_depends : (x : ℕ) → Differing value x → DependsOn shown node x
  differing_depends x d =
      let set : List ℕ = as_set (without_number x d.set) in
      let first : value (with_number x set) ≡ value (with_number x d.set) = value_hangs.same (with_number x set) (with_number x d.set) (with_both x d.set) in
      let second : value set ≡ value (without_number x d.set) =
      value_hangs.same set (without_number x d.set) (same_sets shown.universe set (without_number x d.set) (has-as_set (without_number x d.set))) in
      record {
        set = set;
        ascending = ascending-as_set (without_number x d.set);
        differ = λ e. d.differ (sym first ∙ ap yes e ∙ second);
      }
    where
      with_both : (x : ℕ) (s : List ℕ) → SameOn shown.universe (with_number x (as_set (without_number x s))) (with_number x s)
      with_both x s = record {
        same = λ c known. has-with_number x (as_set (without_number x s)) c
            ∙ ap (λ b. nat_eq x c || b) (has-as_set (without_number x s) c ∙ has-without_number x s c) ∙ by (nat_eq x c) (has s c)
            ∙ sym (has-with_number x s c);
      }
        where
          by : (n b : Bool) → n || (not n && b) ≡ n || b
          by true b = refl
          by false b = refl

  yes_one : (a b : Bool) → yes a ≡ yes b → a ≡ b
  yes_one true true e = refl
  yes_one true false e = absurd cc
  yes_one false true e = absurd cc
  yes_one false false e = refl

  depends_differing : (x : ℕ) → DependsOn shown node x → depends shown.universe value x ≡ true
  depends_differing x d = by (has d.set x) refl
    where
      by : (b : Bool) → has d.set x ≡ b → depends shown.universe value x ≡ true
      by true there = absurd (d.differ (hangs.same (with_number x d.set) d.set
          (same_sets shown.universe (with_number x d.set) d.set (with_there x d.set there))))
      by false there = differ_depends shown.universe value x d.set value_hangs
          (λ e. d.differ (yes_one (value_of shown (with_number x d.set) node) (value_of shown d.set node)
          (e ∙ value_hangs.same (without_number x d.set) d.set (same_sets shown.universe (without_number x d.set) d.set (without_absent x d.set there)))))

  not_true : (b : Bool) → (b ≡ true → ⊥) → b ≡ false
  not_true true f = absurd (f refl)
  not_true false f = refl

  pub first_is_least : (r : Option Community) → MatchOption r (DependsOnNone shown node) (λ c. IsFirstOf shown node c.0)
      → option_map community_number r ≡ least shown.universe value
  unfolding least
  first_is_least None none = sym (nothing_found (depends shown.universe value) shown.universe
      (λ x h. not_true (depends shown.universe value x) (λ e.
      none.none x (in_has shown.universe x h) (differing_depends x (depends_differ shown.universe value x e)))))
  first_is_least (Some c) first = sym (found_least (depends shown.universe value) shown.universe c.0 is.ascending (has_in shown.universe c.0 first.known)
      (depends_differing c.0 first.needed)
      (λ d h e. first.least d (in_has shown.universe d h) (differing_depends d (depends_differ shown.universe value d e))))

-- several nodes
abbrev pub node_depends : Shown → ℕ → ℕ → Bool
node_depends shown x node = depends shown.universe (λ set. yes (value_of shown set node)) x

unfoldable pub least_among : Shown → List ℕ → Option ℕ
least_among shown nodes = find (λ x. list_any (node_depends shown x) nodes) shown.universe

pub record NodesHang (shown : Shown) (nodes : List ℕ) : Type 0 where
  pub each : (node : ℕ) → In nodes node → TestHangsOn shown.universe (λ set. value_of shown set node)

pub least_of_none : (shown : Shown) → None ≡ least_among shown []
unfolding least_among
least_of_none shown = sym (nothing_found (λ x. false) shown.universe (λ x h. refl))

or_false : (b : Bool) → b || false ≡ b
or_false true = refl
or_false false = refl

any-append : (p : ℕ → Bool) (xs : List ℕ) (y : ℕ) → list_any p (xs ++ y ∷ []) ≡ list_any p xs || p y
any-append p [] y = or_false (p y)
any-append p (x ∷ xs) y = ap (λ b. p x || b) (any-append p xs y) ∙ assoc (p x) (list_any p xs) (p y)
  where
    assoc : (a b c : Bool) → a || (b || c) ≡ (a || b) || c
    assoc true b c = refl
    assoc false b c = refl

pub least_of_more : (shown : Shown) → IsShown shown → (nodes : List ℕ) (node : ℕ)
    → lesser (least_among shown nodes) (least shown.universe (λ set. yes (value_of shown set node))) ≡ least_among shown (nodes ++ node ∷ [])
unfolding least_among least
least_of_more shown is nodes node =
    find_either (λ x. list_any (node_depends shown x) nodes) (λ x. node_depends shown x node) shown.universe is.ascending
    ∙ find_same (λ x. list_any (node_depends shown x) nodes || node_depends shown x node) (λ x. list_any (node_depends shown x) (nodes ++ node ∷ []))
    shown.universe (λ x. sym (any-append (node_depends shown x) nodes node))

-- nodes that tell a part depend on what it depends on
both_true : (a b : Bool) → (a ≡ true → b ≡ true) → (b ≡ true → a ≡ true) → a ≡ b
both_true true b f g = sym (f refl)
both_true false true f g = g refl
both_true false false f g = refl

agree_at : (shown : Shown) (nodes : List ℕ) (a b : List ℕ) (node : ℕ) → AgreeAt shown nodes a b → In nodes node → value_of shown a node ≡ value_of shown b node
agree_at shown [] a b node all h = absurd h
agree_at shown (n ∷ ns) a b node all (inl same) = ap (value_of shown a) (sym same) ∙ all.0 ∙ ap (value_of shown b) same
agree_at shown (n ∷ ns) a b node all (inr h) = agree_at shown ns a b node all.1 h

pub told_hang : (shown : Shown) (nodes : List ℕ) (part : List ℕ → ℕ) → NumberHangsOn shown.universe part → NodesTellPart shown nodes part
    → NodesHang shown nodes
told_hang shown nodes part hangs tells = record {
  each = λ node h. record { same = λ a b same. agree_at shown nodes a b node (tells.apart a b (hangs.same a b same)) h };
}

unless : (a b : Bool) → (a ≢ b → ⊥) → a ≡ b
unless true true f = refl
unless true false f = absurd (f (λ e. cc))
unless false true f = absurd (f (λ e. cc))
unless false false f = refl

none_differ : (shown : Shown) (nodes : List ℕ) (x : ℕ) (set : List ℕ) → ((node : ℕ) → In nodes node → TestHangsOn shown.universe (λ s. value_of shown s node))
    → (list_any (node_depends shown x) nodes ≡ true → ⊥) → AgreeAt shown nodes (with_number x set) (without_number x set)
none_differ shown [] x set hang none = tt
none_differ shown (n ∷ ns) x set hang none = (
  unless (value_of shown (with_number x set) n) (value_of shown (without_number x set) n)
      (λ ne. none (any_in (node_depends shown x) (n ∷ ns) n (inl refl)
      (differ_depends shown.universe (λ s. yes (value_of shown s n)) x set (yes_hangs shown.universe (λ s. value_of shown s n) (hang n (inl refl)))
      (λ e. ne (one (value_of shown (with_number x set) n) (value_of shown (without_number x set) n) e))))),
  none_differ shown ns x set (λ m h. hang m (inr h)) (λ e. none (later (node_depends shown x n) (list_any (node_depends shown x) ns) e)),
)
  where
    one : (a b : Bool) → yes a ≡ yes b → a ≡ b
    one true true e = refl
    one true false e = absurd cc
    one false true e = absurd cc
    one false false e = refl

    later : (a b : Bool) → b ≡ true → a || b ≡ true
    later true b e = refl
    later false b e = e

pub told_depends : (shown : Shown) (nodes : List ℕ) (part : List ℕ → ℕ) → NumberHangsOn shown.universe part → NodesTellPart shown nodes part → (x : ℕ)
    → depends shown.universe part x ≡ list_any (node_depends shown x) nodes
told_depends shown nodes part hangs tells x =
    let hang = told_hang shown nodes part hangs tells in
    both_true (depends shown.universe part x) (list_any (node_depends shown x) nodes)
    (λ e.
    let d = depends_differ shown.universe part x e in
    by (list_any (node_depends shown x) nodes) (λ none. d.differ
    (tells.same (with_number x d.set) (without_number x d.set) (none_differ shown nodes x d.set hang.each none))))
    (λ e.
    let f = in_any (node_depends shown x) nodes e in
    let d = depends_differ shown.universe (λ s. yes (value_of shown s f.item)) x f.passes in
    differ_depends shown.universe part x d.set hangs (λ same.
    d.differ (ap yes (agree_at shown nodes (with_number x d.set) (without_number x d.set) f.item
    (tells.apart (with_number x d.set) (without_number x d.set) same) f.there))))
  where
    by : (b : Bool) → ((b ≡ true → ⊥) → ⊥) → b ≡ true
    by true f = refl
    by false f = absurd (f (λ e. cc))

pub told_least : (shown : Shown) (nodes : List ℕ) (part : List ℕ → ℕ) → NumberHangsOn shown.universe part → NodesTellPart shown nodes part
    → least_among shown nodes ≡ least shown.universe part
unfolding least_among least
told_least shown nodes part hangs tells = find_same (λ x. list_any (node_depends shown x) nodes) (depends shown.universe part) shown.universe
    (λ x. sym (told_depends shown nodes part hangs tells x))
