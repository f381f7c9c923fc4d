-- The groups have names of their own, which are names of routers.
use Rattle.std.proofs.Common.{◌≡◌, ◌≢◌, ℕ, zero, suc, ◌<◌, Bool, true, false, List, [], ◌∷◌, map, length, refl, sym, ap, ◌∙◌, inl, inr, arith}
use Rattle.std.specs.Prelude.{bytes_eq, nat_eq, slice_index, slice_index_or, if◌then◌else◌}
use Rattle.std.specs.List.{list_any, range_with_len, AllByRecursion}
use Rattle.std.proofs.lemmas.Bool.{cases_lt}
use Rattle.std.proofs.lemmas.Bool.Decides.{nat_tests}
use Rattle.std.proofs.lemmas.List.FromFn.{get_or-map-range_with_len, length-map-range_with_len}
use Rattle.base_kit.specs.Partition.{IsNumbered}
use Rattle.base_kit.proofs.Elements.{In, in_contains, range_in}
use Rattle.cfg_ast.specs.declared.network.Router.{Router}
use Rattle.cfg_ast.specs.printing.WellFormed.{IsWellFormedRouter}
use Rattle.cfg_ast.specs.text.Words.{is_router_name}
use Rattle.srp_core.specs.Problem.{Problem}
use Rattle.srp_quotient.specs.Groups.{first_member, quotient_problem, small_of}
use Rattle.base_kit.specs.Names.{AreApart}
use Rattle.numbered_names.proofs.Positions.{bytes_eq-sym}

-- ---- first members

pub record IsFound (groups : List ℕ) (g k : ℕ) : Type 0 where
  pub inside : k < length groups
  pub there : slice_index groups k ≡ g

found_step : (x g : ℕ) (xs : List ℕ) (b : Bool) → nat_eq x g ≡ b → (b ≡ false → IsFound xs g (first_member xs g))
    → IsFound (x ∷ xs) g (if b then 0 else suc (first_member xs g))
found_step x g xs true e rest = record { inside = omega arith; there = grind (arith, nat_tests) }
found_step x g xs false e rest = (let r = rest refl in record { inside = (let i = r.inside in omega arith); there = r.there })

behind : (x g : ℕ) (xs : List ℕ) → In (x ∷ xs) g → nat_eq x g ≡ false → In xs g
behind x g xs (inl same) other = absurd (grind (arith, nat_tests))
behind x g xs (inr later) other = later

first_found : (groups : List ℕ) (g : ℕ) → In groups g → IsFound groups g (first_member groups g)
first_found [] g at = absurd at
first_found (x ∷ xs) g at = found_step x g xs (nat_eq x g) refl (λ other. first_found xs g (behind x g xs at other))

pub first_of : (groups : List ℕ) (count g : ℕ) → IsNumbered groups count → g < count → IsFound groups g (first_member groups g)
first_of groups count g numbered h = first_found groups g (in_contains groups g (numbered.used g h))

-- ---- names apart

parted : {X : Type 0} (p : X → Bool) (x : X) (xs : List X) (b : Bool) → p x ≡ b → list_any p (x ∷ xs) ≡ false → (p x ≡ false) × (list_any p xs ≡ false)
parted p x xs true e none = absurd_of (sym (rw e refl) ∙ none)
  where
    absurd_of : true ≡ false → (p x ≡ false) × (list_any p xs ≡ false)
    absurd_of is = cc
parted p x xs false e none = (e, sym (rw e refl) ∙ none)

not_any : (name : List ℕ) (xs : List (List ℕ)) (j : ℕ) → list_any (bytes_eq name) xs ≡ false → j < length xs → bytes_eq name (slice_index_or xs j []) ≡ false
not_any name [] j none h = absurd (omega arith)
not_any name (x ∷ xs) zero none h = (parted (bytes_eq name) x xs (bytes_eq name x) refl none).0
not_any name (x ∷ xs) (suc j) none h = not_any name xs j ((parted (bytes_eq name) x xs (bytes_eq name x) refl none).1) (omega arith)

apart_at : (xs : List (List ℕ)) → AreApart xs → (i j : ℕ) → i < j → j < length xs → bytes_eq (slice_index_or xs i []) (slice_index_or xs j []) ≡ false
apart_at [] apart i j less h = absurd (omega arith)
apart_at (x ∷ xs) apart i zero less h = absurd (omega arith)
apart_at (x ∷ xs) apart zero (suc j) less h = not_any x xs j apart.0 (omega arith)
apart_at (x ∷ xs) apart (suc i) (suc j) less h = apart_at xs apart.1 i j (omega arith) (omega arith)

apart_two : (xs : List (List ℕ)) → AreApart xs → (u v : ℕ) → u < length xs → v < length xs → u ≢ v
    → bytes_eq (slice_index_or xs u []) (slice_index_or xs v []) ≡ false
apart_two xs apart u v hu hv differ = elim (cases_lt u v) [
  | inl less ↦ apart_at xs apart u v less hv
  | inr not_less ↦ bytes_eq-sym (slice_index_or xs u []) (slice_index_or xs v []) ∙ apart_at xs apart v u (omega arith) hu
]

any_none : (name : List ℕ) (xs : List (List ℕ)) → ((j : ℕ) → j < length xs → bytes_eq name (slice_index_or xs j []) ≡ false)
    → list_any (bytes_eq name) xs ≡ false
any_none name [] each = refl
any_none name (x ∷ xs) each =
    let first : bytes_eq name x ≡ false = each 0 (omega arith) in
    let rest = any_none name xs (λ j h. each (suc j) (omega arith)) in
    rw (first, rest) refl

all_apart : (xs : List (List ℕ)) → ((i j : ℕ) → i < j → j < length xs → bytes_eq (slice_index_or xs i []) (slice_index_or xs j []) ≡ false) → AreApart xs
all_apart [] each = tt
all_apart (x ∷ xs) each = (
  any_none x xs (λ j h. each 0 (suc j) (omega arith) (omega arith)),
  all_apart xs (λ i j less h. each (suc i) (suc j) (omega arith) (omega arith)),
)

-- the names of so many groups
abbrev names_with : Problem → List ℕ → ℕ → List (List ℕ)
names_with P groups count = map (λ g. slice_index_or P.names (first_member groups g) []) (range_with_len 0 count)

module _ (P : Problem) (groups : List ℕ) (count : ℕ) (numbered : IsNumbered groups count) (named : length P.names ≡ length groups) where
  name_at : (g : ℕ) → g < count → slice_index_or (names_with P groups count) g [] ≡ slice_index_or P.names (first_member groups g) []
  name_at g h = get_or-map-range_with_len (λ g. slice_index_or P.names (first_member groups g) []) 0 count g g [] h (omega arith)

  two_names : AreApart P.names → (i j : ℕ) → i < j → j < count
      → bytes_eq (slice_index_or (names_with P groups count) i []) (slice_index_or (names_with P groups count) j []) ≡ false
  two_names apart i j less h =
      let a = first_of groups count i numbered (omega arith) in
      let b = first_of groups count j numbered h in
      let at_i = name_at i (omega arith) in
      let at_j = name_at j h in
      let a_in = a.inside in
      let b_in = b.inside in
      (λ k. bytes_eq (at_i k) (at_j k))
      ∙ apart_two P.names apart (first_member groups i) (first_member groups j) (omega arith) (omega arith)
      (λ same. (let one : i ≡ j = sym a.there ∙ ap (slice_index groups) same ∙ b.there in omega arith))

  names_apart : AreApart P.names → AreApart (names_with P groups count)
  names_apart apart = all_apart (names_with P groups count) (λ i j less h.
      (let long = length-map-range_with_len (λ g. slice_index_or P.names (first_member groups g) []) 0 count in two_names apart i j less (omega arith)))

  pub group_names_apart : AreApart P.names → AreApart (small_of P groups count).names
  unfolding quotient_problem
  group_names_apart apart = names_apart apart

-- ---- names of routers

abbrev IsName : List ℕ → Type 0
IsName name = is_router_name name ≡ true

all_at : {X : Type 0} (A : X → Type 0) (xs : List X) (k : ℕ) (d : X) → AllByRecursion A xs → k < length xs → A (slice_index_or xs k d)
all_at A [] k d all h = absurd (omega arith)
all_at A (x ∷ xs) zero d all h = all.0
all_at A (x ∷ xs) (suc k) d all h = all_at A xs k d all.1 (omega arith)

all_map : {X Y : Type 0} (A : Y → Type 0) (f : X → Y) (xs : List X) → ((x : X) → In xs x → A (f x)) → AllByRecursion A (map f xs)
all_map A f [] each = tt
all_map A f (x ∷ xs) each = (each x (inl refl), all_map A f xs (λ y at. each y (inr at)))

pub router_names : (routers : List Router) → AllByRecursion IsWellFormedRouter routers
    → AllByRecursion (λ (name : List ℕ). is_router_name name ≡ true) (map (λ (r : Router). r.name) routers)
router_names [] all = tt
router_names (r ∷ rs) all = (all.0.name, router_names rs all.1)

module _ (P : Problem) (groups : List ℕ) (count : ℕ) (numbered : IsNumbered groups count) (named : length P.names ≡ length groups) where
  names_are : AllByRecursion IsName P.names → AllByRecursion IsName (names_with P groups count)
  names_are all = all_map IsName (λ g. slice_index_or P.names (first_member groups g) []) (range_with_len 0 count)
      (λ g at. (
      let below = range_in 0 count g at in
      let f = first_of groups count g numbered (omega arith) in
      let inside = f.inside in
      all_at IsName P.names (first_member groups g) [] all (omega arith)))

  pub group_names : AllByRecursion (λ (name : List ℕ). is_router_name name ≡ true) P.names
      → AllByRecursion (λ (name : List ℕ). is_router_name name ≡ true) (small_of P groups count).names
  unfolding quotient_problem
  group_names all = names_are all
