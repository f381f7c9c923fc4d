-- What is in a list with one item more.
use Rattle.std.proofs.Common.{◌≡◌, ℕ, Bool, true, false, ◌&&◌, ◌||◌, List, [], ◌∷◌, ◌++◌, refl, ap, ◌∙◌, ◌==◌, nat_lt}
use Rattle.std.specs.Str.{bytes_eq}
use Rattle.std.specs.List.{list_any}
use Rattle.std.proofs.lemmas.Slice.Eq.{bytes_eq-Decides}
use Rattle.cfg_ast.specs.declared.interface.Interface.{Interface}
use Rattle.cfg_ast.specs.declared.policy.PrefixEntry.{PrefixEntry}
use Rattle.cfg_ast.specs.declared.policy.PrefixList.{PrefixList}
use Rattle.cfg_ast.specs.declared.policy.MapEntry.{MapEntry}
use Rattle.cfg_ast.specs.declared.policy.RouteMap.{RouteMap}
use Rattle.cfg_ast.specs.text.PolicyLines.{has_prefix_entry, with_prefix_entry, put_prefix_entry, has_map_entry, with_map_entry, put_map_entry, changed_or_new, put_before}
use Rattle.cfg_ast.specs.text.Reading.{has_interface}

or_three : (a b c : Bool) → (a || (b || c)) ≡ (b || (a || c))
or_three true true c = refl
or_three true false c = refl
or_three false b c = refl

or_assoc : (a b c : Bool) → ((a || b) || c) ≡ (a || (b || c))
or_assoc true b c = refl
or_assoc false b c = refl

or_none : (a : Bool) → (a || false) ≡ a
or_none true = refl
or_none false = refl

and_or : (a b c : Bool) → (a && (b || c)) ≡ ((a && b) || (a && c))
and_or true b c = refl
and_or false b c = refl

pub any_push : {X : Type 0} (f : X → Bool) (xs : List X) (x : X) → list_any f (xs ++ x ∷ []) ≡ (f x || list_any f xs)
any_push f [] x = refl
any_push f (y ∷ ys) x = ap (λ (b : Bool). f y || b) (any_push f ys x) ∙ or_three (f y) (f x) (list_any f ys)

put_one : {X : Type 0} (f later : X → Bool) (x y : X) (ys : List X) → list_any f (put_before later x ys) ≡ (f x || list_any f ys) → (b : Bool) → later y ≡ b →
    list_any f (put_before later x (y ∷ ys)) ≡ (f x || (f y || list_any f ys))
unfolding put_before
put_one f later x y ys rest true is = rw is refl
put_one f later x y ys rest false is = rw is (ap (λ (b : Bool). f y || b) rest ∙ or_three (f y) (f x) (list_any f ys))

any_put : {X : Type 0} (f later : X → Bool) (x : X) (xs : List X) → list_any f (put_before later x xs) ≡ (f x || list_any f xs)
unfolding put_before
any_put f later x [] = refl
any_put f later x (y ∷ ys) = put_one f later x y ys (any_put f later x ys) (later y) refl

change_one : {X : Type 0} (f is_it : X → Bool) (change : X → X) (new : X) (b : Bool) → ((x : X) → is_it x ≡ true → f (change x) ≡ (b || f x)) →
    (x : X) (xs : List X) → list_any f (changed_or_new is_it change new xs) ≡ (b || list_any f xs)
    → (c : Bool) → is_it x ≡ c → list_any f (changed_or_new is_it change new (x ∷ xs)) ≡ (b || (f x || list_any f xs))
unfolding changed_or_new
change_one f is_it change new b changes x xs rest true is = rw is (ap (λ (y : Bool). y || list_any f xs) (changes x is) ∙ or_assoc b (f x) (list_any f xs))
change_one f is_it change new b changes x xs rest false is = rw is (ap (λ (y : Bool). f x || y) rest ∙ or_three (f x) b (list_any f xs))

any_changed : {X : Type 0} (f is_it : X → Bool) (change : X → X) (new : X) (b : Bool) → f new ≡ b → ((x : X) → is_it x ≡ true → f (change x) ≡ (b || f x)) →
    (xs : List X) → list_any f (changed_or_new is_it change new xs) ≡ (b || list_any f xs)
unfolding changed_or_new
any_changed f is_it change new b begins changes [] = rw begins refl
any_changed f is_it change new b begins changes (x ∷ xs) =
    change_one f is_it change new b changes x xs (any_changed f is_it change new b begins changes xs) (is_it x) refl

same_name : (m n : List ℕ) → bytes_eq m n ≡ true → m ≡ n
same_name m n e = (bytes_eq-Decides m n).0 e

-- an entry put into the list of its name: L is a list or map of entries E, and change puts it there
module _ {E L : Type 0} (name_of : L → List ℕ) (entries_of : L → List E) (number : E → ℕ) (name : List ℕ) (e : E) (change : L → L) (new : L)
    (kept : (l : L) → name_of (change l) ≡ name_of l)
    (put : (l : L) → entries_of (change l) ≡ put_before (λ (x : E). nat_lt (number e) (number x)) e (entries_of l)) (named : name_of new ≡ name)
    (begun : entries_of new ≡ e ∷ []) where
  abbrev has : List ℕ → ℕ → L → Bool
  has n k l = bytes_eq (name_of l) n && list_any (λ (x : E). number x == k) (entries_of l)

  entry_put : (lists : List L) (n : List ℕ) (k : ℕ) →
      list_any (has n k) (changed_or_new (λ (l : L). bytes_eq (name_of l) name) change new lists) ≡ ((bytes_eq name n && (number e == k))
      || list_any (has n k) lists)
  entry_put lists n k =
      any_changed (has n k) (λ (l : L). bytes_eq (name_of l) name) change new (bytes_eq name n && (number e == k))
      (rw (named, begun) (ap (λ (b : Bool). bytes_eq name n && b) (or_none (number e == k))))
      (λ l is. rw (kept l, put l) (ap (λ (b : Bool). bytes_eq (name_of l) n && b)
      (any_put (λ (x : E). number x == k) (λ (x : E). nat_lt (number e) (number x)) e (entries_of l))
      ∙ and_or (bytes_eq (name_of l) n) (number e == k) (list_any (λ (x : E). number x == k) (entries_of l))
      ∙ ap (λ (m : List ℕ). (bytes_eq m n && (number e == k)) || has n k l) (same_name (name_of l) name is)))
      lists

pub prefix_put : (name : List ℕ) (e : PrefixEntry) (lists : List PrefixList) (n : List ℕ) (k : ℕ) →
    has_prefix_entry (with_prefix_entry name e lists) n k ≡ ((bytes_eq name n && (e.seq == k)) || has_prefix_entry lists n k)
unfolding has_prefix_entry
prefix_put name e lists n k =
    entry_put (λ (l : PrefixList). l.name) (λ (l : PrefixList). l.entries) (λ (x : PrefixEntry). x.seq) name e (put_prefix_entry e)
    (record { name = name; entries = e ∷ [] }) (λ l. refl) (λ l. refl) refl refl lists n k

pub map_put : (name : List ℕ) (e : MapEntry) (maps : List RouteMap) (n : List ℕ) (k : ℕ) →
    has_map_entry (with_map_entry name e maps) n k ≡ ((bytes_eq name n && (e.seq == k)) || has_map_entry maps n k)
unfolding has_map_entry
map_put name e maps n k =
    entry_put (λ (m : RouteMap). m.name) (λ (m : RouteMap). m.entries) (λ (x : MapEntry). x.seq) name e (put_map_entry e)
    (record { name = name; entries = e ∷ [] }) (λ m. refl) (λ m. refl) refl refl maps n k

pub has_push : (is : List Interface) (i : Interface) (n : List ℕ) → has_interface (is ++ i ∷ []) n ≡ (bytes_eq i.name n || has_interface is n)
unfolding has_interface
has_push is i n = any_push (λ (x : Interface). bytes_eq x.name n) is i
