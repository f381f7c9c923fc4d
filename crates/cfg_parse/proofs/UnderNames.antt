-- The lists and maps of a router, kept as lists under names, are those of the definition.
use Rattle.std.proofs.Common.{◌≡◌, ℕ, Bool, true, false, ◌&&◌, ◌||◌, List, [], ◌∷◌, ◌++◌, map, refl, sym, ap}
use Rattle.std.specs.Prelude.{bytes_eq, nat_lt}
use Rattle.std.specs.List.{list_any}
use Rattle.cfg_ast.specs.declared.policy.PrefixEntry.{PrefixEntry}
use Rattle.cfg_ast.specs.declared.policy.PrefixList.{PrefixList}
use Rattle.cfg_ast.specs.declared.policy.CommunityLine.{CommunityLine}
use Rattle.cfg_ast.specs.declared.policy.MapEntry.{MapEntry}
use Rattle.cfg_ast.specs.declared.policy.RouteMap.{RouteMap}
use Rattle.cfg_ast.specs.text.PolicyLines.{changed_or_new, put_before, is_prefix_list, has_prefix_entry, has_seq, put_prefix_entry, with_prefix_entry, is_community_list, put_community_line, with_community_line, is_route_map, has_map_entry, has_entry_seq, put_map_entry, with_map_entry}
use Rattle.named_lists.specs.declared.named.NamedList.{NamedList}
use Rattle.named_lists.specs.NamedLists.{in_named}
use Rattle.named_lists.specs.NumberedLists.{put, has_entry}
use Rattle.cfg_parse.specs.NamedLists.{prefix_list_of, route_map_of, community_list_of}

any_map : {X Z : Type 0} (test : Z → Bool) (f : X → Z) (xs : List X) → list_any test (map f xs) ≡ list_any (λ x. test (f x)) xs
any_map test f [] = refl
any_map test f (x ∷ xs) = ap (λ b. test (f x) || b) (any_map test f xs)

put_by : {E : Type 0} (number : E → ℕ) (e x : E) (xs : List E) → put_before (λ y. nat_lt (number e) (number y)) e xs ≡ put number e xs → (b : Bool) →
    nat_lt (number e) (number x) ≡ b → put_before (λ y. nat_lt (number e) (number y)) e (x ∷ xs) ≡ put number e (x ∷ xs)
unfolding put put_before
put_by number e x xs rest true is = rw is refl
put_by number e x xs rest false is = rw is (ap (λ ys. x ∷ ys) rest)

put_same : {E : Type 0} (number : E → ℕ) (e : E) (xs : List E) → put_before (λ y. nat_lt (number e) (number y)) e xs ≡ put number e xs
unfolding put put_before
put_same number e [] = refl
put_same number e (x ∷ xs) = put_by number e x xs (put_same number e xs) (nat_lt (number e) (number x)) refl

-- L is a list or map of entries E, and f makes one of a list under a name
module _ {E L : Type 0} (f : NamedList E → L) (is_it : L → Bool) (change : L → L) (new : L) (name : List ℕ) (with_one : List E → List E)
    (named : (l : NamedList E) → is_it (f l) ≡ bytes_eq l.name name)
    (changed : (l : NamedList E) → change (f l) ≡ f (record { name = l.name; entries = with_one l.entries }))
    (begun : new ≡ f (record { name = name; entries = with_one [] })) where
  change_by : (l : NamedList E) (ls : List (NamedList E)) → changed_or_new is_it change new (map f ls) ≡ map f (in_named name with_one ls) → (b : Bool) →
      bytes_eq l.name name ≡ b → changed_or_new is_it change new (map f (l ∷ ls)) ≡ map f (in_named name with_one (l ∷ ls))
  unfolding changed_or_new in_named
  change_by l ls rest true is = rw (named l, is) (ap (λ m. m ∷ map f ls) (changed l))
  change_by l ls rest false is = rw (named l, is) (ap (λ ms. f l ∷ ms) rest)

  change_same : (ls : List (NamedList E)) → changed_or_new is_it change new (map f ls) ≡ map f (in_named name with_one ls)
  unfolding changed_or_new in_named
  change_same [] = ap (λ m. m ∷ []) begun
  change_same (l ∷ ls) = change_by l ls (change_same ls) (bytes_eq l.name name) refl

-- ---- prefix lists

abbrev pub prefix_number : PrefixEntry → ℕ
prefix_number e = e.seq

pub has_prefix : (ls : List (NamedList PrefixEntry)) (name : List ℕ) (seq : ℕ) →
    has_entry prefix_number ls name seq ≡ has_prefix_entry (map prefix_list_of ls) name seq
unfolding has_entry has_prefix_entry
has_prefix ls name seq = sym (any_map (λ (l : PrefixList). is_prefix_list name l && has_seq l.entries seq) prefix_list_of ls)

pub with_prefix : (name : List ℕ) (e : PrefixEntry) (ls : List (NamedList PrefixEntry)) →
    map prefix_list_of (in_named name (put prefix_number e) ls) ≡ with_prefix_entry name e (map prefix_list_of ls)
unfolding put
with_prefix name e ls =
    sym (change_same prefix_list_of (is_prefix_list name) (put_prefix_entry e) (record { name = name; entries = e ∷ [] }) name (put prefix_number e) (λ l. refl)
    (λ l. ap (λ es. let m : PrefixList = record { name = l.name; entries = es } in m) (put_same prefix_number e l.entries)) refl ls)

-- ---- route maps

abbrev pub map_number : MapEntry → ℕ
map_number e = e.seq

pub has_map : (ms : List (NamedList MapEntry)) (name : List ℕ) (seq : ℕ) → has_entry map_number ms name seq ≡ has_map_entry (map route_map_of ms) name seq
unfolding has_entry has_map_entry
has_map ms name seq = sym (any_map (λ (m : RouteMap). is_route_map name m && has_entry_seq m.entries seq) route_map_of ms)

pub with_map : (name : List ℕ) (e : MapEntry) (ms : List (NamedList MapEntry)) →
    map route_map_of (in_named name (put map_number e) ms) ≡ with_map_entry name e (map route_map_of ms)
unfolding put
with_map name e ms =
    sym (change_same route_map_of (is_route_map name) (put_map_entry e) (record { name = name; entries = e ∷ [] }) name (put map_number e) (λ m. refl)
    (λ m. ap (λ es. let n : RouteMap = record { name = m.name; entries = es } in n) (put_same map_number e m.entries)) refl ms)

-- ---- community lists

pub with_line : (name : List ℕ) (line : CommunityLine) (ls : List (NamedList CommunityLine)) →
    map community_list_of (in_named name (λ lines. lines ++ line ∷ []) ls) ≡ with_community_line name line (map community_list_of ls)
with_line name line ls =
    sym (change_same community_list_of (is_community_list name) (put_community_line line) (record { name = name; lines = line ∷ [] }) name
    (λ lines. lines ++ line ∷ []) (λ l. refl) (λ l. refl) refl ls)
