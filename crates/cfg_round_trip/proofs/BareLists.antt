-- What a line adds to lists and route maps does not depend on line numbers.
use Rattle.std.proofs.Common.{◌≡◌, ℕ, Bool, true, false, ◌&&◌, List, [], ◌∷◌, map, refl, sym, ap, ◌∙◌}
use Rattle.std.specs.Prelude.{nat_lt, ◌==◌, if◌then◌else◌}
use Rattle.std.proofs.lemmas.List.{map_push}
use Rattle.cfg_ast.specs.declared.policy.PrefixEntry.{PrefixEntry}
use Rattle.cfg_ast.specs.declared.policy.PrefixList.{PrefixList}
use Rattle.cfg_ast.specs.declared.policy.CommunityLine.{CommunityLine}
use Rattle.cfg_ast.specs.declared.policy.CommunityList.{CommunityList}
use Rattle.cfg_ast.specs.declared.policy.MapEntry.{MapEntry}
use Rattle.cfg_ast.specs.declared.policy.RouteMap.{RouteMap}
use Rattle.cfg_ast.specs.text.PolicyLines.{changed_or_new, put_before, is_prefix_list, has_seq, has_prefix_entry, put_prefix_entry, with_prefix_entry, is_community_list, put_community_line, with_community_line, is_route_map, has_entry_seq, has_map_entry, put_map_entry, with_map_entry}
use Rattle.cfg_ast.specs.printing.Bare.{bare_prefix_entry, bare_prefix_list, bare_community_line, bare_community_list, bare_map_entry, bare_route_map}
use Rattle.cfg_round_trip.proofs.Bare.{any-map}

changed-map : {X : Type 0} (h : X → X) (is_it : X → Bool) (change other : X → X) (new : X) → ((x : X) → is_it (h x) ≡ is_it x) →
    ((x : X) → other (h x) ≡ h (change x)) → (xs : List X) → changed_or_new is_it other (h new) (map h xs) ≡ map h (changed_or_new is_it change new xs)
unfolding changed_or_new
changed-map h is_it change other new same changes [] = refl
changed-map {X} h is_it change other new same changes (x ∷ xs) =
    ap (λ (b : Bool). if b then other (h x) ∷ map h xs else h x ∷ changed_or_new is_it other (h new) (map h xs)) (same x)
    ∙ by (is_it x) (changed-map h is_it change other new same changes xs)
  where
    by : (b : Bool) → changed_or_new is_it other (h new) (map h xs) ≡ map h (changed_or_new is_it change new xs)
        → (if b then other (h x) ∷ map h xs else h x ∷ changed_or_new is_it other (h new) (map h xs)) ≡ map h
        (if b then change x ∷ xs else x ∷ changed_or_new is_it change new xs)
    by true rest = ap (λ (y : X). y ∷ map h xs) (changes x)
    by false rest = ap (λ (ys : List X). h x ∷ ys) rest

put-map : {X : Type 0} (h : X → X) (is_later : X → Bool) (x : X) → ((y : X) → is_later (h y) ≡ is_later y) → (ys : List X) →
    put_before is_later (h x) (map h ys) ≡ map h (put_before is_later x ys)
unfolding put_before
put-map h is_later x same [] = refl
put-map {X} h is_later x same (y ∷ ys) =
    ap (λ (b : Bool). if b then h x ∷ h y ∷ map h ys else h y ∷ put_before is_later (h x) (map h ys)) (same y) ∙ by (is_later y) (put-map h is_later x same ys)
  where
    by : (b : Bool) → put_before is_later (h x) (map h ys) ≡ map h (put_before is_later x ys)
        → (if b then h x ∷ h y ∷ map h ys else h y ∷ put_before is_later (h x) (map h ys)) ≡ map h (if b then x ∷ y ∷ ys else y ∷ put_before is_later x ys)
    by true rest = refl
    by false rest = ap (λ (zs : List X). h y ∷ zs) rest

-- ---- prefix lists

abbrev with_prefix_entries : PrefixList → List PrefixEntry → PrefixList
with_prefix_entries l entries = record l { entries = entries }

pub with_prefix_entry_same : (name : List ℕ) (e : PrefixEntry) (lists : List PrefixList) →
    with_prefix_entry name (bare_prefix_entry e) (map bare_prefix_list lists) ≡ map bare_prefix_list (with_prefix_entry name e lists)
with_prefix_entry_same name e lists =
    changed-map bare_prefix_list (is_prefix_list name) (put_prefix_entry e) (put_prefix_entry (bare_prefix_entry e)) (record { name = name; entries = e ∷ [] })
    (λ l. refl)
    (λ l. ap (with_prefix_entries l) (put-map bare_prefix_entry (λ (x : PrefixEntry). nat_lt e.seq x.seq) e (λ x. refl) l.entries)) lists

pub has_prefix_entry_same : (lists : List PrefixList) (name : List ℕ) (seq : ℕ) →
    has_prefix_entry (map bare_prefix_list lists) name seq ≡ has_prefix_entry lists name seq
unfolding has_prefix_entry
has_prefix_entry_same lists name seq =
    any-map bare_prefix_list (λ (l : PrefixList). is_prefix_list name l && has_seq l.entries seq)
    (λ (l : PrefixList). is_prefix_list name l && has_seq l.entries seq)
    (λ l. ap (λ (b : Bool). is_prefix_list name l && b)
    (any-map bare_prefix_entry (λ (e : PrefixEntry). e.seq == seq) (λ (e : PrefixEntry). e.seq == seq) (λ e. refl) l.entries)) lists

-- ---- community lists

abbrev with_lines : CommunityList → List CommunityLine → CommunityList
with_lines l lines = record l { lines = lines }

pub with_community_line_same : (name : List ℕ) (line : CommunityLine) (lists : List CommunityList) →
    with_community_line name (bare_community_line line) (map bare_community_list lists) ≡ map bare_community_list (with_community_line name line lists)
with_community_line_same name line lists =
    changed-map bare_community_list (is_community_list name) (put_community_line line) (put_community_line (bare_community_line line))
    (record { name = name; lines = line ∷ [] }) (λ l. refl)
    (λ l. ap (with_lines l) (sym (map_push bare_community_line l.lines line))) lists

-- ---- route maps

abbrev with_map_entries : RouteMap → List MapEntry → RouteMap
with_map_entries m entries = record m { entries = entries }

pub with_map_entry_same : (name : List ℕ) (e : MapEntry) (maps : List RouteMap) →
    with_map_entry name (bare_map_entry e) (map bare_route_map maps) ≡ map bare_route_map (with_map_entry name e maps)
with_map_entry_same name e maps =
    changed-map bare_route_map (is_route_map name) (put_map_entry e) (put_map_entry (bare_map_entry e)) (record { name = name; entries = e ∷ [] }) (λ m. refl)
    (λ m. ap (with_map_entries m) (put-map bare_map_entry (λ (x : MapEntry). nat_lt e.seq x.seq) e (λ x. refl) m.entries)) maps

pub has_map_entry_same : (maps : List RouteMap) (name : List ℕ) (seq : ℕ) → has_map_entry (map bare_route_map maps) name seq ≡ has_map_entry maps name seq
unfolding has_map_entry
has_map_entry_same maps name seq =
    any-map bare_route_map (λ (m : RouteMap). is_route_map name m && has_entry_seq m.entries seq)
    (λ (m : RouteMap). is_route_map name m && has_entry_seq m.entries seq)
    (λ m. ap (λ (b : Bool). is_route_map name m && b)
    (any-map bare_map_entry (λ (e : MapEntry). e.seq == seq) (λ (e : MapEntry). e.seq == seq) (λ e. refl) m.entries)) maps
