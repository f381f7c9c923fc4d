-- The plain map of a map as it is written is the map that was to be written, except for names and lines.
use Rattle.std.proofs.Common.{◌≡◌, ℕ, zero, suc, ◌+◌, ◌^◌, ◌<◌, ◌≤◌, Bool, true, false, ◌&&◌, List, [], ◌∷◌, length, map, inl, inr, Option, Some, None, refl, sym, ap, ◌∙◌, subst, arith, find, filter_map, bytes_eq, nat_eq, decimal, codes, replicate, eq-eqb}
use Rattle.std.specs.Prelude.{is_some, min, if◌then◌else◌}
use Rattle.std.specs.Bool.{beq}
use Rattle.std.specs.Option.{option_map, option_map_or, option_or, option_eq}
use Rattle.std.specs.List.{AllByRecursion, enumerate_from, cons_option}
use Rattle.std.proofs.lemmas.Slice.Eq.{bytes_eq-Decides}
use Rattle.std.proofs.lemmas.Bool.Decides.{nat_tests}
use Rattle.base_kit.specs.Prefixes.{Prefix}
use Rattle.base_kit.proofs.Elements.{In, in_map, map_in, in_left, in_right}
use Rattle.cfg_ast.specs.meaning.Classes.{same_items}
use Rattle.cfg_ast.specs.printing.Bare.{bare_community_line}
use Rattle.cfg_ast.specs.meaning.Policy.{community_list_named, route_map_named, deletion_list, prepend_count}
use Rattle.cfg_ast.specs.declared.network.Router.{Router}
use Rattle.cfg_ast.specs.declared.policy.Change.{Change}
use Rattle.cfg_ast.specs.declared.policy.Change.TheVariants.{Clear, Replace, Append}
use Rattle.cfg_ast.specs.declared.policy.CommunityLine.{CommunityLine}
use Rattle.cfg_ast.specs.declared.policy.CommunityList.{CommunityList}
use Rattle.cfg_ast.specs.declared.policy.RouteMap.{RouteMap}
use Rattle.route_maps.specs.declared.plain.Plain.{Plain}
use Rattle.route_maps.specs.declared.plain.PlainEntry.{PlainEntry}
use Rattle.route_maps.specs.declared.plain.Verdict.TheVariants.{Deny}
use Rattle.route_maps.specs.Printable.{IsPrintableEntry}
use Rattle.route_maps.specs.Maps.{verdict}
use Rattle.specialize.specs.OnePrefix.{lists_named, plain_entry, plain_entries, plain_of, own_preference, entries_for}
use Rattle.route_maps.specs.Same.{same_line, same_list, same_match, same_change, same_entry}
use Rattle.config_emit.specs.Maps.{map_name, list_name, written_list, match_list, match_lists, deletion_lists, lists_of_entry, name_of_list, names_line, written_prepend, written_entry, written_entries, written_map}
use Rattle.emit_map_laws.proofs.Names.{find_one, one_map}
use Rattle.emit_map_laws.proofs.Lookups.{one_at, number_within, in_numbered, all_lists, IsWritten, found_list, ArePrintable}
use Rattle.route_maps.proofs.SameVerdicts.{entries_alike}

-- ---- what is the same as itself
pub bool_same : (b : Bool) → beq b b ≡ true
bool_same true = refl
bool_same false = refl

pub bytes_same : (w : List ℕ) → bytes_eq w w ≡ true
bytes_same w = (bytes_eq-Decides w w).1 refl

pub both : (a b : Bool) → a ≡ true → b ≡ true → (a && b) ≡ true
both true b x y = y
both false b x y = absurd cc

lines_same : (ls : List CommunityLine) → same_items same_line (map bare_community_line ls) ls ≡ true
lines_same [] = refl
lines_same (l ∷ ls) = both (same_line (bare_community_line l) l) _ (both (beq l.permit l.permit) _ (bool_same l.permit) (bytes_same l.comms)) (lines_same ls)

list_same : (name : List ℕ) (l : CommunityList) → same_list (written_list name l) l ≡ true
list_same name l = lines_same l.lines

pub number_option : (o : Option ℕ) → option_eq nat_eq o o ≡ true
number_option None = refl
number_option (Some n) = eq-eqb n n refl

pub change_option : (o : Option Change) → option_eq same_change o o ≡ true
change_option None = refl
change_option (Some Clear) = refl
change_option (Some (Replace by)) = bytes_same by
change_option (Some (Append more)) = bytes_same more

lp_same : (permit : Bool) (lp : Option ℕ) → (if permit then option_or lp None else lp) ≡ lp
lp_same false lp = refl
lp_same true None = refl
lp_same true (Some n) = refl

length_replicated : (n x : ℕ) → length {A = ℕ} (replicate n x) ≡ n
length_replicated zero x = refl
length_replicated (suc n) x = ap (λ k. suc k) (length_replicated n x)

cut_short : (j n : ℕ) → j ≡ suc n → suc n ≤ 10 → min j 255 ≡ suc n
cut_short j n e few = omega arith

count_back : (number n : ℕ) → n ≤ 10 → min (prepend_count (written_prepend number n)) 255 ≡ n
count_back number zero few = refl
count_back number (suc n) few =
    ap (λ (b : Bool). min (prepend_count (if b then None else Some (record { numbers = replicate (suc n) number; line = 0 }))) 255)
    (let e : nat_eq (suc n) 0 ≡ false = grind (arith, nat_tests) in e)
    ∙ cut_short (length {A = ℕ} (replicate (suc n) number)) n (length_replicated (suc n) number) few

module _ (r : Router) (maps : List Plain) (number : ℕ) (lists_are : r.community_lists ≡ all_lists maps)
    (maps_are : r.route_maps ≡ map (written_map number) (enumerate_from 1 maps)) (few : length maps < 2 ^ 32) (are : ArePrintable maps) where
  named_back : (c : CommunityList) → IsWritten maps c → community_list_named r c.name ≡ Some c
  named_back c w = ap (λ (ls : List CommunityList). find (λ (l : CommunityList). bytes_eq l.name c.name) ls) lists_are ∙ found_list maps c few are w

  module _ (k : ℕ) (m : Plain) (at : In (enumerate_from 1 maps) (k, m)) where
    lists_back : (x : PlainEntry) → In m.entries x → (cs : List CommunityList) → ((c : CommunityList) → In cs c → In (lists_of_entry k x) c) →
        filter_map (community_list_named r) (map name_of_list cs) ≡ cs
    lists_back x x_in [] inside = refl
    lists_back x x_in (c ∷ cs) inside =
        ap (λ (o : Option CommunityList). cons_option o (filter_map (community_list_named r) (map name_of_list cs)))
        (named_back c (record { k = k; m = m; at = at; x = x; x_in = x_in; c_in = inside c (inl refl) }))
        ∙ ap (λ (l : List CommunityList). c ∷ l) (lists_back x x_in cs (λ d i. inside d (inr i)))

    match_names : (x : PlainEntry) → In m.entries x → (o : Option (List CommunityList)) → x.lists ≡ o →
        same_match (is_some o && x.exact) x.exact (lists_named r (option_map (λ lists. names_line (match_lists k x)) o)) o ≡ true
    match_names x x_in None e = refl
    match_names x x_in (Some lists) e =
        let all : match_lists k x ≡ map (match_list k x.seq) (enumerate_from 1 lists) =
        ap (λ (o : Option (List CommunityList)). option_map_or (λ lists. map (match_list k x.seq) (enumerate_from 1 lists)) o []) e in
        let back : filter_map (community_list_named r) (map name_of_list (match_lists k x)) ≡ match_lists k x =
        lists_back x x_in (match_lists k x) (λ c i. in_left_of c i) in
        both (beq x.exact x.exact) _ (bool_same x.exact) (ap (λ (ls : List CommunityList). same_items same_list ls lists) (back ∙ all) ∙ written_same 1 lists)
      where
        in_left_of : (c : CommunityList) → In (match_lists k x) c → In (lists_of_entry k x) c
        in_left_of c i = in_left (match_lists k x) (deletion_lists k x) c i

        written_same : (n : ℕ) (ls : List CommunityList) → same_items same_list (map (match_list k x.seq) (enumerate_from n ls)) ls ≡ true
        written_same n [] = refl
        written_same n (l ∷ ls) = both (same_list (written_list (list_name k x.seq (decimal n)) l) l) _ (list_same (list_name k x.seq (decimal n)) l)
            (written_same (n + 1) ls)

    delete_back : (x : PlainEntry) → In m.entries x → (o : Option CommunityList) → x.delete ≡ o
        → option_eq same_list (deletion_list r (option_map (λ list. record { name = list_name k x.seq (codes "D"); line = 0 }) o)) o ≡ true
    delete_back x x_in None e = refl
    delete_back x x_in (Some l) e =
        let c : CommunityList = written_list (list_name k x.seq (codes "D")) l in
        let here : In (deletion_lists k x) c = subst (λ (o : Option CommunityList).
        In (option_map_or (λ list. written_list (list_name k x.seq (codes "D")) list ∷ []) o []) c) (sym e) (inl refl) in
        let found = named_back c (record { k = k; m = m; at = at; x = x; x_in = x_in; c_in = in_right (match_lists k x) (deletion_lists k x) c here }) in
        ap (λ (o : Option CommunityList). option_eq same_list o (Some l)) found ∙ list_same (list_name k x.seq (codes "D")) l

    entry_back : (x : PlainEntry) → In m.entries x → IsPrintableEntry x → same_entry (plain_entry r None (written_entry number k x)) x ≡ true
    entry_back x x_in is =
        both (nat_eq x.seq x.seq) _ (eq-eqb x.seq x.seq refl)
        (both (beq x.permit x.permit) _ (bool_same x.permit)
        (both _ _ (match_names x x_in x.lists refl)
        (both _ _ (ap (λ (o : Option ℕ). option_eq nat_eq o x.lp) (lp_same x.permit x.lp) ∙ number_option x.lp)
        (both _ _ (change_option x.change)
        (both _ _ (delete_back x x_in x.delete refl) (eq-eqb _ x.adds (count_back number x.adds is.adds)))))))

    entries_back : (p : Prefix) (xs : List PlainEntry) → ((x : PlainEntry) → In xs x → In m.entries x) → AllByRecursion IsPrintableEntry xs →
        same_items same_entry (plain_entries r None p (map (written_entry number k) xs)) xs ≡ true
    entries_back p [] inside is = refl
    entries_back p (x ∷ xs) inside is = both (same_entry (plain_entry r None (written_entry number k x)) x) _ (entry_back x (inside x (inl refl)) is.0)
        (entries_back p xs (λ y i. inside y (inr i)) is.1)

    written_verdict : (p : Prefix) (comms : List ℕ) (xs : List PlainEntry) → m.entries ≡ xs → AllByRecursion IsPrintableEntry xs →
        verdict (plain_entries r None p (written_entries number k xs)) comms ≡ verdict xs comms
    written_verdict p comms [] e is = refl
    written_verdict p comms (x ∷ xs) e is = entries_alike comms (plain_entries r None p (map (written_entry number k) (x ∷ xs))) (x ∷ xs)
        (entries_back p (x ∷ xs) (λ y i. subst (λ (l : List PlainEntry). In l y) (sym e) i) is)

    map_back : route_map_named r (map_name k) ≡ Some (written_map number (k, m))
    map_back =
        ap (λ (ms : List RouteMap). find (λ (x : RouteMap). bytes_eq x.name (map_name k)) ms) maps_are
        ∙ find_one (λ (x : RouteMap). bytes_eq x.name (map_name k)) (map (written_map number) (enumerate_from 1 maps)) (written_map number (k, m))
        (in_map (written_map number) (enumerate_from 1 maps) (k, m) at) (bytes_same (map_name k))
        (λ y i same. (let o = map_in (written_map number) (enumerate_from 1 maps) y i in
        let n : o.0.0 ≡ k = one_map o.0.0 k (let b = number_within maps 1 o.0.0 o.0.1 o.1 in omega arith) (let b = number_within maps 1 k m at in omega arith)
        (ap (λ (z : RouteMap). z.name) o.2 ∙ (bytes_eq-Decides y.name (map_name k)).0 same) in
        let l : o.0.1 ≡ m = one_at maps 1 o.0.0 k o.0.1 m o.1 at n in
        sym o.2 ∙ (λ j. written_map number (n j, l j))))

    -- THE POINT: by its name the map says of every set what the plain map says
    pub written_back : (p : Prefix) (inbound : Bool) (comms : List ℕ) → own_preference r inbound ≡ None →
        verdict (plain_of r (Some (map_name k)) None p inbound).entries comms ≡ verdict m.entries comms
    written_back p inbound comms none =
        ap (λ (o : Option ℕ). verdict (entries_for r o p (Some (map_name k))) comms) none
        ∙ ap (λ (o : Option RouteMap). verdict (option_map_or (λ (x : RouteMap). plain_entries r None p x.entries) o []) comms) map_back
        ∙ written_verdict p comms m.entries refl (are m (in_numbered maps 1 k m at)).entries

    -- a map without entries denies, whatever the router's own preference is
    pub closed_back : m.entries ≡ [] → (p : Prefix) (inbound : Bool) (comms : List ℕ) →
        verdict (plain_of r (Some (map_name k)) None p inbound).entries comms ≡ Deny
    closed_back none p inbound comms =
        ap (λ (o : Option RouteMap). verdict (option_map_or (λ (x : RouteMap). plain_entries r (own_preference r inbound) p x.entries) o []) comms) map_back
        ∙ ap (λ (xs : List PlainEntry). verdict (plain_entries r (own_preference r inbound) p (written_entries number k xs)) comms) none
