-- The maps and lists of the router of a group are as the grammar has them, and their match lines are short.
use Rattle.std.proofs.Common.{◌≡◌, ℕ, zero, suc, ◌+◌, ◌*◌, ◌≤◌, Bool, true, false, cond, ◌&&◌, List, [], ◌∷◌, ◌++◌, map, length, inl, inr, Option, Some, None, refl, sym, ◌∙◌, ap, subst, arith, nat_eq, codes, decimal, bytes_eq, length-append}
use Rattle.std.specs.Prelude.{IfSome, flat_map, is_some, replicate}
use Rattle.std.specs.Option.{option_map, option_map_or}
use Rattle.std.specs.List.{AllByRecursion, IsDistinct, enumerate_from, join_with_byte}
use Rattle.std.proofs.lemmas.Bool.Decides.{nat_tests}
use Rattle.std.proofs.lemmas.Fmt.{length-decimal-le}
use Rattle.std.proofs.lemmas.List.{length-map, length-replicate}
use Rattle.base_kit.specs.Sets.{IsAscending}
use Rattle.base_kit.proofs.Elements.{In, map_in, flat_map_in, append_in}
use Rattle.cfg_ast.specs.declared.policy.CommunityLine.{CommunityLine}
use Rattle.cfg_ast.specs.declared.policy.CommunityList.{CommunityList}
use Rattle.cfg_ast.specs.declared.policy.RouteMap.{RouteMap}
use Rattle.cfg_ast.specs.printing.Bare.{bare_community_line}
use Rattle.cfg_ast.specs.printing.Printed.{inner, match_comms_line}
use Rattle.cfg_ast.specs.printing.WellFormed.{IsBetween, IsListName, IsWellFormedCommunityLine, IsWellFormedCommunityList, same_community_list, IsWellFormedNamed, IsWellFormedNameLine, IsMarkRight, IsWellFormedPrepend, IsWellFormedMapEntry, map_seqs, IsWellFormedRouteMap, same_route_map}
use Rattle.cfg_ast.specs.text.PolicyForms.{has_mark}
use Rattle.cfg_round_trip.specs.ShortMaps.{IsShortLine, IsShortEntry, IsShortMap}
use Rattle.route_maps.specs.Printable.{IsPrintableList, IsPrintableDeletion, IsPrintableEntry, plain_seqs, IsPrintable}
use Rattle.route_maps.specs.declared.plain.Plain.{Plain}
use Rattle.route_maps.specs.declared.plain.PlainEntry.{PlainEntry}
use Rattle.config_emit.specs.Laws.{IsPlan}
use Rattle.config_emit.specs.Maps.{maps_of, map_name, match_name, deletion_name, named, name_of_list, names_line, written_list, match_list, match_lists, deletion_lists, lists_of_entry, lists_of_map, written_prepend, written_entry, denying_entry, written_entries, written_map}
use Rattle.config_emit.specs.Plan.{Plan}
use Rattle.emit_form_laws.proofs.Names.{map_name_is, list_name_length, match_name_is, deletion_name_is, maps_apart, no_mark}
use Rattle.emit_form_laws.proofs.Origins.{some_holds}
use Rattle.emit_form_laws.proofs.Pairwise.{IsEarlier, all_from, all_in, weaker, pairs_map, distinct_from, numbered_pairs}
use Rattle.emit_form_laws.proofs.Policies.{map_prints, map_at, IsMapAt, entry_prints, IsMatch, match_of, deletion_of, match_few, match_number, matches_apart, lists_apart}

-- ---- community lists

lines_form : (lines : List CommunityLine) → AllByRecursion IsWellFormedCommunityLine lines →
    AllByRecursion IsWellFormedCommunityLine (map bare_community_line lines)
lines_form [] all = tt
lines_form (line ∷ lines) all = (all.0, lines_form lines all.1)

written_form : (name : List ℕ) (list : CommunityList) → IsListName name → IsPrintableList list → IsWellFormedCommunityList (written_list name list)
written_form name list is prints = record {
  name = is;
  some = (let some = prints.some in let same = length-map list.lines bare_community_line in omega arith);
  lines = lines_form list.lines prints.lines;
}

entry_list_form : (k : ℕ) (x : PlainEntry) (c : CommunityList) → k ≤ 2097152 → IsPrintableEntry x → In (lists_of_entry k x) c → IsWellFormedCommunityList c
entry_list_form k x c few prints h = elim (append_in (match_lists k x) (deletion_lists k x) c h) [
  | inl a ↦ (
      let m = match_of k x c a in
      let seq = prints.seq in
      let low = match_number k x c prints m in
      subst IsWellFormedCommunityList m.is (written_form (match_name k x.seq m.number) m.list
      (match_name_is k x.seq m.number (omega arith) (omega arith) (omega arith))
      (all_in IsPrintableList m.lists m.list (match_few x prints m.lists m.matched).each m.list_in)))
  | inr b ↦ (
      let d = deletion_of k x c b in
      let seq = prints.seq in
      subst IsWellFormedCommunityList d.is (written_form (deletion_name k x.seq) d.list (deletion_name_is k x.seq (omega arith) (omega arith))
      (some_holds IsPrintableDeletion x.delete d.list prints.delete d.deleted).printable))
]

abbrev pub lists : Plan → ℕ → List CommunityList
lists e g = flat_map lists_of_map (enumerate_from 1 (maps_of e g))

pub lists_form : (e : Plan) → IsPlan e → length e.links ≤ 1048576 → (g : ℕ) → AllByRecursion IsWellFormedCommunityList (lists e g)
lists_form e plan few g =
    all_from IsWellFormedCommunityList (lists e g)
    (λ c h.
    let m = flat_map_in lists_of_map (enumerate_from 1 (maps_of e g)) c h in
    let at = map_at e few g m.0.0 m.0.1 m.1 in
    let x = flat_map_in (lists_of_entry m.0.0) m.0.1.entries c m.2 in
    entry_list_form m.0.0 x.0 c at.few (entry_prints m.0.1 (map_prints e plan g m.0.1 at.of) x.0 x.1) x.2)

pub lists_once : (e : Plan) → IsPlan e → length e.links ≤ 1048576 → (g : ℕ) → IsDistinct same_community_list (lists e g)
lists_once e plan few g = distinct_from same_community_list (lists e g) (lists_apart e plan few g)

-- ---- the names of a match line

matches_many : (k : ℕ) (x : PlainEntry) (ls : List CommunityList) → x.lists ≡ Some ls → length (match_lists k x) ≡ length ls
matches_many k x ls is =
    ap (λ (o : Option (List CommunityList)). length (option_map_or (λ cs. map (match_list k x.seq) (enumerate_from 1 cs)) o [])) is
    ∙ length-map (enumerate_from 1 ls) (match_list k x.seq) ∙ numbered_length 1 ls
  where
    numbered_length : (n : ℕ) (cs : List CommunityList) → length (enumerate_from n cs) ≡ length cs
    numbered_length n [] = refl
    numbered_length n (c ∷ cs) = ap (λ j. suc j) (numbered_length (n + 1) cs)

match_name_of : (k : ℕ) (x : PlainEntry) (name : List ℕ) → In (map name_of_list (match_lists k x)) name → (c : CommunityList) × IsMatch k x c × (c.name ≡ name)
match_name_of k x name h = let m = map_in name_of_list (match_lists k x) name h in (m.0, match_of k x m.0 m.1, m.2)

names_form : (k : ℕ) (x : PlainEntry) (ls : List CommunityList) → k ≤ 2097152 → IsPrintableEntry x → x.lists ≡ Some ls →
    IsWellFormedNameLine (names_line (match_lists k x))
names_form k x ls few prints is =
    let printable = match_few x prints ls is in
    let low = printable.count.0 in
    let high = printable.count.1 in
    let many = matches_many k x ls is in
    let same = length-map (match_lists k x) name_of_list in
    let seq = prints.seq in
    record {
      count = (omega arith, omega arith);
      each = all_from IsListName (map name_of_list (match_lists k x))
          (λ name h. let m = match_name_of k x name h in let n = match_number k x m.0 prints m.1 in
          subst IsListName (ap name_of_list m.1.is ∙ m.2) (match_name_is k x.seq m.1.number (omega arith) (omega arith) (omega arith)));
      once = distinct_from bytes_eq (map name_of_list (match_lists k x))
          (pairs_map name_of_list (λ (a b : List ℕ). bytes_eq a b ≡ false) (match_lists k x) (matches_apart k x few prints));
    }

unmarked : (names : List (List ℕ)) → ((name : List ℕ) → In names name → bytes_eq name (codes "exact-match") ≡ false)
    → has_mark (codes "exact-match") names ≡ false
unmarked [] none = refl
unmarked (name ∷ []) none = none name (inl refl)
unmarked (name ∷ next ∷ names) none = unmarked (next ∷ names) (λ other h. none other (inr h))

match_unmarked : (k : ℕ) (x : PlainEntry) → has_mark (codes "exact-match") (map name_of_list (match_lists k x)) ≡ false
match_unmarked k x =
    unmarked (map name_of_list (match_lists k x))
    (λ name h. let m = match_name_of k x name h in ap (λ (n : List ℕ). bytes_eq n (codes "exact-match")) (sym (ap name_of_list m.1.is ∙ m.2))
    ∙ no_mark k x.seq (decimal m.1.number))

mark_form : (k : ℕ) (x : PlainEntry) → IsMarkRight (option_map (λ (ls : List CommunityList). names_line (match_lists k x)) x.lists) (is_some x.lists && x.exact)
mark_form k x = step x.lists x.exact
  where
    step : (o : Option (List CommunityList)) (exact : Bool) →
        IsMarkRight (option_map (λ (ls : List CommunityList). names_line (match_lists k x)) o) (is_some o && exact)
    step None exact = refl
    step (Some ls) true = tt
    step (Some ls) false = match_unmarked k x

-- ---- entries

prepend_form : (number adds : ℕ) → IsBetween 1 4294967295 number → adds ≤ 10 → IfSome (written_prepend number adds) IsWellFormedPrepend
prepend_form number adds is few = step (nat_eq adds 0) refl
  where
    each : (n : ℕ) → AllByRecursion (IsBetween 1 4294967295) (replicate n number)
    each zero = tt
    each (suc n) = (is, each n)

    step : (b : Bool) → nat_eq adds 0 ≡ b → IfSome (cond b None (Some (record { numbers = replicate adds number; line = 0 }))) IsWellFormedPrepend
    step true e = tt
    step false e = record {
      count = (
        let some : 1 ≤ adds = grind (arith, nat_tests) in let same = length-replicate adds number in omega arith,
        let same =
            length-replicate adds number in omega arith,
      );
      each = each adds;
    }

entry_form : (number k : ℕ) (x : PlainEntry) → IsBetween 1 4294967295 number → k ≤ 2097152 → IsPrintableEntry x →
    IsWellFormedMapEntry (written_entry number k x)
entry_form number k x is few prints = record {
  seq = prints.seq;
  prefixes = tt;
  comms = comms x.lists refl;
  exact = mark_form k x;
  lp = prints.lp;
  change = prints.change;
  delete = delete x.delete;
  prepend = prepend_form number x.adds is prints.adds;
}
  where
    comms : (o : Option (List CommunityList)) → x.lists ≡ o →
        IfSome (option_map (λ (ls : List CommunityList). names_line (match_lists k x)) o) IsWellFormedNameLine
    comms None e = tt
    comms (Some ls) e = names_form k x ls few prints e

    delete : (o : Option CommunityList) → IfSome (option_map (λ (list : CommunityList). named (deletion_name k x.seq)) o) IsWellFormedNamed
    delete None = tt
    delete (Some list) = let seq = prints.seq in deletion_name_is k x.seq (omega arith) (omega arith)

denying_form : IsWellFormedMapEntry denying_entry
denying_form = record { seq = omega arith; prefixes = tt; comms = tt; exact = refl; lp = tt; change = tt; delete = tt; prepend = tt }

entries_form : (number k : ℕ) (xs : List PlainEntry) → IsBetween 1 4294967295 number → k ≤ 2097152 → AllByRecursion IsPrintableEntry xs →
    AllByRecursion IsWellFormedMapEntry (map (written_entry number k) xs)
entries_form number k [] is few all = tt
entries_form number k (x ∷ xs) is few all = (entry_form number k x is few all.0, entries_form number k xs is few all.1)

same_seqs : (number k : ℕ) (xs : List PlainEntry) → map_seqs (map (written_entry number k) xs) ≡ plain_seqs xs
same_seqs number k [] = refl
same_seqs number k (x ∷ xs) = ap (λ seqs. x.seq ∷ seqs) (same_seqs number k xs)

map_form : (number k : ℕ) (m : Plain) → IsBetween 1 4294967295 number → k ≤ 2097152 → IsPrintable m → IsWellFormedRouteMap (written_map number (k, m))
map_form number k m is few prints = step m.entries prints.entries prints.ascending
  where
    step : (xs : List PlainEntry) → AllByRecursion IsPrintableEntry xs → IsAscending (plain_seqs xs) →
        IsWellFormedRouteMap (record { name = map_name k; entries = written_entries number k xs })
    step [] all up = record { name = map_name_is k (omega arith); some = omega arith; entries = (denying_form, tt); ascending = (tt, tt) }
    step (x ∷ xs) all up = record {
      name = map_name_is k (omega arith);
      some = omega arith;
      entries = entries_form number k (x ∷ xs) is few all;
      ascending = subst IsAscending (sym (same_seqs number k (x ∷ xs))) up;
    }

abbrev pub maps : Plan → ℕ → ℕ → List RouteMap
maps e g number = map (written_map number) (enumerate_from 1 (maps_of e g))

pub maps_form : (e : Plan) → IsPlan e → length e.links ≤ 1048576 → (g number : ℕ) → ((k : ℕ) (m : Plain) → IsMapAt e g k m → IsBetween 1 4294967295 number) →
    AllByRecursion IsWellFormedRouteMap (maps e g number)
maps_form e plan few g number is =
    all_from IsWellFormedRouteMap (maps e g number)
    (λ w h.
    let m = map_in (written_map number) (enumerate_from 1 (maps_of e g)) w h in
    let at = map_at e few g m.0.0 m.0.1 m.1 in
    subst IsWellFormedRouteMap m.2 (map_form number m.0.0 m.0.1 (is m.0.0 m.0.1 at) at.few (map_prints e plan g m.0.1 at.of)))

pub maps_once : (e : Plan) → length e.links ≤ 1048576 → (g number : ℕ) → IsDistinct same_route_map (maps e g number)
maps_once e few g number =
    distinct_from same_route_map (maps e g number)
    (pairs_map (written_map number) (λ (a b : RouteMap). same_route_map a b ≡ false) (enumerate_from 1 (maps_of e g))
    (weaker IsEarlier (λ (p q : ℕ × Plain). same_route_map (written_map number p) (written_map number q) ≡ false) (enumerate_from 1 (maps_of e g))
    (λ (k, m) (j, n) h i less.
    let a = (map_at e few g k m h).few in
    let b = (map_at e few g j n i).few in
    maps_apart k j (omega arith) (omega arith) (λ same. absurd (omega arith)))
    (numbered_pairs 1 (maps_of e g))))

-- ---- match lines are short

joined_most : (bound : ℕ) (words : List (List ℕ)) → ((word : List ℕ) → In words word → length word ≤ bound) →
    length (join_with_byte 32 words) ≤ (bound + 1) * length words
joined_most bound [] few = omega arith
joined_most bound (word ∷ []) few = let here = few word (inl refl) in omega arith
joined_most bound (word ∷ next ∷ words) few =
    let here = few word (inl refl) in
    let rest = joined_most bound (next ∷ words) (λ other h. few other (inr h)) in
    let both = length-append word (32 ∷ join_with_byte 32 (next ∷ words)) in
    let many : (bound + 1) * suc (suc (length words)) ≡ (bound + 1) + (bound + 1) * suc (length words) = omega arith in omega arith

short_line : (words : List (List ℕ)) → length words ≤ 35 → ((word : List ℕ) → In words word → length word ≤ 27) → IsShortLine (inner words)
short_line words few short =
    let most = joined_most 27 words short in
    let ends = length-append (32 ∷ join_with_byte 32 words) (10 ∷ []) in omega arith

name_short : (k : ℕ) (x : PlainEntry) → k ≤ 2097152 → IsPrintableEntry x → (name : List ℕ) → In (map name_of_list (match_lists k x)) name → length name ≤ 27
name_short k x few prints name h =
    let m = match_name_of k x name h in
    let seq = prints.seq in
    let n = match_number k x m.0 prints m.1 in
    let first = length-decimal-le 7 k (omega arith) (omega arith) (omega arith) in
    let second = length-decimal-le 5 x.seq (omega arith) (omega arith) (omega arith) in
    let third = length-decimal-le 2 m.1.number (omega arith) (omega arith) (omega arith) in
    let all = list_name_length k x.seq (decimal m.1.number) in
    let same = ap (λ (w : List ℕ). length w) (ap name_of_list m.1.is ∙ m.2) in omega arith

match_short : (k : ℕ) (x : PlainEntry) (ls : List CommunityList) (exact : Bool) → k ≤ 2097152 → IsPrintableEntry x → x.lists ≡ Some ls →
    IsShortLine (match_comms_line exact (names_line (match_lists k x)))
unfolding match_comms_line
match_short k x ls exact few prints is =
    let high = (match_few x prints ls is).count.1 in
    let many = matches_many k x ls is in
    let same = length-map (match_lists k x) name_of_list in
    let names = map name_of_list (match_lists k x) in
    let marks : List (List ℕ) = cond exact (codes "exact-match" ∷ []) [] in
    let mark = mark_few exact in
    let both = length-append names marks in
    short_line (codes "match" ∷ codes "community" ∷ names ++ marks) (omega arith)
    (word_short names marks (λ name h. name_short k x few prints name h) (mark_short exact))
  where
    mark_few : (b : Bool) → length (cond b (codes "exact-match" ∷ []) []) ≤ 1
    mark_few true = omega arith
    mark_few false = omega arith

    mark_short : (b : Bool) (word : List ℕ) → In (cond b (codes "exact-match" ∷ []) []) word → length word ≤ 27
    mark_short true word (inl same) = (let e = ap (λ (w : List ℕ). length w) same in omega arith)
    mark_short true word (inr h) = absurd h
    mark_short false word h = absurd h

    word_short : (names marks : List (List ℕ)) → ((name : List ℕ) → In names name → length name ≤ 27) → ((name : List ℕ) → In marks name → length name ≤ 27)
        → (word : List ℕ) → In (codes "match" ∷ codes "community" ∷ names ++ marks) word → length word ≤ 27
    word_short names marks short shorts word (inl same) = (let e = ap (λ (w : List ℕ). length w) same in omega arith)
    word_short names marks short shorts word (inr (inl same)) = (let e = ap (λ (w : List ℕ). length w) same in omega arith)
    word_short names marks short shorts word (inr (inr h)) = elim (append_in names marks word h) [ inl a ↦ short word a | inr b ↦ shorts word b ]

entry_short : (number k : ℕ) (x : PlainEntry) → k ≤ 2097152 → IsPrintableEntry x → IsShortEntry (written_entry number k x)
entry_short number k x few prints = (tt, step x.lists refl)
  where
    step : (o : Option (List CommunityList)) → x.lists ≡ o →
        IfSome (option_map (λ (ls : List CommunityList). names_line (match_lists k x)) o) (λ l. IsShortLine (match_comms_line (is_some x.lists && x.exact) l))
    step None e = tt
    step (Some ls) e = match_short k x ls (is_some x.lists && x.exact) few prints e

map_short : (number k : ℕ) (m : Plain) → k ≤ 2097152 → IsPrintable m → IsShortMap (written_map number (k, m))
map_short number k m few prints = step m.entries prints.entries
  where
    each : (xs : List PlainEntry) → AllByRecursion IsPrintableEntry xs → AllByRecursion IsShortEntry (map (written_entry number k) xs)
    each [] all = tt
    each (x ∷ xs) all = (entry_short number k x few all.0, each xs all.1)

    step : (xs : List PlainEntry) → AllByRecursion IsPrintableEntry xs → AllByRecursion IsShortEntry (written_entries number k xs)
    step [] all = ((tt, tt), tt)
    step (x ∷ xs) all = each (x ∷ xs) all

pub maps_short : (e : Plan) → IsPlan e → length e.links ≤ 1048576 → (g number : ℕ) → AllByRecursion IsShortMap (maps e g number)
maps_short e plan few g number =
    all_from IsShortMap (maps e g number)
    (λ w h.
    let m = map_in (written_map number) (enumerate_from 1 (maps_of e g)) w h in
    let at = map_at e few g m.0.0 m.0.1 m.1 in
    subst IsShortMap m.2 (map_short number m.0.0 m.0.1 at.few (map_prints e plan g m.0.1 at.of)))
