-- One map has equal lines at all routers, except for names of lists and AS numbers.
use Rattle.std.proofs.Common.{◌≡◌, ℕ, zero, suc, ◌+◌, Bool, true, false, List, [], ◌∷◌, ◌++◌, Option, Some, None, map, replicate, refl, sym, ap, ◌∙◌, if◌then◌else◌}
use Rattle.std.specs.Prelude.{flat_map, is_some, nat_eq, ◌&&◌}
use Rattle.std.specs.List.{enumerate_from}
use Rattle.std.specs.Option.{option_map, option_map_or}
use Rattle.cfg_ast.specs.declared.network.Named.{Named}
use Rattle.cfg_ast.specs.declared.policy.CommunityLine.{CommunityLine}
use Rattle.cfg_ast.specs.declared.policy.CommunityList.{CommunityList}
use Rattle.cfg_ast.specs.declared.policy.MapEntry.{MapEntry}
use Rattle.cfg_ast.specs.declared.policy.NameLine.{NameLine}
use Rattle.cfg_ast.specs.declared.policy.Prepend.{Prepend}
use Rattle.cfg_ast.specs.printing.Bare.{bare_community_line}
use Rattle.config_emit.specs.Maps.{deletion_lists, deletion_name, lists_of_entry, match_list, match_lists, name_of_list, named, names_line, written_entries, written_entry, written_list}
use Rattle.route_maps.specs.declared.plain.PlainEntry.{PlainEntry}
use Rattle.answer_groups.specs.CanonLaws.{lines_of_lists, unnamed, MapsAreWrittenAlike}

-- ---- entries

abbrev without_names : Option NameLine → Option NameLine
without_names = option_map (λ (line : NameLine). record line { names = map (λ (name : List ℕ). []) line.names })

abbrev without_name : Option Named → Option Named
without_name = option_map (λ (n : Named). record n { name = [] })

abbrev without_numbers : Option Prepend → Option Prepend
without_numbers = option_map (λ (prepend : Prepend). record prepend { numbers = map (λ (number : ℕ). 0) prepend.numbers })

-- the lists that an entry of this sequence number matches, and the line that names them
abbrev matched : ℕ → ℕ → Option (List CommunityList) → List CommunityList
matched k s o = option_map_or (λ lists. map (match_list k s) (enumerate_from 1 lists)) o []

abbrev matching : ℕ → ℕ → Option (List CommunityList) → Option NameLine
matching k s o = option_map (λ (lists : List CommunityList). names_line (matched k s o)) o

abbrev blank : List (List ℕ) → List (List ℕ)
blank names = map (λ (name : List ℕ). []) names

same_blank : (k l s n : ℕ) (lists : List CommunityList)
    → blank (map name_of_list (map (match_list k s) (enumerate_from n lists))) ≡ blank (map name_of_list (map (match_list l s) (enumerate_from n lists)))
same_blank k l s n [] = refl
same_blank k l s n (x ∷ lists) = ap (λ (names : List (List ℕ)). [] ∷ names) (same_blank k l s (n + 1) lists)

same_matching : (k l s : ℕ) (o : Option (List CommunityList)) → without_names (matching k s o) ≡ without_names (matching l s o)
same_matching k l s None = refl
same_matching k l s (Some lists) = ap (λ (names : List (List ℕ)). Some (let line : NameLine = record { names = names; line = 0 } in line))
    (same_blank k l s 1 lists)

abbrev deleting : ℕ → ℕ → Option CommunityList → Option Named
deleting k s o = option_map (λ (list : CommunityList). named (deletion_name k s)) o

same_deleting : (k l s : ℕ) (o : Option CommunityList) → without_name (deleting k s o) ≡ without_name (deleting l s o)
same_deleting k l s None = refl
same_deleting k l s (Some list) = refl

abbrev zeroed : List ℕ → List ℕ
zeroed numbers = map (λ (number : ℕ). 0) numbers

zeros : (n number other : ℕ) → zeroed (replicate n number) ≡ zeroed (replicate n other)
zeros zero number other = refl
zeros (suc n) number other = ap (λ (xs : List ℕ). 0 ∷ xs) (zeros n number other)

abbrev prepending : Bool → ℕ → ℕ → Option Prepend
prepending none number adds = if none then None else Some (record { numbers = replicate adds number; line = 0 })

same_prepending : (none : Bool) (number other adds : ℕ) → without_numbers (prepending none number adds) ≡ without_numbers (prepending none other adds)
same_prepending true number other adds = refl
same_prepending false number other adds = ap (λ (xs : List ℕ). Some (let prepend : Prepend = record { numbers = xs; line = 0 } in prepend))
    (zeros adds number other)

module _ (number other k l : ℕ) where
  same_entry : (x : PlainEntry) → unnamed (written_entry number k x) ≡ unnamed (written_entry other l x)
  same_entry x = λ j. record {
    seq = x.seq;
    permit = x.permit;
    line = 0;
    prefixes = None;
    comms = same_matching k l x.seq x.lists j;
    exact = is_some x.lists && x.exact;
    lp = x.lp;
    change = x.change;
    change_line = 0;
    delete = same_deleting k l x.seq x.delete j;
    prepend = same_prepending (nat_eq x.adds 0) number other x.adds j;
  }

  same_more : (xs : List PlainEntry) → map unnamed (map (written_entry number k) xs) ≡ map unnamed (map (written_entry other l) xs)
  same_more [] = refl
  same_more (x ∷ xs) = λ j. same_entry x j ∷ same_more xs j

  same_entries : (xs : List PlainEntry) → map unnamed (written_entries number k xs) ≡ map unnamed (written_entries other l xs)
  same_entries [] = refl
  same_entries (x ∷ xs) = λ j. same_entry x j ∷ same_more xs j

-- ---- lists

joined : (xs ys : List CommunityList) → lines_of_lists (xs ++ ys) ≡ lines_of_lists xs ++ lines_of_lists ys
joined [] ys = refl
joined (x ∷ xs) ys = ap (λ (ls : List (List CommunityLine)). x.lines ∷ ls) (joined xs ys)

both : (xs ys vs ws : List CommunityList) → lines_of_lists xs ≡ lines_of_lists vs → lines_of_lists ys ≡ lines_of_lists ws
    → lines_of_lists (xs ++ ys) ≡ lines_of_lists (vs ++ ws)
both xs ys vs ws first second = joined xs ys ∙ (λ j. first j ++ second j) ∙ sym (joined vs ws)

module _ (k l : ℕ) where
  same_numbered : (s n : ℕ) (lists : List CommunityList)
      → lines_of_lists (map (match_list k s) (enumerate_from n lists)) ≡ lines_of_lists (map (match_list l s) (enumerate_from n lists))
  same_numbered s n [] = refl
  same_numbered s n (x ∷ lists) = ap (λ (ls : List (List CommunityLine)). map bare_community_line x.lines ∷ ls) (same_numbered s (n + 1) lists)

  same_matched : (s : ℕ) (o : Option (List CommunityList)) → lines_of_lists (matched k s o) ≡ lines_of_lists (matched l s o)
  same_matched s None = refl
  same_matched s (Some lists) = same_numbered s 1 lists

  abbrev deleted : ℕ → ℕ → Option CommunityList → List CommunityList
  deleted m s o = option_map_or (λ (list : CommunityList). written_list (deletion_name m s) list ∷ []) o []

  same_deleted : (s : ℕ) (o : Option CommunityList) → lines_of_lists (deleted k s o) ≡ lines_of_lists (deleted l s o)
  same_deleted s None = refl
  same_deleted s (Some list) = refl

  same_lists : (xs : List PlainEntry) → lines_of_lists (flat_map (lists_of_entry k) xs) ≡ lines_of_lists (flat_map (lists_of_entry l) xs)
  same_lists [] = refl
  same_lists (x ∷ xs) =
      both (lists_of_entry k x) (flat_map (lists_of_entry k) xs) (lists_of_entry l x) (flat_map (lists_of_entry l) xs)
      (both (match_lists k x) (deletion_lists k x) (match_lists l x) (deletion_lists l x) (same_matched x.seq x.lists) (same_deleted x.seq x.delete))
      (same_lists xs)

pub written_alike : MapsAreWrittenAlike
written_alike m number other k l = record { entries = same_entries number other k l m.entries; lists = same_lists k l m.entries }
