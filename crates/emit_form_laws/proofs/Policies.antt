-- The maps of the router of a group, and the lists that they name. Public: the crates above that speak of the network
-- of the groups use these lemmas too.
use Rattle.std.proofs.Common.{◌≡◌, ℕ, suc, ◌*◌, ◌<◌, ◌≤◌, Bool, true, false, cond, not, List, [], ◌∷◌, map, length, inl, inr, Option, Some, None, refl, sym, ◌∙◌, ap, arith, codes, decimal, bytes_eq, length-append}
use Rattle.std.specs.Prelude.{IfSome, filter, flat_map}
use Rattle.std.specs.Option.{option_map_or}
use Rattle.std.specs.List.{list_any, enumerate_from, position_or_len}
use Rattle.std.proofs.lemmas.List.Concat.{flat_map-cons}
use Rattle.std.proofs.lemmas.List.Filters.{length-filter_both}
use Rattle.std.proofs.lemmas.Fmt.{decimal_injective}
use Rattle.std.proofs.lemmas.List.Sums.{prefix_len-le-length}
use Rattle.std.proofs.lemmas.Option.{slice_get_within}
use Rattle.base_kit.specs.Sets.{AllAbove, IsAscending}
use Rattle.base_kit.specs.declared.protocol.Protocol.{Protocol}
use Rattle.base_kit.specs.declared.protocol.Protocol.TheVariants.{Bgp as OverBgp, Ospf as OverOspf}
use Rattle.base_kit.proofs.Elements.{In, map_in, filter_in, flat_map_in, append_in, enumerate_in, get_in}
use Rattle.cfg_ast.specs.declared.policy.CommunityList.{CommunityList}
use Rattle.abstract_net.specs.declared.qlink.QLink.{QLink}
use Rattle.route_maps.specs.Printable.{ArePrintableLists, IsPrintableEntry, plain_seqs, IsPrintable}
use Rattle.route_maps.specs.Same.{same_map}
use Rattle.route_maps.specs.declared.plain.Plain.{Plain}
use Rattle.route_maps.specs.declared.plain.PlainEntry.{PlainEntry}
use Rattle.srp_core.specs.declared.route.Act.{Act}
use Rattle.srp_core.specs.declared.route.Act.TheVariants.{Import, Cost}
use Rattle.srp_quotient.specs.Groups.{touches}
use Rattle.srp_core.specs.ActMaps.{IsPrintableAct}
use Rattle.config_emit.specs.Laws.{IsPlan}
use Rattle.config_emit.specs.Maps.{other_end, closed_map, act_in_map, act_out_map, is_whole, if_written, maps_at, firsts, maps_over, maps_of, list_name, deletion_name, number_of_map, written_list, match_list, match_lists, deletion_lists, lists_of_entry, lists_of_map}
use Rattle.config_emit.specs.Plan.{Plan, act_into}
use Rattle.emit_form_laws.proofs.Acts.{act_prints}
use Rattle.emit_form_laws.proofs.Names.{differ, one_list, no_letter}
use Rattle.emit_form_laws.proofs.Origins.{some_holds}
use Rattle.emit_form_laws.proofs.Pairwise.{IsPairwise, IsEarlier, all_in, weaker, pairs_map, map_pairs, pairs_append, pairs_flat, numbered_pairs}

-- ---- where a map comes from

pub record IsMapOf (e : Plan) (g : ℕ) (m : Plain) : Type 0 where
  pub over : e.problem.protocol ≡ OverBgp
  pub link : QLink
  pub link_in : In e.links link
  pub touched : touches g link ≡ true
  pub here : In (maps_at e g link) m

firsts_in : (seen ms : List Plain) (m : Plain) → In (firsts seen ms) m → In ms m
firsts_in seen [] m h = absurd h
firsts_in seen (x ∷ xs) m h = step (list_any (same_map x) seen) h (firsts_in seen xs m) (firsts_in (x ∷ seen) xs m)
  where
    step : (b : Bool) → In (cond b (firsts seen xs) (x ∷ firsts (x ∷ seen) xs)) m → (In (firsts seen xs) m → In xs m) →
        (In (firsts (x ∷ seen) xs) m → In xs m) → In (x ∷ xs) m
    step true h known new = inr (known h)
    step false (inl same) known new = inl same
    step false (inr h) known new = inr (new h)

pub map_of : (e : Plan) (g : ℕ) (m : Plain) → In (maps_of e g) m → IsMapOf e g m
unfolding maps_of
map_of e g m h = step e.problem.protocol refl h
  where
    step : (q : Protocol) → e.problem.protocol ≡ q → In (maps_over q e g) m → IsMapOf e g m
    step OverOspf over h = absurd h
    step OverBgp over h =
        let f = flat_map_in (maps_at e g) (filter (touches g) e.links) m (firsts_in [] (flat_map (maps_at e g) (filter (touches g) e.links)) m h) in
        let t = filter_in (touches g) e.links f.0 f.1 in
        record { over = over; link = f.0; link_in = t.0; touched = t.1; here = f.2 }

written_in : (o : Option Plain) (m : Plain) → In (if_written o) m → o ≡ Some m
written_in None m h = absurd h
written_in (Some x) m h = step (is_whole x.entries) h
  where
    step : (b : Bool) → In (cond b [] (x ∷ [])) m → Some x ≡ Some m
    step true h = absurd h
    step false (inl same) = ap (λ v. Some v) same
    step false (inr h) = absurd h

-- what holds of the maps of acts, and of the map without entries, holds of each map of a group
pub map_holds : (P : Plain → Type 0) (e : Plan) → P closed_map →
    ((g : ℕ) (l : QLink) → IfSome (act_into e g l) (λ act. P (act_in_map (Some act)) × IfSome (act_out_map (Some act)) P)) → (g : ℕ) (m : Plain) →
    IsMapOf e g m → P m
map_holds P e closed acts g m of =
    elim (append_in (if_written (Some (act_in_map (act_into e g of.link)))) (if_written (act_out_map (act_into e (other_end g of.link) of.link))) m of.here) [
      | inl h ↦ some_holds P (Some (act_in_map (act_into e g of.link))) m (in_map (act_into e g of.link) (acts g of.link))
          (written_in (Some (act_in_map (act_into e g of.link))) m h)
      | inr h ↦ some_holds P (act_out_map (act_into e (other_end g of.link) of.link)) m
          (out (act_into e (other_end g of.link) of.link) (acts (other_end g of.link) of.link))
          (written_in (act_out_map (act_into e (other_end g of.link) of.link)) m h)
    ]
  where
    in_map : (o : Option Act) → IfSome o (λ act. P (act_in_map (Some act)) × IfSome (act_out_map (Some act)) P) → P (act_in_map o)
    in_map None is = closed
    in_map (Some act) is = is.0

    out : (o : Option Act) → IfSome o (λ act. P (act_in_map (Some act)) × IfSome (act_out_map (Some act)) P) → IfSome (act_out_map o) P
    out None is = tt
    out (Some act) is = is.1

closed_prints : IsPrintable closed_map
closed_prints = record { entries = tt; ascending = tt }

pub map_prints : (e : Plan) → IsPlan e → (g : ℕ) (m : Plain) → IsMapOf e g m → IsPrintable m
map_prints e plan g m of = map_holds IsPrintable e closed_prints (λ h l. step (act_into e h l) (act_prints e plan h l)) g m of
  where
    step : (o : Option Act) → IfSome o IsPrintableAct → IfSome o (λ act. IsPrintable (act_in_map (Some act)) × IfSome (act_out_map (Some act)) IsPrintable)
    step None is = tt
    step (Some (Import out sends into)) is = (is.1, is.0)
    step (Some (Cost cost)) is = (closed_prints, tt)

-- ---- there are few maps

firsts_few : (seen ms : List Plain) → length (firsts seen ms) ≤ length ms
firsts_few seen [] = omega arith
firsts_few seen (x ∷ xs) = step (list_any (same_map x) seen) (firsts_few seen xs) (firsts_few (x ∷ seen) xs)
  where
    step : (b : Bool) → length (firsts seen xs) ≤ length xs → length (firsts (x ∷ seen) xs) ≤ length xs →
        length (cond b (firsts seen xs) (x ∷ firsts (x ∷ seen) xs)) ≤ suc (length xs)
    step true few less = omega arith
    step false few less = omega arith

written_few : (o : Option Plain) → length (if_written o) ≤ 1
written_few None = omega arith
written_few (Some x) = step (is_whole x.entries)
  where
    step : (b : Bool) → length (cond b [] (x ∷ [])) ≤ 1
    step true = omega arith
    step false = omega arith

two_each : (e : Plan) (g : ℕ) (ls : List QLink) → length (flat_map (maps_at e g) ls) ≤ 2 * length ls
two_each e g [] = omega arith
two_each e g (l ∷ ls) =
    let first = ap length (flat_map-cons (maps_at e g) l ls) in
    let both = length-append (maps_at e g l) (flat_map (maps_at e g) ls) in
    let here = length-append (if_written (Some (act_in_map (act_into e g l)))) (if_written (act_out_map (act_into e (other_end g l) l))) in
    let one = written_few (Some (act_in_map (act_into e g l))) in
    let two = written_few (act_out_map (act_into e (other_end g l) l)) in
    let rest = two_each e g ls in omega arith

pub few_maps : (e : Plan) → length e.links ≤ 1048576 → (g : ℕ) → length (maps_of e g) ≤ 2097152
unfolding maps_of
few_maps e few g = step e.problem.protocol
  where
    step : (q : Protocol) → length (maps_over q e g) ≤ 2097152
    step OverOspf = omega arith
    step OverBgp =
        let kept = length-filter_both (touches g) (λ l. not (touches g l)) (λ l. refl) e.links in
        let two = two_each e g (filter (touches g) e.links) in
        let all = firsts_few [] (flat_map (maps_at e g) (filter (touches g) e.links)) in omega arith

place_within : {X : Type 0} (p : X → Bool) (xs : List X) → position_or_len p xs ≤ length xs
place_within p xs = prefix_len-le-length (λ x. not (p x)) xs

pub number_few : (e : Plan) → length e.links ≤ 1048576 → (g : ℕ) (m : Plain) → number_of_map (maps_of e g) m ≤ 2097153
number_few e few g m = let within = place_within (same_map m) (maps_of e g) in let all = few_maps e few g in omega arith

-- a map of a group with its number
pub record IsMapAt (e : Plan) (g k : ℕ) (m : Plain) : Type 0 where
  pub of : IsMapOf e g m
  pub few : k ≤ 2097152
  pub some : 1 ≤ k

pub map_at : (e : Plan) → length e.links ≤ 1048576 → (g k : ℕ) (m : Plain) → In (enumerate_from 1 (maps_of e g)) (k, m) → IsMapAt e g k m
map_at e few g k m h =
    let placed = enumerate_in (maps_of e g) 1 k m h in
    let within = slice_get_within (maps_of e g) placed.0 m placed.2 in
    let n = placed.1 in
    let all = few_maps e few g in
    record { of = map_of e g m (get_in (maps_of e g) placed.0 m placed.2); few = omega arith; some = omega arith }

-- ---- entries and their lists

pub entry_prints : (m : Plain) → IsPrintable m → (x : PlainEntry) → In m.entries x → IsPrintableEntry x
entry_prints m prints x h = all_in IsPrintableEntry m.entries x prints.entries h

above_all : (n : ℕ) (ns : List ℕ) (k : ℕ) → AllAbove n ns → In ns k → n < k
above_all n [] k all h = absurd h
above_all n (m ∷ ns) k all (inl same) = let below = all.0 in omega arith
above_all n (m ∷ ns) k all (inr h) = above_all n ns k all.1 h

ascending_pairs : (ns : List ℕ) → IsAscending ns → IsPairwise (λ (m n : ℕ). m < n) ns
ascending_pairs [] up = tt
ascending_pairs (n ∷ ns) up = (λ k h. above_all n ns k up.0 h, ascending_pairs ns up.1)

abbrev seq_of : PlainEntry → ℕ
seq_of x = x.seq

entries_ascend : (m : Plain) → IsPrintable m → IsPairwise (λ (x y : PlainEntry). x.seq < y.seq) m.entries
entries_ascend m prints = map_pairs seq_of (λ (a b : ℕ). a < b) m.entries (ascending_pairs (plain_seqs m.entries) prints.ascending)

-- a list that an entry of map k matches
pub record IsMatch (k : ℕ) (x : PlainEntry) (c : CommunityList) : Type 0 where
  pub lists : List CommunityList
  pub matched : x.lists ≡ Some lists
  pub number : ℕ
  pub list : CommunityList
  pub numbered : In (enumerate_from 1 lists) (number, list)
  pub list_in : In lists list
  pub is : match_list k x.seq (number, list) ≡ c

pub record IsDeletion (k : ℕ) (x : PlainEntry) (c : CommunityList) : Type 0 where
  pub list : CommunityList
  pub deleted : x.delete ≡ Some list
  pub is : written_list (deletion_name k x.seq) list ≡ c

pub match_of : (k : ℕ) (x : PlainEntry) (c : CommunityList) → In (match_lists k x) c → IsMatch k x c
match_of k x c h = step x.lists refl h
  where
    step : (o : Option (List CommunityList)) → x.lists ≡ o → In (option_map_or (λ lists. map (match_list k x.seq) (enumerate_from 1 lists)) o []) c →
        IsMatch k x c
    step None is h = absurd h
    step (Some lists) is h =
        let m = map_in (match_list k x.seq) (enumerate_from 1 lists) c h in
        let placed = enumerate_in lists 1 m.0.0 m.0.1 m.1 in
        record { lists = lists; matched = is; number = m.0.0; list = m.0.1; numbered = m.1; list_in = get_in lists placed.0 m.0.1 placed.2; is = m.2 }

pub deletion_of : (k : ℕ) (x : PlainEntry) (c : CommunityList) → In (deletion_lists k x) c → IsDeletion k x c
deletion_of k x c h = step x.delete refl h
  where
    step : (o : Option CommunityList) → x.delete ≡ o → In (option_map_or (λ list. written_list (deletion_name k x.seq) list ∷ []) o []) c → IsDeletion k x c
    step None is h = absurd h
    step (Some list) is (inl same) = record { list = list; deleted = is; is = same }
    step (Some list) is (inr h) = absurd h

pub match_few : (x : PlainEntry) → IsPrintableEntry x → (lists : List CommunityList) → x.lists ≡ Some lists → ArePrintableLists lists
match_few x prints lists is = some_holds ArePrintableLists x.lists lists prints.lists is

pub match_number : (k : ℕ) (x : PlainEntry) (c : CommunityList) → IsPrintableEntry x → (m : IsMatch k x c) → m.number ≤ 32
match_number k x c prints m =
    let placed = enumerate_in m.lists 1 m.number m.list m.numbered in
    let within = slice_get_within m.lists placed.0 m.list placed.2 in
    let n = placed.1 in
    let few = (match_few x prints m.lists m.matched).count.1 in omega arith

-- how the name of a list ends
pub record HasEnd (k s : ℕ) (c : CommunityList) : Type 0 where
  pub end : List ℕ
  pub name : c.name ≡ list_name k s end

list_end : (k : ℕ) (x : PlainEntry) (c : CommunityList) → In (lists_of_entry k x) c → HasEnd k x.seq c
list_end k x c h = elim (append_in (match_lists k x) (deletion_lists k x) c h) [
  | inl a ↦ (let m = match_of k x c a in record { end = decimal m.number; name = ap (λ (z : CommunityList). z.name) (sym m.is) })
  | inr b ↦ (let d = deletion_of k x c b in record { end = codes "D"; name = ap (λ (z : CommunityList). z.name) (sym d.is) })
]

-- ---- no two lists have one name

abbrev pub HaveOtherNames : CommunityList → CommunityList → Type 0
HaveOtherNames c d = bytes_eq c.name d.name ≡ false

ends_apart : (k s j t : ℕ) (c d : CommunityList) → k ≤ 2097152 → s ≤ 65535 → j ≤ 2097152 → t ≤ 65535 → (a : HasEnd k s c) (b : HasEnd j t d) →
    ((k ≡ j) × (s ≡ t) × (a.end ≡ b.end) → ⊥) → HaveOtherNames c d
ends_apart k s j t c d hk hs hj ht a b other =
    differ c.name d.name (λ same. other (one_list k s j t a.end b.end (omega arith) (omega arith) (omega arith) (omega arith) (sym a.name ∙ same ∙ b.name)))

pub matches_apart : (k : ℕ) (x : PlainEntry) → k ≤ 2097152 → IsPrintableEntry x → IsPairwise HaveOtherNames (match_lists k x)
matches_apart k x few prints = step x.lists prints.lists
  where
    step : (o : Option (List CommunityList)) → IfSome o ArePrintableLists →
        IsPairwise HaveOtherNames (option_map_or (λ lists. map (match_list k x.seq) (enumerate_from 1 lists)) o [])
    step None is = tt
    step (Some lists) is =
        pairs_map (match_list k x.seq) HaveOtherNames (enumerate_from 1 lists)
        (weaker IsEarlier (λ (p q : ℕ × CommunityList). HaveOtherNames (match_list k x.seq p) (match_list k x.seq q)) (enumerate_from 1 lists)
        (λ (i, c) (j, d) h l less.
        let seq = prints.seq in
        let low = number i c h in
        let high = number j d l in
        ends_apart k x.seq k x.seq (match_list k x.seq (i, c)) (match_list k x.seq (j, d)) few seq few seq (record { end = decimal i; name = refl })
        (record { end = decimal j; name = refl })
        (λ same. (let one : i ≡ j = decimal_injective i j (omega arith) (omega arith) same.2 in omega arith)))
        (numbered_pairs 1 lists))
      where
        number : (i : ℕ) (c : CommunityList) → In (enumerate_from 1 lists) (i, c) → i ≤ 32
        number i c h = let placed = enumerate_in lists 1 i c h in let within = slice_get_within lists placed.0 c placed.2 in let n = placed.1 in let all =
            is.count.1 in omega arith

one_deletion : (k : ℕ) (x : PlainEntry) → IsPairwise HaveOtherNames (deletion_lists k x)
one_deletion k x = step x.delete
  where
    step : (o : Option CommunityList) → IsPairwise HaveOtherNames (option_map_or (λ list. written_list (deletion_name k x.seq) list ∷ []) o [])
    step None = tt
    step (Some list) = (λ y h. absurd h, tt)

entry_apart : (k : ℕ) (x : PlainEntry) → k ≤ 2097152 → IsPrintableEntry x → IsPairwise HaveOtherNames (lists_of_entry k x)
entry_apart k x few prints =
    pairs_append HaveOtherNames (match_lists k x) (deletion_lists k x) (matches_apart k x few prints) (one_deletion k x)
    (λ c d h l.
    let m = match_of k x c h in
    let n = deletion_of k x d l in
    let low = match_number k x c prints m in
    ends_apart k x.seq k x.seq c d few prints.seq few prints.seq (record { end = decimal m.number; name = ap (λ (z : CommunityList). z.name) (sym m.is) })
    (record { end = codes "D"; name = ap (λ (z : CommunityList). z.name) (sym n.is) })
    (λ same. no_letter m.number (omega arith) same.2))

pub lists_apart : (e : Plan) → IsPlan e → length e.links ≤ 1048576 → (g : ℕ) →
    IsPairwise HaveOtherNames (flat_map lists_of_map (enumerate_from 1 (maps_of e g)))
lists_apart e plan few g =
    pairs_flat lists_of_map IsEarlier HaveOtherNames (enumerate_from 1 (maps_of e g))
    (λ (k, m) h.
    let at = map_at e few g k m h in
    let prints = map_prints e plan g m at.of in
    pairs_flat (lists_of_entry k) (λ (x y : PlainEntry). x.seq < y.seq) HaveOtherNames m.entries
    (λ x here. entry_apart k x at.few (entry_prints m prints x here))
    (λ x y c d h l less i j.
    ends_apart k x.seq k y.seq c d at.few (entry_prints m prints x h).seq at.few (entry_prints m prints y l).seq (list_end k x c i) (list_end k y d j)
    (λ same. (let one = same.1 in omega arith)))
    (entries_ascend m prints))
    (λ (k, m) (j, n) c d h l less i o.
    let at = map_at e few g k m h in
    let to = map_at e few g j n l in
    let x = flat_map_in (lists_of_entry k) m.entries c i in
    let y = flat_map_in (lists_of_entry j) n.entries d o in
    ends_apart k x.0.seq j y.0.seq c d at.few (entry_prints m (map_prints e plan g m at.of) x.0 x.1).seq to.few
    (entry_prints n (map_prints e plan g n to.of) y.0 y.1).seq (list_end k x.0 c x.2) (list_end j y.0 d y.2)
    (λ same. (let one = same.0 in omega arith)))
    (numbered_pairs 1 (maps_of e g))
