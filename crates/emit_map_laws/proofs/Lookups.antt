-- A look-up by name finds the list, or the map, that was written under it.
use Rattle.std.proofs.Common.{◌≡◌, ℕ, ◌+◌, ◌^◌, ◌<◌, ◌≤◌, List, [], ◌∷◌, length, map, inl, inr, Option, Some, None, refl, sym, ap, ◌∙◌, subst, arith, find, bytes_eq, codes, decimal}
use Rattle.std.specs.Prelude.{slice_get, flat_map, IfSome}
use Rattle.std.specs.Option.{option_map_or}
use Rattle.std.specs.List.{AllByRecursion, enumerate_from}
use Rattle.std.proofs.lemmas.Slice.Eq.{bytes_eq-Decides}
use Rattle.std.proofs.lemmas.Fmt.{decimal_injective}
use Rattle.std.proofs.lemmas.Option.{slice_get_within}
use Rattle.base_kit.proofs.Elements.{In, map_in, in_flat_map, flat_map_in, enumerate_in, get_in, append_in}
use Rattle.cfg_round_trip.proofs.WordsBack.{IsDigit, decimal_digits}
use Rattle.cfg_ast.specs.declared.policy.CommunityList.{CommunityList}
use Rattle.route_maps.specs.declared.plain.Plain.{Plain}
use Rattle.route_maps.specs.declared.plain.PlainEntry.{PlainEntry}
use Rattle.route_maps.specs.Printable.{IsPrintable, IsPrintableEntry, ArePrintableLists}
use Rattle.config_emit.specs.Maps.{list_name, written_list, match_list, match_lists, deletion_lists, lists_of_entry, lists_of_map}
use Rattle.emit_map_laws.proofs.Names.{find_one, one_list, one_entry}

pub all_in : {X : Type 0} (P : X → Type 0) (xs : List X) (x : X) → AllByRecursion P xs → In xs x → P x
all_in P [] x all at = absurd at
all_in P (y ∷ ys) x all (inl same) = subst P same all.0
all_in P (y ∷ ys) x all (inr at) = all_in P ys x all.1 at

-- numbered items with one number are one
pub one_at : {X : Type 0} (xs : List X) (n k j : ℕ) (x y : X) → In (enumerate_from n xs) (k, x) → In (enumerate_from n xs) (j, y) → k ≡ j → x ≡ y
one_at {X} xs n k j x y a b e =
    let p = enumerate_in xs n k x a in
    let q = enumerate_in xs n j y b in
    let same : p.0 ≡ q.0 = let u = p.1 in let v = q.1 in omega arith in
    let both : Some x ≡ Some y = sym p.2 ∙ ap (slice_get xs) same ∙ q.2 in cc

pub number_within : {X : Type 0} (xs : List X) (n k : ℕ) (x : X) → In (enumerate_from n xs) (k, x) → k < n + length xs
number_within xs n k x a = let p = enumerate_in xs n k x a in let i = slice_get_within xs p.0 x p.2 in let e = p.1 in omega arith

no_letter : (i : ℕ) → i < 2 ^ 64 → decimal i ≡ codes "D" → ⊥
no_letter i small e = (let d = subst (λ (w : List ℕ). AllByRecursion IsDigit w) e (decimal_digits i small).digits in let high = d.0.1 in omega arith)

-- ---- the lists of an entry, each with the end of its name
pub record HasEnd (k : ℕ) (x : PlainEntry) (c : CommunityList) : Type 0 where
  pub end : List ℕ
  pub name : c.name ≡ list_name k x.seq end

of_matches : (k : ℕ) (x : PlainEntry) (o : Option (List CommunityList)) (c : CommunityList) →
    In (option_map_or (λ lists. map (match_list k x.seq) (enumerate_from 1 lists)) o []) c
    → (lists : List CommunityList) × (o ≡ Some lists) × (i : ℕ) × (l : CommunityList) × In (enumerate_from 1 lists) (i, l) × (match_list k x.seq (i, l) ≡ c)
of_matches k x None c at = absurd at
of_matches k x (Some lists) c at = let m = map_in (match_list k x.seq) (enumerate_from 1 lists) c at in (lists, refl, m.0.0, m.0.1, m.1, m.2)

of_deletion : (k : ℕ) (x : PlainEntry) (o : Option CommunityList) (c : CommunityList)
    → In (option_map_or (λ list. written_list (list_name k x.seq (codes "D")) list ∷ []) o []) c
    → (l : CommunityList) × (o ≡ Some l) × (written_list (list_name k x.seq (codes "D")) l ≡ c)
of_deletion k x None c at = absurd at
of_deletion k x (Some l) c (inl same) = (l, refl, same)
of_deletion k x (Some l) c (inr at) = absurd at

few_lists : (x : PlainEntry) (lists : List CommunityList) → IsPrintableEntry x → x.lists ≡ Some lists → length lists ≤ 32
few_lists x lists is e = (let all = subst (λ (o : Option (List CommunityList)). IfSome o ArePrintableLists) e is.lists in all.count.1)

name_of : CommunityList → List ℕ
name_of c = c.name

-- two lists of an entry with one name are one
one_of_entry : (k : ℕ) (x : PlainEntry) (c d : CommunityList) → k < 2 ^ 64 → IsPrintableEntry x → In (lists_of_entry k x) c → In (lists_of_entry k x) d →
    c.name ≡ d.name → c ≡ d
one_of_entry k x c d small is at at' e = elim (append_in (match_lists k x) (deletion_lists k x) c at) [
  | inl a ↦ elim (append_in (match_lists k x) (deletion_lists k x) d at') [
    | inl b ↦ both_match (of_matches k x x.lists c a) (of_matches k x x.lists d b)
    | inr b ↦ absurd (no_both (of_matches k x x.lists c a) (of_deletion k x x.delete d b) e)
  ]
  | inr a ↦ elim (append_in (match_lists k x) (deletion_lists k x) d at') [
    | inl b ↦ absurd (no_both (of_matches k x x.lists d b) (of_deletion k x x.delete c a) (sym e))
    | inr b ↦ both_delete (of_deletion k x x.delete c a) (of_deletion k x x.delete d b)
  ]
]
  where
    seq : x.seq < 2 ^ 64
    seq = let s = is.seq in omega arith

    number : (lists : List CommunityList) (i : ℕ) (l : CommunityList) → x.lists ≡ Some lists → In (enumerate_from 1 lists) (i, l) → i < 2 ^ 64
    number lists i l f at = let n = number_within lists 1 i l at in let m = few_lists x lists is f in omega arith

    no_both : {c d : CommunityList} → (lists : List CommunityList) × (x.lists ≡ Some lists) × (i : ℕ) × (l : CommunityList) × In (enumerate_from 1 lists) (i, l)
        × (match_list k x.seq (i, l) ≡ c)
        → (l : CommunityList) × (x.delete ≡ Some l) × (written_list (list_name k x.seq (codes "D")) l ≡ d) → c.name ≡ d.name → ⊥
    no_both m w f =
        let g = one_list k x.seq k x.seq (decimal m.2) (codes "D") small seq small seq
        (ap (λ (z : CommunityList). z.name) m.5 ∙ f ∙ sym (ap (λ (z : CommunityList). z.name) w.2)) in
        no_letter m.2 (number m.0 m.2 m.3 m.1 m.4) g.2

    both_delete : (l : CommunityList) × (x.delete ≡ Some l) × (written_list (list_name k x.seq (codes "D")) l ≡ c) → (l : CommunityList) × (x.delete ≡ Some l)
        × (written_list (list_name k x.seq (codes "D")) l ≡ d) → c ≡ d
    both_delete a b = (let same : a.0 ≡ b.0 = (let both = sym a.1 ∙ b.1 in cc) in sym a.2 ∙ ap (written_list (list_name k x.seq (codes "D"))) same ∙ b.2)

    both_match : (lists : List CommunityList) × (x.lists ≡ Some lists) × (i : ℕ) × (l : CommunityList) × In (enumerate_from 1 lists) (i, l)
        × (match_list k x.seq (i, l) ≡ c)
        → (lists : List CommunityList) × (x.lists ≡ Some lists) × (i : ℕ) × (l : CommunityList) × In (enumerate_from 1 lists) (i, l)
        × (match_list k x.seq (i, l) ≡ d) → c ≡ d
    both_match a b =
        let g = one_list k x.seq k x.seq (decimal a.2) (decimal b.2) small seq small seq
        (ap (λ (z : CommunityList). z.name) a.5 ∙ e ∙ sym (ap (λ (z : CommunityList). z.name) b.5)) in
        let i : a.2 ≡ b.2 = decimal_injective a.2 b.2 (number a.0 a.2 a.3 a.1 a.4) (number b.0 b.2 b.3 b.1 b.4) g.2 in
        let same : a.0 ≡ b.0 = (let both = sym a.1 ∙ b.1 in cc) in
        let l : a.3 ≡ b.3 = one_at b.0 1 a.2 b.2 a.3 b.3 (subst (λ (z : List CommunityList). In (enumerate_from 1 z) (a.2, a.3)) same a.4) b.4 i in
        sym a.5 ∙ (λ j. match_list k x.seq (i j, l j)) ∙ b.5

-- ---- the lists of all maps

abbrev pub all_lists : List Plain → List CommunityList
all_lists maps = flat_map lists_of_map (enumerate_from 1 maps)

pub record IsWritten (maps : List Plain) (c : CommunityList) : Type 0 where
  pub k : ℕ
  pub m : Plain
  pub at : In (enumerate_from 1 maps) (k, m)
  pub x : PlainEntry
  pub x_in : In m.entries x
  pub c_in : In (lists_of_entry k x) c

written_of : (maps : List Plain) (c : CommunityList) → In (all_lists maps) c → IsWritten maps c
written_of maps c at =
    let m = flat_map_in lists_of_map (enumerate_from 1 maps) c at in
    let x = flat_map_in (lists_of_entry m.0.0) m.0.1.entries c m.2 in
    record { k = m.0.0; m = m.0.1; at = m.1; x = x.0; x_in = x.1; c_in = x.2 }

of_written : (maps : List Plain) (c : CommunityList) → IsWritten maps c → In (all_lists maps) c
of_written maps c w = in_flat_map lists_of_map (enumerate_from 1 maps) (w.k, w.m) c w.at (in_flat_map (lists_of_entry w.k) w.m.entries w.x c w.x_in w.c_in)

-- each list of an entry has an end
end_of : (k : ℕ) (x : PlainEntry) (c : CommunityList) → In (lists_of_entry k x) c → HasEnd k x c
end_of k x c at = elim (append_in (match_lists k x) (deletion_lists k x) c at) [
  | inl a ↦ (let m = of_matches k x x.lists c a in record { end = decimal m.2; name = ap (λ (z : CommunityList). z.name) (sym m.5) })
  | inr b ↦ (let d = of_deletion k x x.delete c b in record { end = codes "D"; name = ap (λ (z : CommunityList). z.name) (sym d.2) })
]

pub in_numbered : {X : Type 0} (xs : List X) (n k : ℕ) (x : X) → In (enumerate_from n xs) (k, x) → In xs x
in_numbered xs n k x at = let p = enumerate_in xs n k x at in get_in xs p.0 x p.2

abbrev pub ArePrintable : List Plain → Type 0
ArePrintable maps = (m : Plain) → In maps m → IsPrintable m

one_written : (maps : List Plain) (c d : CommunityList) → length maps < 2 ^ 32 → ArePrintable maps → IsWritten maps c → IsWritten maps d → c.name ≡ d.name →
    c ≡ d
one_written maps c d few are v w e =
    let kv = number_within maps 1 v.k v.m v.at in
    let kw = number_within maps 1 w.k w.m w.at in
    let pv = are v.m (in_numbered maps 1 v.k v.m v.at) in
    let pw = are w.m (in_numbered maps 1 w.k w.m w.at) in
    let ev = all_in IsPrintableEntry v.m.entries v.x pv.entries v.x_in in
    let ew = all_in IsPrintableEntry w.m.entries w.x pw.entries w.x_in in
    let sv = ev.seq in
    let sw = ew.seq in
    let a = end_of v.k v.x c v.c_in in
    let b = end_of w.k w.x d w.c_in in
    let g = one_list v.k v.x.seq w.k w.x.seq a.end b.end (omega arith) (omega arith) (omega arith) (omega arith) (sym a.name ∙ e ∙ b.name) in
    let m : v.m ≡ w.m = one_at maps 1 v.k w.k v.m w.m v.at w.at g.0 in
    let x : v.x ≡ w.x = one_entry w.m.entries v.x w.x pw.ascending (subst (λ (z : Plain). In z.entries v.x) m v.x_in) w.x_in g.1 in
    let here : In (lists_of_entry w.k w.x) c =
    subst (λ (y : PlainEntry). In (lists_of_entry w.k y) c) x (subst (λ (n : ℕ). In (lists_of_entry n v.x) c) g.0 v.c_in) in
    one_of_entry w.k w.x c d (omega arith) ew here w.c_in e

-- the look-up by the name of a list finds it
pub found_list : (maps : List Plain) (c : CommunityList) → length maps < 2 ^ 32 → ArePrintable maps → IsWritten maps c →
    find (λ (l : CommunityList). bytes_eq l.name c.name) (all_lists maps) ≡ Some c
found_list maps c few are w = find_one (λ (l : CommunityList). bytes_eq l.name c.name) (all_lists maps) c (of_written maps c w)
    ((bytes_eq-Decides c.name c.name).1 refl)
    (λ d at same. one_written maps d c few are (written_of maps d at) w ((bytes_eq-Decides d.name c.name).0 same))
