-- A member put into its entry of the map is put into its group.
use Rattle.std.proofs.Common.{◌≡◌, Bool, true, false, cond, Some, List, [], ◌∷◌, ◌++◌, map, refl, sym, ◌∙◌, ap}
use Rattle.std.specs.Prelude.{unwrap_or}
use Rattle.std.specs.Map.{lookup}
use Rattle.indexmap.specs.IndexMap.{insert_entry}
use Rattle.base_kit.specs.Prefixes.{Prefix}
use Rattle.dest_classes.specs.declared.groups.Signature.{Signature}
use Rattle.dest_classes.specs.declared.cells.Member.{Member}
use Rattle.dest_classes.specs.Groups.{same_signature, shown_group, grouped_with, grouped_with_all}

-- the member that a signature and a prefix make
abbrev member_of : Signature → Prefix → Member
member_of s p = record { prefix = p; origins = s.origins.items; cell = s.cell }

shown_step : (b : Bool) (k s : Signature) (ps : List Prefix) (es : List (Signature × List Prefix)) (p : Prefix)
    → map shown_group (insert_entry same_signature es k (unwrap_or (lookup (same_signature k) es) [] ++ p ∷ [])) ≡ grouped_with (member_of k p)
    (map shown_group es)
    → map shown_group (cond b ((s, unwrap_or (cond b (Some ps) (lookup (same_signature k) es)) [] ++ p ∷ []) ∷ es)
    ((s, ps) ∷ insert_entry same_signature es k (unwrap_or (cond b (Some ps) (lookup (same_signature k) es)) [] ++ p ∷ [])))
    ≡ cond b (shown_group (s, ps ++ p ∷ []) ∷ map shown_group es) (shown_group (s, ps) ∷ grouped_with (member_of k p) (map shown_group es))
shown_step true k s ps es p rest = refl
shown_step false k s ps es p rest = ap (λ gs. shown_group (s, ps) ∷ gs) rest

shown_added : (k : Signature) (p : Prefix) (es : List (Signature × List Prefix)) →
    map shown_group (insert_entry same_signature es k (unwrap_or (lookup (same_signature k) es) [] ++ p ∷ [])) ≡ grouped_with (member_of k p)
    (map shown_group es)
shown_added k p [] = refl
shown_added k p ((s, ps) ∷ es) = shown_step (same_signature k s) k s ps es p (shown_added k p es)

-- what is left to put into groups, after the next member
pub members_step : (m : Member) (left rest : List Member) (old new : List (Signature × List Prefix)) (signature : Signature) → left ≡ m ∷ rest
    → new ≡ insert_entry same_signature old signature (unwrap_or (lookup (same_signature signature) old) [] ++ m.prefix ∷ []) →
    signature.origins.items ≡ m.origins → signature.cell ≡ m.cell
    → grouped_with_all rest (map shown_group new) ≡ grouped_with_all left (map shown_group old)
members_step m left rest old new signature next added same cell =
    let shown : map shown_group new ≡ grouped_with (member_of signature m.prefix) (map shown_group old) = ap (map shown_group) added
    ∙ shown_added signature m.prefix old in
    let is : member_of signature m.prefix ≡ m =
    ap (λ os. let n : Member = record { prefix = m.prefix; origins = os; cell = signature.cell } in n) same
    ∙ ap (λ k. let n : Member = record { prefix = m.prefix; origins = m.origins; cell = k } in n) cell in
    ap (grouped_with_all rest) (shown ∙ ap (λ n. grouped_with n (map shown_group old)) is) ∙ sym (ap (λ ms. grouped_with_all ms (map shown_group old)) next)
