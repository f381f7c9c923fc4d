-- The deletion lists of the network of the groups have one community a line.
use Rattle.std.proofs.Common.{◌≡◌, ℕ, ◌≤◌, Bool, true, false, cond, List, [], ◌∷◌, map, length, inl, inr, Option, Some, None, refl, ap, subst, arith, bytes_eq, codes, decimal}
use Rattle.std.specs.Prelude.{flat_map, nat_lt}
use Rattle.std.specs.Option.{option_map}
use Rattle.std.specs.List.{AllByRecursion, enumerate_from}
use Rattle.base_kit.proofs.Elements.{map_in, flat_map_in, append_in}
use Rattle.cfg_ast.specs.declared.policy.CommunityLine.{CommunityLine}
use Rattle.cfg_ast.specs.declared.policy.CommunityList.{CommunityList}
use Rattle.cfg_ast.specs.declared.policy.MapEntry.{MapEntry}
use Rattle.cfg_ast.specs.meaning.PolicyFaults.{is_name, is_deleted_in, is_deleted, several_at, several_in, wide_deletions_of, delete_list_lines}
use Rattle.cfg_ast.specs.printing.Bare.{bare_community_line}
use Rattle.route_maps.specs.Printable.{NamesOne, IsPrintableDeletion}
use Rattle.config_emit.specs.Emitted.{emitted_router, emitted}
use Rattle.config_emit.specs.Laws.{IsPlan}
use Rattle.config_emit.specs.Maps.{maps_of, match_name, deletion_name, named, match_lists, deletion_lists, lists_of_entry, lists_of_map}
use Rattle.config_emit.specs.Plan.{Plan}
use Rattle.emit_fault_laws.proofs.Policies.{of_entries}
use Rattle.emit_fault_laws.proofs.Routers.{of_routers}
use Rattle.emit_form_laws.proofs.Names.{differ, one_list, no_letter}
use Rattle.emit_form_laws.proofs.Origins.{some_holds}
use Rattle.emit_form_laws.proofs.Pairwise.{all_in, none_like, flat_none}
use Rattle.emit_form_laws.proofs.Policies.{map_prints, map_at, entry_prints, match_of, deletion_of, match_number}

-- ---- a match list deletes nothing

other_name : (k s i j t : ℕ) → k ≤ 2097152 → s ≤ 65535 → i ≤ 32 → j ≤ 2097152 → t ≤ 65535 → bytes_eq (match_name k s i) (deletion_name j t) ≡ false
other_name k s i j t hk hs hi hj ht = differ (match_name k s i) (deletion_name j t)
    (λ same. no_letter i (omega arith) (one_list k s j t (decimal i) (codes "D") (omega arith) (omega arith) (omega arith) (omega arith) same).2)

not_deleted : (e : Plan) → IsPlan e → length e.links ≤ 1048576 → (g k s i : ℕ) → k ≤ 2097152 → s ≤ 65535 → i ≤ 32 →
    is_deleted (emitted_router e g) (match_name k s i) ≡ false
not_deleted e plan few g k s i hk hs hi =
    none_like (is_deleted_in (match_name k s i)) (emitted_router e g).route_maps
    (λ w h.
    none_like (λ (entry : MapEntry). is_name (match_name k s i) entry.delete) w.entries
    (of_entries e g (λ entry. is_name (match_name k s i) entry.delete ≡ false) refl
    (λ j m x at here.
    let to = map_at e few g j m at in
    step j x.seq to.few (entry_prints m (map_prints e plan g m to.of) x here).seq x.delete)
    w h))
  where
    step : (j t : ℕ) → j ≤ 2097152 → t ≤ 65535 → (o : Option CommunityList) →
        is_name (match_name k s i) (option_map (λ (list : CommunityList). named (deletion_name j t)) o) ≡ false
    step j t hj ht None = refl
    step j t hj ht (Some list) = other_name k s i j t hk hs hi hj ht

-- ---- a deletion list has one community a line

one_each : (lines : List CommunityLine) → AllByRecursion NamesOne lines → flat_map several_at (map bare_community_line lines) ≡ []
one_each lines alone =
    flat_none several_at (map bare_community_line lines)
    (λ line h.
    let m = map_in bare_community_line lines line h in
    subst (λ (l : CommunityLine). several_at l ≡ []) m.2 (ap (λ n. cond (nat_lt 1 n) (0 ∷ []) []) (all_in NamesOne lines m.0 alone m.1)))

either_empty : (b : Bool) (xs : List ℕ) → xs ≡ [] → cond b xs [] ≡ []
either_empty true xs none = none
either_empty false xs none = refl

pub no_wide_deletion : (e : Plan) → IsPlan e → length e.links ≤ 1048576 → delete_list_lines (emitted e) ≡ []
unfolding delete_list_lines
no_wide_deletion e plan few =
    flat_none wide_deletions_of (emitted e).routers
    (of_routers e (λ r. wide_deletions_of r ≡ [])
    (λ g below.
    flat_none (several_in (is_deleted (emitted_router e g))) (emitted_router e g).community_lists
    (λ c h.
    let m = flat_map_in lists_of_map (enumerate_from 1 (maps_of e g)) c h in
    let at = map_at e few g m.0.0 m.0.1 m.1 in
    let x = flat_map_in (lists_of_entry m.0.0) m.0.1.entries c m.2 in
    let prints = entry_prints m.0.1 (map_prints e plan g m.0.1 at.of) x.0 x.1 in
    elim (append_in (match_lists m.0.0 x.0) (deletion_lists m.0.0 x.0) c x.2) [
      | inl i ↦ (
          let l = match_of m.0.0 x.0 c i in
          subst (λ (z : CommunityList). several_in (is_deleted (emitted_router e g)) z ≡ []) l.is
          (ap (λ b. cond b (flat_map several_at (map bare_community_line l.list.lines)) [])
          (not_deleted e plan few g m.0.0 x.0.seq l.number at.few prints.seq (match_number m.0.0 x.0 c prints l))))
      | inr i ↦ (
          let d = deletion_of m.0.0 x.0 c i in
          subst (λ (z : CommunityList). several_in (is_deleted (emitted_router e g)) z ≡ []) d.is
          (either_empty (is_deleted (emitted_router e g) (deletion_name m.0.0 x.0.seq)) (flat_map several_at (map bare_community_line d.list.lines))
          (one_each d.list.lines (some_holds IsPrintableDeletion x.0.delete d.list prints.delete d.deleted).alone)))
    ])))
