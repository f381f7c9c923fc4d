-- Whether a network may be used: the faults of its meaning, and which of them decides.
use Rattle.std.specs.Prelude.{ℕ, List, [], ◌∷◌, ◌++◌, Option, Some, None, Result, Ok, Err, map, nat_lt, if◌then◌else◌}
use Rattle.cfg_ast.specs.declared.refusal.Kind.{Kind}
use Rattle.cfg_ast.specs.declared.refusal.Kind.TheVariants as kind
use Rattle.cfg_ast.specs.declared.refusal.Fault.{Fault}
use Rattle.cfg_ast.specs.declared.refusal.ReadRefusal.{ReadRefusal}
use Rattle.cfg_ast.specs.declared.refusal.ReadRefusal.TheVariants as read_refusal
use Rattle.cfg_ast.specs.declared.network.Network.{Network}
use Rattle.cfg_ast.specs.meaning.PolicyFaults.{undefined_map_lines, undefined_list_lines, delete_list_lines, too_many_communities_lines, prepend_form_lines, prepend_in_lines}
use Rattle.cfg_ast.specs.meaning.RouterFaults.{shared_name_lines, shared_as_lines, internal_peer_lines, mixed_protocol_lines, other_area_lines, shared_address_lines, overlapping_lines, loopback_mask_lines, no_cost_lines, too_many_routers_lines, too_many_neighbors_lines, too_many_links_lines}

-- the faults of one kind, at those lines
abbrev pub faults_at : Kind → List ℕ → List Fault
faults_at what lines = map (λ line. record { line = line; kind = what }) lines

-- all faults of the meaning of a network, kind by kind
unfoldable pub meaning_faults : Network → List Fault
meaning_faults n =
    faults_at kind.SharedName (shared_name_lines n)
    ++ faults_at kind.SharedAs (shared_as_lines n)
    ++ faults_at kind.InternalPeer (internal_peer_lines n)
    ++ faults_at kind.MixedProtocols (mixed_protocol_lines n)
    ++ faults_at kind.OtherArea (other_area_lines n)
    ++ faults_at kind.UndefinedMap (undefined_map_lines n)
    ++ faults_at kind.UndefinedList (undefined_list_lines n)
    ++ faults_at kind.DeleteListForm (delete_list_lines n)
    ++ faults_at kind.SharedAddress (shared_address_lines n)
    ++ faults_at kind.OverlappingInterfaces (overlapping_lines n)
    ++ faults_at kind.LoopbackMask (loopback_mask_lines n)
    ++ faults_at kind.NoCost (no_cost_lines n)
    ++ faults_at kind.TooManyRouters (too_many_routers_lines n)
    ++ faults_at kind.TooManyCommunities (too_many_communities_lines n)
    ++ faults_at kind.TooManyNeighbors (too_many_neighbors_lines n)
    ++ faults_at kind.TooManyLinks (too_many_links_lines n)
    ++ faults_at kind.PrependForm (prepend_form_lines n)
    ++ faults_at kind.PrependIn (prepend_in_lines n)

-- the fault with the lesser line, if there are any; on the same line the first of them
abbrev pub lesser_fault : Option Fault → Option Fault → Option Fault
lesser_fault None o = o
lesser_fault (Some f) None = Some f
lesser_fault (Some f) (Some g) = if nat_lt g.line f.line then Some g else Some f

-- the first fault with the least line
abbrev pub least_fault : List Fault → Option Fault
least_fault [] = None
least_fault (f ∷ fs) = lesser_fault (Some f) (least_fault fs)

abbrev pub refused_by : Network → Option Fault → Result Network ReadRefusal
refused_by n None = Ok n
refused_by n (Some f) = Err (read_refusal.At f.line f.kind)

-- A network without faults is accepted. Else a fault with the least line decides, and of those the one whose kind comes
-- first above.
unfoldable pub judged : Network → Result Network ReadRefusal
judged n = refused_by n (least_fault (meaning_faults n))
