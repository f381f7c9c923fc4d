-- The verdicts of route maps on a set of communities (RFC 1997), and the import over a BGP session
-- (RFC 4271 section 9.1; section 5.1.5 for the preference that is not sent).
use Rattle.std.specs.Prelude.{ℕ, Bool, true, List, [], ◌∷◌, Option, Some, None, if◌then◌else◌}
use Rattle.std.specs.List.{list_any}
use Rattle.std.specs.Option.{unwrap_or}
use Rattle.cfg_ast.specs.declared.policy.CommunityList.{CommunityList}
use Rattle.cfg_ast.specs.meaning.Policy.{list_answer, without_deleted_by, after_change}
use Rattle.route_maps.specs.declared.plain.PlainEntry.{PlainEntry}
use Rattle.route_maps.specs.declared.plain.Plain.{Plain}
use Rattle.route_maps.specs.declared.plain.Imported.{Imported}
use Rattle.route_maps.specs.declared.plain.Verdict.{Verdict}
use Rattle.route_maps.specs.declared.plain.Verdict.TheVariants.{Deny, Permit}

-- a match line holds where one of its lists permits, and an entry without a match line holds
abbrev pub lists_hold : Bool → List ℕ → Option (List CommunityList) → Bool
lists_hold exact comms None = true
lists_hold exact comms (Some lists) = list_any (list_answer exact comms) lists

abbrev pub entry_holds : List ℕ → PlainEntry → Bool
entry_holds comms entry = lists_hold entry.exact comms entry.lists

-- first the deletion, and then the change
abbrev pub comms_after : PlainEntry → List ℕ → List ℕ
comms_after entry comms = after_change entry.change (without_deleted_by entry.delete comms)

abbrev pub entry_verdict : PlainEntry → List ℕ → Verdict
entry_verdict entry comms = if entry.permit then Permit entry.lp (comms_after entry comms) entry.adds else Deny

-- the first entry that holds decides, and the end denies
abbrev pub verdict : List PlainEntry → List ℕ → Verdict
verdict [] comms = Deny
verdict (entry ∷ entries) comms = if entry_holds comms entry then entry_verdict entry comms else verdict entries comms

abbrev pub accepted : ℕ → Verdict → Option Imported
accepted adds Deny = None
accepted adds (Permit lp comms more) = Some (record { lp = unwrap_or lp 100; comms = comms; adds = adds })

abbrev pub received : Bool → List PlainEntry → Verdict → Option Imported
received sends into Deny = None
received sends into (Permit lp comms adds) = accepted adds (verdict into (if sends then comms else []))

abbrev pub import_of : Plain → Bool → Plain → List ℕ → Option Imported
import_of out sends into comms = received sends into.entries (verdict out.entries comms)
