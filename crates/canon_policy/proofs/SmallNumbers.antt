-- What is imported through maps that can be printed has small numbers.
use Rattle.std.proofs.Common.{◌≡◌, ℕ, ◌≤◌, Bool, true, false, List, [], ◌∷◌, Option, Some, None, subst, arith}
use Rattle.std.specs.Prelude.{if◌then◌else◌, IfSome}
use Rattle.std.specs.List.{AllByRecursion}
use Rattle.std.specs.Option.{unwrap_or}
use Rattle.cfg_ast.specs.printing.WellFormed.{IsNumber}
use Rattle.route_maps.specs.declared.plain.Imported.{Imported}
use Rattle.route_maps.specs.declared.plain.Plain.{Plain}
use Rattle.route_maps.specs.declared.plain.PlainEntry.{PlainEntry}
use Rattle.route_maps.specs.declared.plain.Verdict.{Verdict}
use Rattle.route_maps.specs.declared.plain.Verdict.TheVariants.{Deny, Permit}
use Rattle.route_maps.specs.Maps.{entry_holds, entry_verdict, comms_after, verdict, accepted, received, import_of}
use Rattle.route_maps.specs.Printable.{IsPrintableEntry, IsPrintable}
use Rattle.canon_policy.specs.Printed.{HasSmallNumbers}

abbrev IsSmall : Verdict → Type 0
IsSmall Deny = Unit {0}
IsSmall (Permit lp comms adds) = IfSome lp IsNumber × (adds ≤ 10)

entry_small : (entry : PlainEntry) (comms : List ℕ) → IsPrintableEntry entry → IsSmall (entry_verdict entry comms)
entry_small entry comms is = by entry.permit
  where
    by : (b : Bool) → IsSmall (if b then Permit entry.lp (comms_after entry comms) entry.adds else Deny)
    by true = (is.lp, is.adds)
    by false = tt

verdict_small : (entries : List PlainEntry) (comms : List ℕ) → AllByRecursion IsPrintableEntry entries → IsSmall (verdict entries comms)
verdict_small [] comms all = tt
verdict_small (e ∷ es) comms all = by (entry_holds comms e) (verdict_small es comms all.1)
  where
    by : (b : Bool) → IsSmall (verdict es comms) → IsSmall (if b then entry_verdict e comms else verdict es comms)
    by true rest = entry_small e comms all.0
    by false rest = rest

lp_small : (lp : Option ℕ) → IfSome lp IsNumber → IsNumber (unwrap_or lp 100)
lp_small None is = omega arith
lp_small (Some lp) is = is

abbrev IsSmallImport : Option Imported → Type 0
IsSmallImport None = Unit {0}
IsSmallImport (Some import) = IsNumber import.lp × (import.adds ≤ 10)

accepted_small : (adds : ℕ) (v : Verdict) → adds ≤ 10 → IsSmall v → IsSmallImport (accepted adds v)
accepted_small adds Deny few is = tt
accepted_small adds (Permit lp comms more) few is = (lp_small lp is.0, few)

received_small : (sends : Bool) (into : List PlainEntry) (v : Verdict) → AllByRecursion IsPrintableEntry into → IsSmall v
    → IsSmallImport (received sends into v)
received_small sends into Deny all is = tt
received_small sends into (Permit lp comms adds) all is =
    accepted_small adds (verdict into (if sends then comms else [])) is.1 (verdict_small into (if sends then comms else []) all)

pub small_import : (out : Plain) (sends : Bool) (into : Plain) → IsPrintable out → IsPrintable into → HasSmallNumbers (import_of out sends into)
small_import out sends into out_is into_is = record { lp = λ set import up e. (by set import e).0; adds = λ set import up e. (by set import e).1 }
  where
    by : (set : List ℕ) (import : Imported) → import_of out sends into set ≡ Some import → IsNumber import.lp × (import.adds ≤ 10)
    by set import e =
        subst IsSmallImport e (received_small sends into.entries (verdict out.entries set) into_is.entries (verdict_small out.entries set out_is.entries))
