-- What the entry of a route map that decides does, as nodes.
use Rattle.std.specs.Prelude.{◌≡◌, ℕ, ◌<◌, ◌≤◌, Bool, true, false, not, ◌&&◌, ◌||◌, nat_eq, List, length, Option, if◌then◌else◌}
use Rattle.std.specs.Bool.{beq}
use Rattle.std.specs.Option.{unwrap_or, is_some}
use Rattle.base_kit.specs.Sets.{has, IsAscending}
use Rattle.route_maps.specs.declared.plain.PlainEntry.{PlainEntry}
use Rattle.dd_core.specs.Sets.{Shown, Means, value_of}
use Rattle.policy_dd.specs.declared.map_run.MapFn.{MapFn}
use Rattle.policy_dd.specs.declared.matches.Carried.{Carried}
use Rattle.policy_dd.specs.Edge.{case_or, keys_of}
use Rattle.policy_dd.specs.Tables.{AllInside, IsTable, IsTableGrown}
use Rattle.policy_dd.specs.Deletion.{put_by_change, leaves, leaves_unnamed}
use Rattle.policy_dd.specs.Matches.{has_in, entry_by, first_of, decided}

-- What an entry that decides tells. One that denies tells nothing.

abbrev pub permits_it : PlainEntry → Bool
permits_it e = e.permit

-- it puts the community in
abbrev pub puts : ℕ → PlainEntry → Bool
puts c e = e.permit && has (put_by_change e.change) c

-- it leaves the community where the set has it
abbrev pub leaves_it : ℕ → PlainEntry → Bool
leaves_it c e = e.permit && leaves e c

-- it leaves the communities that no line names
abbrev pub leaves_rest : PlainEntry → Bool
leaves_rest e = e.permit && leaves_unnamed e

-- the community fares otherwise than those that no line names
abbrev pub is_odd : ℕ → PlainEntry → Bool
is_odd c e = e.permit && not (beq (leaves e c) (leaves_unnamed e))

abbrev pub prefers : ℕ → PlainEntry → Bool
prefers lp e = e.permit && nat_eq (unwrap_or e.lp 100) lp

abbrev pub adds_it : ℕ → PlainEntry → Bool
adds_it n e = e.permit && nat_eq e.adds n

pub record AreMapInside (shown : Shown) (m : MapFn) : Type 0 where
  pub before : m.before < length shown.nodes
  pub permit : m.permit < length shown.nodes
  pub rest : m.rest < length shown.nodes
  pub lps : AllInside shown m.lps
  pub adds : AllInside shown m.adds
  pub present : AllInside shown m.present
  pub odd : AllInside shown m.odd
  pub adds_small : (k : ℕ) → has (keys_of m.adds) k ≡ true → k ≤ 255
  pub present_known : (c : ℕ) → has (keys_of m.present) c ≡ true → has shown.universe c ≡ true
  pub odd_known : (c : ℕ) → has (keys_of m.odd) c ≡ true → has shown.universe c ≡ true

-- the table's nodes are true where `add` is, too
pub record IsMore (old new : Shown) (cases more : List (ℕ × ℕ)) (add : ℕ → List ℕ → Bool) : Type 0 where
  pub ascending : IsAscending (keys_of cases) → IsAscending (keys_of more)
  pub value : (set : List ℕ) (k : ℕ) → case_or new set more k false ≡ case_or old set cases k false || add k set

-- the entry, which permits, decides where the node is true
pub record IsEntryTaken (old new : Shown) (m r : MapFn) (sooner decides : ℕ) (entry : PlainEntry) : Type 0 where
  pub inside : AreMapInside new r
  pub before : (set : List ℕ) → value_of new set r.before ≡ value_of old set sooner
  pub permit : (set : List ℕ) → value_of new set r.permit ≡ value_of old set m.permit || value_of old set decides
  pub rest : (set : List ℕ) → value_of new set r.rest ≡ value_of old set m.rest || (value_of old set decides && leaves_unnamed entry)
  pub lps : IsMore old new m.lps r.lps (λ key set. nat_eq (unwrap_or entry.lp 100) key && value_of old set decides)
  pub adds : IsMore old new m.adds r.adds (λ key set. nat_eq entry.adds key && value_of old set decides)
  pub present : IsMore old new m.present r.present (λ key set. has (put_by_change entry.change) key && value_of old set decides)
  pub odd : IsMore old new m.odd r.odd (λ key set. not (beq (leaves entry key) (leaves_unnamed entry)) && value_of old set decides)

-- the entry decides where it holds and none before it did
abbrev pub decides_by : Shown → Carried → MapFn → List ℕ → PlainEntry → Bool
decides_by old carried m set entry = not (value_of old set m.before) && entry_by old.universe (has_in old carried set) (value_of old set carried.others) entry

-- one entry more
pub record IsPushed (old new : Shown) (carried : Carried) (m r : MapFn) (entry : PlainEntry) : Type 0 where
  pub inside : AreMapInside new r
  pub before : (set : List ℕ) → value_of new set r.before ≡ value_of old set m.before
      || entry_by old.universe (has_in old carried set) (value_of old set carried.others) entry
  pub permit : (set : List ℕ) → value_of new set r.permit ≡ value_of old set m.permit || (decides_by old carried m set entry && permits_it entry)
  pub rest : (set : List ℕ) → value_of new set r.rest ≡ value_of old set m.rest || (decides_by old carried m set entry && leaves_rest entry)
  pub lps : IsMore old new m.lps r.lps (λ key set. decides_by old carried m set entry && prefers key entry)
  pub adds : IsMore old new m.adds r.adds (λ key set. decides_by old carried m set entry && adds_it key entry)
  pub present : IsMore old new m.present r.present (λ key set. decides_by old carried m set entry && puts key entry)
  pub odd : IsMore old new m.odd r.odd (λ key set. decides_by old carried m set entry && is_odd key entry)

-- the first of the entries that holds for what is carried on the set
abbrev pub deciding : Shown → Carried → List ℕ → List PlainEntry → Option PlainEntry
deciding old carried set entries = first_of old.universe entries (has_in old carried set) (value_of old set carried.others)

-- what the first entry that holds does, on every set
pub record IsMapFn (old new : Shown) (carried : Carried) (entries : List PlainEntry) (m : MapFn) : Type 0 where
  pub inside : AreMapInside new m
  pub before : (set : List ℕ) → value_of new set m.before ≡ is_some (deciding old carried set entries)
  pub permit : (set : List ℕ) → value_of new set m.permit ≡ decided permits_it (deciding old carried set entries)
  pub rest : (set : List ℕ) → value_of new set m.rest ≡ decided leaves_rest (deciding old carried set entries)
  pub lps : IsTable new m.lps (λ key set. decided (prefers key) (deciding old carried set entries))
  pub adds : IsTable new m.adds (λ key set. decided (adds_it key) (deciding old carried set entries))
  pub present : IsTable new m.present (λ key set. decided (puts key) (deciding old carried set entries))
  pub odd : IsTable new m.odd (λ key set. decided (is_odd key) (deciding old carried set entries))

pub record AreTablesAscending (m : MapFn) : Type 0 where
  pub lps : IsAscending (keys_of m.lps)
  pub adds : IsAscending (keys_of m.adds)
  pub present : IsAscending (keys_of m.present)
  pub odd : IsAscending (keys_of m.odd)

-- the table, joined to the other one where no entry of the first part holds
abbrev pub IsTableOfEither : Shown → Shown → ℕ → List (ℕ × ℕ) → List (ℕ × ℕ) → List (ℕ × ℕ) → Type 0
IsTableOfEither old new sooner first last cases =
    IsTableGrown old new first cases (keys_of last) (λ k set. not (value_of old set sooner) && case_or old set last k false)

-- the first part where one of its entries holds, and elsewhere the last
pub record IsEither (old new : Shown) (first last m : MapFn) : Type 0 where
  pub before : Means new m.before (λ set. value_of old set first.before || value_of old set last.before)
  pub permit : Means new m.permit (λ set. if value_of old set first.before then value_of old set first.permit else value_of old set last.permit)
  pub rest : Means new m.rest (λ set. if value_of old set first.before then value_of old set first.rest else value_of old set last.rest)
  pub lps : IsTableOfEither old new first.before first.lps last.lps m.lps
  pub adds : IsTableOfEither old new first.before first.adds last.adds m.adds
  pub present : IsTableOfEither old new first.before first.present last.present m.present
  pub odd : IsTableOfEither old new first.before first.odd last.odd m.odd
