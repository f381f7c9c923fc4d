-- The answers of prefix lists to a prefix, as IOS gives them: a list's entries are tried by sequence
-- number, and lengths of masks are those of RFC 4632 section 3.1.
use Rattle.std.specs.Prelude.{ℕ, ◌-◌, ◌/◌, ◌^◌, Bool, false, ◌&&◌, List, [], ◌∷◌, Option, Some, None, nat_eq, nat_le, if◌then◌else◌}
use Rattle.base_kit.specs.Prefixes.{Prefix}
use Rattle.cfg_ast.specs.declared.policy.PrefixEntry.{PrefixEntry}
use Rattle.cfg_ast.specs.declared.policy.PrefixList.{PrefixList}

-- the leading bits of an address, as a number
abbrev pub leading_bits : ℕ → ℕ → ℕ
leading_bits count addr = addr / 2 ^ (32 - count)

-- the length is in the range of an entry for prefixes of length `len` with these `ge` and `le`
abbrev pub length_fits : ℕ → Option ℕ → Option ℕ → ℕ → Bool
length_fits len None None other = nat_eq other len
length_fits len (Some ge) None other = nat_le ge other && nat_le other 32
length_fits len None (Some le) other = nat_le len other && nat_le other le
length_fits len (Some ge) (Some le) other = nat_le ge other && nat_le other le

-- the prefix agrees with the entry's in the bits that count there, and its length is in the range
abbrev pub prefix_entry_holds : PrefixEntry → Prefix → Bool
prefix_entry_holds entry p =
    nat_eq (leading_bits entry.prefix.len p.addr) (leading_bits entry.prefix.len entry.prefix.addr) && length_fits entry.prefix.len entry.ge entry.le p.len

-- the first entry that holds decides, and the end denies
abbrev pub first_entry_decides : List PrefixEntry → Prefix → Bool
first_entry_decides [] p = false
first_entry_decides (entry ∷ entries) p = if prefix_entry_holds entry p then entry.permit else first_entry_decides entries p

-- the answer of a prefix list
abbrev pub prefix_list_permits : PrefixList → Prefix → Bool
prefix_list_permits list p = first_entry_decides list.entries p
