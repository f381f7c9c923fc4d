-- What single words of a line say: names, numbers, masks (RFC 950), prefixes (RFC 4632 section 3.1),
-- networks by the class of their address (RFC 791 section 3.2), and communities (RFC 1997, RFC 8326).
use Rattle.std.specs.Prelude.{ℕ, ◌+◌, ◌-◌, ◌*◌, ◌^◌, ◌/◌, ◌%◌, Bool, false, ◌&&◌, ◌||◌, List, [], ◌∷◌, length, nat_lt, nat_le, ◌==◌, if◌then◌else◌, Option, Some, None, codes, bytes_eq}
use Rattle.std.specs.Option.{is_some, option_and_then}
use Rattle.std.specs.List.{list_all, list_any, find, range_with_len, before_first, after_first}
use Rattle.std.specs.Char.{is_ascii_digit, is_ascii_alphabetic}
use Rattle.base_kit.specs.Numbers.{number_of, address_of}
use Rattle.base_kit.specs.Prefixes.{Prefix}

-- ---- names

-- 1 to 63 bytes
abbrev pub is_name_long : List ℕ → Bool
is_name_long word = nat_le 1 (length word) && nat_le (length word) 63

abbrev pub begins_with : (ℕ → Bool) → List ℕ → Bool
begins_with test [] = false
begins_with test (b ∷ word) = test b

abbrev pub is_letter_or_digit : ℕ → Bool
is_letter_or_digit b = is_ascii_alphabetic b || is_ascii_digit b

-- a letter, a digit, `-`, `_` or `.`
abbrev pub is_router_byte : ℕ → Bool
is_router_byte b = is_letter_or_digit b || b == 45 || b == 95 || b == 46

-- a router's name begins with a letter or a digit
unfoldable pub is_router_name : List ℕ → Bool
is_router_name word = is_name_long word && begins_with is_letter_or_digit word && list_all is_router_byte word

-- a letter, a digit, `/`, `.`, `:` or `-`
abbrev pub is_interface_byte : ℕ → Bool
is_interface_byte b = is_letter_or_digit b || b == 47 || b == 46 || b == 58 || b == 45

-- an interface's name begins with a letter and has a digit
unfoldable pub is_interface_name : List ℕ → Bool
is_interface_name word = is_name_long word && begins_with is_ascii_alphabetic word && list_any is_ascii_digit word && list_all is_interface_byte word

-- any word of 1 to 63 bytes names a list or a route map
unfoldable pub is_list_name : List ℕ → Bool
is_list_name word = is_name_long word

-- ---- numbers

abbrev pub if_between : ℕ → ℕ → ℕ → Option ℕ
if_between low high n = if nat_le low n && nat_le n high then Some n else None

-- 0, or digits without a leading 0, of a value up to 4294967295
unfoldable pub number_word : List ℕ → Option ℕ
number_word word = number_of word

-- a number of a range, both ends included
unfoldable pub number_between : ℕ → ℕ → List ℕ → Option ℕ
number_between low high word = option_and_then (if_between low high) (number_word word)

-- an AS number is from 1 to 4294967295
unfoldable pub as_number_word : List ℕ → Option ℕ
as_number_word word = number_between 1 4294967295 word

-- ---- addresses, masks and prefixes

-- an address is four numbers from 0 to 255 joined by points
unfoldable pub address_word : List ℕ → Option ℕ
address_word word = address_of word

-- ones, as many as the length says, and then zeros
abbrev pub mask_of : ℕ → ℕ
mask_of len = 4294967296 - 2 ^ (32 - len)

-- the length of a mask, from 1 to 32; other addresses are no masks
unfoldable pub len_of_mask : ℕ → Option ℕ
len_of_mask mask = find (λ len. mask_of len == mask) (range_with_len 1 32)

-- a mask as a word
unfoldable pub mask_len_of : List ℕ → Option ℕ
mask_len_of word = option_and_then len_of_mask (address_word word)

-- the bits behind the length
abbrev pub bits_behind : ℕ → ℕ → ℕ
bits_behind len addr = addr % 2 ^ (32 - len)

-- an address cut to a length: the bits behind it are cleared
abbrev pub cut_to : ℕ → ℕ → Prefix
cut_to len addr = record { addr = addr - bits_behind len addr; len = len }

abbrev pub is_slash : ℕ → Bool
is_slash b = b == 47

-- a prefix word is an address, `/` and a length from 0 to 32; bits behind the length are cleared
unfoldable pub prefix_of : List ℕ → Option Prefix
prefix_of word =
    option_and_then (λ addr. option_and_then (λ len. Some (cut_to len addr))
    (number_between 0 32 (after_first is_slash word))) (address_word (before_first is_slash word))

-- the length of a network by its address's first number
abbrev pub len_of_class : ℕ → Option ℕ
len_of_class first =
    if nat_lt first 1 || nat_lt 223 first then None
    else (if nat_le first 127 then Some 8
    else (if nat_le first 191 then Some 16
    else Some 24))

unfoldable pub classful_len_of : ℕ → Option ℕ
classful_len_of addr = len_of_class (addr / 16777216)

-- the prefix of an address that has no bits behind the length
unfoldable pub exact_prefix : ℕ → ℕ → Option Prefix
exact_prefix addr len = if bits_behind len addr == 0 then Some (record { addr = addr; len = len }) else None

-- ---- communities

abbrev pub is_colon : ℕ → Bool
is_colon b = b == 58

-- `A:B`, with A and B up to 65535
abbrev pub community_of_halves : List ℕ → List ℕ → Option ℕ
community_of_halves high low =
    option_and_then (λ a. option_and_then (λ b. Some (65536 * a + b)) (number_between 0 65535 low)) (number_between 0 65535 high)

-- a community is `A:B`, or a number from 1
unfoldable pub community_word : List ℕ → Option ℕ
community_word word =
    if list_any is_colon word then community_of_halves (before_first is_colon word) (after_first is_colon word)
    else number_between 1 4294967295 word

-- the names of well-known communities
unfoldable pub is_well_known_name : List ℕ → Bool
is_well_known_name word =
    bytes_eq word (codes "internet") || bytes_eq word (codes "no-export") || bytes_eq word (codes "no-advertise")
    || bytes_eq word (codes "local-AS") || bytes_eq word (codes "gshut")

-- 0, and 65535:0 and all above it, are set aside
abbrev pub is_reserved : ℕ → Bool
is_reserved community = community == 0 || nat_le 4294901760 community

abbrev pub is_some_reserved : Option ℕ → Bool
is_some_reserved None = false
is_some_reserved (Some community) = is_reserved community

-- a community by its name or by its value
unfoldable pub is_community : List ℕ → Bool
is_community word = is_well_known_name word || is_some (community_word word)

unfoldable pub is_well_known : List ℕ → Bool
is_well_known word = is_well_known_name word || is_some_reserved (community_word word)

abbrev pub same_value : Option ℕ → Option ℕ → Bool
same_value (Some a) (Some b) = a == b
same_value a b = false

-- names are the same as words, and other communities by their value
unfoldable pub same_community : List ℕ → List ℕ → Bool
same_community word other = bytes_eq word other || same_value (community_word word) (community_word other)
