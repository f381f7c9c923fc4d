-- What lines of prefix lists, community lists (RFC 1997) and route maps say, form by form, as IOS
-- writes them.
use Rattle.std.specs.Prelude.{ℕ, ◌-◌, Bool, true, false, not, ◌&&◌, List, [], ◌∷◌, length, nat_le, if◌then◌else◌, Option, Some, None, Result, Ok, Err, codes, bytes_eq, take}
use Rattle.std.specs.List.{list_all, list_any, filter_map}
use Rattle.std.specs.Option.{is_some, option_map}
use Rattle.base_kit.specs.Sets.{with_numbers}
use Rattle.cfg_ast.specs.declared.policy.MapEntry.{MapEntry}
use Rattle.cfg_ast.specs.declared.policy.Change.{Change}
use Rattle.cfg_ast.specs.declared.policy.Change.TheVariants.{Clear, Replace, Append}
use Rattle.cfg_ast.specs.declared.items.PolicyScope.{PolicyScope}
use Rattle.cfg_ast.specs.declared.items.PolicyItem.{PolicyItem}
use Rattle.cfg_ast.specs.declared.items.PolicyItem.TheVariants as item
use Rattle.cfg_ast.specs.declared.heads.HeadClass.{HeadClass}
use Rattle.cfg_ast.specs.declared.heads.HeadClass.TheVariants as class
use Rattle.cfg_ast.specs.declared.heads.PolicyForm.{PolicyForm}
use Rattle.cfg_ast.specs.declared.heads.PolicyForm.TheVariants as form
use Rattle.cfg_ast.specs.declared.refusal.FormFault.{FormFault}
use Rattle.cfg_ast.specs.declared.refusal.FormFault.TheVariants.{UnknownLine, Unsupported, BadForm, WellKnown}
use Rattle.cfg_ast.specs.text.Words.{is_list_name, number_word, number_between, as_number_word, prefix_of, community_word, is_community, is_well_known, same_community}
use Rattle.cfg_ast.specs.text.FormSteps.{or_bad, bad_unless, list_name_of, named_of}
use Rattle.cfg_ast.specs.text.Steps.{◌>>=◌}
use Rattle.cfg_ast.specs.text.Heads.{class_in, policy_heads_of}

-- ---- parts of forms

-- `permit` is true, `deny` false
unfoldable pub is_permit : List ℕ → Option Bool
is_permit word = if bytes_eq word (codes "permit") then Some true else (if bytes_eq word (codes "deny") then Some false else None)

-- no word is the same as a later one
abbrev pub all_differ : (List ℕ → List ℕ → Bool) → List (List ℕ) → Bool
all_differ same [] = true
all_differ same (word ∷ words) = not (list_any (same word) words) && all_differ same words

-- 1 to 32 words
abbrev pub is_group : List (List ℕ) → Bool
is_group words = nat_le 1 (length words) && nat_le (length words) 32

-- 1 to 32 names of lists, each once
unfoldable pub list_names_of : List (List ℕ) → Result (List (List ℕ)) FormFault
list_names_of words = bad_unless (is_group words && list_all is_list_name words && all_differ bytes_eq words) (Ok words)

-- 1 to 32 communities, each once. Only where nothing else is at fault is a well-known one reported.
unfoldable pub community_words : List (List ℕ) → Result (List ℕ) FormFault
community_words words = bad_unless (is_group words && list_all is_community words && all_differ same_community words)
    (if list_any is_well_known words then Err WellKnown else Ok (with_numbers (filter_map community_word words) []))

-- whether the last word is this one
abbrev pub has_mark : List ℕ → List (List ℕ) → Bool
has_mark mark [] = false
has_mark mark (word ∷ []) = bytes_eq word mark
has_mark mark (word ∷ next ∷ words) = has_mark mark (next ∷ words)

-- all words except the last one
abbrev pub but_last : List (List ℕ) → List (List ℕ)
but_last words = take (length words - 1) words

-- `ge G`, `le E`, both in this order, or neither, between the prefix's length and 32
unfoldable pub bounds_of : ℕ → List (List ℕ) → Result (Option ℕ × Option ℕ) FormFault
bounds_of len [] = Ok (None, None)
bounds_of len (word ∷ number ∷ []) = do
  bound ← or_bad (number_between len 32 number)
  if bytes_eq word (codes "ge") then Ok (Some bound, None) else bad_unless (bytes_eq word (codes "le")) (Ok (None, Some bound))
bounds_of len (word ∷ low ∷ other ∷ high ∷ []) = bad_unless (bytes_eq word (codes "ge") && bytes_eq other (codes "le")) (do
  ge ← or_bad (number_between len 32 low)
  le ← or_bad (number_between ge 32 high)
  Ok (Some ge, Some le))
bounds_of len _ = Err BadForm

unfoldable pub community_line : ℕ → List ℕ → List ℕ → List (List ℕ) → Result PolicyItem FormFault
community_line line name act communities = do
  permit ← or_bad (is_permit act)
  list ← list_name_of name
  comms ← community_words communities
  Ok (item.CommunityLine list (record { permit = permit; comms = comms; line = line }))

-- an entry of a route map that matches and sets nothing yet
abbrev pub empty_entry : ℕ → Bool → ℕ → MapEntry
empty_entry seq permit line = record {
  seq = seq;
  permit = permit;
  line = line;
  prefixes = None;
  comms = None;
  exact = false;
  lp = None;
  change = None;
  change_line = 0;
  delete = None;
  prepend = None;
}

-- lists of communities, one of which must permit, by its exact answer or by its answer
unfoldable pub comms_match : ℕ → Bool → List (List ℕ) → Result PolicyItem FormFault
comms_match line exact words = do
  names ← list_names_of words
  Ok (item.MatchComms (record { names = names; line = line }) exact)

unfoldable pub is_none_alone : List (List ℕ) → Bool
is_none_alone (word ∷ []) = bytes_eq word (codes "none")
is_none_alone words = false

-- COMMUNITY .., COMMUNITY .. additive, or none
unfoldable pub change_of : List (List ℕ) → Result Change FormFault
change_of words =
    if is_none_alone words then Ok Clear
    else (if has_mark (codes "additive") words then community_words (but_last words) >>= (λ comms. Ok (Append comms))
    else (community_words words >>= (λ comms. Ok (Replace comms))))

abbrev pub is_as_number : List ℕ → Bool
is_as_number word = is_some (as_number_word word)

-- ---- what a line says by its form

unfoldable pub policy_form : PolicyForm → ℕ → List (List ℕ) → Result PolicyItem FormFault
-- ip prefix-list NAME seq NUMBER permit PREFIX, or deny, and the bounds
policy_form form.PrefixEntry line (_ ∷ _ ∷ name ∷ word ∷ number ∷ act ∷ prefix ∷ options) = bad_unless (bytes_eq word (codes "seq")) (do
  seq ← or_bad (number_between 1 4294967295 number)
  permit ← or_bad (is_permit act)
  p ← or_bad (prefix_of prefix)
  bounds ← bounds_of p.len options
  list ← list_name_of name
  Ok (item.PrefixEntry list (record { seq = seq; permit = permit; prefix = p; ge = bounds.0; le = bounds.1; line = line })))
-- ip community-list NUMBER permit COMMUNITY .., or standard NAME, or deny; the number is from 1 to 99
policy_form form.CommunityLine line (_ ∷ _ ∷ word ∷ next ∷ third ∷ words) =
    if bytes_eq word (codes "standard") then community_line line next third words
    else bad_unless (is_some (number_between 1 99 word)) (community_line line word next (third ∷ words))
-- route-map NAME permit NUMBER, or deny, from 0 to 65535
policy_form form.MapHead line (_ ∷ name ∷ act ∷ number ∷ []) = do
  permit ← or_bad (is_permit act)
  seq ← or_bad (number_between 0 65535 number)
  map ← list_name_of name
  Ok (item.MapHead map (empty_entry seq permit line))
-- match ip address prefix-list NAME ..
policy_form form.MatchPrefixes line (_ ∷ _ ∷ _ ∷ _ ∷ words) = do
  names ← list_names_of words
  Ok (item.MatchPrefixes (record { names = names; line = line }))
-- match community NAME .., with `exact-match` or without: a last word `exact-match` is always the mark
policy_form form.MatchComms line (_ ∷ _ ∷ words) =
    if has_mark (codes "exact-match") words then comms_match line true (but_last words) else comms_match line false words
-- set local-preference NUMBER
policy_form form.Lp line (_ ∷ _ ∷ number ∷ []) = or_bad (option_map item.Lp (number_word number))
-- set community, and what is to be done with the communities
policy_form form.Comms line (_ ∷ _ ∷ words) = do
  change ← change_of words
  Ok (item.Comms change)
-- set comm-list NAME delete
policy_form form.Delete line (_ ∷ _ ∷ name ∷ word ∷ []) = bad_unless (bytes_eq word (codes "delete")) (do
  list ← named_of line name
  Ok (item.Delete list))
-- set as-path prepend NUMBER .., 1 to 10 AS numbers, which may repeat
policy_form form.Prepend line (_ ∷ _ ∷ _ ∷ words) =
    bad_unless (nat_le 1 (length words) && nat_le (length words) 10 && list_all is_as_number words)
    (Ok (item.Prepend (record { numbers = filter_map as_number_word words; line = line })))
-- a line of no such shape
policy_form _ line _ = Err BadForm

-- ---- a line by its head

-- A head in no table is unknown, and a refused one unsupported. Router lines are not read here; they
-- are unsupported too.
unfoldable pub policy_item_by : Option HeadClass → ℕ → List (List ℕ) → Result PolicyItem FormFault
policy_item_by None line words = Err UnknownLine
policy_item_by (Some class.Ignored) line words = Ok item.Ignored
policy_item_by (Some (class.Policy form)) line words = policy_form form line words
policy_item_by _ line words = Err Unsupported

-- what a line of this number says of a list, a route map or an entry, in its scope
abbrev pub policy_item_of : PolicyScope → ℕ → List (List ℕ) → Result PolicyItem FormFault
policy_item_of scope line words = policy_item_by (class_in (policy_heads_of scope) words) line words
