-- What lines of lists and route maps say lies in its range, form by form.
use Rattle.std.proofs.Common.{◌≡◌, ℕ, ◌-◌, true, false, ◌&&◌, List, [], ◌∷◌, length, Option, Some, None, refl, ap, ◌∙◌, arith}
use Rattle.std.specs.Prelude.{IfSome, IfOk, codes, bytes_eq, nat_le}
use Rattle.std.specs.Option.{is_some}
use Rattle.std.specs.List.{AllByRecursion, list_all}
use Rattle.std.proofs.lemmas.Bool.{and_parts, leb-true}
use Rattle.cfg_ast.specs.declared.heads.HeadClass.{HeadClass}
use Rattle.cfg_ast.specs.declared.heads.HeadClass.TheVariants as class
use Rattle.cfg_ast.specs.declared.heads.PolicyForm.{PolicyForm}
use Rattle.cfg_ast.specs.declared.heads.PolicyForm.TheVariants as form
use Rattle.cfg_ast.specs.declared.items.PolicyScope.{PolicyScope}
use Rattle.cfg_ast.specs.declared.items.PolicyItem.{PolicyItem}
use Rattle.cfg_ast.specs.declared.items.PolicyItem.TheVariants as item
use Rattle.cfg_ast.specs.text.Words.{as_number_word, number_between}
use Rattle.cfg_ast.specs.text.Heads.{class_in, policy_heads_of}
use Rattle.cfg_ast.specs.text.PolicyForms.{is_permit, has_mark, but_last, bounds_of, community_line, comms_match, is_none_alone, change_of, is_as_number, policy_form, policy_item_by, policy_item_of}
use Rattle.cfg_ast.specs.printing.WellFormed.{IsBetween, IsNumber, IsListName, IsPrefix, IsCommunitySet, IsWellFormedNamed, AreBounds, IsWellFormedPrefixEntry, IsWellFormedCommunityLine, IsWellFormedNameLine, IsMarkRight, IsWellFormedChange, IsWellFormedPrepend, IsWellFormedMapEntry}
use Rattle.given_laws.proofs.Given.{given, mapped, after, fits, either, IsAny, anything}
use Rattle.given_laws.proofs.Each.{all_take, all_pass, all_filter_map, length-filter_map}
use Rattle.given_laws.proofs.Values.{a_number, between, an_as_number, a_prefix}
use Rattle.given_laws.proofs.RouterItems.{IsWord, AreWords, a_named}
use Rattle.given_laws.proofs.Communities.{a_list_name, AreNames, a_name_list, a_community_set}

abbrev pub IsPolicyItem : PolicyItem → Type 0
IsPolicyItem (item.PrefixEntry name e) = IsListName name × IsWellFormedPrefixEntry e
IsPolicyItem (item.CommunityLine name line) = IsListName name × IsWellFormedCommunityLine line
IsPolicyItem (item.MapHead name e) = IsListName name × IsWellFormedMapEntry e
IsPolicyItem (item.MatchPrefixes names) = IsWellFormedNameLine names
IsPolicyItem (item.MatchComms names exact) = IsWellFormedNameLine names × IsMarkRight (Some names) exact
IsPolicyItem (item.Lp lp) = IsNumber lp
IsPolicyItem (item.Comms change) = IsWellFormedChange change
IsPolicyItem (item.Delete list) = IsWellFormedNamed list
IsPolicyItem (item.Prepend prepend) = IsWellFormedPrepend prepend
IsPolicyItem item.Ignored = Unit {0}

-- ---- parts of forms

abbrev AreBoundsOf : ℕ → Option ℕ × Option ℕ → Type 0
AreBoundsOf len bounds = AreBounds len bounds.0 bounds.1

some_bounds : (len : ℕ) (words : List (List ℕ)) → IfOk (bounds_of len words) (AreBoundsOf len)
unfolding bounds_of
some_bounds len [] = tt
some_bounds len (word ∷ number ∷ []) =
    given (IsBetween len 32) (AreBoundsOf len) _ _ (between len 32 number) (λ bound is.
    either (AreBoundsOf len) (bytes_eq word (codes "ge")) _ _ (λ e. is) (λ e. fits (AreBoundsOf len) (bytes_eq word (codes "le")) _ (λ f. is)))
some_bounds len (word ∷ low ∷ other ∷ high ∷ []) =
    fits (AreBoundsOf len) (bytes_eq word (codes "ge") && bytes_eq other (codes "le")) _ (λ e.
    given (IsBetween len 32) (AreBoundsOf len) _ _ (between len 32 low) (λ ge first.
    given (IsBetween ge 32) (AreBoundsOf len) _ _ (between ge 32 high) (λ le second. (first, second))))
some_bounds len _ = tt

community_line_case : (line : ℕ) (name act : List ℕ) (communities : List (List ℕ)) → IsWord name → IfOk (community_line line name act communities) IsPolicyItem
unfolding community_line
community_line_case line name act communities is =
    given IsAny IsPolicyItem _ _ (anything (is_permit act)) (λ permit any.
    after IsListName IsPolicyItem _ _ (a_list_name name is) (λ list named.
    after IsCommunitySet IsPolicyItem _ _ (a_community_set communities) (λ comms set. (named, set))))

exact_case : (line : ℕ) (words : List (List ℕ)) → AreWords words → IfOk (comms_match line true words) IsPolicyItem
unfolding comms_match
exact_case line words are = after (AreNames words) IsPolicyItem _ _ (a_name_list words are)
    (λ names is. (record { count = is.0; each = is.1; once = is.2 }, tt))

inexact_case : (line : ℕ) (words : List (List ℕ)) → AreWords words → has_mark (codes "exact-match") words ≡ false
    → IfOk (comms_match line false words) IsPolicyItem
unfolding comms_match
inexact_case line words are other = after (AreNames words) IsPolicyItem _ _ (a_name_list words are)
    (λ names is. (record { count = is.0; each = is.1; once = is.2 }, ap (has_mark (codes "exact-match")) is.3 ∙ other))

change_case : (words : List (List ℕ)) → IfOk (change_of words) IsWellFormedChange
unfolding change_of
change_case words =
    either IsWellFormedChange (is_none_alone words) _ _ (λ e. tt) (λ e.
    either IsWellFormedChange (has_mark (codes "additive") words) _ _ (λ f.
    after IsCommunitySet IsWellFormedChange _ _ (a_community_set (but_last words)) (λ comms is. is)) (λ f.
    after IsCommunitySet IsWellFormedChange _ _ (a_community_set words) (λ comms is. is)))

as_numbers : (words : List (List ℕ)) → AllByRecursion (λ word. IfSome (as_number_word word) (IsBetween 1 4294967295)) words
as_numbers [] = tt
as_numbers (word ∷ words) = (an_as_number word, as_numbers words)

-- ---- a line by its head

form_case : (f : PolicyForm) (line : ℕ) (words : List (List ℕ)) → AreWords words → IfOk (policy_form f line words) IsPolicyItem
unfolding policy_form
form_case form.PrefixEntry line (_ ∷ _ ∷ name ∷ word ∷ number ∷ act ∷ prefix ∷ options) are =
    fits IsPolicyItem (bytes_eq word (codes "seq")) _ (λ e.
    given (IsBetween 1 4294967295) IsPolicyItem _ _ (between 1 4294967295 number) (λ seq range.
    given IsAny IsPolicyItem _ _ (anything (is_permit act)) (λ permit any.
    given IsPrefix IsPolicyItem _ _ (a_prefix prefix) (λ p whole.
    after (AreBoundsOf p.len) IsPolicyItem _ _ (some_bounds p.len options) (λ bounds within.
    after IsListName IsPolicyItem _ _ (a_list_name name are.1.1.0) (λ list is.
    (is, record { seq = range; prefix = whole; bounds = within })))))))
form_case form.CommunityLine line (_ ∷ _ ∷ word ∷ next ∷ third ∷ words) are =
    either IsPolicyItem (bytes_eq word (codes "standard")) _ _ (λ e. community_line_case line next third words are.1.1.1.0)
    (λ e. fits IsPolicyItem (is_some (number_between 1 99 word)) _ (λ f. community_line_case line word next (third ∷ words) are.1.1.0))
form_case form.MapHead line (_ ∷ name ∷ act ∷ number ∷ []) are =
    given IsAny IsPolicyItem _ _ (anything (is_permit act)) (λ permit any.
    given (IsBetween 0 65535) IsPolicyItem _ _ (between 0 65535 number) (λ seq range.
    after IsListName IsPolicyItem _ _ (a_list_name name are.1.0) (λ map named.
    (named, record { seq = range.1; prefixes = tt; comms = tt; exact = refl; lp = tt; change = tt; delete = tt; prepend = tt }))))
form_case form.MatchPrefixes line (_ ∷ _ ∷ _ ∷ _ ∷ words) are =
    after (AreNames words) IsPolicyItem _ _ (a_name_list words are.1.1.1.1) (λ names is. record { count = is.0; each = is.1; once = is.2 })
form_case form.MatchComms line (_ ∷ _ ∷ words) are =
    either IsPolicyItem (has_mark (codes "exact-match") words) _ _
    (λ e. exact_case line (but_last words) (all_take IsWord (length words - 1) words are.1.1)) (λ other. inexact_case line words are.1.1 other)
form_case form.Lp line (_ ∷ _ ∷ number ∷ []) are = mapped IsNumber IsPolicyItem _ _ (a_number number) (λ n is. is)
form_case form.Comms line (_ ∷ _ ∷ words) are = after IsWellFormedChange IsPolicyItem _ _ (change_case words) (λ change is. is)
form_case form.Delete line (_ ∷ _ ∷ name ∷ word ∷ []) are = fits IsPolicyItem (bytes_eq word (codes "delete")) _
    (λ e. after IsWellFormedNamed IsPolicyItem _ _ (a_named line name are.1.1.0) (λ list is. is))
form_case form.Prepend line (_ ∷ _ ∷ _ ∷ words) are =
    fits IsPolicyItem (nat_le 1 (length words) && nat_le (length words) 10 && list_all is_as_number words) _ (λ e.
    let two = and_parts (nat_le 1 (length words) && nat_le (length words) 10) (list_all is_as_number words) e in
    let one = and_parts (nat_le 1 (length words)) (nat_le (length words) 10) two.0 in
    let same = length-filter_map as_number_word words (all_pass is_as_number words two.1) in
    let low = leb-true 1 (length words) one.0 in
    let high = leb-true (length words) 10 one.1 in
    record { count = (omega arith, omega arith); each = all_filter_map (IsBetween 1 4294967295) as_number_word words (as_numbers words) })
form_case _ line _ are = tt

class_case : (o : Option HeadClass) (line : ℕ) (words : List (List ℕ)) → AreWords words → IfOk (policy_item_by o line words) IsPolicyItem
unfolding policy_item_by
class_case None line words are = tt
class_case (Some class.Refused) line words are = tt
class_case (Some class.Ignored) line words are = tt
class_case (Some (class.Router f)) line words are = tt
class_case (Some (class.Policy f)) line words are = form_case f line words are

pub a_policy_item : (scope : PolicyScope) (line : ℕ) (words : List (List ℕ)) → AreWords words → IfOk (policy_item_of scope line words) IsPolicyItem
a_policy_item scope line words are = class_case (class_in (policy_heads_of scope) words) line words are
