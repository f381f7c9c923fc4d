-- No form of a line answers that memory ran out.
use Rattle.std.proofs.Common.{ℕ, Bool, true, false, cond, List, [], ◌∷◌, Option, Some, None, Result, Ok, Err, codes}
use Rattle.std.specs.Prelude.{◌&&◌, bytes_eq, is_some, length, nat_le}
use Rattle.std.specs.List.{list_all, list_any}
use Rattle.std.specs.Option.{option_map}
use Rattle.cfg_ast.specs.declared.network.Named.{Named}
use Rattle.cfg_ast.specs.declared.heads.HeadClass.{HeadClass}
use Rattle.cfg_ast.specs.declared.heads.HeadClass.TheVariants as class
use Rattle.cfg_ast.specs.declared.heads.PolicyForm.{PolicyForm}
use Rattle.cfg_ast.specs.declared.heads.PolicyForm.TheVariants as policy
use Rattle.cfg_ast.specs.declared.heads.RouterForm.{RouterForm}
use Rattle.cfg_ast.specs.declared.heads.RouterForm.TheVariants as router
use Rattle.cfg_ast.specs.declared.items.RouterItem.{RouterItem}
use Rattle.cfg_ast.specs.declared.items.RouterItem.TheVariants as item
use Rattle.cfg_ast.specs.declared.refusal.FormFault.{FormFault}
use Rattle.cfg_ast.specs.declared.refusal.FormFault.TheVariants as fault
use Rattle.cfg_ast.specs.text.FormSteps.{or_bad, bad_unless, list_name_of, named_of}
use Rattle.cfg_ast.specs.text.PolicyForms.{all_differ, is_as_number, is_group, is_permit, list_names_of, community_words, has_mark, but_last, bounds_of, community_line}
use Rattle.cfg_ast.specs.text.PolicyForms.{comms_match, is_none_alone, change_of, policy_form, policy_item_by}
use Rattle.cfg_ast.specs.text.RouterForms.{net_line, sends_standard, is_inward, peer_item, area_word, router_form, router_item_by}
use Rattle.cfg_ast.specs.text.Steps.{◌>>=◌}
use Rattle.cfg_ast.specs.text.Words.{address_word, as_number_word, classful_len_of, exact_prefix, is_community, is_interface_name, is_list_name, is_router_name}
use Rattle.cfg_ast.specs.text.Words.{is_well_known, mask_len_of, number_between, number_word, prefix_of, same_community}

-- a fault that names a kind
abbrev pub IsNamed : FormFault → Type 0
IsNamed fault.UnknownLine = Unit {0}
IsNamed fault.Unsupported = Unit {0}
IsNamed fault.BadForm = Unit {0}
IsNamed fault.WellKnown = Unit {0}
IsNamed fault.Memory = ⊥

-- a result, or such a fault
abbrev pub Calm : {X : Type 0} → Result X FormFault → Type 0
Calm (Ok x) = Unit {0}
Calm (Err f) = IsNamed f

given : {X Y : Type 0} (o : Option X) (f : X → Result Y FormFault) → ((x : X) → Calm (f x)) → Calm (or_bad o >>= f)
given None f calm = tt
given (Some x) f calm = calm x

mapped : {X Y : Type 0} (o : Option X) (f : X → Y) → Calm (or_bad (option_map f o))
mapped None f = tt
mapped (Some x) f = tt

unless : {X : Type 0} (b : Bool) (r : Result X FormFault) → Calm r → Calm (bad_unless b r)
unless true r calm = calm
unless false r calm = tt

after : {X Y : Type 0} (r : Result X FormFault) (f : X → Result Y FormFault) → Calm r → ((x : X) → Calm (f x)) → Calm (r >>= f)
after (Ok x) f calm more = more x
after (Err e) f calm more = calm

either : {X : Type 0} (b : Bool) (r s : Result X FormFault) → Calm r → Calm s → Calm (cond b r s)
either true r s first second = first
either false r s first second = second

-- ---- parts

list_name : (word : List ℕ) → Calm (list_name_of word)
unfolding list_name_of
list_name word = unless (is_list_name word) _ tt

named : (line : ℕ) (word : List ℕ) → Calm (named_of line word)
unfolding named_of
named line word = unless (is_list_name word) _ tt

list_names : (words : List (List ℕ)) → Calm (list_names_of words)
unfolding list_names_of
list_names words = unless (is_group words && list_all is_list_name words && all_differ bytes_eq words) _ tt

communities : (words : List (List ℕ)) → Calm (community_words words)
unfolding community_words
communities words =
    unless (is_group words && list_all is_community words && all_differ same_community words) _ (either (list_any is_well_known words) _ _ tt tt)

bounds : (len : ℕ) (words : List (List ℕ)) → Calm (bounds_of len words)
unfolding bounds_of
bounds len [] = tt
bounds len (word ∷ number ∷ []) = given (number_between len 32 number) _
    (λ bound. either (bytes_eq word (codes "ge")) _ _ tt (unless (bytes_eq word (codes "le")) _ tt))
bounds len (word ∷ low ∷ other ∷ high ∷ []) =
    unless (bytes_eq word (codes "ge") && bytes_eq other (codes "le")) _
    (given (number_between len 32 low) _ (λ ge. given (number_between ge 32 high) _ (λ le. tt)))
bounds len _ = tt

-- ---- lists and route maps

listed_communities : (line : ℕ) (name act : List ℕ) (words : List (List ℕ)) → Calm (community_line line name act words)
unfolding community_line
listed_communities line name act words =
    given (is_permit act) _ (λ permit. after (list_name_of name) _ (list_name name) (λ list. after (community_words words) _ (communities words) (λ comms. tt)))

matched : (line : ℕ) (exact : Bool) (words : List (List ℕ)) → Calm (comms_match line exact words)
unfolding comms_match
matched line exact words = after (list_names_of words) _ (list_names words) (λ names. tt)

change : (words : List (List ℕ)) → Calm (change_of words)
unfolding change_of
change words =
    either (is_none_alone words) _ _ tt (either (has_mark (codes "additive") words) _ _
    (after (community_words (but_last words)) _ (communities (but_last words)) (λ comms. tt))
    (after (community_words words) _ (communities words) (λ comms. tt)))

policy_calm : (form : PolicyForm) (line : ℕ) (words : List (List ℕ)) → Calm (policy_form form line words)
unfolding policy_form
policy_calm policy.PrefixEntry line (_ ∷ _ ∷ name ∷ word ∷ number ∷ act ∷ prefix ∷ options) =
    unless (bytes_eq word (codes "seq")) _
    (given (number_between 1 4294967295 number) _ (λ seq.
    given (is_permit act) _ (λ permit.
    given (prefix_of prefix) _ (λ p.
    after (bounds_of p.len options) _ (bounds p.len options) (λ b.
    after (list_name_of name) _ (list_name name) (λ list. tt))))))
policy_calm policy.CommunityLine line (_ ∷ _ ∷ word ∷ next ∷ third ∷ words) =
    either (bytes_eq word (codes "standard")) _ _ (listed_communities line next third words)
    (unless (is_some (number_between 1 99 word)) _ (listed_communities line word next (third ∷ words)))
policy_calm policy.MapHead line (_ ∷ name ∷ act ∷ number ∷ []) =
    given (is_permit act) _ (λ permit. given (number_between 0 65535 number) _ (λ seq. after (list_name_of name) _ (list_name name) (λ map. tt)))
policy_calm policy.MatchPrefixes line (_ ∷ _ ∷ _ ∷ _ ∷ words) = after (list_names_of words) _ (list_names words) (λ names. tt)
policy_calm policy.MatchComms line (_ ∷ _ ∷ words) =
    either (has_mark (codes "exact-match") words) _ _ (matched line true (but_last words)) (matched line false words)
policy_calm policy.Lp line (_ ∷ _ ∷ number ∷ []) = mapped (number_word number) _
policy_calm policy.Comms line (_ ∷ _ ∷ words) = after (change_of words) _ (change words) (λ c. tt)
policy_calm policy.Delete line (_ ∷ _ ∷ name ∷ word ∷ []) =
    unless (bytes_eq word (codes "delete")) _ (after (named_of line name) _ (named line name) (λ list. tt))
policy_calm policy.Prepend line (_ ∷ _ ∷ _ ∷ words) =
    unless (nat_le 1 (length words) && nat_le (length words) 10 && list_all is_as_number words) _ tt
policy_calm _ line _ = tt

pub policy_item_calm : (c : Option HeadClass) (line : ℕ) (words : List (List ℕ)) → Calm (policy_item_by c line words)
unfolding policy_item_by
policy_item_calm None line words = tt
policy_item_calm (Some class.Refused) line words = tt
policy_item_calm (Some class.Ignored) line words = tt
policy_item_calm (Some (class.Router form)) line words = tt
policy_item_calm (Some (class.Policy form)) line words = policy_calm form line words

-- ---- router lines

net : (line addr len : ℕ) → Calm (net_line line addr len)
unfolding net_line
net line addr len = given (exact_prefix addr len) _ (λ prefix. tt)

peer : (item_of : ℕ → Named → Bool → RouterItem) (line : ℕ) (address name way : List ℕ) → Calm (peer_item item_of line address name way)
unfolding peer_item
peer item_of line address name way =
    given (address_word address) _ (λ addr. given (is_inward way) _ (λ inward. after (named_of line name) _ (named line name) (λ list. tt)))

router_calm : (form : RouterForm) (line : ℕ) (words : List (List ℕ)) → Calm (router_form form line words)
unfolding router_form
router_calm router.Hostname line (_ ∷ name ∷ []) = unless (is_router_name name) _ tt
router_calm router.Interface line (_ ∷ name ∷ []) = unless (is_interface_name name) _ tt
router_calm router.Bgp line (_ ∷ _ ∷ number ∷ []) = mapped (as_number_word number) _
router_calm router.Ospf line (_ ∷ _ ∷ number ∷ []) = mapped (number_between 1 65535 number) _
router_calm router.End line (_ ∷ []) = tt
router_calm router.IpAddress line (_ ∷ _ ∷ address ∷ mask ∷ []) = given (address_word address) _ (λ addr. given (mask_len_of mask) _ (λ len. tt))
router_calm router.Cost line (_ ∷ _ ∷ _ ∷ number ∷ []) = mapped (number_between 1 65535 number) _
router_calm router.Shutdown line (_ ∷ []) = tt
router_calm router.Base line (_ ∷ _ ∷ _ ∷ number ∷ []) = given (number_word number) _ (λ n. tt)
router_calm router.Network line (_ ∷ address ∷ []) =
    given (address_word address) _ (λ addr. given (classful_len_of addr) _ (λ len. net line addr len))
router_calm router.Network line (_ ∷ address ∷ word ∷ mask ∷ []) =
    unless (bytes_eq word (codes "mask")) _ (given (address_word address) _ (λ addr. given (mask_len_of mask) _ (λ len. net line addr len)))
router_calm router.RemoteAs line (_ ∷ address ∷ _ ∷ number ∷ []) = given (address_word address) _ (λ addr. given (as_number_word number) _ (λ n. tt))
router_calm router.PeerShut line (_ ∷ address ∷ _ ∷ []) = mapped (address_word address) _
router_calm router.PeerSends line (_ ∷ address ∷ _ ∷ []) = mapped (address_word address) _
router_calm router.PeerSends line (_ ∷ address ∷ _ ∷ word ∷ []) = unless (sends_standard word) _ (mapped (address_word address) _)
router_calm router.PeerList line (_ ∷ address ∷ _ ∷ name ∷ way ∷ []) = peer item.PeerList line address name way
router_calm router.PeerMap line (_ ∷ address ∷ _ ∷ name ∷ way ∷ []) = peer item.PeerMap line address name way
router_calm router.Area line (_ ∷ address ∷ wildcard ∷ word ∷ number ∷ []) =
    unless (bytes_eq word (codes "area")) _
    (given (address_word address) _ (λ addr. given (address_word wildcard) _ (λ wild. given (area_word number) _ (λ a. tt))))
router_calm router.Passive line (_ ∷ name ∷ []) = either (bytes_eq name (codes "default")) _ _ tt (unless (is_interface_name name) _ tt)
router_calm router.NotPassive line (_ ∷ _ ∷ name ∷ []) = unless (is_interface_name name) _ tt
router_calm _ line _ = tt

pub router_item_calm : (c : Option HeadClass) (line : ℕ) (words : List (List ℕ)) → Calm (router_item_by c line words)
unfolding router_item_by
router_item_calm None line words = tt
router_item_calm (Some class.Refused) line words = tt
router_item_calm (Some class.Ignored) line words = tt
router_item_calm (Some (class.Policy form)) line words = tt
router_item_calm (Some (class.Router form)) line words = router_calm form line words
