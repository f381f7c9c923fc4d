-- What a form of a line says does not depend on the line number.
use Rattle.std.proofs.Common.{◌≡◌, ℕ, Bool, true, false, ◌&&◌, List, [], ◌∷◌, length, Option, Some, None, Ok, refl, ap}
use Rattle.std.specs.Prelude.{codes, bytes_eq, nat_le}
use Rattle.std.specs.Option.{is_some}
use Rattle.std.specs.List.{list_all}
use Rattle.cfg_ast.specs.declared.heads.HeadClass.{HeadClass}
use Rattle.cfg_ast.specs.declared.heads.HeadClass.TheVariants as class
use Rattle.cfg_ast.specs.declared.heads.RouterForm.{RouterForm}
use Rattle.cfg_ast.specs.declared.heads.RouterForm.TheVariants as form
use Rattle.cfg_ast.specs.declared.heads.PolicyForm.{PolicyForm}
use Rattle.cfg_ast.specs.declared.heads.PolicyForm.TheVariants as policy_form
use Rattle.cfg_ast.specs.declared.network.Named.{Named}
use Rattle.cfg_ast.specs.declared.items.RouterItem.{RouterItem}
use Rattle.cfg_ast.specs.declared.items.RouterItem.TheVariants as item
use Rattle.cfg_ast.specs.declared.items.Scope.{Scope}
use Rattle.cfg_ast.specs.declared.items.PolicyScope.{PolicyScope}
use Rattle.cfg_ast.specs.text.Words.{is_list_name, is_router_name, is_interface_name, number_word, number_between, as_number_word, address_word, mask_len_of, classful_len_of, exact_prefix, prefix_of}
use Rattle.cfg_ast.specs.text.FormSteps.{list_name_of, named_of}
use Rattle.cfg_ast.specs.text.Heads.{class_in, heads_of, policy_heads_of}
use Rattle.cfg_ast.specs.text.RouterForms.{net_line, sends_standard, is_inward, peer_item, area_word, router_form, router_item_by, router_item_of}
use Rattle.cfg_ast.specs.text.PolicyForms.{is_permit, has_mark, but_last, bounds_of, list_names_of, community_words, community_line, comms_match, change_of, is_as_number, policy_form, policy_item_by, policy_item_of}
use Rattle.cfg_ast.specs.printing.Bare.{bare_named}
use Rattle.cfg_round_trip.proofs.Bare.{bare_item, bare_policy, on_ok, given_same, after_same, after_bare, fits_same, either_same, mapped_same}

named_same : (line : ℕ) (word : List ℕ) → named_of 0 word ≡ on_ok bare_named (named_of line word)
unfolding named_of
named_same line word = fits_same bare_named (is_list_name word) _ _ refl

-- ---- router lines

net_same : (line addr len : ℕ) → net_line 0 addr len ≡ on_ok bare_item (net_line line addr len)
unfolding net_line
net_same line addr len = given_same bare_item (exact_prefix addr len) _ _ (λ prefix. refl)

peer_same : (item_of : ℕ → Named → Bool → RouterItem) (line : ℕ) (address name way : List ℕ) →
    ((addr : ℕ) (named : Named) (inward : Bool) → item_of addr (bare_named named) inward ≡ bare_item (item_of addr named inward)) →
    peer_item item_of 0 address name way ≡ on_ok bare_item (peer_item item_of line address name way)
unfolding peer_item
peer_same item_of line address name way same =
    given_same bare_item (address_word address) _ _
    (λ addr. given_same bare_item (is_inward way) _ _
    (λ inward. after_bare bare_item bare_named (named_of 0 name) (named_of line name) _ _ (named_same line name)
    (λ named. ap (λ said. Ok said) (same addr named inward))))

router_form_same : (f : RouterForm) (line : ℕ) (words : List (List ℕ)) → router_form f 0 words ≡ on_ok bare_item (router_form f line words)
unfolding router_form
router_form_same form.Hostname line (_ ∷ name ∷ []) = fits_same bare_item (is_router_name name) _ _ refl
router_form_same form.Interface line (_ ∷ name ∷ []) = fits_same bare_item (is_interface_name name) _ _ refl
router_form_same form.Bgp line (_ ∷ _ ∷ number ∷ []) = mapped_same bare_item (as_number_word number) _ _ (λ n. refl)
router_form_same form.Ospf line (_ ∷ _ ∷ number ∷ []) = mapped_same bare_item (number_between 1 65535 number) _ _ (λ n. refl)
router_form_same form.End line (_ ∷ []) = refl
router_form_same form.IpAddress line (_ ∷ _ ∷ address ∷ mask ∷ []) =
    given_same bare_item (address_word address) _ _ (λ addr. given_same bare_item (mask_len_of mask) _ _ (λ len. refl))
router_form_same form.Cost line (_ ∷ _ ∷ _ ∷ number ∷ []) = mapped_same bare_item (number_between 1 65535 number) _ _ (λ n. refl)
router_form_same form.Shutdown line (_ ∷ []) = refl
router_form_same form.Base line (_ ∷ _ ∷ _ ∷ number ∷ []) = given_same bare_item (number_word number) _ _ (λ n. refl)
router_form_same form.Network line (_ ∷ address ∷ []) = given_same bare_item (address_word address) _ _
    (λ addr. given_same bare_item (classful_len_of addr) _ _ (λ len. net_same line addr len))
router_form_same form.Network line (_ ∷ address ∷ word ∷ mask ∷ []) =
    fits_same bare_item (bytes_eq word (codes "mask")) _ _ (given_same bare_item (address_word address) _ _
    (λ addr. given_same bare_item (mask_len_of mask) _ _ (λ len. net_same line addr len)))
router_form_same form.RemoteAs line (_ ∷ address ∷ _ ∷ number ∷ []) =
    given_same bare_item (address_word address) _ _ (λ addr. given_same bare_item (as_number_word number) _ _ (λ n. refl))
router_form_same form.PeerShut line (_ ∷ address ∷ _ ∷ []) = mapped_same bare_item (address_word address) _ _ (λ addr. refl)
router_form_same form.PeerSends line (_ ∷ address ∷ _ ∷ []) = mapped_same bare_item (address_word address) _ _ (λ addr. refl)
router_form_same form.PeerSends line (_ ∷ address ∷ _ ∷ word ∷ []) =
    fits_same bare_item (sends_standard word) _ _ (mapped_same bare_item (address_word address) _ _ (λ addr. refl))
router_form_same form.PeerList line (_ ∷ address ∷ _ ∷ name ∷ way ∷ []) = peer_same item.PeerList line address name way (λ addr named inward. refl)
router_form_same form.PeerMap line (_ ∷ address ∷ _ ∷ name ∷ way ∷ []) = peer_same item.PeerMap line address name way (λ addr named inward. refl)
router_form_same form.Area line (_ ∷ address ∷ wildcard ∷ word ∷ number ∷ []) =
    fits_same bare_item (bytes_eq word (codes "area")) _ _ (given_same bare_item (address_word address) _ _
    (λ addr. given_same bare_item (address_word wildcard) _ _ (λ wild. given_same bare_item (area_word number) _ _ (λ area. refl))))
router_form_same form.Passive line (_ ∷ name ∷ []) =
    either_same bare_item (bytes_eq name (codes "default")) _ _ _ _ refl (fits_same bare_item (is_interface_name name) _ _ refl)
router_form_same form.NotPassive line (_ ∷ _ ∷ name ∷ []) = fits_same bare_item (is_interface_name name) _ _ refl
router_form_same _ line _ = refl

router_class_same : (o : Option HeadClass) (line : ℕ) (words : List (List ℕ)) → router_item_by o 0 words ≡ on_ok bare_item (router_item_by o line words)
unfolding router_item_by
router_class_same None line words = refl
router_class_same (Some class.Refused) line words = refl
router_class_same (Some class.Ignored) line words = refl
router_class_same (Some (class.Policy f)) line words = refl
router_class_same (Some (class.Router f)) line words = router_form_same f line words

pub router_item_same : (scope : Scope) (line : ℕ) (words : List (List ℕ)) → router_item_of scope 0 words ≡ on_ok bare_item (router_item_of scope line words)
router_item_same scope line words = router_class_same (class_in (heads_of scope) words) line words

-- ---- lines of lists and route maps

community_line_same : (line : ℕ) (name act : List ℕ) (communities : List (List ℕ)) →
    community_line 0 name act communities ≡ on_ok bare_policy (community_line line name act communities)
unfolding community_line
community_line_same line name act communities =
    given_same bare_policy (is_permit act) _ _
    (λ permit. after_same bare_policy (list_name_of name) _ _ (λ list. after_same bare_policy (community_words communities) _ _ (λ comms. refl)))

comms_match_same : (line : ℕ) (exact : Bool) (words : List (List ℕ)) → comms_match 0 exact words ≡ on_ok bare_policy (comms_match line exact words)
unfolding comms_match
comms_match_same line exact words = after_same bare_policy (list_names_of words) _ _ (λ names. refl)

policy_form_same : (f : PolicyForm) (line : ℕ) (words : List (List ℕ)) → policy_form f 0 words ≡ on_ok bare_policy (policy_form f line words)
unfolding policy_form
policy_form_same policy_form.PrefixEntry line (_ ∷ _ ∷ name ∷ word ∷ number ∷ act ∷ prefix ∷ options) =
    fits_same bare_policy (bytes_eq word (codes "seq")) _ _ (
    given_same bare_policy (number_between 1 4294967295 number) _ _ (λ seq.
    given_same bare_policy (is_permit act) _ _ (λ permit.
    given_same bare_policy (prefix_of prefix) _ _ (λ p.
    after_same bare_policy (bounds_of p.len options) _ _ (λ bounds.
    after_same bare_policy (list_name_of name) _ _ (λ list. refl))))))
policy_form_same policy_form.CommunityLine line (_ ∷ _ ∷ word ∷ next ∷ third ∷ words) =
    either_same bare_policy (bytes_eq word (codes "standard")) _ _ _ _ (community_line_same line next third words)
    (fits_same bare_policy (is_some (number_between 1 99 word)) _ _ (community_line_same line word next (third ∷ words)))
policy_form_same policy_form.MapHead line (_ ∷ name ∷ act ∷ number ∷ []) =
    given_same bare_policy (is_permit act) _ _
    (λ permit. given_same bare_policy (number_between 0 65535 number) _ _ (λ seq. after_same bare_policy (list_name_of name) _ _ (λ map. refl)))
policy_form_same policy_form.MatchPrefixes line (_ ∷ _ ∷ _ ∷ _ ∷ words) = after_same bare_policy (list_names_of words) _ _ (λ names. refl)
policy_form_same policy_form.MatchComms line (_ ∷ _ ∷ words) = either_same bare_policy (has_mark (codes "exact-match") words) _ _ _ _
    (comms_match_same line true (but_last words)) (comms_match_same line false words)
policy_form_same policy_form.Lp line (_ ∷ _ ∷ number ∷ []) = mapped_same bare_policy (number_word number) _ _ (λ n. refl)
policy_form_same policy_form.Comms line (_ ∷ _ ∷ words) = after_same bare_policy (change_of words) _ _ (λ change. refl)
policy_form_same policy_form.Delete line (_ ∷ _ ∷ name ∷ word ∷ []) = fits_same bare_policy (bytes_eq word (codes "delete")) _ _
    (after_bare bare_policy bare_named (named_of 0 name) (named_of line name) _ _ (named_same line name) (λ list. refl))
policy_form_same policy_form.Prepend line (_ ∷ _ ∷ _ ∷ words) =
    fits_same bare_policy (nat_le 1 (length words) && nat_le (length words) 10 && list_all is_as_number words) _ _ refl
policy_form_same _ line _ = refl

policy_class_same : (o : Option HeadClass) (line : ℕ) (words : List (List ℕ)) → policy_item_by o 0 words ≡ on_ok bare_policy (policy_item_by o line words)
unfolding policy_item_by
policy_class_same None line words = refl
policy_class_same (Some class.Refused) line words = refl
policy_class_same (Some class.Ignored) line words = refl
policy_class_same (Some (class.Router f)) line words = refl
policy_class_same (Some (class.Policy f)) line words = policy_form_same f line words

pub policy_item_same : (scope : PolicyScope) (line : ℕ) (words : List (List ℕ)) →
    policy_item_of scope 0 words ≡ on_ok bare_policy (policy_item_of scope line words)
policy_item_same scope line words = policy_class_same (class_in (policy_heads_of scope) words) line words
