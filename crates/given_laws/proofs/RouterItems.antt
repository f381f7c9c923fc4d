-- What router lines say lies in its range, form by form.
use Rattle.std.proofs.Common.{◌≡◌, ℕ, Bool, true, List, [], ◌∷◌, Option, Some, None}
use Rattle.std.specs.Prelude.{IfOk, codes, bytes_eq}
use Rattle.std.specs.List.{AllByRecursion}
use Rattle.cfg_ast.specs.declared.heads.HeadClass.{HeadClass}
use Rattle.cfg_ast.specs.declared.heads.HeadClass.TheVariants as class
use Rattle.cfg_ast.specs.declared.heads.RouterForm.{RouterForm}
use Rattle.cfg_ast.specs.declared.heads.RouterForm.TheVariants as form
use Rattle.cfg_ast.specs.declared.network.Named.{Named}
use Rattle.cfg_ast.specs.declared.items.Scope.{Scope}
use Rattle.cfg_ast.specs.declared.items.RouterItem.{RouterItem}
use Rattle.cfg_ast.specs.declared.items.RouterItem.TheVariants as item
use Rattle.cfg_ast.specs.text.Words.{is_list_name, is_router_name, is_interface_name}
use Rattle.cfg_ast.specs.text.FormSteps.{named_of}
use Rattle.cfg_ast.specs.text.Heads.{class_in, heads_of}
use Rattle.cfg_ast.specs.text.RouterForms.{net_line, sends_standard, is_inward, peer_item, router_form, router_item_by, router_item_of}
use Rattle.cfg_ast.specs.printing.WellFormed.{IsBetween, IsNumber, IsInterfaceName, IsWellFormedAddress, IsWellFormedNetLine, IsWellFormedNamed, IsWellFormedArea}
use Rattle.given_laws.proofs.Given.{given, mapped, after, fits, either, IsAny, anything}
use Rattle.given_laws.proofs.Values.{a_number, between, an_as_number, an_address, an_area, a_mask_len, a_class_len, IsSomePrefix, an_exact_prefix}

-- each byte of a word prints and is no blank
abbrev pub IsWord : List ℕ → Type 0
IsWord word = AllByRecursion (IsBetween 33 126) word

abbrev pub AreWords : List (List ℕ) → Type 0
AreWords words = AllByRecursion IsWord words

abbrev pub IsRouterItem : RouterItem → Type 0
IsRouterItem (item.Hostname name) = is_router_name name ≡ true
IsRouterItem (item.Interface name) = IsInterfaceName name
IsRouterItem (item.Bgp number) = IsBetween 1 4294967295 number
IsRouterItem (item.Ospf number) = IsBetween 1 65535 number
IsRouterItem (item.IpAddress address) = IsWellFormedAddress address
IsRouterItem (item.Cost cost) = IsBetween 1 65535 cost
IsRouterItem (item.Base base) = IsNumber base.value
IsRouterItem (item.Network net) = IsWellFormedNetLine net
IsRouterItem (item.RemoteAs addr number) = IsNumber addr × IsBetween 1 4294967295 number
IsRouterItem (item.PeerList addr list inward) = IsWellFormedNamed list
IsRouterItem (item.PeerMap addr map inward) = IsWellFormedNamed map
IsRouterItem (item.Area area) = IsWellFormedArea area
IsRouterItem (item.Passive name) = IsInterfaceName name
IsRouterItem (item.NotPassive name) = IsInterfaceName name
IsRouterItem _ = Unit {0}

pub a_named : (line : ℕ) (word : List ℕ) → IsWord word → IfOk (named_of line word) IsWellFormedNamed
unfolding named_of
a_named line word is = fits IsWellFormedNamed (is_list_name word) _ (λ long. record { long = long; bytes = is })

-- ---- parts of forms

net_case : (line addr len : ℕ) → IsNumber addr → IsBetween 1 32 len → IfOk (net_line line addr len) IsRouterItem
unfolding net_line
net_case line addr len number short = given IsSomePrefix IsRouterItem _ _ (an_exact_prefix addr len number short)
    (λ prefix is. record { prefix = is.0; some = is.1 })

peer_case : (item_of : ℕ → Named → Bool → RouterItem) (line : ℕ) (address name way : List ℕ) → IsWord name →
    ((addr : ℕ) (named : Named) (inward : Bool) → IsWellFormedNamed named → IsRouterItem (item_of addr named inward)) →
    IfOk (peer_item item_of line address name way) IsRouterItem
unfolding peer_item
peer_case item_of line address name way is_word rest =
    given IsNumber IsRouterItem _ _ (an_address address) (λ addr number.
    given IsAny IsRouterItem _ _ (anything (is_inward way)) (λ inward any.
    after IsWellFormedNamed IsRouterItem _ _ (a_named line name is_word) (λ named is. rest addr named inward is)))

-- ---- a line by its head

form_case : (f : RouterForm) (line : ℕ) (words : List (List ℕ)) → AreWords words → IfOk (router_form f line words) IsRouterItem
unfolding router_form
form_case form.Hostname line (_ ∷ name ∷ []) are = fits IsRouterItem (is_router_name name) _ (λ is. is)
form_case form.Interface line (_ ∷ name ∷ []) are = fits IsRouterItem (is_interface_name name) _ (λ is. is)
form_case form.Bgp line (_ ∷ _ ∷ number ∷ []) are = mapped (IsBetween 1 4294967295) IsRouterItem _ _ (an_as_number number) (λ n is. is)
form_case form.Ospf line (_ ∷ _ ∷ number ∷ []) are = mapped (IsBetween 1 65535) IsRouterItem _ _ (between 1 65535 number) (λ n is. is)
form_case form.End line (_ ∷ []) are = tt
form_case form.IpAddress line (_ ∷ _ ∷ address ∷ mask ∷ []) are =
    given IsNumber IsRouterItem _ _ (an_address address) (λ addr number.
    given (IsBetween 1 32) IsRouterItem _ _ (a_mask_len mask) (λ len short.
    record { addr = number; len = short }))
form_case form.Cost line (_ ∷ _ ∷ _ ∷ number ∷ []) are = mapped (IsBetween 1 65535) IsRouterItem _ _ (between 1 65535 number) (λ n is. is)
form_case form.Shutdown line (_ ∷ []) are = tt
form_case form.Base line (_ ∷ _ ∷ _ ∷ number ∷ []) are = given IsNumber IsRouterItem _ _ (a_number number) (λ n is. is)
form_case form.Network line (_ ∷ address ∷ []) are =
    given IsNumber IsRouterItem _ _ (an_address address) (λ addr number.
    given (IsBetween 1 32) IsRouterItem _ _ (a_class_len addr) (λ len short.
    net_case line addr len number short))
form_case form.Network line (_ ∷ address ∷ word ∷ mask ∷ []) are =
    fits IsRouterItem (bytes_eq word (codes "mask")) _ (λ e.
    given IsNumber IsRouterItem _ _ (an_address address) (λ addr number.
    given (IsBetween 1 32) IsRouterItem _ _ (a_mask_len mask) (λ len short.
    net_case line addr len number short)))
form_case form.RemoteAs line (_ ∷ address ∷ _ ∷ number ∷ []) are =
    given IsNumber IsRouterItem _ _ (an_address address) (λ addr is.
    given (IsBetween 1 4294967295) IsRouterItem _ _ (an_as_number number) (λ n range. (is, range)))
form_case form.PeerShut line (_ ∷ address ∷ _ ∷ []) are = mapped IsNumber IsRouterItem _ _ (an_address address) (λ addr is. tt)
form_case form.PeerSends line (_ ∷ address ∷ _ ∷ []) are = mapped IsNumber IsRouterItem _ _ (an_address address) (λ addr is. tt)
form_case form.PeerSends line (_ ∷ address ∷ _ ∷ word ∷ []) are =
    fits IsRouterItem (sends_standard word) _ (λ e. mapped IsNumber IsRouterItem _ _ (an_address address) (λ addr is. tt))
form_case form.PeerList line (_ ∷ address ∷ _ ∷ name ∷ way ∷ []) are =
    peer_case item.PeerList line address name way are.1.1.1.0 (λ addr named inward is. is)
form_case form.PeerMap line (_ ∷ address ∷ _ ∷ name ∷ way ∷ []) are =
    peer_case item.PeerMap line address name way are.1.1.1.0 (λ addr named inward is. is)
form_case form.Area line (_ ∷ address ∷ wildcard ∷ word ∷ number ∷ []) are =
    fits IsRouterItem (bytes_eq word (codes "area")) _ (λ e.
    given IsNumber IsRouterItem _ _ (an_address address) (λ addr first.
    given IsNumber IsRouterItem _ _ (an_address wildcard) (λ wild second.
    given IsNumber IsRouterItem _ _ (an_area number) (λ area third.
    record { addr = first; wild = second; area = third }))))
form_case form.Passive line (_ ∷ name ∷ []) are = either IsRouterItem (bytes_eq name (codes "default")) _ _ (λ e. tt)
    (λ e. fits IsRouterItem (is_interface_name name) _ (λ is. is))
form_case form.NotPassive line (_ ∷ _ ∷ name ∷ []) are = fits IsRouterItem (is_interface_name name) _ (λ is. is)
form_case _ line _ are = tt

class_case : (o : Option HeadClass) (line : ℕ) (words : List (List ℕ)) → AreWords words → IfOk (router_item_by o line words) IsRouterItem
unfolding router_item_by
class_case None line words are = tt
class_case (Some class.Refused) line words are = tt
class_case (Some class.Ignored) line words are = tt
class_case (Some (class.Policy f)) line words are = tt
class_case (Some (class.Router f)) line words are = form_case f line words are

pub a_router_item : (scope : Scope) (line : ℕ) (words : List (List ℕ)) → AreWords words → IfOk (router_item_of scope line words) IsRouterItem
a_router_item scope line words are = class_case (class_in (heads_of scope) words) line words are
