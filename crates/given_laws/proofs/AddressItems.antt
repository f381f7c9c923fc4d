-- An address that a router line gives has the number of that line.
use Rattle.std.proofs.Common.{◌≡◌, ℕ, Bool, List, [], ◌∷◌, Option, Some, None, refl}
use Rattle.std.specs.Prelude.{IfOk, codes, bytes_eq}
use Rattle.cfg_ast.specs.declared.heads.HeadClass.{HeadClass}
use Rattle.cfg_ast.specs.declared.heads.HeadClass.TheVariants as class
use Rattle.cfg_ast.specs.declared.heads.RouterForm.{RouterForm}
use Rattle.cfg_ast.specs.declared.heads.RouterForm.TheVariants as form
use Rattle.cfg_ast.specs.declared.network.Named.{Named}
use Rattle.cfg_ast.specs.declared.items.Scope.{Scope}
use Rattle.cfg_ast.specs.declared.items.RouterItem.{RouterItem}
use Rattle.cfg_ast.specs.declared.items.RouterItem.TheVariants as item
use Rattle.cfg_ast.specs.text.FormSteps.{named_of}
use Rattle.cfg_ast.specs.text.Words.{is_router_name, is_interface_name, address_word, as_number_word, number_word, number_between, mask_len_of, classful_len_of, exact_prefix}
use Rattle.cfg_ast.specs.text.Heads.{class_in, heads_of}
use Rattle.cfg_ast.specs.text.RouterForms.{net_line, sends_standard, is_inward, peer_item, area_word, router_form, router_item_by, router_item_of}
use Rattle.given_laws.proofs.Given.{given, mapped, after, fits, either, IsAny, anything, any_result}

abbrev pub IsAddressAt : ℕ → RouterItem → Type 0
IsAddressAt line (item.IpAddress address) = address.line ≡ line
IsAddressAt line _ = Unit {0}

net_at : (line addr len : ℕ) → IfOk (net_line line addr len) (IsAddressAt line)
unfolding net_line
net_at line addr len = given IsAny (IsAddressAt line) _ _ (anything (exact_prefix addr len)) (λ prefix any. tt)

peer_at : (item_of : ℕ → Named → Bool → RouterItem) (line : ℕ) (address name way : List ℕ) →
    ((addr : ℕ) (named : Named) (inward : Bool) → IsAddressAt line (item_of addr named inward)) →
    IfOk (peer_item item_of line address name way) (IsAddressAt line)
unfolding peer_item
peer_at item_of line address name way rest =
    given IsAny (IsAddressAt line) _ _ (anything (address_word address))
    (λ addr any. given IsAny (IsAddressAt line) _ _ (anything (is_inward way))
    (λ inward any. after IsAny (IsAddressAt line) _ _ (any_result (named_of line name)) (λ named any. rest addr named inward)))

form_at : (f : RouterForm) (line : ℕ) (words : List (List ℕ)) → IfOk (router_form f line words) (IsAddressAt line)
unfolding router_form
form_at form.Hostname line (_ ∷ name ∷ []) = fits (IsAddressAt line) (is_router_name name) _ (λ is. tt)
form_at form.Interface line (_ ∷ name ∷ []) = fits (IsAddressAt line) (is_interface_name name) _ (λ is. tt)
form_at form.Bgp line (_ ∷ _ ∷ number ∷ []) = mapped IsAny (IsAddressAt line) _ _ (anything (as_number_word number)) (λ n any. tt)
form_at form.Ospf line (_ ∷ _ ∷ number ∷ []) = mapped IsAny (IsAddressAt line) _ _ (anything (number_between 1 65535 number)) (λ n any. tt)
form_at form.End line (_ ∷ []) = tt
form_at form.IpAddress line (_ ∷ _ ∷ address ∷ mask ∷ []) =
    given IsAny (IsAddressAt line) _ _ (anything (address_word address))
    (λ addr any. given IsAny (IsAddressAt line) _ _ (anything (mask_len_of mask)) (λ len any. refl))
form_at form.Cost line (_ ∷ _ ∷ _ ∷ number ∷ []) = mapped IsAny (IsAddressAt line) _ _ (anything (number_between 1 65535 number)) (λ n any. tt)
form_at form.Shutdown line (_ ∷ []) = tt
form_at form.Base line (_ ∷ _ ∷ _ ∷ number ∷ []) = given IsAny (IsAddressAt line) _ _ (anything (number_word number)) (λ n any. tt)
form_at form.Network line (_ ∷ address ∷ []) = given IsAny (IsAddressAt line) _ _ (anything (address_word address))
    (λ addr any. given IsAny (IsAddressAt line) _ _ (anything (classful_len_of addr)) (λ len any. net_at line addr len))
form_at form.Network line (_ ∷ address ∷ word ∷ mask ∷ []) =
    fits (IsAddressAt line) (bytes_eq word (codes "mask")) _
    (λ e. given IsAny (IsAddressAt line) _ _ (anything (address_word address))
    (λ addr any. given IsAny (IsAddressAt line) _ _ (anything (mask_len_of mask)) (λ len any. net_at line addr len)))
form_at form.RemoteAs line (_ ∷ address ∷ _ ∷ number ∷ []) =
    given IsAny (IsAddressAt line) _ _ (anything (address_word address))
    (λ addr any. given IsAny (IsAddressAt line) _ _ (anything (as_number_word number)) (λ n any. tt))
form_at form.PeerShut line (_ ∷ address ∷ _ ∷ []) = mapped IsAny (IsAddressAt line) _ _ (anything (address_word address)) (λ addr any. tt)
form_at form.PeerSends line (_ ∷ address ∷ _ ∷ []) = mapped IsAny (IsAddressAt line) _ _ (anything (address_word address)) (λ addr any. tt)
form_at form.PeerSends line (_ ∷ address ∷ _ ∷ word ∷ []) =
    fits (IsAddressAt line) (sends_standard word) _ (λ e. mapped IsAny (IsAddressAt line) _ _ (anything (address_word address)) (λ addr any. tt))
form_at form.PeerList line (_ ∷ address ∷ _ ∷ name ∷ way ∷ []) = peer_at item.PeerList line address name way (λ addr named inward. tt)
form_at form.PeerMap line (_ ∷ address ∷ _ ∷ name ∷ way ∷ []) = peer_at item.PeerMap line address name way (λ addr named inward. tt)
form_at form.Area line (_ ∷ address ∷ wildcard ∷ word ∷ number ∷ []) =
    fits (IsAddressAt line) (bytes_eq word (codes "area")) _
    (λ e. given IsAny (IsAddressAt line) _ _ (anything (address_word address))
    (λ addr any. given IsAny (IsAddressAt line) _ _ (anything (address_word wildcard))
    (λ wild any. given IsAny (IsAddressAt line) _ _ (anything (area_word number)) (λ area any. tt))))
form_at form.Passive line (_ ∷ name ∷ []) = either (IsAddressAt line) (bytes_eq name (codes "default")) _ _ (λ e. tt)
    (λ e. fits (IsAddressAt line) (is_interface_name name) _ (λ is. tt))
form_at form.NotPassive line (_ ∷ _ ∷ name ∷ []) = fits (IsAddressAt line) (is_interface_name name) _ (λ is. tt)
form_at _ line _ = tt

class_at : (o : Option HeadClass) (line : ℕ) (words : List (List ℕ)) → IfOk (router_item_by o line words) (IsAddressAt line)
unfolding router_item_by
class_at None line words = tt
class_at (Some class.Refused) line words = tt
class_at (Some class.Ignored) line words = tt
class_at (Some (class.Policy f)) line words = tt
class_at (Some (class.Router f)) line words = form_at f line words

pub address_of_line : (scope : Scope) (line : ℕ) (words : List (List ℕ)) → IfOk (router_item_of scope line words) (IsAddressAt line)
address_of_line scope line words = class_at (class_in (heads_of scope) words) line words
