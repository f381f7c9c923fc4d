-- What router lines say, form by form, as IOS writes them.
use Rattle.std.specs.Prelude.{ℕ, Bool, true, false, ◌||◌, List, [], ◌∷◌, if◌then◌else◌, Option, Some, None, Result, Ok, Err, codes, bytes_eq}
use Rattle.std.specs.Option.{option_map, option_or}
use Rattle.cfg_ast.specs.declared.network.Named.{Named}
use Rattle.cfg_ast.specs.declared.items.Scope.{Scope}
use Rattle.cfg_ast.specs.declared.items.RouterItem.{RouterItem}
use Rattle.cfg_ast.specs.declared.items.RouterItem.TheVariants as item
use Rattle.cfg_ast.specs.declared.heads.HeadClass.{HeadClass}
use Rattle.cfg_ast.specs.declared.heads.HeadClass.TheVariants as class
use Rattle.cfg_ast.specs.declared.heads.RouterForm.{RouterForm}
use Rattle.cfg_ast.specs.declared.heads.RouterForm.TheVariants as form
use Rattle.cfg_ast.specs.declared.refusal.FormFault.{FormFault}
use Rattle.cfg_ast.specs.declared.refusal.FormFault.TheVariants.{UnknownLine, Unsupported, BadForm}
use Rattle.cfg_ast.specs.text.Words.{is_router_name, is_interface_name, number_word, address_word, number_between, as_number_word, mask_len_of, classful_len_of, exact_prefix}
use Rattle.cfg_ast.specs.text.FormSteps.{or_bad, bad_unless, named_of}
use Rattle.cfg_ast.specs.text.Steps.{◌>>=◌}
use Rattle.cfg_ast.specs.text.Heads.{class_in, heads_of}

-- ---- parts of forms

-- a network whose address has no bits behind its length
unfoldable pub net_line : ℕ → ℕ → ℕ → Result RouterItem FormFault
net_line line addr len = do
  prefix ← or_bad (exact_prefix addr len)
  Ok (item.Network (record { prefix = prefix; line = line }))

-- which communities are sent: the ones that are read here in both cases
unfoldable pub sends_standard : List ℕ → Bool
sends_standard word = bytes_eq word (codes "standard") || bytes_eq word (codes "both")

-- `in` is true, `out` false
unfoldable pub is_inward : List ℕ → Option Bool
is_inward word = if bytes_eq word (codes "in") then Some true else (if bytes_eq word (codes "out") then Some false else None)

-- a list or a route map of a neighbour
unfoldable pub peer_item : (ℕ → Named → Bool → RouterItem) → ℕ → List ℕ → List ℕ → List ℕ → Result RouterItem FormFault
peer_item item_of line address name way = do
  addr ← or_bad (address_word address)
  inward ← or_bad (is_inward way)
  named ← named_of line name
  Ok (item_of addr named inward)

-- an area is a number or an address
unfoldable pub area_word : List ℕ → Option ℕ
area_word word = option_or (number_word word) (address_word word)

-- ---- what a line says by its form

unfoldable pub router_form : RouterForm → ℕ → List (List ℕ) → Result RouterItem FormFault
-- hostname NAME
router_form form.Hostname line (_ ∷ name ∷ []) = bad_unless (is_router_name name) (Ok (item.Hostname name))
-- interface NAME
router_form form.Interface line (_ ∷ name ∷ []) = bad_unless (is_interface_name name) (Ok (item.Interface name))
-- router bgp NUMBER
router_form form.Bgp line (_ ∷ _ ∷ number ∷ []) = or_bad (option_map item.Bgp (as_number_word number))
-- router ospf NUMBER, from 1 to 65535
router_form form.Ospf line (_ ∷ _ ∷ number ∷ []) = or_bad (option_map item.Ospf (number_between 1 65535 number))
-- end
router_form form.End line (_ ∷ []) = Ok item.End
-- ip address ADDRESS MASK
router_form form.IpAddress line (_ ∷ _ ∷ address ∷ mask ∷ []) = do
  addr ← or_bad (address_word address)
  len ← or_bad (mask_len_of mask)
  Ok (item.IpAddress (record { addr = addr; len = len; line = line }))
-- ip ospf cost NUMBER, from 1 to 65535
router_form form.Cost line (_ ∷ _ ∷ _ ∷ number ∷ []) = or_bad (option_map item.Cost (number_between 1 65535 number))
-- shutdown
router_form form.Shutdown line (_ ∷ []) = Ok item.Shutdown
-- bgp default local-preference NUMBER
router_form form.Base line (_ ∷ _ ∷ _ ∷ number ∷ []) = do
  n ← or_bad (number_word number)
  Ok (item.Base (record { value = n; line = line }))
-- network ADDRESS, of the length of its class, or network ADDRESS mask MASK
router_form form.Network line (_ ∷ address ∷ []) = do
  addr ← or_bad (address_word address)
  len ← or_bad (classful_len_of addr)
  net_line line addr len
router_form form.Network line (_ ∷ address ∷ word ∷ mask ∷ []) = bad_unless (bytes_eq word (codes "mask")) (do
  addr ← or_bad (address_word address)
  len ← or_bad (mask_len_of mask)
  net_line line addr len)
-- neighbor ADDRESS remote-as NUMBER
router_form form.RemoteAs line (_ ∷ address ∷ _ ∷ number ∷ []) = do
  addr ← or_bad (address_word address)
  n ← or_bad (as_number_word number)
  Ok (item.RemoteAs addr n)
-- neighbor ADDRESS shutdown
router_form form.PeerShut line (_ ∷ address ∷ _ ∷ []) = or_bad (option_map item.PeerShut (address_word address))
-- neighbor ADDRESS send-community, with `standard`, `both` or neither
router_form form.PeerSends line (_ ∷ address ∷ _ ∷ []) = or_bad (option_map item.PeerSends (address_word address))
router_form form.PeerSends line (_ ∷ address ∷ _ ∷ word ∷ []) =
    bad_unless (sends_standard word) (or_bad (option_map item.PeerSends (address_word address)))
-- neighbor ADDRESS prefix-list NAME in, or out
router_form form.PeerList line (_ ∷ address ∷ _ ∷ name ∷ way ∷ []) = peer_item item.PeerList line address name way
-- neighbor ADDRESS route-map NAME in, or out
router_form form.PeerMap line (_ ∷ address ∷ _ ∷ name ∷ way ∷ []) = peer_item item.PeerMap line address name way
-- network ADDRESS WILDCARD area NUMBER
router_form form.Area line (_ ∷ address ∷ wildcard ∷ word ∷ number ∷ []) = bad_unless (bytes_eq word (codes "area")) (do
  addr ← or_bad (address_word address)
  wild ← or_bad (address_word wildcard)
  area ← or_bad (area_word number)
  Ok (item.Area (record { addr = addr; wild = wild; area = area; line = line })))
-- passive-interface NAME, or default
router_form form.Passive line (_ ∷ name ∷ []) =
    if bytes_eq name (codes "default") then Ok item.PassiveDefault else bad_unless (is_interface_name name) (Ok (item.Passive name))
-- no passive-interface NAME
router_form form.NotPassive line (_ ∷ _ ∷ name ∷ []) = bad_unless (is_interface_name name) (Ok (item.NotPassive name))
-- a line of no such shape
router_form _ line _ = Err BadForm

-- ---- a line by its head

-- A head in no table is unknown, and a refused one unsupported. Lines of lists and route maps are not
-- read here; they are unsupported too.
unfoldable pub router_item_by : Option HeadClass → ℕ → List (List ℕ) → Result RouterItem FormFault
router_item_by None line words = Err UnknownLine
router_item_by (Some class.Ignored) line words = Ok item.Ignored
router_item_by (Some (class.Router form)) line words = router_form form line words
router_item_by _ line words = Err Unsupported

-- what a router line of this number says in its scope
abbrev pub router_item_of : Scope → ℕ → List (List ℕ) → Result RouterItem FormFault
router_item_of scope line words = router_item_by (class_in (heads_of scope) words) line words
