-- The heads of lines, as IOS writes them into running configurations, and which head decides a line.
use Rattle.std.specs.Prelude.{ℕ, Bool, true, false, ◌&&◌, List, [], ◌∷◌, ◌++◌, length, map, nat_lt, if◌then◌else◌, ◌==◌, Option, Some, None, codes, bytes_eq}
use Rattle.std.specs.Option.{is_some, option_map}
use Rattle.std.specs.List.{slice_split}
use Rattle.cfg_ast.specs.declared.items.Scope.{Scope}
use Rattle.cfg_ast.specs.declared.items.Scope.TheVariants as scope
use Rattle.cfg_ast.specs.declared.items.PolicyScope.{PolicyScope}
use Rattle.cfg_ast.specs.declared.items.PolicyScope.TheVariants as policy_scope
use Rattle.cfg_ast.specs.declared.heads.HeadClass.{HeadClass}
use Rattle.cfg_ast.specs.declared.heads.HeadClass.TheVariants.{Router, Policy, Refused, Ignored}
use Rattle.cfg_ast.specs.declared.heads.RouterForm.TheVariants as router_form
use Rattle.cfg_ast.specs.declared.heads.PolicyForm.TheVariants as policy_form
use Rattle.cfg_ast.specs.text.Lines.{words_of}
use Rattle.cfg_ast.specs.text.Words.{number_between}

-- a row of a table: the words of a head, and what the lines are that it begins
pub record Row : Type 0 where
  pub words : List (List ℕ)
  pub class : HeadClass

abbrev pub row : HeadClass → List ℕ → Row
row class head = record { words = words_of head; class = class }

-- the heads of a class, with commas between them
abbrev pub rows : HeadClass → List ℕ → List Row
rows class heads = map (row class) (slice_split (λ b. b == 44) heads)

-- ---- which head decides

-- in a head, `A` stands for any word, and `100-500` for a number from 100 to 500
abbrev pub is_word_for : List ℕ → List ℕ → Bool
is_word_for head_word word =
    if bytes_eq head_word (codes "A") then true
    else (if bytes_eq head_word (codes "100-500") then is_some (number_between 100 500 word)
    else bytes_eq head_word word)

-- the head stands at the front of the line
abbrev pub begins : List (List ℕ) → List (List ℕ) → Bool
begins [] words = true
begins (h ∷ head) [] = false
begins (h ∷ head) (word ∷ words) = is_word_for h word && begins head words

-- the longer of two heads, and the first of two that are as long
abbrev pub longer : Option Row → Option Row → Option Row
longer None other = other
longer (Some r) None = Some r
longer (Some r) (Some s) = if nat_lt (length r.words) (length s.words) then Some s else Some r

-- the longest head that begins the line
abbrev pub longest : List Row → List (List ℕ) → Option Row
longest [] words = None
longest (r ∷ rows) words = longer (if begins r.words words then Some r else None) (longest rows words)

-- what the longest head says of the line
abbrev pub class_in : List Row → List (List ℕ) → Option HeadClass
class_in rows words = option_map (λ (r : Row). r.class) (longest rows words)

-- ---- the tables of each scope

unfoldable pub top_heads : List Row
top_heads =
    row (Router router_form.Hostname) (codes "hostname")
    ∷ row (Router router_form.Interface) (codes "interface")
    ∷ row (Router router_form.Bgp) (codes "router bgp")
    ∷ row (Router router_form.Ospf) (codes "router ospf")
    ∷ row (Policy policy_form.PrefixEntry) (codes "ip prefix-list")
    ∷ row (Policy policy_form.CommunityLine) (codes "ip community-list")
    ∷ row (Policy policy_form.MapHead) (codes "route-map")
    ∷ row (Router router_form.End) (codes "end")
    ∷ rows Refused (codes "ip route, ip vrf, vrf, ip as-path, ip community-list expanded, ip community-list 100-500")
    ++ rows Refused (codes "ip extcommunity-list, ip policy-list, ip default-network, no ip routing, router, ipv6, banner, mpls")
    ++ rows Ignored (codes "ip cef, no ip cef, no ipv6 cef, ip domain, no ip domain, ip domain-name, ip domain-lookup")
    ++ rows Ignored (codes "no ip domain-lookup, ip name-server, ip forward-protocol, ip http, no ip http, ip ssh, ip tcp, ip ftp")
    ++ rows Ignored (codes "ip tftp, ip dhcp, no ip dhcp, no ip bootp, ip subnet-zero, ip classless, ip routing, ip source-route")
    ++ rows Ignored (codes "no ip source-route, ip bgp-community new-format, ip access-list, ip prefix-list A description")
    ++ rows Ignored (codes "Building, Current, version, service, no service, boot-start-marker, boot-end-marker, boot, enable, aaa")
    ++ rows Ignored (codes "no aaa, clock, mmi, multilink, username, redundancy, archive, line, control-plane, access-list, logging")
    ++ rows Ignored (codes "no logging, snmp-server, ntp, spanning-tree, cdp, no cdp, lldp, license, crypto, memory-size, hw-module")
    ++ rows Ignored (codes "diagnostic, vtp, vlan, scheduler, alias, privilege, exception, platform, security, login, class-map")
    ++ rows Ignored (codes "policy-map, tacacs-server, radius-server, tacacs, radius, errdisable, file")

unfoldable pub interface_heads : List Row
interface_heads =
    row (Router router_form.IpAddress) (codes "ip address")
    ∷ row (Router router_form.Cost) (codes "ip ospf cost")
    ∷ row (Router router_form.Shutdown) (codes "shutdown")
    ∷ rows Refused (codes "ip ospf, ip unnumbered, ip vrf, ip policy, vrf, ipv6, bandwidth")
    ++ rows Ignored (codes "description, duplex, speed, media-type, negotiation, no ip address, no shutdown, load-interval, mtu, ip mtu")
    ++ rows Ignored (codes "keepalive, no keepalive, clock, encapsulation, switchport, no switchport, channel-group, spanning-tree")
    ++ rows Ignored (codes "storm-control, power, cdp, no cdp, lldp, no lldp, logging, snmp, ip access-group, ip nat, ip helper-address")
    ++ rows Ignored (codes "ip flow, ip tcp, ip virtual-reassembly, ip route-cache, no ip route-cache, no ip proxy-arp, no ip redirects")
    ++ rows Ignored (codes "no ip unreachables, no ip directed-broadcast, no mop, arp, delay, hold-queue, serial, service-policy")
    ++ rows Ignored (codes "ip ospf priority, ip ospf hello-interval, ip ospf dead-interval, ip ospf authentication")
    ++ rows Ignored (codes "ip ospf authentication-key, ip ospf message-digest-key")

unfoldable pub bgp_heads : List Row
bgp_heads =
    row (Router router_form.Base) (codes "bgp default local-preference")
    ∷ row (Router router_form.Network) (codes "network")
    ∷ row (Router router_form.RemoteAs) (codes "neighbor A remote-as")
    ∷ row (Router router_form.PeerShut) (codes "neighbor A shutdown")
    ∷ row (Router router_form.PeerSends) (codes "neighbor A send-community")
    ∷ row (Router router_form.PeerList) (codes "neighbor A prefix-list")
    ∷ row (Router router_form.PeerMap) (codes "neighbor A route-map")
    ∷ rows Refused (codes "bgp, no bgp, neighbor, aggregate-address, redistribute, maximum-paths, distance, address-family")
    ++ rows Refused (codes "default-information, default-metric, synchronization, auto-summary, table-map, distribute-list")
    ++ rows Ignored (codes "bgp log-neighbor-changes, no bgp log-neighbor-changes, bgp router-id, bgp graceful-restart")
    ++ rows Ignored (codes "no synchronization, no auto-summary, timers, neighbor A description, neighbor A timers, neighbor A password")
    ++ rows Ignored (codes "neighbor A version, neighbor A soft-reconfiguration, neighbor A fall-over, neighbor A activate")
    ++ rows Ignored (codes "neighbor A next-hop-self, neighbor A advertisement-interval, neighbor A transport")
    ++ rows Ignored (codes "neighbor A send-community extended")

unfoldable pub ospf_heads : List Row
ospf_heads =
    row (Router router_form.Area) (codes "network")
    ∷ row (Router router_form.Passive) (codes "passive-interface")
    ∷ row (Router router_form.NotPassive) (codes "no passive-interface")
    ∷ rows Refused (codes "auto-cost, redistribute, default-information, default-metric, distance, area, max-metric, distribute-list")
    ++ rows Refused (codes "maximum-paths, summary-address, neighbor")
    ++ rows Ignored (codes "router-id, log-adjacency-changes, no log-adjacency-changes, timers")

unfoldable pub entry_heads : List Row
entry_heads =
    row (Policy policy_form.MatchPrefixes) (codes "match ip address prefix-list")
    ∷ row (Policy policy_form.MatchComms) (codes "match community")
    ∷ row (Policy policy_form.Lp) (codes "set local-preference")
    ∷ row (Policy policy_form.Comms) (codes "set community")
    ∷ row (Policy policy_form.Delete) (codes "set comm-list")
    ∷ row (Policy policy_form.Prepend) (codes "set as-path prepend")
    ∷ rows Refused (codes "match, set, continue")
    ++ rows Ignored (codes "description")

unfoldable pub heads_of : Scope → List Row
heads_of scope.Top = top_heads
heads_of scope.Interface = interface_heads
heads_of scope.Bgp = bgp_heads
heads_of scope.Ospf = ospf_heads

unfoldable pub policy_heads_of : PolicyScope → List Row
policy_heads_of policy_scope.Top = top_heads
policy_heads_of policy_scope.Entry = entry_heads
