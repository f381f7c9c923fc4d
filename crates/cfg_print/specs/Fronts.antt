-- The fronts of longer pieces of the printed text.
use Rattle.std.specs.Prelude.{ℕ, List, [], ◌∷◌, ◌++◌, codes, flat_map, map}
use Rattle.std.specs.Fmt.{decimal}
use Rattle.cfg_ast.specs.text.TextLines.{TextLine}
use Rattle.printed_words.specs.Spaced.{spaced}
use Rattle.cfg_ast.specs.declared.network.Router.{Router}
use Rattle.cfg_ast.specs.declared.policy.PrefixEntry.{PrefixEntry}
use Rattle.cfg_ast.specs.printing.Printed.{act_text, address_text, prefix_text, line, closing, member_line, interface_lines, lines_of_some, bgp_lines, ospf_lines}

-- an entry from its number up to its prefix
unfoldable pub prefix_words : PrefixEntry → List ℕ
prefix_words e = codes " seq " ++ decimal e.seq ++ spaced (act_text e.permit) ++ codes " " ++ prefix_text e.prefix

-- a router up to its lists
unfoldable pub router_front : Router → List (List ℕ) → List TextLine
router_front r members =
    line 0 (codes "hostname" ∷ r.name ∷ [])
    ∷ map member_line members ++ closing
    ∷ flat_map interface_lines r.interfaces
    ++ lines_of_some bgp_lines r.bgp
    ++ lines_of_some ospf_lines r.ospf

-- a line of a neighbor up to what it says
abbrev pub peer_front : ℕ → List ℕ
peer_front addr = codes " neighbor " ++ address_text addr
