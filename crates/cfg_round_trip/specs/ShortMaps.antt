-- Route maps whose match lines are short. All other lines of a well-formed network are short by their words.
use Rattle.std.specs.Prelude.{◌≤◌, Bool, length, Option, IfSome}
use Rattle.std.specs.List.{AllByRecursion}
use Rattle.cfg_ast.specs.declared.network.Router.{Router}
use Rattle.cfg_ast.specs.declared.policy.MapEntry.{MapEntry}
use Rattle.cfg_ast.specs.declared.policy.NameLine.{NameLine}
use Rattle.cfg_ast.specs.declared.policy.RouteMap.{RouteMap}
use Rattle.cfg_ast.specs.text.TextLines.{TextLine}
use Rattle.cfg_ast.specs.printing.Printed.{line_text, match_prefixes_line, match_comms_line}

-- at most 1,024 bytes, without the newline
abbrev pub IsShortLine : TextLine → Type 0
IsShortLine l = length (line_text l) ≤ 1025

-- the lines that name the prefix lists and the community lists of an entry
abbrev pub HasShortMatches : Option NameLine → Option NameLine → Bool → Type 0
HasShortMatches prefixes comms exact = IfSome prefixes (λ l. IsShortLine (match_prefixes_line l)) × IfSome comms (λ l. IsShortLine (match_comms_line exact l))

abbrev pub IsShortEntry : MapEntry → Type 0
IsShortEntry e = HasShortMatches e.prefixes e.comms e.exact

abbrev pub IsShortMap : RouteMap → Type 0
IsShortMap m = AllByRecursion IsShortEntry m.entries

abbrev pub HasShortMaps : Router → Type 0
HasShortMaps r = AllByRecursion IsShortMap r.route_maps
