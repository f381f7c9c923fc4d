-- How a refusal by line and kind is reported.
use Rattle.std.specs.Prelude.{ℕ, List, ◌++◌, codes, decimal}
use Rattle.cfg_ast.specs.declared.refusal.Kind.{Kind}
use Rattle.cfg_ast.specs.declared.refusal.Kind.TheVariants as kind

-- the name of a kind of fault
abbrev pub name_of_kind : Kind → List ℕ
name_of_kind kind.NotAscii = codes "NotAscii"
name_of_kind kind.LineTooLong = codes "LineTooLong"
name_of_kind kind.TooManyLines = codes "TooManyLines"
name_of_kind kind.UnknownLine = codes "UnknownLine"
name_of_kind kind.Unsupported = codes "Unsupported"
name_of_kind kind.BadForm = codes "BadForm"
name_of_kind kind.WellKnown = codes "WellKnown"
name_of_kind kind.Misplaced = codes "Misplaced"
name_of_kind kind.Repeated = codes "Repeated"
name_of_kind kind.NoHostname = codes "NoHostname"
name_of_kind kind.NoEnd = codes "NoEnd"
name_of_kind kind.SharedName = codes "SharedName"
name_of_kind kind.SharedAs = codes "SharedAs"
name_of_kind kind.InternalPeer = codes "InternalPeer"
name_of_kind kind.MixedProtocols = codes "MixedProtocols"
name_of_kind kind.OtherArea = codes "OtherArea"
name_of_kind kind.UndefinedMap = codes "UndefinedMap"
name_of_kind kind.UndefinedList = codes "UndefinedList"
name_of_kind kind.DeleteListForm = codes "DeleteListForm"
name_of_kind kind.SharedAddress = codes "SharedAddress"
name_of_kind kind.OverlappingInterfaces = codes "OverlappingInterfaces"
name_of_kind kind.LoopbackMask = codes "LoopbackMask"
name_of_kind kind.NoCost = codes "NoCost"
name_of_kind kind.TooManyRouters = codes "TooManyRouters"
name_of_kind kind.TooManyCommunities = codes "TooManyCommunities"
name_of_kind kind.TooManyNeighbors = codes "TooManyNeighbors"
name_of_kind kind.TooManyLinks = codes "TooManyLinks"
name_of_kind kind.PrependForm = codes "PrependForm"
name_of_kind kind.PrependIn = codes "PrependIn"

-- a line and a kind as the reason of a refusal
abbrev pub line_reason : ℕ → Kind → List ℕ
line_reason line k = codes "line " ++ decimal line ++ codes ": " ++ name_of_kind k
