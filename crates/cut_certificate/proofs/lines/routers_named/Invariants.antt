use Rattle.std.proofs.Common.{◌≡◌, length}
use Rattle.cfg_ast.specs.text.Lines.{words_of}
use Rattle.numbered_names.specs.NamePlaces.{place_in}
use Rattle.cut_certificate.specs.Texts.{routers_named}
use Rattle.cut_certificate.proofs.NamesRead.{behind}
use Rattle.cut_certificate.proofs.lines.routers_named.Given as goal

abbrev pub invariant-loop-name : goal.invariant-loop-name
invariant-loop-name l = behind l.routers.items (routers_named (place_in l.places) (words_of l.rest)) ≡ routers_named (place_in l.places) (words_of l.line)

abbrev pub decreases-loop-name : goal.decreases-loop-name
decreases-loop-name l = length l.rest
