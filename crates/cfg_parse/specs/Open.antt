-- The open stanza as the definition sees it.
use Rattle.cfg_ast.specs.text.Reading.{Stanza, closed, ignored, in_interface, in_bgp, in_ospf, in_entry}
use Rattle.cfg_parse.specs.declared.draft.Open.{Open}
use Rattle.cfg_parse.specs.declared.draft.Open.TheVariants as open_stanza

abbrev pub stanza_of : Open → Stanza
stanza_of open_stanza.Closed = closed
stanza_of open_stanza.Ignored = ignored
stanza_of (open_stanza.Interface i) = in_interface i
stanza_of (open_stanza.Bgp b) = in_bgp b
stanza_of (open_stanza.Ospf o) = in_ospf o
stanza_of (open_stanza.Entry name e) = in_entry name e
