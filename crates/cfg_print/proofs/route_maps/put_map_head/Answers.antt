use Rattle.std.proofs.Common.{◌≡◌, ◌++◌, ◌∷◌, [], codes, ◌∙◌, string_bytes}
use Rattle.std.specs.Fmt.{decimal}
use Rattle.cfg_ast.specs.printing.Printed.{lines_text, act_text, map_head_line}
use Rattle.printed_words.specs.Spaced.{spaced}
use Rattle.cfg_print.proofs.Grown.{written}
use Rattle.cfg_print.proofs.Joined.{map_head_text}
use Rattle.cfg_print.proofs.route_maps.put_map_head.Goals as goal

pub returns : goal.returns
returns c =
    let entry = c.args.entry.now in
    let end = spaced (act_text entry.permit) ++ codes " " ++ decimal entry.seq ++ codes "\n" in
    let is : c.as_str.result.now ≡ end = c.as_str.ensures.value ∙ c.head_end.ensures in
    written c.put_around.result (string_bytes c.args.text.now) (codes "route-map " ++ c.args.name.now ++ end) (string_bytes c.put_around.new.text)
    (lines_text (map_head_line c.args.name.now entry ∷ [])) (rw is at c.put_around.ensures) (map_head_text c.args.name.now entry)
