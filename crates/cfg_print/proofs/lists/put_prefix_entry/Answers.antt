use Rattle.std.proofs.Common.{◌≡◌, ◌++◌, ◌∷◌, [], codes, string_bytes}
use Rattle.cfg_ast.specs.printing.Printed.{line_text, bound_words, prefix_entry_line}
use Rattle.printed_words.specs.Spaced.{spaced_words}
use Rattle.cfg_print.specs.Fronts.{prefix_words}
use Rattle.cfg_print.proofs.Grown.{written}
use Rattle.cfg_print.proofs.Joined.{prefix_entry_text}
use Rattle.cfg_print.proofs.lists.put_prefix_entry.Goals as goal

pub returns : goal.returns
returns c =
    let entry = c.args.entry.now in
    let end = prefix_words entry ++ spaced_words (bound_words (codes "ge") entry.ge) ++ spaced_words (bound_words (codes "le") entry.le) ++ 10 ∷ [] in
    let is : c.as_str.result.now ≡ end = cc in
    written c.put_around.result (string_bytes c.args.text.now) (codes "ip prefix-list " ++ c.args.name.now ++ end) (string_bytes c.put_around.new.text)
    (line_text (prefix_entry_line c.args.name.now entry)) (rw is at c.put_around.ensures) (prefix_entry_text c.args.name.now entry)
