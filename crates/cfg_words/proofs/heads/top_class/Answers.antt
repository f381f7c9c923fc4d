use Rattle.cfg_ast.specs.text.Heads.{top_heads}
use Rattle.cfg_ast.specs.text.Lines.{texts}
use Rattle.cfg_words.specs.Rows.{rows_of}
use Rattle.cfg_words.proofs.Longest.{class_narrowed}
use Rattle.cfg_words.proofs.heads.top_class.Goals as goal

pub returns : goal.returns
returns c = class_narrowed 105 1 c.first_byte.result c.second_byte.result top_heads (rows_of c.begun_by-rows.result.now)
    (texts c.args.bytes.now c.args.words.now) c.class_among.result c.class_among.ensures c.begun_by-rows.ensures c.first_byte.ensures c.second_byte.ensures
